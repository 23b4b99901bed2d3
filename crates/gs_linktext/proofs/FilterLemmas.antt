-- The results of each item, one item more.
use Rattle.std.proofs.Common.{◌≡◌, ℕ, ◌+◌, ◌<◌, List, [], ◌∷◌, ◌++◌, Option, Some, None, length, take, get_or, refl, ap, sym, ◌∙◌}
use Rattle.std.specs.List.{filter_map}
use Rattle.std.proofs.lemmas.List.{take_more}

module _ {X Y : Type 0} (f : X → Option Y) where
  pub filter_map_none : (xs : List X) (y : X) → f y ≡ None → filter_map f (xs ++ y ∷ []) ≡ filter_map f xs
  filter_map_none [] y h = rw h refl
  filter_map_none (x ∷ xs) y h = by (f x) refl (filter_map_none xs y h)
    where
      by : (o : Option Y) → f x ≡ o → filter_map f (xs ++ y ∷ []) ≡ filter_map f xs → filter_map f ((x ∷ xs) ++ y ∷ []) ≡ filter_map f (x ∷ xs)
      by None e more = rw (e, more) refl
      by (Some w) e more = rw (e, more) refl

  pub filter_map_some : (xs : List X) (y : X) (z : Y) → f y ≡ Some z → filter_map f (xs ++ y ∷ []) ≡ filter_map f xs ++ z ∷ []
  filter_map_some [] y z h = rw h refl
  filter_map_some (x ∷ xs) y z h = by (f x) refl (filter_map_some xs y z h)
    where
      by : (o : Option Y) → f x ≡ o → filter_map f (xs ++ y ∷ []) ≡ filter_map f xs ++ z ∷ []
          → filter_map f ((x ∷ xs) ++ y ∷ []) ≡ filter_map f (x ∷ xs) ++ z ∷ []
      by None e more = rw (e, more) refl
      by (Some w) e more = rw (e, more) refl

  pub taken_none : (xs : List X) (i : ℕ) (x : X) (ys : List Y) → i < length xs → x ≡ get_or xs i x → ys ≡ filter_map f (take i xs)
      → f x ≡ None → ys ≡ filter_map f (take (i + 1) xs)
  taken_none xs i x ys h is so_far none =
      let more : take (i + 1) xs ≡ take i xs ++ x ∷ [] = take_more xs i x h ∙ ap (λ (p : X). take i xs ++ p ∷ []) (sym is) in
      rw more (so_far ∙ sym (filter_map_none (take i xs) x none))

  pub taken_some : (xs : List X) (i : ℕ) (x : X) (ys zs : List Y) (z : Y) → i < length xs → x ≡ get_or xs i x
      → ys ≡ filter_map f (take i xs) → f x ≡ Some z → zs ≡ ys ++ z ∷ [] → zs ≡ filter_map f (take (i + 1) xs)
  taken_some xs i x ys zs z h is so_far some new =
      let more : take (i + 1) xs ≡ take i xs ++ x ∷ [] = take_more xs i x h ∙ ap (λ (p : X). take i xs ++ p ∷ []) (sym is) in
      rw more (new ∙ ap (λ (ws : List Y). ws ++ z ∷ []) so_far ∙ sym (filter_map_some (take i xs) x z some))
