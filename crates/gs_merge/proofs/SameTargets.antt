-- Targets that are the same are equal, and have one text.
use Rattle.std.proofs.Common.{◌≡◌, ℕ, Bool, true, List, [], ◌∷◌, refl, ap, ◌∙◌}
use Rattle.std.specs.Cmp.Lexicographic.{pointwise}
use Rattle.std.specs.List.{list_all, list_any}
use Rattle.std.specs.Str.{bytes_eq}
use Rattle.gs_chars.proofs.TruthsAndLists.{and_first, and_second, equal_bytes, same_bytes, one_truth}
use Rattle.gs_linkset.specs.LinkShapes.{is_target}
use Rattle.gs_linkset.specs.WrittenTrees.{target_text}
use Rattle.gs_linkset.specs.declared.link_types.Attr.{Attr}
use Rattle.gs_linkset.specs.declared.link_types.AttrValue.{AttrValue}
use Rattle.gs_linkset.specs.declared.link_types.AttrValue.TheVariants.{One, Many, Tagged}
use Rattle.gs_linkset.specs.declared.link_types.Target.{Target}
use Rattle.gs_linkset.proofs.RoundTrip.{same_by_text}
use Rattle.gs_merge.specs.Distinct.{is_same_attr, is_same_pair, is_same_target, is_same_value}
use Rattle.std.proofs.lemmas.Bool.{and_from}

module _ {X : Type 0} (same : X → X → Bool) where
  all_same : ((x : X) → same x x ≡ true) → (xs : List X) → pointwise same xs xs ≡ true
  all_same itself [] = refl
  all_same itself (x ∷ xs) = and_from (same x x) (pointwise same xs xs) (itself x) (all_same itself xs)

  all_one : ((x y : X) → same x y ≡ true → x ≡ y) → (xs ys : List X) → pointwise same xs ys ≡ true → xs ≡ ys
  all_one one [] [] h = refl
  all_one one [] (y ∷ ys) h = absurd (cc)
  all_one one (x ∷ xs) [] h = absurd (cc)
  all_one one (x ∷ xs) (y ∷ ys) h =
      let first = one x y (and_first (same x y) (pointwise same xs ys) h) in
      let rest = all_one one xs ys (and_second (same x y) (pointwise same xs ys) h) in
      rw (first, rest) refl

pair_itself : (a : List ℕ × List ℕ) → is_same_pair a a ≡ true
pair_itself a = and_from (bytes_eq a.0 a.0) (bytes_eq a.1 a.1) (same_bytes a.0) (same_bytes a.1)

pair_one : (a b : List ℕ × List ℕ) → is_same_pair a b ≡ true → a ≡ b
pair_one (t, l) (u, m) h =
    let text = equal_bytes t u (and_first (bytes_eq t u) (bytes_eq l m) h) in
    let language = equal_bytes l m (and_second (bytes_eq t u) (bytes_eq l m) h) in
    rw (text, language) refl

value_itself : (a : AttrValue) → is_same_value a a ≡ true
value_itself (One a) = same_bytes a
value_itself (Many a) = all_same bytes_eq same_bytes a
value_itself (Tagged a) = all_same is_same_pair pair_itself a

value_one : (a b : AttrValue) → is_same_value a b ≡ true → a ≡ b
value_one (One a) (One b) h = ap One (equal_bytes a b h)
value_one (Many a) (Many b) h = ap Many (all_one bytes_eq equal_bytes a b h)
value_one (Tagged a) (Tagged b) h = ap Tagged (all_one is_same_pair pair_one a b h)
value_one (One a) (Many b) h = absurd (cc)
value_one (One a) (Tagged b) h = absurd (cc)
value_one (Many a) (One b) h = absurd (cc)
value_one (Many a) (Tagged b) h = absurd (cc)
value_one (Tagged a) (One b) h = absurd (cc)
value_one (Tagged a) (Many b) h = absurd (cc)

attr_itself : (a : Attr) → is_same_attr a a ≡ true
attr_itself a = and_from (bytes_eq a.name a.name) (is_same_value a.value a.value) (same_bytes a.name) (value_itself a.value)

attr_one : (a b : Attr) → is_same_attr a b ≡ true → a ≡ b
attr_one a b h =
    let name = equal_bytes a.name b.name (and_first (bytes_eq a.name b.name) (is_same_value a.value b.value) h) in
    let value = value_one a.value b.value (and_second (bytes_eq a.name b.name) (is_same_value a.value b.value) h) in
    ap (λ n. record { name = n; value = a.value }) name ∙ ap (λ v. record { name = b.name; value = v }) value

pub target_itself : (a : Target) → is_same_target a a ≡ true
unfolding is_same_target
target_itself a = and_from (bytes_eq a.href a.href) (pointwise is_same_attr a.attrs a.attrs) (same_bytes a.href) (all_same is_same_attr attr_itself a.attrs)

pub target_one : (a b : Target) → is_same_target a b ≡ true → a ≡ b
unfolding is_same_target
target_one a b h =
    let href = equal_bytes a.href b.href (and_first (bytes_eq a.href b.href) (pointwise is_same_attr a.attrs b.attrs) h) in
    let attrs = all_one is_same_attr attr_one a.attrs b.attrs (and_second (bytes_eq a.href b.href) (pointwise is_same_attr a.attrs b.attrs) h) in
    ap (λ t. record { href = t; attrs = a.attrs }) href ∙ ap (λ t. record { href = b.href; attrs = t }) attrs

-- targets of the shape are the same if their texts are
pub same_text : (a b : Target) → is_target a ≡ true → is_target b ≡ true → bytes_eq (target_text a) (target_text b) ≡ is_same_target a b
same_text a b ha hb =
    one_truth (bytes_eq (target_text a) (target_text b)) (is_same_target a b)
    (λ h. (let e = same_by_text a b ha hb (equal_bytes (target_text a) (target_text b) h) in rw e (target_itself b)))
    (λ h. (let e = target_one a b h in rw e (same_bytes (target_text b))))

pub same_texts : (targets : List Target) (target : Target) → list_all is_target targets ≡ true → is_target target ≡ true
    → list_any (λ other. bytes_eq (target_text other) (target_text target)) targets ≡ list_any (λ other. is_same_target other target) targets
same_texts [] target all h = refl
same_texts (other ∷ targets) target all h =
    rw (same_text other target (and_first (is_target other) (list_all is_target targets) all) h, same_texts targets target (and_second (is_target other) (list_all is_target targets) all) h) refl
