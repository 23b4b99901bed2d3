-- The choices of merged stores.
use Rattle.std.proofs.Common.{◌≡◌, ◌≤◌, ◌&&◌, ◌||◌, ◌==◌, ◌+◌, max, ℕ, zero, suc, Bool, true, false, All, List, [], ◌∷◌, ◌++◌, codes, filter, map, Some, None, slice_get, refl, sym, ap, ◌∙◌, arith, ◌⊎◌, inl, inr}
use Rattle.std.specs.Prelude.{Ok, if◌then◌else◌}
use Rattle.std.specs.List.{enumerate_from, list_any}
use Rattle.std.specs.Str.{bytes_eq}
use Rattle.std.proofs.lemmas.Bool.{eq-eqb, eqb-true, and_from, or_parts}
use Rattle.std.proofs.lemmas.List.Elements.{All-append, All-head, All-tail}
use Rattle.std.proofs.lemmas.List.Folds.{list_any-append}
use Rattle.gs_ai.specs.Tables.{KeepsRules}
use Rattle.gs_ai.specs.declared.row.AiRow.{AiRow}
use Rattle.gs_chars.proofs.TruthsAndLists.{and_first, and_second, equal_bytes, or_true, same_bytes, one_truth}
use Rattle.gs_ident.specs.Elements.{Elements}
use Rattle.gs_linkset.specs.declared.link_types.Target.{Target}
use Rattle.gs_links.specs.Choices.{chosen_depth, depth_of, is_candidate, is_chosen, is_prefix, numbers_from}
use Rattle.gs_links.specs.Documents.{linked}
use Rattle.gs_links.specs.Loads.{anchor_answer, keeps_names, load_answer}
use Rattle.gs_links.specs.declared.link.Link.{Link}
use Rattle.gs_links.specs.declared.link.Want.{Want}
use Rattle.gs_links.specs.declared.link.Want.TheVariants.{All as Any, Relation}
use Rattle.gs_links.proofs.ChoiceLemmas.{chosen_anchor, depth_below, depth_within}
use Rattle.gs_links.proofs.RunLemmas.{equal_swapped}
use Rattle.gs_merge.specs.Distinct.{distinct, is_same_target}
use Rattle.gs_merge.specs.MergedDocuments.{anchor_text, links_at, links_by, merged, targets_of}
use Rattle.gs_merge.specs.Stores.{IsOfRelation, IsStore, chosen_targets, larger_depth, targets_at}
use Rattle.gs_merge.proofs.DistinctLemmas.{has_some, some_distinct}
use Rattle.gs_merge.proofs.KeptLinks.{IsKept, store_kept}
use Rattle.gs_merge.proofs.MergedStores.{all_kept, merged_has}
use Rattle.gs_merge.proofs.SameTargets.{target_itself, target_one}
use Rattle.gs_merge.proofs.TargetsAt.{targets_are}

-- ---- the links of chosen numbers

module _ (t : Link → Bool) where
  linked_by : (all : List Link) (n : ℕ) (xs : List Link) → ((i : ℕ) (x : Link) → slice_get xs i ≡ Some x → slice_get all (n + i) ≡ Some x)
      → linked all (numbers_from n t xs) ≡ filter t xs
  linked_by all n [] there = refl
  linked_by all n (x ∷ xs) there =
      let here : n + 0 ≡ n = omega arith in
      let first : slice_get all n ≡ Some x = ap (slice_get all) (sym here) ∙ there 0 x refl in
      by (t x) first (linked_by all (n + 1) xs (λ i y at. (let next : n + 1 + i ≡ n + suc i = omega arith in ap (slice_get all) next ∙ there (suc i) y at)))
    where
      rows : List (ℕ × Link)
      rows = filter (λ row. t row.1) (enumerate_from (n + 1) xs)

      by : (b : Bool) → slice_get all n ≡ Some x → linked all (map (λ row. row.0) rows) ≡ filter t xs
          → linked all (map (λ row. row.0) (if b then (n, x) ∷ rows else rows)) ≡ (if b then x ∷ filter t xs else filter t xs)
      by true first h = rw (first, h) refl
      by false first h = h

chosen_are : (links : List Link) (identity : Elements) (want : Want) (d : ℕ)
    → chosen_targets links identity want d ≡ targets_of (filter (is_chosen identity want d) links)
chosen_are links identity want d =
    ap targets_of (linked_by (is_chosen identity want d) links 0 links (λ i x at. (let same : 0 + i ≡ i = omega arith in ap (slice_get links) same ∙ at)))

-- ---- filters

filter_both_at : (p q : Link → Bool) (x : Link) (xs : List Link) (a : Bool) → p x ≡ a → filter q (filter p xs) ≡ filter (λ y. p y && q y) xs
    → filter q (if a then x ∷ filter p xs else filter p xs) ≡ (if a && q x then x ∷ filter (λ y. p y && q y) xs else filter (λ y. p y && q y) xs)
filter_both_at p q x xs true e h = rw h refl
filter_both_at p q x xs false e h = h

filter_both : (p q : Link → Bool) (xs : List Link) → filter q (filter p xs) ≡ filter (λ x. p x && q x) xs
filter_both p q [] = refl
filter_both p q (x ∷ xs) = filter_both_at p q x xs (p x) refl (filter_both p q xs)

filter_agrees : (p q : Link → Bool) → ((x : Link) → p x ≡ q x) → (xs : List Link) → filter p xs ≡ filter q xs
filter_agrees p q each [] = refl
filter_agrees p q each (x ∷ xs) = rw (each x, filter_agrees p q each xs) refl

filter_none_at : (p : Link → Bool) (x : Link) (xs : List Link) (a : Bool) → (a || list_any p xs) ≡ false
    → (list_any p xs ≡ false → filter p xs ≡ []) → (if a then x ∷ filter p xs else filter p xs) ≡ []
filter_none_at p x xs true h rest = absurd (let bad : true ≡ false = h in cc)
filter_none_at p x xs false h rest = rest h

filter_none : (p : Link → Bool) (xs : List Link) → list_any p xs ≡ false → filter p xs ≡ []
filter_none p [] h = refl
filter_none p (x ∷ xs) h = filter_none_at p x xs (p x) h (filter_none p xs)

-- whether one passes
some_any : (p : Link → Bool) (xs : List Link) → has_some (targets_of (filter p xs)) ≡ list_any p xs
some_any p [] = refl
some_any p (x ∷ xs) = by (p x) (some_any p xs)
  where
    by : (a : Bool) → has_some (targets_of (filter p xs)) ≡ list_any p xs
        → has_some (targets_of (if a then x ∷ filter p xs else filter p xs)) ≡ (a || list_any p xs)
    by true h = refl
    by false h = h

any_from : (p : Link → Bool) (xs : List Link) (j : ℕ) (x : Link) → slice_get xs j ≡ Some x → p x ≡ true → list_any p xs ≡ true
any_from p [] j x at own = absurd (let g : None ≡ Some x = at in cc)
any_from p (y ∷ xs) zero x at own = let same : y ≡ x = cc in rw (same, own) refl
any_from p (y ∷ xs) (suc j) x at own = by (p y) (any_from p xs j x at own)
  where
    by : (a : Bool) → list_any p xs ≡ true → (a || list_any p xs) ≡ true
    by true h = refl
    by false h = h

record IsFound (p : Link → Bool) (xs : List Link) : Type 0 where
  place : ℕ
  link : Link
  at : slice_get xs place ≡ Some link
  passes : p link ≡ true

found_any : (p : Link → Bool) (xs : List Link) → list_any p xs ≡ true → IsFound p xs
found_any p [] h = absurd (let bad : false ≡ true = h in cc)
found_any p (x ∷ xs) h = by (p x) refl h (found_any p xs)
  where
    by : (a : Bool) → p x ≡ a → (a || list_any p xs) ≡ true → (list_any p xs ≡ true → IsFound p xs) → IsFound p (x ∷ xs)
    by true e h rest = record { place = 0; link = x; at = refl; passes = e }
    by false e h rest = let f = rest h in record { place = suc f.place; link = f.link; at = f.at; passes = f.passes }

or_cases : (a b : Bool) → (a || b) ≡ true → (a ≡ true) ⊎ (b ≡ true)
or_cases true b h = inl refl
or_cases false b h = inr h

or_left : (a b : Bool) → a ≡ true → (a || b) ≡ true
or_left a b h = rw h refl

some_append : (xs ys : List Target) → has_some (xs ++ ys) ≡ (has_some xs || has_some ys)
some_append [] ys = refl
some_append (x ∷ xs) ys = refl

-- ---- the links at one prefix

module _ (table : List AiRow) (voc : List ℕ) (identity : Elements) (d : ℕ) where
  abbrev is_at_prefix : Link → Bool
  is_at_prefix link = is_chosen identity Any d link

  by_anchor : (x y : Link) → x.anchor ≡ y.anchor → is_at_prefix x ≡ is_at_prefix y
  unfolding is_candidate
  by_anchor x y same = rw same refl

  kept_at : (x : Link) → IsKept table voc x → is_at_prefix x ≡ true → (link : Link) → IsKept table voc link
      → is_at_prefix link ≡ bytes_eq (anchor_text link) (anchor_text x)
  kept_at x kept own link kept_link =
      one_truth (is_at_prefix link) (bytes_eq (anchor_text link) (anchor_text x))
      (λ h. (let same : link.anchor ≡ x.anchor = chosen_anchor identity Any d link h ∙ sym (chosen_anchor identity Any d x own) in rw same (same_bytes (anchor_text x))))
      (λ h. (
      let text = equal_bytes (anchor_text link) (anchor_text x) h in
      let answers : Ok link.anchor ≡ Ok x.anchor = sym kept_link.answer ∙ ap (anchor_answer table) text ∙ kept.answer in
      let same : link.anchor ≡ x.anchor = cc in
      by_anchor link x same ∙ own))

  links_at_prefix : (x : Link) → IsKept table voc x → is_at_prefix x ≡ true → (links : List Link) → All (IsKept table voc) links
      → filter is_at_prefix links ≡ links_at (anchor_text x) links
  links_at_prefix x kept own [] h = refl
  links_at_prefix x kept own (link ∷ links) h =
      rw (kept_at x kept own link (All-head (IsKept table voc) link links h), links_at_prefix x kept own links (All-tail (IsKept table voc) link links h)) refl

  record IsFirstAt : Type 0 where
    link : Link
    kept : IsKept table voc link
    passes : is_at_prefix link ≡ true

  first_at : (links : List Link) → All (IsKept table voc) links → list_any is_at_prefix links ≡ true → IsFirstAt
  first_at [] h any = absurd (let bad : false ≡ true = any in cc)
  first_at (link ∷ links) h any = by (is_at_prefix link) refl any (first_at links (All-tail (IsKept table voc) link links h))
    where
      by : (a : Bool) → is_at_prefix link ≡ a → (a || list_any is_at_prefix links) ≡ true → (list_any is_at_prefix links ≡ true → IsFirstAt) → IsFirstAt
      by true e any rest = record { link = link; kept = All-head (IsKept table voc) link links h; passes = e }
      by false e any rest = rest any

  -- the targets of a relation at the prefix
  abbrev prefix_targets : List Link → List ℕ → List Target
  prefix_targets links name = targets_of (links_by name (filter is_at_prefix links))

  none_at : (links : List Link) (name : List ℕ) → list_any is_at_prefix links ≡ false → prefix_targets links name ≡ []
  none_at links name h = ap (λ ls. targets_of (links_by name ls)) (filter_none is_at_prefix links h)

  -- of three lists of stored links the third has the targets of the others at each anchor; then it has them at the prefix
  prefix_merged : (a b m : List Link) (name : List ℕ) → All (IsKept table voc) a → All (IsKept table voc) b → All (IsKept table voc) m
      → ((text : List ℕ) → targets_at m text name ≡ distinct (targets_at a text name ++ targets_at b text name))
      → prefix_targets m name ≡ distinct (prefix_targets a name ++ prefix_targets b name)
  unfolding distinct
  prefix_merged a b m name kept_a kept_b kept_m each = by (list_any is_at_prefix (a ++ (b ++ m))) refl
    where
      by : (t : Bool) → list_any is_at_prefix (a ++ (b ++ m)) ≡ t → prefix_targets m name ≡ distinct (prefix_targets a name ++ prefix_targets b name)
      by true e =
          let x = first_at (a ++ (b ++ m)) (All-append (IsKept table voc) a (b ++ m) kept_a (All-append (IsKept table voc) b m kept_b kept_m)) e in
          rw (links_at_prefix x.link x.kept x.passes a kept_a, links_at_prefix x.link x.kept x.passes b kept_b, links_at_prefix x.link x.kept x.passes m kept_m) (each (anchor_text x.link))
      by false e =
          let split = or_parts (list_any is_at_prefix a) (list_any is_at_prefix (b ++ m)) (sym (list_any-append is_at_prefix a (b ++ m)) ∙ e) in
          let more = or_parts (list_any is_at_prefix b) (list_any is_at_prefix m) (sym (list_any-append is_at_prefix b m) ∙ split.1) in
          rw (none_at a name split.0, none_at b name more.0, none_at m name more.1) refl

-- ---- the links that are chosen for a relation

and_turned : (a b c : Bool) → ((a && b) && c) ≡ (((a && true) && c) && b)
and_turned true true true = refl
and_turned true true false = refl
and_turned true false true = refl
and_turned true false false = refl
and_turned false b c = refl

chosen_by : (identity : Elements) (name : List ℕ) (want : Want) (d : ℕ)
    → ((link : Link) → is_candidate identity want link ≡ (is_prefix link.anchor identity && bytes_eq name link.relation))
    → (links : List Link)
    → targets_of (filter (is_chosen identity want d) links) ≡ targets_of (links_by name (filter (is_chosen identity Any d) links))
unfolding is_candidate
chosen_by identity name want d is links =
    ap targets_of (filter_agrees (is_chosen identity want d) (λ link. is_chosen identity Any d link && bytes_eq link.relation name)
    (λ link. ap (λ t. t && (depth_of link == d)) (is link) ∙ and_turned (is_prefix link.anchor identity) (bytes_eq name link.relation) (depth_of link == d)
    ∙ ap (λ t. ((is_prefix link.anchor identity && true) && (depth_of link == d)) && t) (equal_swapped name link.relation))
    links
    ∙ sym (filter_both (is_chosen identity Any d) (λ link. bytes_eq link.relation name) links))

module _ (table : List AiRow) (rules : KeepsRules table) (voc : List ℕ) (keeps : keeps_names voc ≡ true) (a b m : List Link)
    (store_a : IsStore table voc a) (store_b : IsStore table voc b) (loaded : load_answer table voc (merged a b) ≡ Ok m) (identity : Elements) (want : Want)
    (name : List ℕ) (other : bytes_eq name (codes "anchor") ≡ false)
    (is : (link : Link) → is_candidate identity want link ≡ (is_prefix link.anchor identity && bytes_eq name link.relation)) where
  abbrev chosen_links : ℕ → List Link → List Target
  chosen_links d links = targets_of (filter (is_chosen identity want d) links)

  merged_at_depth : (d : ℕ) → chosen_links d m ≡ distinct (chosen_links d a ++ chosen_links d b)
  merged_at_depth d =
      let kept_m = store_kept table rules voc keeps (merged a b) m loaded in
      let each = prefix_merged table voc identity d a b m name (all_kept table rules voc keeps a store_a) (all_kept table rules voc keeps b store_b) kept_m
      (λ text. merged_has table rules voc keeps a b m store_a store_b loaded text name ∙ targets_are a b text name other) in
      rw (chosen_by identity name want d is a, chosen_by identity name want d is b, chosen_by identity name want d is m) each

  any_at_depth : (d : ℕ) → list_any (is_chosen identity want d) m ≡ (list_any (is_chosen identity want d) a || list_any (is_chosen identity want d) b)
  unfolding distinct
  any_at_depth d =
      sym (some_any (is_chosen identity want d) m)
      ∙ ap has_some (merged_at_depth d)
      ∙ some_distinct is_same_target target_itself target_one (chosen_links d a ++ chosen_links d b)
      ∙ some_append (chosen_links d a) (chosen_links d b)
      ∙ ap (λ t. t || has_some (chosen_links d b)) (some_any (is_chosen identity want d) a)
      ∙ ap (λ t. list_any (is_chosen identity want d) a || t) (some_any (is_chosen identity want d) b)

  chosen_itself : (link : Link) → is_candidate identity want link ≡ true → is_chosen identity want (depth_of link) link ≡ true
  chosen_itself link h = and_from (is_candidate identity want link) (depth_of link == depth_of link) h (eq-eqb (depth_of link) (depth_of link) refl)

  -- a depth at which a link is chosen is at most the depth of the choice
  depth_reached : (d : ℕ) (links : List Link) → list_any (is_chosen identity want d) links ≡ true → d ≤ chosen_depth links identity want
  depth_reached d links h =
      let f = found_any (is_chosen identity want d) links h in
      let candidate = and_first (is_candidate identity want f.link) (depth_of f.link == d) f.passes in
      let same = eqb-true (depth_of f.link) d (and_second (is_candidate identity want f.link) (depth_of f.link == d) f.passes) in
      let within = depth_within (is_candidate identity want) links f.place f.link f.at candidate in
      omega (arith, same, within)

  no_deeper : chosen_depth m identity want ≤ max (chosen_depth a identity want) (chosen_depth b identity want)
  no_deeper = depth_below (is_candidate identity want) m (max (chosen_depth a identity want) (chosen_depth b identity want)) (λ j link at own.
      let any = any_from (is_chosen identity want (depth_of link)) m j link at (chosen_itself link own) in
      elim (or_cases (list_any (is_chosen identity want (depth_of link)) a) (list_any (is_chosen identity want (depth_of link)) b) (sym (any_at_depth (depth_of link)) ∙ any)) [
        | inl h ↦ let low = depth_reached (depth_of link) a h in omega (arith, low)
        | inr h ↦ let low = depth_reached (depth_of link) b h in omega (arith, low)
      ])

  as_deep_first : chosen_depth a identity want ≤ chosen_depth m identity want
  as_deep_first = depth_below (is_candidate identity want) a (chosen_depth m identity want) (λ j link at own.
      let any = any_from (is_chosen identity want (depth_of link)) a j link at (chosen_itself link own) in
      depth_reached (depth_of link) m (any_at_depth (depth_of link) ∙ or_left (list_any (is_chosen identity want (depth_of link)) a) (list_any (is_chosen identity want (depth_of link)) b) any))

  as_deep_second : chosen_depth b identity want ≤ chosen_depth m identity want
  as_deep_second = depth_below (is_candidate identity want) b (chosen_depth m identity want) (λ j link at own.
      let any = any_from (is_chosen identity want (depth_of link)) b j link at (chosen_itself link own) in
      depth_reached (depth_of link) m (any_at_depth (depth_of link) ∙ or_true (list_any (is_chosen identity want (depth_of link)) a) (list_any (is_chosen identity want (depth_of link)) b) any))

  chooses_named : (chosen_depth m identity want ≡ larger_depth a b identity want)
      × (chosen_targets m identity want (larger_depth a b identity want) ≡ distinct (chosen_targets a identity want (larger_depth a b identity want) ++ chosen_targets b identity want (larger_depth a b identity want)))
  chooses_named =
      let d = larger_depth a b identity want in
      let high = no_deeper in
      let first = as_deep_first in
      let second = as_deep_second in (
        omega (arith, high, first, second),
        rw (chosen_are a identity want d, chosen_are b identity want d, chosen_are m identity want d) (merged_at_depth d),
      )

pub chooses : (table : List AiRow) → KeepsRules table → (voc : List ℕ) → keeps_names voc ≡ true → (a b m : List Link) → IsStore table voc a
    → IsStore table voc b → load_answer table voc (merged a b) ≡ Ok m
    → (identity : Elements) (want : Want) → IsOfRelation want
    → (chosen_depth m identity want ≡ larger_depth a b identity want)
    × (chosen_targets m identity want (larger_depth a b identity want) ≡ distinct (chosen_targets a identity want (larger_depth a b identity want) ++ chosen_targets b identity want (larger_depth a b identity want)))
unfolding is_candidate
chooses table rules voc keeps a b m store_a store_b loaded identity Any named = absurd named
chooses table rules voc keeps a b m store_a store_b loaded identity (Relation wanted) named =
    chooses_named table rules voc keeps a b m store_a store_b loaded identity (Relation wanted) wanted.now named (λ link. refl)
