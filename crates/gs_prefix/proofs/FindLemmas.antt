-- Entries in an index, found by their prefixes.
use Rattle.std.proofs.Common.{◌≡◌, ℕ, true, false, List, [], ◌∷◌, ◌++◌, map, find, option_map, is_some, bytes_eq, refl, ap, ◌∙◌, inl, inr}
use Rattle.std.specs.List.{list_any}
use Rattle.std.specs.Map.{lookup}
use Rattle.indexmap.specs.IndexMap.{insert_entry}
use Rattle.std.proofs.lemmas.List.{map-append}
use Rattle.gs_prefix.specs.declared.entry.PrefixEntry.{PrefixEntry}
use Rattle.gs_prefix.specs.Lengths.{has_prefix}
use Rattle.gs_chars.proofs.TruthsAndLists.{true_or_false}

module _ {K : Type 0} (f : K → List ℕ) where
  -- an entry of a map, whose keys are texts by f
  abbrev entry : K × ℕ → PrefixEntry
  entry e = record { prefix = f e.0; length = e.1 }

  pub looked_up : (p : List ℕ) (es : List (K × ℕ)) → lookup (λ k. bytes_eq p (f k)) es ≡ option_map (λ e. e.length) (find (has_prefix p) (map entry es))
  looked_up p [] = refl
  looked_up p (e ∷ es) = elim (true_or_false (bytes_eq p (f e.0))) [
    | inl h ↦ rw h refl
    | inr h ↦ rw h (looked_up p es)
  ]

  inserted : (k : K) (v : ℕ) (es : List (K × ℕ)) → list_any (has_prefix (f k)) (map entry es) ≡ false
      → insert_entry (λ a b. bytes_eq (f a) (f b)) es k v ≡ es ++ (k, v) ∷ []
  inserted k v [] h = refl
  inserted k v (e ∷ es) h = elim (true_or_false (bytes_eq (f k) (f e.0))) [
    | inl t ↦ absurd (let g = rw t at h in let bad : true ≡ false = g in cc)
    | inr t ↦ let g = rw t at h in rw t (ap (λ (rest : List (K × ℕ)). e ∷ rest) (inserted k v es g))
  ]

  pub added : (es new : List (K × ℕ)) (k : K) (v : ℕ) (old : List PrefixEntry) (p : List ℕ) → new ≡ insert_entry
      (λ a b. bytes_eq (f a) (f b)) es k v → f k ≡ p → map entry es ≡ old → list_any (has_prefix p) old ≡ false
      → map entry new ≡ old ++ (record { prefix = p; length = v }) ∷ []
  added es new k v old p n e m h =
      let fresh : list_any (has_prefix (f k)) (map entry es) ≡ false = rw (m, e) h in
      let last : new ≡ es ++ (k, v) ∷ [] = n ∙ inserted k v es fresh in
      rw (last, map-append, m, e)

-- an entry is found if and only if one has the prefix
pub found_any : (p : List ℕ) (es : List PrefixEntry)
    → is_some (option_map (λ (e : PrefixEntry). e.length) (find (has_prefix p) es)) ≡ list_any (has_prefix p) es
found_any p [] = refl
found_any p (e ∷ es) = elim (true_or_false (has_prefix p e)) [
  | inl h ↦ rw h refl
  | inr h ↦ rw h (found_any p es)
]
