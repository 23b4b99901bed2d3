-- No brace is left in a filled template whose places are allowed.
use Rattle.std.proofs.Common.{◌≡◌, ℕ, ◌+◌, ◌&&◌, Bool, true, false, if◌then◌else◌, List, [], ◌∷◌, ◌++◌, refl}
use Rattle.std.specs.List.{flat_map, list_all, list_any}
use Rattle.std.proofs.lemmas.Bool.{agree_below, agree_below_at}
use Rattle.gs_chars.proofs.TruthsAndLists.{and_first, and_second, none_behind, none_in_front}
use Rattle.gs_ai.specs.declared.row.AiRow.{AiRow}
use Rattle.gs_ident.specs.Elements.{Elements}
use Rattle.gs_ident.specs.Links.{is_unescaped, percent_encoded}
use Rattle.gs_template.specs.Errors.{errors_from, is_brace, part_errors, part_size, place_errors}
use Rattle.gs_template.specs.Templates.{HoldsBytes, Part, filled, is_place_byte, itself, parts, place, stands_for, value_under}
use Rattle.gs_template.specs.declared.error.PlaceFault.TheVariants.{Brace}
use Rattle.gs_template.proofs.TemplateLemmas.{encoded_plain, plain_small}
use Rattle.std.specs.Prelude.{find}
use Rattle.std.specs.Option.{option_map_or}
use Rattle.gs_ai.specs.Values.{has_code}

no_braces : agree_below (λ c. is_place_byte c && is_brace c) (λ _. false) 128 ≡ true
unfolding is_unescaped
no_braces = refl

not_brace : (c : ℕ) → is_place_byte c ≡ true → is_brace c ≡ false
not_brace c h = by (is_brace c) (rw h at (agree_below_at (λ c. is_place_byte c && is_brace c) (λ _. false) 128 c no_braces (plain_small c h)))
  where
    by : (b : Bool) → (true && b) ≡ false → b ≡ false
    by true e = e
    by false e = e

-- plain bytes before a text without a brace
plain_before : (text rest : List ℕ) → list_all is_place_byte text ≡ true → list_any is_brace rest ≡ false → list_any is_brace (text ++ rest) ≡ false
plain_before [] rest h none = none
plain_before (c ∷ text) rest h none =
    rw (not_brace c (and_first (is_place_byte c) (list_all is_place_byte text) h))
    (plain_before text rest (and_second (is_place_byte c) (list_all is_place_byte text) h) none)

-- a byte whose error is none is not a brace
allowed_byte : (b : Bool) (at : ℕ) → (if b then Brace at ∷ [] else []) ≡ [] → b ≡ false
allowed_byte true at h = absurd (let e : Brace at ∷ [] ≡ [] = h in cc)
allowed_byte false at h = refl

module _ (identity : Elements) (bytes : HoldsBytes identity) (beside : List (List ℕ)) where
  none_in_parts : (at : ℕ) (ps : List Part) → errors_from beside at ps ≡ [] → list_any is_brace (flat_map (stands_for identity) ps) ≡ false
  none_in_parts at [] h = refl
  none_in_parts at (itself c ∷ ps) h =
      let here = none_in_front (part_errors beside at (itself c)) (errors_from beside (at + 1) ps) h in
      let rest = none_behind (part_errors beside at (itself c)) (errors_from beside (at + 1) ps) h in
      rw (allowed_byte (is_brace c) at here) (none_in_parts (at + 1) ps rest)
  none_in_parts at (place code ∷ ps) h =
      let rest = none_behind (part_errors beside at (place code)) (errors_from beside (at + part_size (place code)) ps) h in
      plain_before (percent_encoded (value_under identity code)) (flat_map (stands_for identity) ps)
      (encoded_plain (value_under identity code) (bytes code)) (none_in_parts (at + part_size (place code)) ps rest)

pub no_brace : (table : List AiRow) (key href : List ℕ) (identity : Elements) → HoldsBytes identity → place_errors table key href ≡ []
    → list_any is_brace (filled href identity) ≡ false
unfolding place_errors
no_brace table key href identity bytes h = none_in_parts identity bytes (key ∷ option_map_or (λ row. row.qualifiers) (find (has_code key) table) []) 0 (parts href) h
