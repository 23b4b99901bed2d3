-- The values of fields, by the places of their items.
use Rattle.std.proofs.Common.{◌≡◌, ℕ, zero, suc, ◌+◌, ◌<◌, ◌≤◌, Bool, true, false, if◌then◌else◌, List, [], ◌∷◌, length, position, Option, Some, None, option_map, slice_get, get_or, refl, sym, ap, ◌∙◌, arith}
use Rattle.std.specs.Prelude.{zip}
use Rattle.std.specs.List.{find}
use Rattle.std.specs.Option.{option_and_then, option_map_or}
use Rattle.std.proofs.lemmas.Option.{slice_get_past}
use Rattle.gs_tables_document.specs.declared.document.Field.{Field}
use Rattle.gs_tables_document.specs.declared.document.Field.TheVariants.{Filter, Gcp, Rest, Piece, Total, Serial}
use Rattle.gs_tables.specs.Rules.{is_field}
use Rattle.gs_epc.specs.Epcs.{value_at, value_of}
use Rattle.gs_chars.proofs.Searches.{position-cons}
use Rattle.gs_chars.proofs.TruthsAndLists.{read_at}

-- the value after the first field that passes a test
abbrev first_value : (Option Field → Bool) → List (Option Field) → List (List ℕ) → Option (List ℕ)
first_value test fields values =
    option_map (λ (pair : Option Field × List ℕ). pair.1) (find (λ (pair : Option Field × List ℕ). test pair.0) (zip fields values))

-- ---- the value is at the place of its field

none_then : (place : Option ℕ) → None ≡ option_and_then (λ k. slice_get {X = List ℕ} [] k) place
none_then None = refl
none_then (Some zero) = refl
none_then (Some (suc k)) = refl

later : (value : List ℕ) (values : List (List ℕ)) (place : Option ℕ)
    → option_and_then (λ k. slice_get values k) place ≡ option_and_then (λ k. slice_get (value ∷ values) k) (option_map (λ i. 1 + i) place)
later value values None = refl
later value values (Some k) = let next : 1 + k ≡ suc k = omega arith in rw next refl

by_place : (test : Option Field → Bool) (fields : List (Option Field)) (values : List (List ℕ))
    → first_value test fields values ≡ option_and_then (λ k. slice_get values k) (position test fields)
by_place test [] values = refl
by_place test (field ∷ fields) [] = none_then (position test (field ∷ fields))
by_place test (field ∷ fields) (value ∷ values) = rw (position-cons test field fields) (by (test field) (by_place test fields values))
  where
    by : (b : Bool) → first_value test fields values ≡ option_and_then (λ k. slice_get values k) (position test fields)
        → option_map (λ (pair : Option Field × List ℕ). pair.1) (if b then Some (field, value) else find (λ (pair : Option Field × List ℕ). test pair.0) (zip fields values))
        ≡ option_and_then (λ k. slice_get (value ∷ values) k) (if b then Some 0 else option_map (λ i. 1 + i) (position test fields))
    by true rest = refl
    by false rest = rest ∙ later value values (position test fields)

value_from : (field : Field) (fields : List (Option Field)) (values : List (List ℕ)) (place : Option ℕ)
    → place ≡ position (is_field field) fields → value_at field fields values ≡ option_and_then (λ k. slice_get values k) place
value_from field fields values place e = by_place (is_field field) fields values ∙ ap (option_and_then (λ k. slice_get values k)) (sym e)

-- ---- no value, and one

value_past : (field : Field) (fields : List (Option Field)) (values : List (List ℕ)) (k : ℕ) → Some k ≡ position (is_field field) fields
    → length values ≤ k → value_at field fields values ≡ None
value_past field fields values k place past = value_from field fields values (Some k) place ∙ slice_get_past values k past

value_here : (field : Field) (fields : List (Option Field)) (values : List (List ℕ)) (k : ℕ) (value : List ℕ)
    → Some k ≡ position (is_field field) fields → k < length values → value ≡ get_or values k value
    → value_at field fields values ≡ Some value
value_here field fields values k value place low read = value_from field fields values (Some k) place ∙ read_at values k value low read

empty_of : (field : Field) (fields : List (Option Field)) (values : List (List ℕ)) → value_at field fields values ≡ None → [] ≡ value_of field fields values
empty_of field fields values none = rw none refl

pub no_item : (field : Field) (fields : List (Option Field)) (values : List (List ℕ)) → None ≡ position (is_field field) fields
    → [] ≡ value_of field fields values
no_item field fields values none = empty_of field fields values (value_from field fields values None none)

pub no_value : (field : Field) (fields : List (Option Field)) (values : List (List ℕ)) (k : ℕ) → Some k ≡ position (is_field field) fields
    → length values ≤ k → [] ≡ value_of field fields values
no_value field fields values k place past = empty_of field fields values (value_past field fields values k place past)

pub one_value : (field : Field) (fields : List (Option Field)) (values : List (List ℕ)) (k : ℕ) (value : List ℕ)
    → Some k ≡ position (is_field field) fields → k < length values → value ≡ get_or values k value → value ≡ value_of field fields values
one_value field fields values k value place low read =
    let here = value_here field fields values k value place low read in
    rw here refl

or_empty : (values : List (List ℕ)) (k : ℕ) → get_or values k [] ≡ option_map_or (λ value. value) (slice_get values k) []
or_empty [] zero = refl
or_empty [] (suc k) = refl
or_empty (value ∷ values) zero = refl
or_empty (value ∷ values) (suc k) = or_empty values k

pub value_or_empty : (field : Field) (fields : List (Option Field)) (values : List (List ℕ)) (k : ℕ) → Some k ≡ position (is_field field) fields
    → get_or values k [] ≡ value_of field fields values
value_or_empty field fields values k place = or_empty values k
    ∙ ap (λ (value : Option (List ℕ)). option_map_or (λ text. text) value []) (sym (value_from field fields values (Some k) place))

-- ---- a field by its test

pub named : (field : Field) (name : Option Field) → is_field field name ≡ true → name ≡ Some field
named Filter (Some Filter) h = refl
named Gcp (Some Gcp) h = refl
named Rest (Some Rest) h = refl
named Piece (Some Piece) h = refl
named Total (Some Total) h = refl
named Serial (Some Serial) h = refl
named field name h = absurd (let g : false ≡ true = h in cc)
