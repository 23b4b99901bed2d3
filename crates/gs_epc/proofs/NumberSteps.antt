-- The numbers of the first items of fields, from the last item to the first.
use Rattle.std.proofs.Common.{◌≡◌, ◌≢◌, ◌+◌, ◌-◌, ◌<◌, ℕ, zero, suc, Bool, true, false, List, ◌∷◌, length, position, drop, get_or, set, Option, Some, None, option_map, refl, sym, ap, ◌∙◌, arith, inl, inr}
use Rattle.std.proofs.lemmas.List.{drop_more, get_or-set_same, get_or-set_other}
use Rattle.gs_chars.proofs.Searches.{position-cons}
use Rattle.gs_chars.proofs.TruthsAndLists.{true_or_false}
use Rattle.gs_tables_document.specs.declared.document.Field.{Field}
use Rattle.gs_tables_document.specs.declared.document.Field.TheVariants.{Filter, Gcp, Rest, Piece, Total, Serial}
use Rattle.gs_tables.specs.Rules.{is_field}
use Rattle.gs_epc.specs.NumbersOfItems.{AreNumbersFrom, index_of, number_from}
use Rattle.gs_epc.proofs.FieldPlaces.{named}

-- ---- indexes

abbrev field_at : ℕ → Field
field_at zero = Filter
field_at (suc zero) = Gcp
field_at (suc (suc zero)) = Rest
field_at (suc (suc (suc zero))) = Piece
field_at (suc (suc (suc (suc zero)))) = Total
field_at (suc (suc (suc (suc (suc n))))) = Serial

told : (field : Field) → field_at (index_of field) ≡ field
told Filter = refl
told Gcp = refl
told Rest = refl
told Piece = refl
told Total = refl
told Serial = refl

itself : (field : Field) → is_field field (Some field) ≡ true
itself Filter = refl
itself Gcp = refl
itself Rest = refl
itself Piece = refl
itself Total = refl
itself Serial = refl

below_six : (field : Field) → index_of field < 6
below_six Filter = omega arith
below_six Gcp = omega arith
below_six Rest = omega arith
below_six Piece = omega arith
below_six Total = omega arith
below_six Serial = omega arith

apart : (field other : Field) → is_field field (Some other) ≡ false → index_of field ≢ index_of other
apart field other f = λ e.
    let same : field ≡ other = sym (told field) ∙ ap field_at e ∙ told other in
    let t : is_field field (Some other) ≡ true = ap (λ (x : Field). is_field field (Some x)) (sym same) ∙ itself field in
    absurd (let g : false ≡ true = sym f ∙ t in cc)

-- ---- one item more

shift : (from : ℕ) (place : Option ℕ) → number_from (from + 1) place ≡ number_from from (option_map (λ i. 1 + i) place)
shift from None = refl
shift from (Some i) = omega arith

-- the first item is of another field
behind : (test : Option Field → Bool) (name : Option Field) (others : List (Option Field)) (from : ℕ) → test name ≡ false
    → number_from (from + 1) (position test others) ≡ number_from from (position test (name ∷ others))
behind test name others from f = rw (position-cons test name others, f) (shift from (position test others))

here : (test : Option Field → Bool) (name : Option Field) (others : List (Option Field)) (from : ℕ) → test name ≡ true
    → from + 1 ≡ number_from from (position test (name ∷ others))
here test name others from t = rw (position-cons test name others, t) (omega arith)

front : (fields : List (Option Field)) (from : ℕ) (name none : Option Field) → from < length fields → name ≡ get_or fields from none
    → drop from fields ≡ name ∷ drop (from + 1) fields
front fields from name none low is = rw is (drop_more fields from none low)

pub stored : (fields : List (Option Field)) (numbers new : List ℕ) (place from : ℕ) (name none : Option Field) (other : Field) → place ≡ from + 1
    → from < length fields → name ≡ get_or fields from none → name ≡ Some other → length numbers ≡ 6
    → new ≡ set numbers (index_of other) (from + 1) → AreNumbersFrom place fields numbers → AreNumbersFrom from fields new
stored fields numbers new place from name none other e low is named_so long put so_far = λ field.
    let before = rw e at so_far field in
    let within : index_of other < length numbers = let b = below_six other in omega arith in
    rw (front fields from name none low is, named_so, put) (elim (true_or_false (is_field field (Some other))) [
      | inl t ↦
          let same : Some other ≡ Some field = named field (Some other) t in
          let at : index_of field ≡ index_of other = let same_field : other ≡ field = cc in ap index_of (sym same_field) in
          rw at (get_or-set_same numbers (index_of other) (from + 1) 0 within) ∙ here (is_field field) (Some other) (drop (from + 1) fields) from t
      | inr f ↦
          get_or-set_other numbers (index_of other) (index_of field) (from + 1) 0 (apart field other f)
          ∙ before ∙ behind (is_field field) (Some other) (drop (from + 1) fields) from f
    ])

-- ---- the number of a field

pub no_number : (number : ℕ) (place : Option ℕ) → number ≡ number_from 0 place → number ≡ 0 → None ≡ place
no_number number None e z = refl
no_number number (Some i) e z = absurd (omega arith)

pub one_number : (number : ℕ) (place : Option ℕ) → number ≡ number_from 0 place → (number ≡ 0 → ⊥) → Some (number - 1) ≡ place
one_number number None e some = absurd (some e)
one_number number (Some i) e some = ap Some (omega arith)
