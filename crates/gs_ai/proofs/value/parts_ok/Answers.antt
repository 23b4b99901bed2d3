use Rattle.std.proofs.Common.{◌≡◌, ℕ, ◌≤◌, false, true, leb, List, length, Some, None, refl, sym, ◌∙◌, arith}
use Rattle.std.specs.List.{list_all}
use Rattle.std.proofs.lemmas.Bool.Decides.{nat_tests}
use Rattle.gs_ai.specs.declared.errors.ValueFault.TheVariants.{Date}
use Rattle.gs_ai.specs.declared.part.Part.{Part}
use Rattle.gs_ai.specs.Values.{greatest_of, keeps_check, least_of, parts_error, pieces, wrong_character}
use Rattle.gs_ai.specs.ValuesSupport.{each_fits}
use Rattle.gs_ai.proofs.FitLemmas.{date_wrong, kept}
use Rattle.gs_ai.proofs.value.parts_ok.Goals as goal

is_at_most : (m n : ℕ) → m ≤ n → leb m n ≡ true
is_at_most m n h = grind (arith, nat_tests)

-- the value has a length that the parts allow
record HasLength (parts : List Part) (value : List ℕ) : Type 0 where
  low : leb (least_of parts) (length value) ≡ true
  high : leb (length value) (greatest_of parts) ≡ true

has_length : (parts : List Part) (value : List ℕ) (least greatest : ℕ) → least ≡ least_of parts → greatest ≡ greatest_of parts
    → least ≤ length value → length value ≤ greatest → HasLength parts value
has_length parts value least greatest l g h k = record { low = rw l at (is_at_most least (length value) h); high = rw g at (is_at_most (length value) greatest k) }

none_wrong : (parts : List Part) (value : List ℕ) → HasLength parts value → each_fits parts value ≡ true → parts_error parts value ≡ None
none_wrong parts value size h = let all = kept parts value h in rw (size.low, size.high, all.characters, all.checks, all.dates) refl

date_fails : (parts : List Part) (value : List ℕ) → HasLength parts value → each_fits parts value ≡ false
    → wrong_character parts value ≡ None → list_all keeps_check (pieces parts value) ≡ true → parts_error parts value ≡ Some Date
date_fails parts value size h none checks = rw (size.low, size.high, none, checks, date_wrong parts value h none checks) refl

pub returns-then-each_fits-clause-ok : goal.returns-then-each_fits-clause-ok
returns-then-each_fits-clause-ok c =
    let size = has_length c.args.parts.now c.args.value.now c.least_length_of.result c.greatest_length_of.result c.least_length_of.ensures c.greatest_length_of.ensures c.if-value-least_length_of.false c.if-greatest_length_of-value.false in
    none_wrong c.args.parts.now c.args.value.now size (sym c.each_fits.ensures ∙ c.if-each_fits.true)

pub returns-clause-err : goal.returns-clause-err
returns-clause-err c =
    let size = has_length c.args.parts.now c.args.value.now c.least_length_of.result c.greatest_length_of.result c.least_length_of.ensures c.greatest_length_of.ensures c.if-value-least_length_of.false c.if-greatest_length_of-value.false in
    date_fails c.args.parts.now c.args.value.now size (sym c.each_fits.ensures ∙ c.if-each_fits.false)
    (sym c.find_wrong_character.ensures.place ∙ c.in_default.is) (sym c.keep_checks.ensures ∙ c.if-not-keep_checks.false)
