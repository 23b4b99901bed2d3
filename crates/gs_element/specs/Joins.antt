-- Texts that are joins of elements: GS1 General Specifications, section 7.8 (concatenation of element strings).
use Rattle.std.specs.Prelude.{◌≡◌, ℕ, ◌+◌, ◌≤◌, List, [], ◌∷◌, length, Option, Some}
use Rattle.gs_ai.specs.declared.errors.ElementFault.{ElementFault}
use Rattle.gs_ai.specs.declared.pair.Pair.{Pair}

-- trusted, own: the definition of an element, by a text, its pair and the text that follows it
abbrev pub Form : Type 1
Form = Pair → List ℕ → List ℕ → Type 0

-- trusted, GS1 General Specifications, section 7.8: holds if `text` is an element of each pair in turn, and then `rest`
abbrev pub Joined : Form → List Pair → List ℕ → List ℕ → Type 0
Joined Element [] text rest = text ≡ rest
Joined Element (pair ∷ pairs) text rest =
    (after : List ℕ) × Element pair text after × Joined Element pairs after rest

-- trusted, own: Holds if `error` is that of the rest, after the longest prefix of `text` that is a join of elements. `whole` is
-- the given text, and `text` its end.
pub record IsFirstError (Element : Form) (error_of : List ℕ → Option ElementFault) (whole text : List ℕ)
    (error : ElementFault) : Type 0 where
  -- the pairs of a prefix that is a join, and the rest
  pub pairs : List Pair
  pub rest : List ℕ
  pub joined : Joined Element pairs text rest
  -- no prefix that is a join is longer
  pub longest : (others : List Pair) (after : List ℕ) → Joined Element others text after
      → length rest ≤ length after
  -- the error of the rest, whose place counts from the start of the rest
  pub own : ElementFault
  pub at_front : error_of rest ≡ Some own
  pub place : error.at + length rest ≡ length whole + own.at
  pub why : error.why ≡ own.why
