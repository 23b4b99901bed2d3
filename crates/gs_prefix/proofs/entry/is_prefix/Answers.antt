use Rattle.std.proofs.Common.{◌≡◌, ◌∙◌, ℕ, ◌≤◌, true, leb, List, length, refl, sym}
use Rattle.std.proofs.lemmas.Bool.{le-leb}
use Rattle.gs_chars.specs.Characters.{are_digits}
use Rattle.gs_prefix.specs.Lengths.{is_prefix}
use Rattle.gs_prefix.proofs.entry.is_prefix.Goals as goal

some_digits : (text : List ℕ) → are_digits text ≡ true → 1 ≤ length text → leb (length text) 12 ≡ is_prefix text
some_digits text digits some = rw (digits, le-leb 1 (length text) some) refl

pub returns-then-text-ge1 : goal.returns-then-text-ge1
returns-then-text-ge1 c = some_digits c.args.text.now (sym c.are_digits.ensures ∙ c.if-text-ge1.true.0) c.if-text-ge1.true.1
