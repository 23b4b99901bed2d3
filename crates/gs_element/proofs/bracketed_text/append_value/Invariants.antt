use Rattle.std.proofs.Common.{◌≡◌, ◌++◌, ℕ, List, length}
use Rattle.gs_element.specs.BracketedTexts.{value_before, written_value}
use Rattle.gs_element.proofs.bracketed_text.append_value.Given as goal

-- the characters so far, and the value of the rest
abbrev pub invariant-loop-next : goal.invariant-loop-next
invariant-loop-next l = (done : List ℕ) × (l.value ≡ l.fn.value ++ done) × (value_before l.text ≡ done ++ value_before l.rest) × (l.text ≡ written_value done ++ l.rest)

abbrev pub decreases-loop-next : goal.decreases-loop-next
decreases-loop-next l = length l.rest
