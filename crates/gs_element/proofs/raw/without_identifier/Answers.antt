use Rattle.std.proofs.Common.{◌≡◌, ◌∙◌, ℕ, ◌-◌, List, length, take, drop, arith, length-drop}
use Rattle.std.proofs.lemmas.Grind.{common_steps}
use Rattle.std.proofs.lemmas.List.{take_all}
use Rattle.gs_element.specs.Raw.{body_of}
use Rattle.gs_element.proofs.raw.without_identifier.Goals as goal

behind_three : (text : List ℕ) → take (length text - 3) (drop 3 text) ≡ drop 3 text
behind_three text = take_all (length text - 3) (drop 3 text) (omega (arith, length-drop 3 text))

pub returns-then-starts_with-4 : goal.returns-then-starts_with-4
unfolding body_of
returns-then-starts_with-4 c = behind_three c.args.text.now ∙ grind (arith, common_steps)
