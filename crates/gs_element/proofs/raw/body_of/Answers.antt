use Rattle.std.proofs.Common.{sym, ◌∙◌}
use Rattle.gs_element.proofs.BodyLemmas.{digit_first}
use Rattle.gs_element.proofs.raw.body_of.Goals as goal

pub returns-then-is_ascii_digit : goal.returns-then-is_ascii_digit
returns-then-is_ascii_digit c = digit_first c.args.text.now c.in-Some.field-0-1.now c.in-Some.first.now c.in-Some.ensures.cases.0
    (sym c.is_ascii_digit.ensures.value ∙ c.if-is_ascii_digit.true)
