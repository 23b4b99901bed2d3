use Rattle.std.proofs.Common.{sym, ◌∙◌}
use Rattle.gs_element.proofs.BracketLemmas.{bracket_next, escape_next, none_next, plain_next, some_behind}
use Rattle.gs_element.proofs.bracketed_text.next_character.Goals as goal

pub returns-in_default-clause-none : goal.returns-in_default-clause-none
returns-in_default-clause-none c = none_next c.args.text.now c.in_default.ensures.cases

pub returns-then-character-eq40-clause-none : goal.returns-then-character-eq40-clause-none
returns-then-character-eq40-clause-none c = bracket_next c.args.text.now c.in-Some.character.now c.in-Some.rest.now c.in-Some.ensures.cases.0 c.if-character-eq40.true

pub split_at-requires : goal.split_at-requires
split_at-requires c = some_behind c.in-Some.character.now c.in-Some.rest.now (sym c.is_escape.ensures ∙ c.if-is_escape.true)

pub returns-then-is_escape-clause-value : goal.returns-then-is_escape-clause-value
returns-then-is_escape-clause-value c = (escape_next c.args.text.now c.in-Some.character.now c.in-Some.rest.now c.split_at.result.1.now c.in-Some.ensures.cases.0 (sym c.is_escape.ensures ∙ c.if-is_escape.true) c.split_at.ensures.back).0

pub returns-then-is_escape-clause-text : goal.returns-then-is_escape-clause-text
returns-then-is_escape-clause-text c = (escape_next c.args.text.now c.in-Some.character.now c.in-Some.rest.now c.split_at.result.1.now c.in-Some.ensures.cases.0 (sym c.is_escape.ensures ∙ c.if-is_escape.true) c.split_at.ensures.back).1

pub returns-clause-value : goal.returns-clause-value
returns-clause-value c = (plain_next c.args.text.now c.in-Some.character.now c.in-Some.rest.now c.in-Some.ensures.cases.0 c.if-character-eq40.false (sym c.is_escape.ensures ∙ c.if-is_escape.false)).0

pub returns-clause-text : goal.returns-clause-text
returns-clause-text c = (plain_next c.args.text.now c.in-Some.character.now c.in-Some.rest.now c.in-Some.ensures.cases.0 c.if-character-eq40.false (sym c.is_escape.ensures ∙ c.if-is_escape.false)).1
