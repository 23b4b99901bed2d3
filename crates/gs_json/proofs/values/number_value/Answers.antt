use Rattle.std.proofs.Common.{rules, sym, ◌∙◌}
use Rattle.gs_json.proofs.NumeralLemmas.{numeral_read}
use Rattle.gs_json.proofs.values.number_value.Goals as goal

pub returns-in-Ok-clause-ok : goal.returns-in-Ok-clause-ok
returns-in-Ok-clause-ok c = sym (numeral_read c.args.text.now c.requires) ∙ c.in-Ok.ensures.ok

pub returns-in-Err-2-clause-syntax : goal.returns-in-Err-2-clause-syntax
returns-in-Err-2-clause-syntax c _ = sym (numeral_read c.args.text.now c.requires) ∙ c.in-Err.ensures.err (search rules)
