use Rattle.gs_http.proofs.SaidLemmas.{says_step}
use Rattle.gs_http.proofs.said.Said.of.Goals as goal

pub loop-field-preserved : goal.loop-field-preserved
loop-field-preserved c = says_step c.args.head.now c.loop-field.rest.now c.args.fields.now c.in-Some.others.now c.in-Some.field.now _ _ _ _ c.in-Some.ensures.cases.0 c.of.ensures c.of-in-Some.ensures c.loop-field.invariant c.add.ensures
