use Rattle.std.proofs.Common.{◌∙◌, [], ap, arith}
use Rattle.std.proofs.lemmas.Grind.{common_steps}
use Rattle.gs_port.specs.Connections.{after_write}
use Rattle.gs_port.specs.declared.sink.WriteAnswer.TheVariants as write
use Rattle.gs_http.proofs.Readings.{sent_further}
use Rattle.gs_http.proofs.connection.send.Goals as goal

pub loop-done-preserved : goal.loop-done-preserved
loop-done-preserved g c = record {
  within = grind (arith, common_steps, c.in-Took.ensures.some);
  after = sent_further _ _ _ _ _ _ c.loop-done.invariant.after c.in-Took.ensures.after;
}

pub returns-in-Failed : goal.returns-in-Failed
returns-in-Failed g c = (c.loop-done.done, c.in-Failed.ensures.after ∙ ap (after_write write.Failed []) c.loop-done.invariant.after)

pub returns-in-Memory : goal.returns-in-Memory
returns-in-Memory g c = (c.loop-done.done, c.in-Memory.ensures.after ∙ c.loop-done.invariant.after)
