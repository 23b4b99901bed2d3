use Rattle.std.proofs.lemmas.Result.{on_ok_weaker}
use Rattle.gs_linkset.proofs.TokenLemmas.{adds_three, array_tokens}
use Rattle.gs_linkset.proofs.writer.put_array.Goals as goal

pub returns : goal.returns
returns g c =
    on_ok_weaker c.put-2.result (λ last. adds_three c.in_ok-put.ensures c.in_ok-put_items.ensures last (array_tokens g.T.ToJson.tree c.args.things.now)) c.put-2.ensures
