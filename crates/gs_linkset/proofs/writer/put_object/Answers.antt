use Rattle.std.proofs.lemmas.Result.{on_ok_weaker}
use Rattle.gs_linkset.proofs.TokenLemmas.{adds_five, object_tokens}
use Rattle.gs_linkset.proofs.writer.put_object.Goals as goal

pub returns : goal.returns
returns g c =
    let parts = c.split_at.ensures in
    let all = object_tokens g.T.Member.key_of g.T.ToJson.tree c.args.name.now c.args.text.now c.args.things.now _ _ c.count_below.result c.requires.others c.count_below.ensures.count parts.front parts.back in
    on_ok_weaker c.put-2.result (λ last. adds_five c.in_ok-put.ensures c.in_ok-put_members.ensures c.in_ok-put_text.ensures c.in_ok-put_members-2.ensures last all) c.put-2.ensures
