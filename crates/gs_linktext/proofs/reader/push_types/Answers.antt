use Rattle.std.proofs.Common.{◌≤◌, ◌<◌, ◌++◌, append-nil, length, map, take}
use Rattle.std.proofs.lemmas.List.{take_all}
use Rattle.gs_linktext_grammar.proofs.PartLemmas.{length_borrowed}
use Rattle.gs_linktext.proofs.ReadLemmas.{cut_any}
use Rattle.gs_linktext.proofs.reader.push_types.Goals as goal

pub loop-name-init : goal.loop-name-init
loop-name-init c = λ links cut. rw (append-nil links) cut

pub loop-name-preserved : goal.loop-name-preserved
loop-name-preserved c = λ links cut.
    let low : c.loop-name.name-index < length c.args.types.now = c.loop-name-test.true in
    let now = c.in_ok-push_copy.ensures (links ++ map (λ type. (c.args.anchor.now, type, c.args.target.now)) (take c.loop-name.name-index (map (λ type. type.now) c.args.types.now))) (c.loop-name.invariant links cut) in
    cut_any links (λ type. (c.args.anchor.now, type, c.args.target.now)) c.args.types.now c.loop-name.name-index _ c.push_copy.new.contexts.items low now

pub returns : goal.returns
returns c = λ links cut.
    let few : length (map (λ type. type.now) c.args.types.now) ≤ c.loop-name.name-index = rw (length_borrowed c.args.types.now) c.loop-name-test.false in
    rw (take_all c.loop-name.name-index (map (λ type. type.now) c.args.types.now) few) at (c.loop-name.invariant links cut)
