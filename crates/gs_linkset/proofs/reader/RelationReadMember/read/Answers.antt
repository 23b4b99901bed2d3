use Rattle.std.proofs.Common.{sym}
use Rattle.serde_json.specs.View.{view}
use Rattle.gs_linkset.proofs.ReadLemmas.{anchor_left_out, by_member, no_member}
use Rattle.gs_linkset.proofs.reader.RelationReadMember.read.Goals as goal

pub returns-then-is_anchor-clause-answer : goal.returns-then-is_anchor-clause-answer
returns-then-is_anchor-clause-answer c =
    anchor_left_out c.args.object.now.place (view c.args.object.now.tree) c.args.name.now (rw c.as_bytes.ensures.value at c.if-is_anchor.ensures)

pub returns-in-None-clause-answer : goal.returns-in-None-clause-answer
returns-in-None-clause-answer c =
    no_member c.args.object.now.place (view c.args.object.now.tree) c.args.name.now
    (sym (rw c.as_bytes.ensures.value at c.if-is_anchor.ensures)) (rw c.in-None.is at c.in_ok-member.ensures.part)

pub returns-in-Some-clause-answer : goal.returns-in-Some-clause-answer
returns-in-Some-clause-answer c =
    let place = rw c.in-Some.is at c.in_ok-member.ensures.place in
    by_member c.args.object.now.place (view c.args.object.now.tree) c.args.name.now (view c.in-Some.member.tree) c.relation_at.result
    (sym (rw c.as_bytes.ensures.value at c.if-is_anchor.ensures))
    (rw c.in-Some.is at c.in_ok-member.ensures.part) (rw place at c.relation_at.ensures.answer)
