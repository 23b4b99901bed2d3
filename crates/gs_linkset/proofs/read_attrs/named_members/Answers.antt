use Rattle.std.proofs.Common.{◌≤◌, ◌<◌, length, map, arith}
use Rattle.std.proofs.lemmas.List.{length-map}
use Rattle.std.proofs.lemmas.Result.{err_from_is_err_and}
use Rattle.serde_json.specs.View.{view}
use Rattle.gs_linkset.specs.Documents.{names_in}
use Rattle.gs_linkset.proofs.Ascents.{ascend_kept}
use Rattle.gs_linkset.proofs.Parts.{name_read}
use Rattle.gs_linkset.proofs.ReadLemmas.{kept_all, member_error, member_kept, members_read}
use Rattle.gs_linkset.proofs.read_attrs.named_members.Goals as goal

pub returns-in_err-read-clause-answer : goal.returns-in_err-read-clause-answer
returns-in_err-read-clause-answer g c =
    let p = err_from_is_err_and c.from_residual-in_err-read.result c.from_residual-in_err-read.ensures.1 in
    let low : c.loop-i.i < length c.args.names.now = omega (arith, c.loop-i-test.true) in
    rw (p.1, p.2) (member_error (g.M.ReadMember.errors c.args.object.now.place (view c.args.object.now.tree)) (g.M.ReadMember.made (view c.args.object.now.tree)) g.M.Shaped.shape (map (λ name. name.now) c.args.names.now) c.loop-i.all.items c.loop-i.i _ c.in_err-read.field-0.0 (names_in (view c.args.object.now.tree)) c.requires.names c.loop-i.invariant
    (name_read c.args.names.now c.loop-i.i _ low) c.in_err-read.ensures.answer)

pub loop-i-preserved : goal.loop-i-preserved
loop-i-preserved g c =
    let low : c.loop-i.i < length c.args.names.now = omega (arith, c.loop-i-test.true) in
    member_kept (g.M.ReadMember.errors c.args.object.now.place (view c.args.object.now.tree))
    (g.M.ReadMember.made (view c.args.object.now.tree)) g.M.Shaped.shape
    (map (λ name. name.now) c.args.names.now) c.loop-i.all.items c.loop-i.i _ c.in_ok-read.read c.push_some.new.items.items c.loop-i.invariant
    (name_read c.args.names.now c.loop-i.i _ low) c.in_ok-read.ensures.answer c.in_ok-read.ensures.shape c.in_ok-push_some.ensures

pub returns-clause-answer : goal.returns-clause-answer
returns-clause-answer g c =
    let few : length (map (λ name. name.now) c.args.names.now) ≤ c.loop-i.i = rw length-map (omega (arith, c.loop-i-test.false)) in
    rw c.from_vec.ensures (members_read (g.M.ReadMember.errors c.args.object.now.place (view c.args.object.now.tree)) (g.M.ReadMember.made (view c.args.object.now.tree)) g.M.Shaped.shape (map (λ name. name.now) c.args.names.now) c.loop-i.all.items c.loop-i.i (names_in (view c.args.object.now.tree)) c.requires.names c.loop-i.invariant few)

pub returns-clause-shape : goal.returns-clause-shape
returns-clause-shape g c = rw c.from_vec.ensures c.loop-i.invariant.shaped

pub returns-clause-ascending : goal.returns-clause-ascending
returns-clause-ascending g c =
    let few : length c.args.names.now ≤ c.loop-i.i = omega (arith, c.loop-i-test.false) in
    let made = g.M.ReadMember.made (view c.args.object.now.tree) in
    let all = kept_all made (λ name. name.now) c.args.names.now c.loop-i.i c.loop-i.all.items few c.loop-i.invariant.kept in
    rw (c.from_vec.ensures, all) (ascend_kept g.M.Named.name_of made (g.met.M.ReadMember.has_name (view c.args.object.now.tree)) (map (λ name. name.now) c.args.names.now) c.requires.ascending)
