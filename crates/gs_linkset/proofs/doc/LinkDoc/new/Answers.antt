use Rattle.std.proofs.Common.{◌≡◌, None, not, position, sym}
use Rattle.gs_linkset.specs.LinkShapes.{is_context}
use Rattle.gs_linkset.proofs.Ascents.{all_shaped}
use Rattle.gs_linkset.proofs.doc.LinkDoc.new.Goals as goal

pub invariant_of-result : goal.invariant_of-result
invariant_of-result c =
    let h : None ≡ position (λ context. not (is_context context)) c.items.result.now = c.in-None.ensures in
    let none : position (λ context. not (is_context context)) c.items.result.now ≡ None = sym h in
    all_shaped c.args.contexts (rw c.items.ensures at none)
