use Rattle.std.proofs.Common.{◌≤◌, length, sym, arith}
use Rattle.std.proofs.lemmas.Iterator.Adapters.{YieldsList-from_vec}
use Rattle.std.proofs.lemmas.Iterator.Consumers.{YieldsList-end, YieldsList-turn}
use Rattle.std.proofs.lemmas.Result.{err_from_is_err_and}
use Rattle.gs_chars.proofs.TruthsAndLists.{read_at}
use Rattle.gs_linkset.proofs.WrittenLemmas.{true_at}
use Rattle.gs_linkset.specs.LinkShapes.{is_context}
use Rattle.gs_links.proofs.LoadLemmas.{contexts_made, contexts_rejected, counted, loaded_more}
use Rattle.gs_links.proofs.ShapeLemmas.{more_shaped}
use Rattle.gs_links.proofs.loader.links_of.Goals as goal

pub push_context-requires-clause-shape : goal.push_context-requires-clause-shape
push_context-requires-clause-shape c =
    let made = c.into_iter-context-iterator.ensures.into_iter_gives in
    let whole = c.into_vec-context-items.result.ok in
    let t = YieldsList-turn (YieldsList-from_vec {s = c.into_iter-context-iterator.result} c.args.contexts (cc) (cc)) c.loop-context.yielded c.loop-context.context-iterator c.loop-context.yielded_by c.next.result c.next.new.self c.in-Some.context c.in-Some.is c.next.ensures.steps in
    true_at is_context c.args.contexts (length c.loop-context.yielded) c.in-Some.context c.requires.shape
    (read_at c.args.contexts (length c.loop-context.yielded) c.in-Some.context t.0 t.1)

pub returns-in_err-push_context-clause-answer : goal.returns-in_err-push_context-clause-answer
returns-in_err-push_context-clause-answer c =
    let made = c.into_iter-context-iterator.ensures.into_iter_gives in
    let whole = c.into_vec-context-items.result.ok in
    let t = YieldsList-turn (YieldsList-from_vec {s = c.into_iter-context-iterator.result} c.args.contexts (cc) (cc)) c.loop-context.yielded c.loop-context.context-iterator c.loop-context.yielded_by c.next.result c.next.new.self c.in-Some.context c.in-Some.is c.next.ensures.steps in
    let same = sym c.loop-context.invariant.0 in
    let at = read_at c.args.contexts c.loop-context.i c.in-Some.context (rw same at t.0) (rw same at t.1) in
    let p = err_from_is_err_and c.from_residual.result c.from_residual.ensures.1 in
    rw (p.1, p.2) (contexts_rejected c.args.table.now c.args.voc.now c.args.contexts c.loop-context.i c.loop-context.links.items c.in-Some.context c.in_err-push_context.field-0.0 c.loop-context.invariant.1 at c.in_err-push_context.ensures.answer)

pub loop-context-preserved : goal.loop-context-preserved
loop-context-preserved c =
    let made = c.into_iter-context-iterator.ensures.into_iter_gives in
    let whole = c.into_vec-context-items.result.ok in
    let t = YieldsList-turn (YieldsList-from_vec {s = c.into_iter-context-iterator.result} c.args.contexts (cc) (cc)) c.loop-context.yielded c.loop-context.context-iterator c.loop-context.yielded_by c.next.result c.next.new.self c.in-Some.context c.in-Some.is c.next.ensures.steps in
    let same = sym c.loop-context.invariant.0 in
    let at = read_at c.args.contexts c.loop-context.i c.in-Some.context (rw same at t.0) (rw same at t.1) in (
      counted c.loop-context.yielded c.in-Some.context c.loop-context.i c.loop-context.invariant.0,
      loaded_more c.args.table.now c.args.voc.now c.args.contexts c.loop-context.i c.loop-context.links.items c.push_context.new.links.items c.in-Some.context c.loop-context.invariant.1 at c.in_ok-push_context.ensures.answer c.in_ok-push_context.ensures.links,
      more_shaped c.loop-context.links.items _ c.push_context.new.links.items c.loop-context.invariant.2 c.in_ok-push_context.ensures.shape c.in_ok-push_context.ensures.links,
    )

pub returns-clause-answer : goal.returns-clause-answer
returns-clause-answer c =
    let made = c.into_iter-context-iterator.ensures.into_iter_gives in
    let whole = c.into_vec-context-items.result.ok in
    let t = YieldsList-end (YieldsList-from_vec {s = c.into_iter-context-iterator.result} c.args.contexts (cc) (cc)) c.loop-context.yielded c.loop-context.context-iterator c.loop-context.yielded_by c.next.result c.next.new.self c.in-None.is c.next.ensures.steps in
    let size = t.1 in
    let steps = c.loop-context.invariant.0 in
    let all : length c.args.contexts ≤ c.loop-context.i = omega (arith, size, steps) in
    rw c.from_vec.ensures (contexts_made c.args.table.now c.args.voc.now c.args.contexts c.loop-context.i c.loop-context.links.items c.loop-context.invariant.1 all)

pub returns-clause-shape : goal.returns-clause-shape
returns-clause-shape c = rw c.from_vec.ensures c.loop-context.invariant.2
