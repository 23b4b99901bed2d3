use Rattle.std.proofs.Common.{arith, refl}
use Rattle.gs_chars.proofs.TruthsAndLists.{not_empty}
use Rattle.gs_ai.specs.declared.errors.ElementWhy.TheVariants.{Value}
use Rattle.gs_ident.specs.Identities.{IsInOrder}
use Rattle.gs_element.specs.Raw.{body_of, raw_error, IsRawElement}
use Rattle.gs_element.proofs.BodyLemmas.{body_shorter}
use Rattle.gs_element.proofs.JoinLemmas.{all_joined, first_error, joined_shorter, next_read, shorter}
use Rattle.gs_element.proofs.RawLemmas.{cut_greedy, cut_is, front_error, raw_known}
use Rattle.gs_element.proofs.raw.read_raw.Goals as goal

pub loop-rest-smaller : goal.loop-rest-smaller
loop-rest-smaller c =
    let rows = c.args.table.now in
    let kept = c.rows.ensures.kept in
    let known = raw_known rows kept in
    shorter (IsRawElement rows) (raw_error rows) known (record { code = c.in-Ok.cut.code.now; value = c.in-Ok.cut.value.now }) c.loop-rest.rest.now c.in-Ok.cut.rest.now (cut_is rows kept c.loop-rest.rest.now c.in-Ok.cut.code.now c.in-Ok.cut.value.now c.in-Ok.cut.rest.now c.in-Ok.ensures.cut)

pub loop-rest-preserved : goal.loop-rest-preserved
loop-rest-preserved c =
    let rows = c.args.table.now in
    let kept = c.rows.ensures.kept in
    let known = raw_known rows kept in
    let pushed = rw c.lent.ensures at c.in_ok-push_pair-in-Ok.ensures in
    let element = cut_is rows kept c.loop-rest.rest.now c.in-Ok.cut.code.now c.in-Ok.cut.value.now c.in-Ok.cut.rest.now c.in-Ok.ensures.cut in
    let greedy = cut_greedy rows kept c.loop-rest.rest.now c.in-Ok.cut.code.now c.in-Ok.cut.value.now c.in-Ok.cut.rest.now c.in-Ok.ensures.cut in
    let read = next_read (IsRawElement rows) (raw_error rows) known (body_of c.args.text.now) c.loop-rest.pairs.items (record { code = c.in-Ok.cut.code.now; value = c.in-Ok.cut.value.now }) c.loop-rest.rest.now c.in-Ok.cut.rest.now element greedy c.loop-rest.invariant.joined c.loop-rest.invariant.reaches in
    rw pushed (record { joined = read.joined; reaches = read.reaches })

pub overflow_sub-at : goal.overflow_sub-at
overflow_sub-at c =
    let rows = c.args.table.now in
    let known = raw_known rows c.rows.ensures.kept in
    let part = joined_shorter (IsRawElement rows) (raw_error rows) known c.loop-rest.pairs.items (body_of c.args.text.now) c.loop-rest.rest.now c.loop-rest.invariant.joined in
    let body = body_shorter c.args.text.now in
    omega arith

pub returns-in-Err-clause-rejected : goal.returns-in-Err-clause-rejected
returns-in-Err-clause-rejected c =
    let rows = c.args.table.now in
    let known = raw_known rows c.rows.ensures.kept in
    let some = not_empty c.loop-rest.rest.now c.loop-rest-test.ensures in
    let own = front_error rows c.loop-rest.rest.now c.in-Err.error some c.in-Err.ensures.error in
    rw c.error_at.ensures (first_error (IsRawElement rows) (raw_error rows) known c.args.text.now (body_of c.args.text.now) c.loop-rest.pairs.items c.loop-rest.rest.now (record { at = 0; why = Value c.in-Err.error }) _ (body_shorter c.args.text.now) own (omega arith) refl c.loop-rest.invariant.joined c.loop-rest.invariant.reaches)

pub returns-clause-in_order : goal.returns-clause-in_order
returns-clause-in_order c =
    let rows = c.args.table.now in
    all_joined (IsRawElement rows) (IsInOrder rows) (λ pair text after h. h.in_order) c.loop-rest.pairs.items
    (body_of c.args.text.now) c.loop-rest.rest.now c.loop-rest.invariant.joined
