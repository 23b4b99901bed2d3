use Rattle.std.proofs.Common.{◌≤◌, ◌<◌, length, refl, arith}
use Rattle.std.proofs.lemmas.Result.{err_from_is_err_and}
use Rattle.gs_chars.proofs.TruthsAndLists.{read_at}
use Rattle.gs_linktext.proofs.ReadLemmas.{cut_none, cut_one, error_one, is_read, is_rejected, syntax_rejected}
use Rattle.gs_linktext.proofs.ShapedLemmas.{is_shape}
use Rattle.gs_linktext.proofs.reader.read.Goals as goal

pub returns-in_err-links-clause-rejected : goal.returns-in_err-links-clause-rejected
returns-in_err-links-clause-rejected c =
    let p = err_from_is_err_and c.from_residual.result c.from_residual.ensures.1 in
    rw (p.1, p.2) (syntax_rejected c.args.bytes.now c.in_err-links.field-0.0 c.in_err-links.ensures.err)

pub loop-i-init : goal.loop-i-init
loop-i-init c = (refl, cut_none c.as_slice-written.result.now c.new-contexts.result.items c.new-contexts.ensures.items)

pub returns-in_err-add_link-clause-rejected : goal.returns-in_err-add_link-clause-rejected
returns-in_err-add_link-clause-rejected c =
    let low : c.loop-i.i < length c.as_slice-written.result.now = omega (arith, c.loop-i-test.true) in
    let at = read_at c.as_slice-written.result.now c.loop-i.i c.index-written-i.result low c.index-written-i.is in
    let p = err_from_is_err_and c.from_residual-in_err-add_link.result c.from_residual-in_err-add_link.ensures.1 in
    rw (p.1, p.2) (is_rejected c.args.bytes.now c.as_slice-written.result.now c.loop-i.i c.index-written-i.result c.in_err-add_link.field-0.0 (rw (← c.as_slice-written.ensures.value) at c.in_ok-links.ensures.ok) at c.loop-i.invariant.0 c.in_err-add_link.ensures.rejected)

pub loop-i-preserved : goal.loop-i-preserved
loop-i-preserved c =
    let low : c.loop-i.i < length c.as_slice-written.result.now = omega (arith, c.loop-i-test.true) in
    let at = read_at c.as_slice-written.result.now c.loop-i.i c.index-written-i.result low c.index-written-i.is in
    (error_one c.as_slice-written.result.now c.loop-i.i c.index-written-i.result at c.loop-i.invariant.0 c.in_ok-add_link.ensures.error_free, cut_one c.as_slice-written.result.now c.loop-i.i c.index-written-i.result c.loop-i.contexts.items c.add_link.new.contexts.items at c.loop-i.invariant.1 c.in_ok-add_link.ensures.more)

pub of_contexts-requires : goal.of_contexts-requires
of_contexts-requires c =
    let all : length c.as_slice-written.result.now ≤ c.loop-i.i = omega (arith, c.loop-i-test.false) in
    rw c.from_vec.ensures (is_shape c.args.bytes.now c.loop-i.contexts.items (is_read c.args.bytes.now c.as_slice-written.result.now c.loop-i.i c.loop-i.contexts.items (rw (← c.as_slice-written.ensures.value) at c.in_ok-links.ensures.ok) all c.loop-i.invariant.0 c.loop-i.invariant.1))

pub returns-clause-read : goal.returns-clause-read
returns-clause-read c =
    let all : length c.as_slice-written.result.now ≤ c.loop-i.i = omega (arith, c.loop-i-test.false) in
    rw (c.of_contexts.ensures, c.from_vec.ensures) (is_read c.args.bytes.now c.as_slice-written.result.now c.loop-i.i c.loop-i.contexts.items (rw (← c.as_slice-written.ensures.value) at c.in_ok-links.ensures.ok) all c.loop-i.invariant.0 c.loop-i.invariant.1)
