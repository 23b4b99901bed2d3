use Rattle.std.proofs.Common.{◌∙◌, sym}
use Rattle.gs_http.proofs.Scans.{bare_end, bare_here, bare_step}
use Rattle.gs_http.proofs.heads.has_bare_line_feed.Goals as goal

pub returns-then-is_bare_line_feed : goal.returns-then-is_bare_line_feed
returns-then-is_bare_line_feed c =
    sym (c.loop-c.invariant ∙ bare_here c.args.head.now c.loop-c.c-index c.loop-c.before c.loop-c-test.true (sym c.if-is_bare_line_feed.ensures))

pub loop-c-preserved : goal.loop-c-preserved
loop-c-preserved c =
    c.loop-c.invariant ∙ bare_step c.args.head.now c.loop-c.c-index c.loop-c.before c.loop-c-test.true (sym c.if-is_bare_line_feed.ensures)

pub returns : goal.returns
returns c = sym (c.loop-c.invariant ∙ bare_end c.args.head.now c.loop-c.c-index c.loop-c.before c.loop-c-test.false)
