use Rattle.gs_template.specs.Errors.{place_errors}
use Rattle.std.proofs.Common.{refl}
use Rattle.tdl_loads.proofs.LinkLoads.{link_misplaced, link_placed}
use Rattle.tdl_loads.proofs.linked.judge_link.Goals as goal

pub returns-in-Ok : goal.returns-in-Ok
returns-in-Ok c =
    let link = c.args.link.now in
    link_placed c.args.ais.now c.args.i link (place_errors c.args.ais.now link.anchor.key.code link.target.href) refl
    (rw (c.code-key.ensures, c.key.ensures.key, c.as_bytes.ensures) at c.in-Ok.ensures)

pub returns-in-Err : goal.returns-in-Err
returns-in-Err c =
    let link = c.args.link.now in
    link_misplaced c.args.ais.now c.args.i link (place_errors c.args.ais.now link.anchor.key.code link.target.href) c.in-Err.error refl
    (rw (c.code-key.ensures, c.key.ensures.key, c.as_bytes.ensures) at c.in-Err.ensures)
