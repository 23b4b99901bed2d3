use Rattle.std.proofs.Common.{sym}
use Rattle.std.proofs.lemmas.Result.{err_from_is_err_and}
use Rattle.tdl_loads.proofs.ClassLoads.{built_in_loaded, none_loaded}
use Rattle.tdl_loads.proofs.named_files.load_unnamed.Goals as goal

pub returns-then-is_of_classes : goal.returns-then-is_of_classes
returns-then-is_of_classes c =
    built_in_loaded c.args.ais.now c.args.command c.builtin.result c.classes_of.result
    (sym c.if-is_of_classes.ensures) c.builtin.ensures.answer c.classes_of.ensures

pub returns-in_err-none : goal.returns-in_err-none
returns-in_err-none c =
    let p = err_from_is_err_and c.from_residual.result c.from_residual.ensures.1 in
    rw (p.1, p.2) (λ errored. tt)

pub returns : goal.returns
returns c = none_loaded c.args.ais.now c.args.command c.in_ok-none.field-0 (sym c.if-is_of_classes.ensures) c.in_ok-none.ensures.none
