use Rattle.std.proofs.Common.{position, sym, ◌∙◌}
use Rattle.gs_tables_document.specs.declared.error.LoadFault.TheVariants.{Duplicate}
use Rattle.gs_tables.specs.Tables.{is_same}
use Rattle.gs_tables.proofs.OptionLemmas.{found_same, none_same}
use Rattle.gs_tables.proofs.option_rules.check_unlike.Goals as goal

pub returns-in-Some : goal.returns-in-Some
returns-in-Some c =
    found_same (position (λ other. is_same other c.args.row.now) c.args.earlier.now) (λ j. Duplicate c.args.level j c.args.i) c.in-Some.j
    (sym c.first_same.ensures ∙ c.in-Some.is)

pub returns-in-None : goal.returns-in-None
returns-in-None c =
    none_same (position (λ other. is_same other c.args.row.now) c.args.earlier.now) (λ j. Duplicate c.args.level j c.args.i)
    (sym c.first_same.ensures ∙ c.in-None.is)
