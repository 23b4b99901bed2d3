use Rattle.gs_tables_document.specs.declared.document.LevelName.TheVariants.{Tag}
use Rattle.gs_membank.proofs.FilterLemmas.{filter_said, one_in_tags}
use Rattle.gs_membank.proofs.shown.read_shown.Goals as goal

pub returns-in-Ok-clause-filter : goal.returns-in-Ok-clause-filter
returns-in-Ok-clause-filter c = filter_said c.args.set.now Tag _ c.in-Ok.epc c.kinds.ensures.shaped one_in_tags c.in-Ok.ensures.answer
