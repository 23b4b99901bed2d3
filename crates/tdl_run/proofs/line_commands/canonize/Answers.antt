use Rattle.tdl_run.proofs.line_commands.canonize.Goals as goal

pub translate_loaded-requires-clause-options : goal.translate_loaded-requires-clause-options
translate_loaded-requires-clause-options g c = record { filter = c.requires.options.filter; stem = c.requires.options.stem }

pub returns : goal.returns
returns g c = c.translate_loaded.ensures
