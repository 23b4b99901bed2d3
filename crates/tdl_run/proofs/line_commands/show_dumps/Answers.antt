use Rattle.tdl_answers.proofs.DumpLineLemmas.{some_dump_read}
use Rattle.tdl_run.proofs.line_commands.show_dumps.Goals as goal

pub answer_input-requires : goal.answer_input-requires
answer_input-requires g c = some_dump_read c.args.loaded.now.tables c.requires
