use Rattle.tdl_answers.proofs.DumpLineLemmas.{some_dump_written}
use Rattle.tdl_run.proofs.line_commands.write_dumps.Goals as goal

pub answer_input-requires : goal.answer_input-requires
answer_input-requires g c = some_dump_written c.args.loaded.now.tables c.requires
