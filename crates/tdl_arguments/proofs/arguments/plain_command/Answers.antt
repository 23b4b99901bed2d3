use Rattle.std.proofs.Common.{◌∙◌, string_bytes, map, rules, tests}
use Rattle.std.proofs.lemmas.Iterator.{YieldsList-from_slice}
use Rattle.std.proofs.lemmas.Iterator.Search.{find_from_yields_List}
use Rattle.tdl_arguments.specs.declared.command.Command.{Command}
use Rattle.tdl_arguments.specs.CommandReads.{plain_commands, stands_before}
use Rattle.tdl_arguments.specs.Commands.{command_name}
use Rattle.tdl_arguments.proofs.arguments.plain_command.Goals as goal

pub returns : goal.returns
returns c =
    c.copied.ensures ∙ find_from_yields_List (λ (command : Command). stands_before (command_name command) (map string_bytes c.args.words.now)) _ _ c.find.result c.find.ensures.ran (YieldsList-from_slice plain_commands cc) (λ x b q k. search (rules, tests))
