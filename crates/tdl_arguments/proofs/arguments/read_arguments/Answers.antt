use Rattle.std.proofs.Common.{ℕ, List, map, string_bytes, sym}
use Rattle.tdl_arguments.specs.declared.command.Command.{Command}
use Rattle.tdl_arguments.specs.Requests.{known_request}
use Rattle.tdl_arguments.proofs.RequestLemmas.{asks_of, not_in_order, order_of}
use Rattle.tdl_arguments.proofs.WrongLemmas.{fewer_after, wrong_behind, wrong_of_command}
use Rattle.tdl_arguments.proofs.arguments.read_arguments.Goals as goal

pub returns-in_default-clause-none : goal.returns-in_default-clause-none
returns-in_default-clause-none c = not_in_order (map string_bytes c.args.words.now) (sym c.in_default.ensures)

pub returns-in_default-clause-wrong : goal.returns-in_default-clause-wrong
returns-in_default-clause-wrong c =
    wrong_of_command (map string_bytes c.args.words.now) c.wrong_command.result (sym c.in_default.ensures) c.wrong_command.ensures

pub overflow_sub-words : goal.overflow_sub-words
overflow_sub-words c = fewer_after string_bytes c.args.words.now c.in-Some.split.behind.now c.in-Some.split.command (sym c.in-Some.ensures)

pub returns-in-Some-request_of-clause-request : goal.returns-in-Some-request_of-clause-request
returns-in-Some-request_of-clause-request c =
    let parts : Command × List (List ℕ) = (c.in-Some.split.command, map string_bytes c.in-Some.split.behind.now) in
    order_of (map string_bytes c.args.words.now) parts (known_request c.in-Some-request_of.request) (sym c.in-Some.ensures) c.in-Some-request_of.ensures.request

pub returns-in-None-clause-none : goal.returns-in-None-clause-none
returns-in-None-clause-none c = λ asked o.
    let parts : Command × List (List ℕ) = (c.in-Some.split.command, map string_bytes c.in-Some.split.behind.now) in
    c.in-None.ensures.none asked (asks_of (map string_bytes c.args.words.now) parts asked (sym c.in-Some.ensures) o)

pub returns-in-None-clause-wrong : goal.returns-in-None-clause-wrong
returns-in-None-clause-wrong c =
    wrong_behind string_bytes c.args.words.now c.in-Some.split.behind.now c.in-Some.split.command c.names.result.now c.wrong_options.result
    (sym c.in-Some.ensures) c.names.ensures c.wrong_options.ensures
