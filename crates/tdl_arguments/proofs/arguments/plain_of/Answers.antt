use Rattle.std.proofs.Common.{map, string_bytes, length}
use Rattle.std.proofs.lemmas.List.{length-map}
use Rattle.tdl_arguments.proofs.RequestLemmas.{plain_count}
use Rattle.tdl_arguments.proofs.arguments.plain_of.Goals as goal

pub slice_bounds-result-count : goal.slice_bounds-result-count
slice_bounds-result-count c =
    plain_count c.words.result.now (map string_bytes c.args.words.now)
    (length c.args.words.now) c.plain_command.result c.in_ok-command.command c.plain_command.ensures c.in_ok-command.was c.words.ensures
    (length-map c.args.words.now string_bytes)

pub slice_bounds-result-start : goal.slice_bounds-result-start
slice_bounds-result-start c =
    plain_count c.words.result.now (map string_bytes c.args.words.now)
    (length c.args.words.now) c.plain_command.result c.in_ok-command.command c.plain_command.ensures c.in_ok-command.was c.words.ensures
    (length-map c.args.words.now string_bytes)
