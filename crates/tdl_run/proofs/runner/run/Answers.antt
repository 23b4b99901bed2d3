use Rattle.std.proofs.Common.{None, map, string_bytes, inl, inr, refl, arith}
use Rattle.tdl_lines.specs.Statuses.{is_status}
use Rattle.tdl_lines.specs.declared.status.Status.TheVariants.{Refused, Usage}
use Rattle.tdl_lines.proofs.StatusLemmas.{when_always}
use Rattle.tdl_arguments.specs.Requests.{known_request}
use Rattle.tdl_arguments.proofs.ValueLemmas.{options_fit, tables_fit, vocabulary_fits}
use Rattle.tdl_run.proofs.CompleteLemmas.{complete_of}
use Rattle.tdl_run.proofs.RunLemmas.{all_opened_of, ended_of, few_of, finished_of, in_world, listens_of, loads_of, moved_of, output_counts_of, read_error_of, rejected_of, served_of, to_end_of, unopened_of, unread_of, unserved_of, usage_begun, usage_cut, usage_defined, usage_finished, write_error_of, written_counts, written_error}
use Rattle.tdl_run.proofs.ServeLemmas.{none_finish}
use Rattle.tdl_run.proofs.runner.run.Goals as goal

pub run_request-requires-clause-vocabulary : goal.run_request-requires-clause-vocabulary
run_request-requires-clause-vocabulary g c = vocabulary_fits (map string_bytes c.args.words.now) (known_request c.in-Ok.request) c.in-Ok.ensures.request

pub run_request-requires-clause-tables : goal.run_request-requires-clause-tables
run_request-requires-clause-tables g c = tables_fit (map string_bytes c.args.words.now) (known_request c.in-Ok.request) c.in-Ok.ensures.request

pub run_request-requires-clause-options : goal.run_request-requires-clause-options
run_request-requires-clause-options g c = options_fit (map string_bytes c.args.words.now) (known_request c.in-Ok.request) c.in-Ok.ensures.request

pub returns-in-Ok-clause-defined : goal.returns-in-Ok-clause-defined
returns-in-Ok-clause-defined g c = let w = in_world c.in-Ok.ensures.request c.run_request.ensures in w.defined

pub returns-in-Ok-clause-moved : goal.returns-in-Ok-clause-moved
returns-in-Ok-clause-moved g c = moved_of c.in-Ok.ensures.request c.run_request.ensures

pub returns-in-Err-clause-moved : goal.returns-in-Err-clause-moved
returns-in-Err-clause-moved g c = λ lines. absurd (c.in-Err.ensures.none lines.asked lines.order)

pub returns-in-Ok-clause-begun : goal.returns-in-Ok-clause-begun
returns-in-Ok-clause-begun g c = let w = in_world c.in-Ok.ensures.request c.run_request.ensures in w.begun

pub returns-in-Ok-clause-finished : goal.returns-in-Ok-clause-finished
returns-in-Ok-clause-finished g c = finished_of c.in-Ok.ensures.request c.run_request.ensures

pub returns-in-Ok-clause-cut : goal.returns-in-Ok-clause-cut
returns-in-Ok-clause-cut g c = let w = in_world c.in-Ok.ensures.request c.run_request.ensures in w.cut

pub returns-in-Ok-clause-few : goal.returns-in-Ok-clause-few
returns-in-Ok-clause-few g c = few_of c.in-Ok.ensures.request c.run_request.ensures

pub returns-in-Ok-clause-read_to_end : goal.returns-in-Ok-clause-read_to_end
returns-in-Ok-clause-read_to_end g c = to_end_of c.in-Ok.ensures.request c.run_request.ensures

pub returns-in-Ok-clause-untouched : goal.returns-in-Ok-clause-untouched
returns-in-Ok-clause-untouched g c = loads_of c.in-Ok.ensures.request c.run_request.ensures

pub returns-in-Ok-clause-listens : goal.returns-in-Ok-clause-listens
returns-in-Ok-clause-listens g c = listens_of c.in-Ok.ensures.request c.run_request.ensures

pub returns-in-Ok-clause-served : goal.returns-in-Ok-clause-served
returns-in-Ok-clause-served g c = served_of c.in-Ok.ensures.request c.run_request.ensures

pub returns-in-Ok-clause-rejected : goal.returns-in-Ok-clause-rejected
returns-in-Ok-clause-rejected g c = rejected_of c.in-Ok.ensures.request c.run_request.ensures

pub returns-in-Ok-clause-read_error : goal.returns-in-Ok-clause-read_error
returns-in-Ok-clause-read_error g c = read_error_of c.in-Ok.ensures.request c.run_request.ensures

pub returns-in-Ok-clause-write_error : goal.returns-in-Ok-clause-write_error
returns-in-Ok-clause-write_error g c = write_error_of c.in-Ok.ensures.request c.run_request.ensures

pub returns-in-Ok-clause-output_counts : goal.returns-in-Ok-clause-output_counts
returns-in-Ok-clause-output_counts g c = output_counts_of c.in-Ok.ensures.request c.run_request.ensures

pub returns-in-Ok-clause-ended : goal.returns-in-Ok-clause-ended
returns-in-Ok-clause-ended g c = ended_of c.in-Ok.ensures.request c.run_request.ensures

pub returns-in-Ok-clause-unread : goal.returns-in-Ok-clause-unread
returns-in-Ok-clause-unread g c = unread_of c.in-Ok.ensures.request c.run_request.ensures

pub returns-in-Ok-clause-unserved : goal.returns-in-Ok-clause-unserved
returns-in-Ok-clause-unserved g c = unserved_of c.in-Ok.ensures.request c.run_request.ensures

pub returns-in-Ok-clause-unopened : goal.returns-in-Ok-clause-unopened
returns-in-Ok-clause-unopened g c = unopened_of c.in-Ok.ensures.request c.run_request.ensures

pub returns-in-Ok-clause-all_opened : goal.returns-in-Ok-clause-all_opened
returns-in-Ok-clause-all_opened g c = all_opened_of c.in-Ok.ensures.request c.run_request.ensures

pub returns-in-Ok-clause-complete : goal.returns-in-Ok-clause-complete
returns-in-Ok-clause-complete g c = complete_of c.in-Ok.ensures.request c.run_request.ensures

pub returns-in-Ok-clause-opened : goal.returns-in-Ok-clause-opened
returns-in-Ok-clause-opened g c = let r = c.run_request.ensures in inl (record { asked = known_request c.in-Ok.request; order = c.in-Ok.ensures.request; fact = r.opened })

pub returns-in-Ok-clause-not_in_order : goal.returns-in-Ok-clause-not_in_order
returns-in-Ok-clause-not_in_order g c = λ none. absurd (none (known_request c.in-Ok.request) c.in-Ok.ensures.request)

pub returns-in-Ok-clause-input_long : goal.returns-in-Ok-clause-input_long
returns-in-Ok-clause-input_long g c = let r = c.run_request.ensures in r.ran.2.2.long

pub returns-in-Ok-clause-input_counts : goal.returns-in-Ok-clause-input_counts
returns-in-Ok-clause-input_counts g c = let r = c.run_request.ensures in r.ran.2.2.input_counts

pub returns-in-Ok-clause-file_counts : goal.returns-in-Ok-clause-file_counts
returns-in-Ok-clause-file_counts g c = let r = c.run_request.ensures in r.ran.2.2.file_counts

pub returns-in-Ok-clause-door_counts : goal.returns-in-Ok-clause-door_counts
returns-in-Ok-clause-door_counts g c = let r = c.run_request.ensures in r.door_counts

pub returns-in-Ok-clause-known : goal.returns-in-Ok-clause-known
returns-in-Ok-clause-known g c = let r = c.run_request.ensures in r.known

pub returns-in-Ok-clause-unread_rejected : goal.returns-in-Ok-clause-unread_rejected
returns-in-Ok-clause-unread_rejected g c = let r = c.run_request.ensures in r.unread_rejected

pub returns-in-Ok-clause-unserved_rejected : goal.returns-in-Ok-clause-unserved_rejected
returns-in-Ok-clause-unserved_rejected g c = let r = c.run_request.ensures in r.unserved_rejected

pub returns-in-Ok-clause-closed : goal.returns-in-Ok-clause-closed
returns-in-Ok-clause-closed g c = let r = c.run_request.ensures in r.closed

pub returns-in-Ok-clause-waiting : goal.returns-in-Ok-clause-waiting
returns-in-Ok-clause-waiting g c = let r = c.run_request.ensures in r.waiting

pub returns-in-Err-clause-defined : goal.returns-in-Err-clause-defined
returns-in-Err-clause-defined g c =
    usage_defined c.in-Err.ensures.none _ (g.K.Sink.state c.args.output.now) (g.K.Sink.state c.print_line.new.output) (g.D.Conn.state c.args.door.now) c.print_line.result c.print_line.ensures

pub returns-in-Err-clause-begun : goal.returns-in-Err-clause-begun
returns-in-Err-clause-begun g c =
    usage_begun c.in-Err.ensures.none _ (g.K.Sink.state c.args.output.now) (g.K.Sink.state c.print_line.new.output) (g.D.Conn.state c.args.door.now) c.print_line.result c.print_line.ensures

pub returns-in-Err-clause-cut : goal.returns-in-Err-clause-cut
returns-in-Err-clause-cut g c =
    usage_cut c.in-Err.ensures.none _ (g.K.Sink.state c.args.output.now) (g.K.Sink.state c.print_line.new.output) (g.D.Conn.state c.args.door.now) c.print_line.result c.print_line.ensures

pub returns-in-Err-clause-finished : goal.returns-in-Err-clause-finished
returns-in-Err-clause-finished g c =
    usage_finished c.in-Err.ensures.none (record { files = _; input = None; door = _ }) (g.K.Sink.state c.args.output.now) (g.K.Sink.state c.print_line.new.output) (g.D.Conn.state c.args.door.now) c.print_line.result c.print_line.ensures

pub returns-in-Err-clause-write_error : goal.returns-in-Err-clause-write_error
returns-in-Err-clause-write_error g c =
    let w = c.print_line.ensures in written_error (g.K.Sink.state c.args.output.now) (g.K.Sink.state c.print_line.new.output) w.0 c.print_line.result w.1

pub returns-in-Err-clause-output_counts : goal.returns-in-Err-clause-output_counts
returns-in-Err-clause-output_counts g c =
    let w = c.print_line.ensures in written_counts (g.K.Sink.state c.args.output.now) (g.K.Sink.state c.print_line.new.output) w.0 c.print_line.result w.1

pub returns-in-Err-clause-complete : goal.returns-in-Err-clause-complete
returns-in-Err-clause-complete g c = λ loads fits none. absurd (c.in-Err.ensures.none loads.asked loads.order)

pub returns-in-Err-clause-served : goal.returns-in-Err-clause-served
returns-in-Err-clause-served g c = λ heads. absurd (c.in-Err.ensures.none heads.asked heads.order)

pub returns-in-Err-clause-listens : goal.returns-in-Err-clause-listens
returns-in-Err-clause-listens g c = λ door. absurd (c.in-Err.ensures.none door.asked door.order)

pub returns-in-Err-clause-opened : goal.returns-in-Err-clause-opened
returns-in-Err-clause-opened g c = inr (c.in-Err.ensures.none, refl)

pub returns-in-Err-clause-known : goal.returns-in-Err-clause-known
returns-in-Err-clause-known g c = refl

pub returns-in-Err-clause-unread : goal.returns-in-Err-clause-unread
returns-in-Err-clause-unread g c = λ none. refl

pub returns-in-Err-clause-unserved : goal.returns-in-Err-clause-unserved
returns-in-Err-clause-unserved g c = λ none. refl

pub returns-in-Err-clause-unopened : goal.returns-in-Err-clause-unopened
returns-in-Err-clause-unopened g c = λ none. refl

pub returns-in-Err-clause-usage : goal.returns-in-Err-clause-usage
returns-in-Err-clause-usage g c = when_always (is_status c.print_line.result Usage) c.in-Err.ensures.none

pub returns-in-Err-clause-unread_rejected : goal.returns-in-Err-clause-unread_rejected
returns-in-Err-clause-unread_rejected g c = when_always (is_status c.print_line.result Refused) refl

pub returns-in-Err-clause-unserved_rejected : goal.returns-in-Err-clause-unserved_rejected
returns-in-Err-clause-unserved_rejected g c = when_always (is_status c.print_line.result Refused) refl

pub returns-in-Err-clause-input_counts : goal.returns-in-Err-clause-input_counts
returns-in-Err-clause-input_counts g c = omega arith

pub returns-in-Err-clause-file_counts : goal.returns-in-Err-clause-file_counts
returns-in-Err-clause-file_counts g c = omega arith

pub returns-in-Err-clause-door_counts : goal.returns-in-Err-clause-door_counts
returns-in-Err-clause-door_counts g c = omega arith

pub returns-in-Err-clause-untouched : goal.returns-in-Err-clause-untouched
returns-in-Err-clause-untouched g c = inl (refl, refl)

pub returns-in-Err-clause-closed : goal.returns-in-Err-clause-closed
returns-in-Err-clause-closed g c = c.requires.none_open

pub returns-in-Err-clause-waiting : goal.returns-in-Err-clause-waiting
returns-in-Err-clause-waiting g c = none_finish _
