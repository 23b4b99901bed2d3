-- The effect of generating lines.
use Rattle.std.proofs.Common.{ℕ, List, refl}
use Rattle.gs_port.specs.States.{ConnState, SinkState, SourceState}
use Rattle.tdl_gen.specs.Counters.{PrintsGenerated}
use Rattle.tdl_lines.specs.declared.status.Status.{Status}
use Rattle.tdl_arguments.specs.declared.command.Command.TheVariants.{Gen}
use Rattle.tdl_arguments.specs.Requests.{Values}
use Rattle.tdl_loads.specs.declared.loads.Loaded.{Loaded}
use Rattle.tdl_run.specs.RanSupport.{CommandLeft, ends_of}
use Rattle.tdl_run.specs.Works.{outcome_of}
use Rattle.tdl_run.proofs.RanLemmas.{ran_of_line}

-- the input is unchanged
pub gen_ran : (loaded : Loaded) (values : Values) (lines : ℕ) (input : SourceState) (output output' : SinkState) (door : ConnState) (out : List ℕ) (s : Status)
    → PrintsGenerated loaded.tables lines out s
    → CommandLeft (Gen lines) values loaded (ends_of input output door) (ends_of input output' door) (outcome_of out s)
gen_ran loaded values lines input output output' door out s printed =
    ran_of_line _ _ _ _ input printed.0 out s (record { is_output = printed.1; none_finished = refl; done = refl }) printed.2 refl
