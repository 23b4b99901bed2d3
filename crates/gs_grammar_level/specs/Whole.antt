-- The facts that a level keeps in addition to its options.
use Rattle.std.specs.Prelude.{Bool, List}
use Rattle.gs_grammar.specs.Levels.{OptionForm, AreOfKind}
use Rattle.gs_ambig.specs.Machines.{AutoForm}
use Rattle.gs_grammar_level.specs.declared.fronts.Probe.{Probe}
use Rattle.gs_grammar_level.specs.declared.fronts.Group.{Group}
use Rattle.gs_grammar_level.specs.declared.fronts.Front.{Front}
use Rattle.gs_grammar_level.specs.Fronts.{AreFrontsOf}
use Rattle.gs_grammar_level.specs.declared.cuttings.Cutting.{Cutting}
use Rattle.gs_grammar_level.specs.Cuttings.{AreCuttingsOf}
use Rattle.gs_grammar_level.specs.OptionMachines.{AreMachinesOf}
use Rattle.gs_grammar_level.specs.Guides.{AreProbesOf, AreGroupsFrom}

-- holds if the options are of the level's kind, and the fronts, machines, cuttings, probes and groups are theirs
pub record IsLevel (bit_level : Bool) (options : List OptionForm) (fronts : List Front) (machines : List AutoForm) (cuttings : List Cutting) (probes : List Probe) (groups : List Group) : Type 0 where
  pub of_kind : AreOfKind bit_level options
  pub fronts_are : AreFrontsOf fronts options
  pub machines_are : AreMachinesOf machines options
  pub cuttings_are : AreCuttingsOf cuttings options
  pub probes_are : AreProbesOf probes options
  pub groups_are : AreGroupsFrom 0 groups options
