-- What a run takes from the load of its files.
use Rattle.std.proofs.Common.{◌≡◌, ◌⊎◌, ℕ, ◌≤◌, ap, inl, inr, ◌∙◌, arith}
use Rattle.std.proofs.lemmas.Grind.{common_steps}
use Rattle.std.specs.Prelude.{Bool, true, false, Result, Err}
use Rattle.gs_port.specs.Counts.{Rises, count_if}
use Rattle.gs_port.specs.States.{FilesState}
use Rattle.tdl_messages.specs.declared.file_kind.FileKind.{FileKind}
use Rattle.tdl_arguments.specs.Requests.{Asked, names_in_order}
use Rattle.tdl_loads.specs.declared.loads.Loaded.{Loaded}
use Rattle.tdl_loads.specs.declared.loads.Unloaded.{Unloaded}
use Rattle.tdl_loads.specs.declared.loads.Unloaded.TheVariants as unloaded
use Rattle.tdl_loads.specs.Loads.{FilesGive, OpensUpTo, Stop, missing, named_up_to}
use Rattle.tdl_loads.specs.LoadsSupport.{LoadedBy, Loads, after_load}

-- ---- the names that were opened

pub opens_up_to : {As : Type 0} {before now : FilesState} (asked : Asked) (answer : Result Loaded Unloaded)
    → Loads (λ known. FilesGive known asked) (λ k. named_up_to k asked.files) (names_in_order asked.files) As before now answer
    → OpensUpTo before.files asked before.opened now.opened
opens_up_to asked answer l = record { first = l.opened; decided = l.decided }

-- ---- the count of errors of the files

never_fewer : (errored : Bool) (count : ℕ) → count ≤ count_if errored count
never_fewer true count = grind (arith, common_steps)
never_fewer false count = omega arith

pub no_fewer : (errored : Bool) (before now : FilesState) → now ≡ after_load errored now before → before.errors ≤ now.errors
no_fewer errored before now rest = rw (ap (λ (files : FilesState). files.errors) rest) (never_fewer errored before.errors)

-- a read fault has a cause
pub fault_cause : (Give : Result Loaded Stop → Type 0) (errored : Bool) (before now : FilesState) → now ≡ after_load errored now before
    → LoadedBy Give errored (Err unloaded.ReadFault) → Rises before.errors now.errors ⊎ ((kind : FileKind) × Give (Err (missing kind)))
fault_cause Give errored before now rest (inl e) =
    let counts : now.errors ≡ count_if errored before.errors = ap (λ (files : FilesState). files.errors) rest in
    inl (rw (counts ∙ ap (λ errored. count_if errored before.errors) e) (omega arith))
fault_cause Give errored before now rest (inr none) = inr none
