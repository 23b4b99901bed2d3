-- The load of a file of a kind, by how it was read and judged.
use Rattle.std.proofs.Common.{ℕ, ◌≤◌, List, Option, length, refl, sym, ap, inl, inr}
use Rattle.std.specs.Prelude.{Bool, Result, Ok, Err}
use Rattle.gs_port.specs.Files.{IsFile}
use Rattle.gs_translate.specs.Steps.{Then, goes_on, rejects}
use Rattle.tdl_messages.specs.declared.file_kind.FileKind.{FileKind}
use Rattle.tdl_messages.specs.declared.rejection.FileFault.{FileFault}
use Rattle.tdl_messages.specs.Rejections.{file_limit}
use Rattle.tdl_loads.specs.declared.loads.Unloaded.{Unloaded}
use Rattle.tdl_loads.specs.declared.loads.Unloaded.TheVariants as unloaded
use Rattle.tdl_loads.specs.Loads.{FileGives, StandsFor, Stop, judged, missing, of_verdict, rejected}
use Rattle.tdl_loads.specs.LoadsSupport.{LoadedBy}
use Rattle.tdl_loads.specs.Reads.{JudgedAs, JudgedBy}

-- a file that was judged
pub file_judged : {A : Type 0} (files : Option (List (List ℕ × List ℕ))) (kind : FileKind) (Judges : List ℕ → Result A FileFault → Type 0) (name bytes : List ℕ) (errored : Bool) (verdict : Result A FileFault) (result : Result A Unloaded)
    → IsFile files name bytes → length bytes ≤ file_limit kind → Judges bytes verdict → JudgedAs kind verdict result
    → LoadedBy (FileGives files kind Judges name) errored result
file_judged files kind Judges name bytes errored verdict (Ok a) is few j e = judged bytes verdict is few j (sym (ap (of_verdict kind) e))
file_judged files kind Judges name bytes errored verdict (Err unloaded.Memory) is few j e = tt
file_judged files kind Judges name bytes errored verdict (Err unloaded.ReadFault) is few j e = absurd e
file_judged files kind Judges name bytes errored verdict (Err (unloaded.Refused rejection)) is few j e = judged bytes verdict is few j (sym e)

-- a file that was judged by a relation of verdicts
pub file_judged_by : {A : Type 0} (files : Option (List (List ℕ × List ℕ))) (kind : FileKind) (Judges : List ℕ → Result A FileFault → Type 0) (name bytes : List ℕ) (errored : Bool) (result : Result A Unloaded)
    → IsFile files name bytes → length bytes ≤ file_limit kind → JudgedBy kind (Judges bytes) result
    → LoadedBy (FileGives files kind Judges name) errored result
file_judged_by files kind Judges name bytes errored (Ok a) is few j = judged bytes (Ok a) is few j refl
file_judged_by files kind Judges name bytes errored (Err unloaded.Memory) is few j = tt
file_judged_by files kind Judges name bytes errored (Err unloaded.ReadFault) is few j = absurd j
file_judged_by files kind Judges name bytes errored (Err (unloaded.Refused rejection)) is few j =
    judged bytes (Err rejection.error) is few j.1 (ap (λ (k : FileKind). Err (rejected (record { kind = k; error = rejection.error }))) j.0)

-- the default if no file is named
pub unnamed_judged : {A : Type 0} (kind : FileKind) (Unnamed : Result A FileFault → Type 0) (errored : Bool) (verdict : Result A FileFault) (result : Result A Unloaded)
    → Unnamed verdict → JudgedAs kind verdict result → LoadedBy (StandsFor kind Unnamed) errored result
unnamed_judged kind Unnamed errored verdict (Ok a) j e = record { verdict = verdict; judged = j; is = sym (ap (of_verdict kind) e) }
unnamed_judged kind Unnamed errored verdict (Err unloaded.Memory) j e = tt
unnamed_judged kind Unnamed errored verdict (Err unloaded.ReadFault) j e = absurd e
unnamed_judged kind Unnamed errored verdict (Err (unloaded.Refused rejection)) j e = record { verdict = verdict; judged = j; is = sym e }

-- ---- one file after another

-- a file that is not loaded ends the load
pub not_loaded : {A B : Type 0} (First : Result A Stop → Type 0) (Next : A → Result B Stop → Type 0) (errored : Bool) (u : Unloaded)
    → LoadedBy First errored (Err u) → LoadedBy (Then First Next) errored (Err u)
not_loaded First Next errored unloaded.Memory g = tt
not_loaded First Next errored unloaded.ReadFault (inl rises) = inl rises
not_loaded First Next errored unloaded.ReadFault (inr none) = inr (none.0, rejects (missing none.0) none.1 refl)
not_loaded First Next errored (unloaded.Refused rejection) g = rejects (rejected rejection) g refl

-- after a file that is loaded the load goes on
pub loads_on : {A B : Type 0} (First : Result A Stop → Type 0) (Next : A → Result B Stop → Type 0) (errored : Bool) (a : A) (result : Result B Unloaded)
    → First (Ok a) → LoadedBy (Next a) errored result → LoadedBy (Then First Next) errored result
loads_on First Next errored a (Ok b) f g = goes_on a f g
loads_on First Next errored a (Err unloaded.Memory) f g = tt
loads_on First Next errored a (Err unloaded.ReadFault) f (inl rises) = inl rises
loads_on First Next errored a (Err unloaded.ReadFault) f (inr none) = inr (none.0, goes_on a f none.1)
loads_on First Next errored a (Err (unloaded.Refused rejection)) f g = goes_on a f g
