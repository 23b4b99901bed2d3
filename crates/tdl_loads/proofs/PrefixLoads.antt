-- The load of a list of company prefix lengths, by how its file was read.
use Rattle.std.proofs.Common.{◌≡◌, ℕ, ◌≤◌, List, Option, Some, length, refl, sym, ◌∙◌, ap, inl, inr}
use Rattle.std.specs.Prelude.{Bool, Result, Ok, Err}
use Rattle.gs_port.specs.Files.{IsFile}
use Rattle.gs_prefix.specs.Answers.{load_answer}
use Rattle.gs_prefix.specs.declared.entry.PrefixEntry.{PrefixEntry}
use Rattle.gs_prefix.specs.declared.error.PrefixFault.{PrefixFault}
use Rattle.gs_prefix.specs.declared.error.PrefixFault.TheVariants as prefix
use Rattle.tdl_messages.specs.declared.file_kind.FileKind.TheVariants as kind
use Rattle.tdl_messages.specs.Rejections.{file_limit}
use Rattle.tdl_loads.specs.declared.loads.Unloaded.{Unloaded}
use Rattle.tdl_loads.specs.declared.loads.Unloaded.TheVariants as unloaded
use Rattle.tdl_loads.specs.Loads.{PrefixesGive, Stop, judged, of_verdict, rejected}
use Rattle.tdl_loads.specs.LoadsSupport.{LoadedBy}
use Rattle.tdl_loads.specs.Reads.{PrefixesUnloadedAs}
use Rattle.gs_chars.specs.Answers.{OrError}
use Rattle.tdl_messages.specs.declared.rejection.FileFault.TheVariants.{Prefixes}
use Rattle.gs_translate.specs.Steps.{reworded}

-- a list that was judged is loaded, or rejected, or memory ran out
known_prefixes : (Give : Result (List PrefixEntry) Stop → Type 0) (errored : Bool) (answer judgement : Result (List PrefixEntry) PrefixFault) (result : Result (List PrefixEntry) Unloaded)
    → OrError prefix.Memory answer judgement → PrefixesUnloadedAs answer result → Give (of_verdict kind.Prefixes (reworded Prefixes judgement))
    → LoadedBy Give errored result
known_prefixes Give errored answer judgement (Ok list) (inl none) u give = absurd (let f : Ok list ≡ Err prefix.Memory = sym u ∙ none in cc)
known_prefixes Give errored answer judgement (Ok list) (inr same) u give =
    let is : judgement ≡ Ok list = sym same ∙ u in
    let g : Give (of_verdict kind.Prefixes (reworded Prefixes (Ok list))) = rw is at give in g
known_prefixes Give errored answer judgement (Err unloaded.Memory) o u give = tt
known_prefixes Give errored answer judgement (Err unloaded.ReadFault) o u give = absurd u
known_prefixes Give errored answer judgement (Err (unloaded.Refused rejection)) (inl none) u give = absurd (u.0 none)
known_prefixes Give errored answer judgement (Err (unloaded.Refused rejection)) (inr same) u give =
    let is : of_verdict kind.Prefixes (reworded Prefixes judgement) ≡ Err (rejected rejection) = ap (λ a. of_verdict kind.Prefixes (reworded Prefixes a)) (sym same) ∙ u.1 in
    rw is at give

pub file_loaded : (files : Option (List (List ℕ × List ℕ))) (name bytes : List ℕ) (errored : Bool) (answer : Result (List PrefixEntry) PrefixFault) (result : Result (List PrefixEntry) Unloaded)
    → IsFile files name bytes → length bytes ≤ file_limit kind.Prefixes → OrError prefix.Memory answer (load_answer bytes)
    → PrefixesUnloadedAs answer result → LoadedBy (PrefixesGive files (Some name)) errored result
file_loaded files name bytes errored answer result is few load u =
    known_prefixes (PrefixesGive files (Some name)) errored answer (load_answer bytes) result load u
    (judged bytes (reworded Prefixes (load_answer bytes)) is few refl refl)
