-- The results of the files one at a time, and part by part.
use Rattle.std.proofs.Common.{◌≡◌, ℕ, List, Option, refl, ap, ◌∙◌, inl, inr}
use Rattle.std.specs.Prelude.{Bool, Result, Ok, Err}
use Rattle.gs_links.specs.declared.link.Link.{Link}
use Rattle.gs_linkset.specs.declared.link_types.Context.{Context}
use Rattle.gs_port.specs.States.{FilesState}
use Rattle.gs_translate.specs.Steps.{Then, goes_on, rejects}
use Rattle.tdl_messages.specs.declared.file_kind.FileKind.{FileKind}
use Rattle.tdl_arguments.specs.Requests.{Asked}
use Rattle.tdl_loads.specs.declared.loads.Linked.{Linked}
use Rattle.tdl_loads.specs.declared.loads.Loaded.{Loaded}
use Rattle.tdl_loads.specs.declared.loads.Unloaded.{Unloaded}
use Rattle.tdl_loads.specs.declared.loads.Unloaded.TheVariants as unloaded
use Rattle.tdl_loads.specs.Loads.{FilesGive, Stop, missing, rejected}
use Rattle.tdl_loads.specs.LoadsSupport.{LoadedBy, Loads, PartsGive, linked_with}
use Rattle.gs_port.specs.Files.{FilesHeld}

-- ---- steps in a row

module _ {A B E : Type 0} where
  next_map : (First : Result A E → Type 0) (Next Other : A → Result B E → Type 0)
      → ((a : A) (answer : Result B E) → Next a answer → Other a answer) → (answer : Result B E) → Then First Next answer
      → Then First Other answer
  next_map First Next Other f answer (rejects error g e) = rejects error g e
  next_map First Next Other f answer (goes_on a g n) = goes_on a g (f a answer n)

  -- a first step that gives one thing
  skip_first : (First : Result A E → Type 0) (Next : A → Result B E → Type 0) (a : A) → ((given : Result A E) → First given → given ≡ Ok a)
      → (answer : Result B E) → Then First Next answer → Next a answer
  skip_first First Next a one answer (rejects error g e) = absurd (let f : Err error ≡ Ok a = one (Err error) g in cc)
  skip_first First Next a one answer (goes_on b g n) =
      let f : Ok b ≡ Ok a = one (Ok b) g in
      let same : a ≡ b = cc in
      rw same n

module _ {A B C E : Type 0} (First : Result A E → Type 0) (Second : A → Result B E → Type 0) (Third : B → Result C E → Type 0) where
  then_row : (answer : Result C E) → Then (Then First Second) Third answer → Then First (λ a. Then (Second a) Third) answer
  then_row answer (rejects error (rejects error' g e) f) =
      let given : Result B E = Err error in
      let h : given ≡ Err error' = e in
      let same : error ≡ error' = cc in
      rejects error' g (f ∙ ap Err same)
  then_row answer (rejects error (goes_on a g n) f) = goes_on a g (rejects error n f)
  then_row answer (goes_on b (rejects error g e) n) = absurd (let given : Result B E = Ok b in let h : given ≡ Err error = e in cc)
  then_row answer (goes_on b (goes_on a g m) n) = goes_on a g (goes_on b m n)

  row_then : (answer : Result C E) → Then First (λ a. Then (Second a) Third) answer → Then (Then First Second) Third answer
  row_then answer (rejects error g e) = rejects error (rejects error g refl) e
  row_then answer (goes_on a g (rejects error m e)) = rejects error (goes_on a g m) e
  row_then answer (goes_on a g (goes_on b m n)) = goes_on b (goes_on a g m) n

-- links with the document that they were merged to
module _ (links : List Link) (Next : Linked → Result Loaded Stop → Type 0) where
  abbrev with_links : List Context → Linked
  with_links contexts = record { links = links; merged = contexts }

  merged_flat : (verdict : Result (List Context) Stop) (answer : Result Loaded Stop)
      → Then (λ linked. linked ≡ linked_with links verdict) Next answer
      → Then (λ merged. merged ≡ verdict) (λ contexts. Next (with_links contexts)) answer
  merged_flat (Ok contexts) answer t = goes_on contexts refl (skip_first (λ linked. linked ≡ Ok (with_links contexts)) Next (with_links contexts) (λ given e. e) answer t)
  merged_flat (Err stop) answer (rejects stop' g e) =
      let given : Result Linked Stop = Err stop' in
      let f : given ≡ Err stop = g in
      let same : stop' ≡ stop = cc in
      rejects stop' (ap Err same) e
  merged_flat (Err stop) answer (goes_on linked g n) = absurd (let given : Result Linked Stop = Ok linked in let f : given ≡ Err stop = g in cc)

  flat_merged : (verdict : Result (List Context) Stop) (answer : Result Loaded Stop)
      → Then (λ merged. merged ≡ verdict) (λ contexts. Next (with_links contexts)) answer
      → Then (λ linked. linked ≡ linked_with links verdict) Next answer
  flat_merged (Ok contexts) answer t =
      goes_on (with_links contexts) refl (skip_first (λ merged. merged ≡ Ok contexts) (λ c. Next (with_links c)) contexts (λ given e. e) answer t)
  flat_merged (Err stop) answer (rejects stop' g e) =
      let given : Result (List Context) Stop = Err stop' in
      let f : given ≡ Err stop = g in
      let same : stop' ≡ stop = cc in
      rejects stop' (ap Err same) e
  flat_merged (Err stop) answer (goes_on contexts g n) = absurd (let given : Result (List Context) Stop = Ok contexts in let f : given ≡ Err stop = g in cc)

-- ---- the results of the files

pub parts_flat : (files : Option FilesHeld) (asked : Asked) (answer : Result Loaded Stop) → PartsGive files asked answer → FilesGive files asked answer
parts_flat files asked answer x =
    next_map _ _ _ (λ given answer t.
    next_map _ _ _ (λ prefixes answer t.
    next_map _ _ _ (λ links answer t.
    next_map _ _ _ (λ second answer t.
    next_map _ _ _ (λ third answer t.
    next_map _ _ _ (λ merged answer t. next_map _ _ _ (λ describe answer t. skip_first _ _ _ (λ given e. e) answer t) answer (then_row _ _ _ answer t))
    answer (merged_flat links _ _ answer t))
    answer (then_row _ _ _ answer t))
    answer (then_row _ _ _ answer t))
    answer (then_row _ _ _ answer (skip_first _ _ _ (λ given e. e) answer t)))
    answer (then_row _ _ _ answer t))
    answer (then_row _ _ _ answer x)

pub flat_parts : (files : Option FilesHeld) (asked : Asked) (answer : Result Loaded Stop) → FilesGive files asked answer → PartsGive files asked answer
flat_parts files asked answer x =
    row_then _ _ _ answer
    (next_map _ _ _ (λ given answer t.
    row_then _ _ _ answer
    (next_map _ _ _ (λ prefixes answer t.
    goes_on (record { tables = given.tables; source = given.source; prefixes = prefixes }) refl
    (row_then _ _ _ answer
    (next_map _ _ _ (λ links answer t.
    row_then _ _ _ answer
    (next_map _ _ _ (λ second answer t.
    row_then _ _ _ answer
    (next_map _ _ _ (λ third answer t.
    flat_merged links _ _ answer
    (next_map _ _ _ (λ merged answer t.
    row_then _ _ _ answer
    (next_map _ _ _ (λ describe answer t. goes_on (record { voc = asked.values.voc; describe = describe; templates = asked.values.templates }) refl t) answer t))
    answer t))
    answer t))
    answer t))
    answer t)))
    answer t))
    answer x)

-- ---- loads by one and by the other

loaded_flat : (files : Option FilesHeld) (asked : Asked) (errored : Bool) (answer : Result Loaded Unloaded)
    → LoadedBy (PartsGive files asked) errored answer → LoadedBy (FilesGive files asked) errored answer
loaded_flat files asked errored (Ok loaded) g = parts_flat files asked (Ok loaded) g
loaded_flat files asked errored (Err (unloaded.Refused rejection)) g = parts_flat files asked (Err (rejected rejection)) g
loaded_flat files asked errored (Err unloaded.ReadFault) (inl rises) = inl rises
loaded_flat files asked errored (Err unloaded.ReadFault) (inr none) = inr (none.0, parts_flat files asked (Err (missing none.0)) none.1)
loaded_flat files asked errored (Err unloaded.Memory) g = tt

pub loads_flat : {up_to : FileKind → List (List ℕ)} {names : List (List ℕ)} {As : Type 0} {before now : FilesState} (asked : Asked) (answer : Result Loaded Unloaded)
    → Loads (λ known. PartsGive known asked) up_to names As before now answer
    → Loads (λ known. FilesGive known asked) up_to names As before now answer
loads_flat {before = before} {now = now} asked answer l = record {
  errored = l.errored;
  rest = l.rest;
  faulted = l.faulted;
  loaded = loaded_flat before.files asked l.errored answer l.loaded;
  opened = l.opened;
  all_opened = l.all_opened;
  to_rejected = l.to_rejected;
  decided = λ known stop is gives. l.decided known stop is (flat_parts before.files asked (Err stop) gives);
  unopened = l.unopened;
}
