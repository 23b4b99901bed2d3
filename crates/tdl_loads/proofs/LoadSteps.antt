-- The effect of a load on the files, by that of its steps.
use Rattle.std.proofs.Common.{ℕ, ◌+◌, ◌≤◌, List, Option, Some, None, [], ◌++◌, ◌∷◌, ◌≡◌, ◌⊎◌, suc, zero, take, length, refl, sym, ap, subst, ◌∙◌, inl, inr, append-nil, arith}
use Rattle.std.proofs.lemmas.Grind.{common_steps}
use Rattle.std.specs.Prelude.{Bool, true, false, Result, Ok, Err}
use Rattle.gs_port.specs.Answers.{after_file}
use Rattle.gs_port.specs.Counts.{count_if}
use Rattle.gs_port.specs.Files.{BeginsFile, IsAbsent, IsFile, counted_if_found, counted_if_there, file_of, FilesHeld}
use Rattle.gs_port.specs.States.{FilesState}
use Rattle.gs_port.specs.declared.files.FileFault.TheVariants as file
use Rattle.gs_translate.specs.Steps.{Then, goes_on, rejects}
use Rattle.tdl_messages.specs.declared.file_kind.FileKind.{FileKind}
use Rattle.tdl_messages.specs.declared.rejection.FileFault.{FileFault}
use Rattle.tdl_messages.specs.declared.rejection.FileFault.TheVariants.{Over}
use Rattle.tdl_messages.specs.declared.rejection.Rejection.{Rejection}
use Rattle.tdl_messages.specs.Rejections.{file_limit}
use Rattle.tdl_loads.specs.declared.loads.Unloaded.{Unloaded}
use Rattle.tdl_loads.specs.declared.loads.Unloaded.TheVariants as unloaded
use Rattle.tdl_loads.specs.Loads.{BytesGive, FileGives, Gives, OpensFirst, StandsFor, Stop, absent, judged, kind_of, missing, of_verdict, rejected, too_large}
use Rattle.tdl_loads.specs.LoadsSupport.{AreBytes, LoadedBy, Loads, LoadsOne, after_load}
use Rattle.tdl_loads.proofs.FileLoads.{loads_on, not_loaded}
use Rattle.tdl_loads.proofs.LoadLemmas.{AreAlikeAll, not_alike, same_given}
use Rattle.tdl_loads.proofs.OpenedNames.{added_both, adds_given, opens_all, opens_both, whatever_given}

-- ---- the bytes of a file that is named

-- the bytes of a named file, which are few enough
pub record NamedBytes (files : Option FilesHeld) (kind : FileKind) (name : Option (List ℕ)) (bytes : List ℕ) : Type 0 where
  pub file : List ℕ
  pub is_named : name ≡ Some file
  pub is_file : IsFile files file bytes
  pub few : length bytes ≤ file_limit kind

file_bytes : (files : Option FilesHeld) (kind : FileKind) (file bytes : List ℕ) → FileGives files kind AreBytes file (Ok (Some bytes))
    → NamedBytes files kind (Some file) bytes
file_bytes files kind file bytes (absent none e) = absurd (let f : Ok (Some bytes) ≡ Err (missing kind) = e in cc)
file_bytes files kind file bytes (too_large b is more e) = absurd (let f : Ok (Some bytes) ≡ Err (rejected (record { kind = kind; error = Over })) = e in cc)
file_bytes files kind file bytes (judged b verdict is few j e) =
    let f : Ok (Some bytes) ≡ Ok (Some b) = e ∙ ap (of_verdict kind) j in
    let same : b ≡ bytes = cc in
    record { file = file; is_named = refl; is_file = rw same at is; few = rw same at few }

pub bytes_named : (files : Option FilesHeld) (kind : FileKind) (name : Option (List ℕ)) (bytes : List ℕ)
    → BytesGive files kind name (Ok (Some bytes)) → NamedBytes files kind name bytes
bytes_named files kind None bytes gives = absurd (let f : Ok (Some bytes) ≡ Ok None = gives.is ∙ ap (of_verdict kind) gives.judged in cc)
bytes_named files kind (Some file) bytes gives = file_bytes files kind file bytes gives

file_some : (files : Option FilesHeld) (kind : FileKind) (file : List ℕ) → FileGives files kind AreBytes file (Ok None) → ⊥
file_some files kind file (absent none e) = let none : Result (Option (List ℕ)) Stop = Ok None in let f : none ≡ Err (missing kind) = e in cc
file_some files kind file (too_large b is more e) = let none : Result (Option (List ℕ)) Stop = Ok None in let f : none ≡ Err
    (rejected (record { kind = kind; error = Over })) = e in cc
file_some files kind file (judged b verdict is few j e) = let f : Ok None ≡ Ok (Some b) = e ∙ ap (of_verdict kind) j in cc

pub none_is_named : (files : Option FilesHeld) (kind : FileKind) (name : Option (List ℕ)) → BytesGive files kind name (Ok None) → name ≡ None
none_is_named files kind None gives = refl
none_is_named files kind (Some file) gives = absurd (file_some files kind file gives)

module _ {A : Type 0} (files : Option FilesHeld) (kind : FileKind) (Judges : List ℕ → Result A FileFault → Type 0)
    (Unnamed : Result A FileFault → Type 0) where
  file_stops : (file : List ℕ) (stop : Stop) → FileGives files kind AreBytes file (Err stop) → FileGives files kind Judges file (Err stop)
  file_stops file stop (absent none e) =
      let given : Result (Option (List ℕ)) Stop = Err stop in
      let f : given ≡ Err (missing kind) = e in
      let same : stop ≡ missing kind = cc in
      absent none (ap Err same)
  file_stops file stop (too_large b is more e) =
      let given : Result (Option (List ℕ)) Stop = Err stop in
      let f : given ≡ Err (rejected (record { kind = kind; error = Over })) = e in
      let same : stop ≡ rejected (record { kind = kind; error = Over }) = cc in
      too_large b is more (ap Err same)
  file_stops file stop (judged b verdict is few j e) = absurd (let given : Result (Option (List ℕ)) Stop = Err stop in let f : given ≡ Ok (Some b) = e ∙ ap (of_verdict kind) j in cc)

  bytes_stop : (name : Option (List ℕ)) (stop : Stop) → BytesGive files kind name (Err stop) → Gives files kind Judges Unnamed name (Err stop)
  bytes_stop None stop gives = absurd (let given : Result (Option (List ℕ)) Stop = Err stop in let f : given ≡ Ok None = gives.is ∙ ap (of_verdict kind) gives.judged in cc)
  bytes_stop (Some file) stop gives = file_stops file stop gives

  -- bytes that are not read are not loaded
  pub bytes_unloaded : (name : Option (List ℕ)) (errored : Bool) (u : Unloaded) → LoadedBy (BytesGive files kind name) errored (Err u)
      → LoadedBy (Gives files kind Judges Unnamed name) errored (Err u)
  bytes_unloaded name errored unloaded.Memory g = tt
  bytes_unloaded name errored unloaded.ReadFault (inl rises) = inl rises
  bytes_unloaded name errored unloaded.ReadFault (inr gives) = inr (gives.0, bytes_stop name (missing gives.0) gives.1)
  bytes_unloaded name errored (unloaded.Refused rejection) gives = bytes_stop name (rejected rejection) gives

-- ---- a load of one file, or of none

-- a read fault that is not one stays none
no_fault : {A B : Type 0} (a : A) (errored : Bool) (answer : Result B Unloaded) → (errored ≡ true → Ok a ≡ Err unloaded.ReadFault) → errored ≡ true → answer ≡ Err unloaded.ReadFault
no_fault {A = A} a errored answer only e = absurd (let given : Result A Unloaded = Ok a in let f : given ≡ Err unloaded.ReadFault = only e in cc)

error_free : {A : Type 0} (a : A) (errored : Bool) → (errored ≡ true → Ok a ≡ Err unloaded.ReadFault) → errored ≡ false
error_free a false only = refl
error_free {A = A} a true only = absurd (let given : Result A Unloaded = Ok a in let f : given ≡ Err unloaded.ReadFault = only refl in cc)

-- an answer without a value
abbrev failed : (A : Type 0) → Unloaded → Result A Unloaded
failed A u = Err u

-- an error is the same error of another load
same_error : {A B : Type 0} (u v : Unloaded) → failed A u ≡ failed A v → failed B u ≡ failed B v
same_error {A = A} {B = B} u v e = let f : u ≡ v = cc in ap (failed B) f

module _ {A : Type 0} (Give : Option FilesHeld → Result A Stop → Type 0) (names : List (List ℕ)) (As : Type 0) (before now : FilesState) where
  loads_by : (answer : Result A Unloaded) (errored : Bool) → now ≡ after_load errored now before
      → (errored ≡ true → answer ≡ Err unloaded.ReadFault) → LoadedBy (Give before.files) errored answer
      → now.opened ≡ before.opened ++ names → (names ≡ [] → As) → LoadsOne Give names As before now answer
  loads_by answer errored rest faulted loaded adds unopened = record {
    errored = errored;
    rest = rest;
    faulted = faulted;
    loaded = loaded;
    opened = opens_all names before.opened now.opened adds;
    all_opened = whatever_given answer _ adds;
    to_rejected = λ rejection is. adds;
    decided = λ known stop is gives. opens_all names before.opened now.opened adds;
    unopened = unopened;
  }

-- no file was named
pub loads_none : (kind : FileKind) (As : Type 0) (files : FilesState) → As → LoadsOne (λ known. BytesGive known kind None) [] As files files (Ok None)
loads_none kind As files unchanged =
    loads_by (λ known. BytesGive known kind None) [] As files files (Ok None) false refl (λ e. absurd cc) (record { verdict = Ok None; judged = refl; is = refl }) (sym (append-nil files.opened)) (λ none. unchanged)

-- the count of errors after a file could not be read
failed_by : (files : Option FilesHeld) (name : List ℕ) (count : ℕ) → (errored : Bool) × (counted_if_there files name count ≡ count_if errored count) × ((errored ≡ true) ⊎ IsAbsent files name)
failed_by None name count = (true, refl, inl refl)
failed_by (Some files) name count = by (file_of files name) refl
  where
    by : (found : Option (List ℕ)) → file_of files name ≡ found
        → (errored : Bool) × (counted_if_found (file_of files name) count ≡ count_if errored count) × ((errored ≡ true) ⊎ (file_of files name ≡ None))
    by None e = (false, ap (λ found. counted_if_found found count) e, inr e)
    by (Some bytes) e = (true, ap (λ found. counted_if_found found count) e, inl refl)

-- a file was named, and read or not
module _ (kind : FileKind) (name : List ℕ) (As : Type 0) (before now : FilesState) where
  abbrev OfFile : Result (Option (List ℕ)) Unloaded → Type 0
  OfFile answer = LoadsOne (λ known. BytesGive known kind (Some name)) (name ∷ []) As before now answer

  is_named : name ∷ [] ≡ [] → As
  is_named none = absurd (let e : name ∷ [] ≡ [] = none in cc)

  pub loads_read : (bytes : List ℕ) → IsFile before.files name bytes → length bytes ≤ file_limit kind
      → now.opened ≡ before.opened ++ name ∷ [] → now ≡ after_load false now before → OfFile (Ok (Some bytes))
  loads_read bytes is few adds rest =
      loads_by (λ known. BytesGive known kind (Some name)) (name ∷ []) As before now (Ok (Some bytes)) false rest (λ e. absurd cc)
      (judged bytes (Ok (Some bytes)) is few refl refl) adds is_named

  pub loads_over : (bytes : List ℕ) → BeginsFile before.files name bytes → length bytes ≡ file_limit kind + 1
      → now.opened ≡ before.opened ++ name ∷ [] → now ≡ after_load false now before
      → OfFile (Err (unloaded.Refused (record { kind = kind; error = Over })))
  loads_over bytes begins over adds rest =
      loads_by (λ known. BytesGive known kind (Some name)) (name ∷ []) As before now (Err (unloaded.Refused (record { kind = kind; error = Over }))) false rest (λ e. absurd cc)
      (too_large (bytes ++ begins.0) begins.1 (grind (arith, common_steps)) refl) adds is_named

  pub loads_short : now.opened ≡ before.opened ++ name ∷ [] → now ≡ after_load false now before → OfFile (Err unloaded.Memory)
  loads_short adds rest =
      loads_by (λ known. BytesGive known kind (Some name)) (name ∷ []) As before now (Err unloaded.Memory) false rest (λ e. absurd cc) tt adds is_named

  pub loads_failed : now.opened ≡ before.opened ++ name ∷ [] → now ≡ after_file (Err file.Failed) name now before
      → OfFile (Err unloaded.ReadFault)
  loads_failed adds rest =
      let f = failed_by before.files name before.errors in
      loads_by (λ known. BytesGive known kind (Some name)) (name ∷ []) As before now (Err unloaded.ReadFault) f.0
      (rest ∙ ap (λ count. record before { opened = now.opened; is_open = now.is_open; left = now.left; errors = count }) f.1) (λ e. refl) (cause f.0 f.2) adds is_named
    where
      cause : (errored : Bool) → (errored ≡ true) ⊎ IsAbsent before.files name
          → (errored ≡ true) ⊎ ((kind' : FileKind) × BytesGive before.files kind (Some name) (Err (missing kind')))
      cause errored (inl e) = inl e
      cause errored (inr none) = inr (kind, absent none refl)

-- ---- a load of one file, and a last step that reads none

module _ {A B : Type 0} {Give : Option FilesHeld → Result A Stop → Type 0} {names : List (List ℕ)} {As : Type 0} {before now : FilesState}
    (Made : Option FilesHeld → Result B Stop → Type 0) where
  pub loads_given : (a : A) (result : Result B Unloaded) → (l : LoadsOne Give names As before now (Ok a))
      → LoadedBy (Made before.files) l.errored result → LoadsOne Made names As before now result
  loads_given a result l g = record {
    errored = l.errored;
    rest = l.rest;
    faulted = no_fault a l.errored result l.faulted;
    loaded = g;
    opened = l.opened;
    all_opened = whatever_given result _ l.all_opened;
    to_rejected = λ rejection is. l.all_opened;
    decided = λ known stop is gives. l.opened;
    unopened = l.unopened;
  }

  pub loads_not : (u : Unloaded) → (l : LoadsOne Give names As before now (Err u)) → LoadedBy (Made before.files) l.errored (Err u)
      → LoadsOne Made names As before now (Err u)
  loads_not u l g = record {
    errored = l.errored;
    rest = l.rest;
    faulted = λ e. same_error u unloaded.ReadFault (l.faulted e);
    loaded = g;
    opened = l.opened;
    all_opened = tt;
    to_rejected = λ rejection is. l.to_rejected rejection (same_error u (unloaded.Refused rejection) is);
    decided = λ known stop is gives. l.opened;
    unopened = l.unopened;
  }

-- ---- one load after another

first_of_both : (one other : List (List ℕ)) (count : ℕ) → (more : ℕ) × (take more (one ++ other) ≡ take count one)
first_of_both [] other zero = (0, refl)
first_of_both [] other (suc count) = (0, refl)
first_of_both (x ∷ one) other zero = (0, refl)
first_of_both (x ∷ one) other (suc count) = let m = first_of_both one other count in (suc m.0, ap (λ xs. x ∷ xs) m.1)

opens_fewer : (one other before now : List (List ℕ)) → OpensFirst one before now → OpensFirst (one ++ other) before now
opens_fewer one other before now o =
    let m = first_of_both one other o.0 in
    (m.0, o.1 ∙ ap (λ names. before ++ names) (sym m.1))

no_name : (one other : List (List ℕ)) → one ++ other ≡ [] → (one ≡ []) × (other ≡ [])
no_name [] other e = (refl, e)
no_name (x ∷ one) other e = cc

-- the results of a load with two steps
abbrev pub Steps : {A B : Type 0} → (Option FilesHeld → Result A Stop → Type 0) → (Option FilesHeld → A → Result B Stop → Type 0)
    → Option FilesHeld → Result B Stop → Type 0
Steps First Next files answer = Then (First files) (Next files) answer

-- Two loads, one after another. The names up to the file of a kind are those of the first, or all of its names and then those of
-- the second, by which of them stops. The first has alike answers if the files are known.
pub record Row {A B : Type 0} (First : Option FilesHeld → Result A Stop → Type 0) (Next : Option FilesHeld → A → Result B Stop → Type 0) (one : List (List ℕ)) (up_one up_next up : FileKind → List (List ℕ)) : Type 0 where
  pub first : (files : Option FilesHeld) (stop : Stop) → First files (Err stop) → up (kind_of stop) ≡ up_one (kind_of stop)
  pub next : (files : Option FilesHeld) (a : A) (stop : Stop) → Next files a (Err stop) → up (kind_of stop) ≡ one ++ up_next (kind_of stop)
  pub alike : (known : FilesHeld) → AreAlikeAll (First (Some known))

module _ {A B : Type 0} {First : Option FilesHeld → Result A Stop → Type 0} {Next : Option FilesHeld → A → Result B Stop → Type 0}
    {one : List (List ℕ)} {up_one up_next up : FileKind → List (List ℕ)} (row : Row First Next one up_one up_next up) where
  -- the first gives nothing
  pub first_stops : {As : Type 0} {before now : FilesState} (other : List (List ℕ)) (u : Unloaded)
      → Loads First up_one one As before now (Err u) → Loads (Steps First Next) up (one ++ other) As before now (Err u)
  first_stops {before = before} {now = now} other u l = record {
    errored = l.errored;
    rest = l.rest;
    faulted = λ e. same_error u unloaded.ReadFault (l.faulted e);
    loaded = not_loaded (First before.files) (Next before.files) l.errored u l.loaded;
    opened = opens_fewer one other before.opened now.opened l.opened;
    all_opened = tt;
    to_rejected = to_rejected;
    decided = decided;
    unopened = λ none. l.unopened (no_name one other none).0;
  }
    where
      to_rejected : (rejection : Rejection) → failed B u ≡ failed B (unloaded.Refused rejection) → now.opened ≡ before.opened ++ up rejection.kind
      to_rejected rejection is =
          let same : u ≡ unloaded.Refused rejection = cc in
          let gives : First before.files (Err (rejected rejection)) = subst (λ (v : Unloaded). LoadedBy (First before.files) l.errored (Err v)) same l.loaded in
          l.to_rejected rejection (ap Err same) ∙ ap (λ names. before.opened ++ names) (sym (row.first before.files (rejected rejection) gives))

      decided : (known : FilesHeld) (stop : Stop) → before.files ≡ Some known → Then (First before.files) (Next before.files) (Err stop)
          → OpensFirst (up (kind_of stop)) before.opened now.opened
      decided known stop is (rejects stop' gives e) =
          let given : Result B Stop = Err stop in
          let f : given ≡ Err stop' = e in
          let same : stop ≡ stop' = cc in
          let g : First before.files (Err stop) = rw same gives in
          rw (row.first before.files stop g) (l.decided known stop is g)
      decided known stop is (goes_on a gives n) = rw (row.next before.files a stop n)
          (opens_fewer one (up_next (kind_of stop)) before.opened now.opened l.opened)

  -- the first gives something
  pub next_loads : {X : Type 0} {x y z : X} {before between now : FilesState} {other : List (List ℕ)} (a : A) (answer : Result B Unloaded)
      → Loads First up_one one (y ≡ x) before between (Ok a) → Loads (λ files. Next files a) up_next other (z ≡ y) between now answer
      → Loads (Steps First Next) up (one ++ other) (z ≡ x) before now answer
  next_loads {before = before} {between = between} {now = now} {other = other} a answer l m = record {
    errored = m.errored;
    rest = m.rest ∙ ap (after_load m.errored now) (l.rest ∙ ap (λ errored. after_load errored between before) (error_free a l.errored l.faulted));
    faulted = m.faulted;
    loaded = loads_on (First before.files) (Next before.files) m.errored a answer l.loaded next;
    opened = opens_both before.opened between.opened now.opened one other l.all_opened m.opened;
    all_opened = adds_given answer before.opened between.opened now.opened one other l.all_opened m.all_opened;
    to_rejected = to_rejected;
    decided = decided;
    unopened = λ none. let n = no_name one other none in m.unopened n.1 ∙ l.unopened n.0;
  }
    where
      same_files : between.files ≡ before.files
      same_files = ap (λ (files : FilesState). files.files) l.rest

      next : LoadedBy (Next before.files a) m.errored answer
      next = subst (λ files. LoadedBy (Next files a) m.errored answer) same_files m.loaded

      to_rejected : (rejection : Rejection) → answer ≡ Err (unloaded.Refused rejection) → now.opened ≡ before.opened ++ up rejection.kind
      to_rejected rejection is =
          let gives : Next before.files a (Err (rejected rejection)) = subst (λ (v : Result B Unloaded). LoadedBy (Next before.files a) m.errored v) is next in
          added_both before.opened between.opened now.opened one (up_next rejection.kind) l.all_opened (m.to_rejected rejection is)
          ∙ ap (λ names. before.opened ++ names) (sym (row.next before.files a (rejected rejection) gives))

      moved : (known : FilesHeld) (answer : Result A Stop) → before.files ≡ Some known → First before.files answer → First (Some known) answer
      moved known answer is gives = rw is at gives

      decided : (known : FilesHeld) (stop : Stop) → before.files ≡ Some known → Then (First before.files) (Next before.files) (Err stop)
          → OpensFirst (up (kind_of stop)) before.opened now.opened
      decided known stop is (rejects stop' gives e) =
          absurd (not_alike stop' a (row.alike known (Ok a) (Err stop') (moved known (Ok a) is l.loaded) (moved known (Err stop') is gives)))
      decided known stop is (goes_on a' gives n) =
          let same : a ≡ a' = same_given a a' (row.alike known (Ok a) (Ok a') (moved known (Ok a) is l.loaded) (moved known (Ok a') is gives)) in
          let here : Next before.files a (Err stop) = rw same n in
          let later : Next between.files a (Err stop) = rw same_files here in
          rw (row.next before.files a stop here) (opens_both before.opened between.opened now.opened one (up_next (kind_of stop)) l.all_opened (m.decided known stop (same_files ∙ is) later))

-- ---- a load, and a last step that reads no file

module _ {A B : Type 0} (First : Option FilesHeld → Result A Stop → Type 0) (Last : Option FilesHeld → A → Result B Stop → Type 0)
    {names : List (List ℕ)} {As : Type 0} {before now : FilesState} where
  pub last_stops : (u : Unloaded) → LoadsOne First names As before now (Err u) → LoadsOne (Steps First Last) names As before now (Err u)
  last_stops u l = loads_not (Steps First Last) u l (not_loaded (First before.files) (Last before.files) l.errored u l.loaded)

  pub last_gives : (a : A) (b : B) → LoadsOne First names As before now (Ok a) → Last before.files a (Ok b)
      → LoadsOne (Steps First Last) names As before now (Ok b)
  last_gives a b l is = loads_given (Steps First Last) a (Ok b) l (goes_on a l.loaded is)

-- ---- a load by the bytes of a file, or by a default if none is named

module _ {A : Type 0} (kind : FileKind) (Judges : List ℕ → Result A FileFault → Type 0) (Unnamed : Result A FileFault → Type 0)
    (name : Option (List ℕ)) {names : List (List ℕ)} {As : Type 0} {before now : FilesState} where
  pub named_loads : (bytes : List ℕ) (result : Result A Unloaded)
      → LoadsOne (λ known. BytesGive known kind name) names As before now (Ok (Some bytes))
      → ((file : List ℕ) (errored : Bool) → IsFile before.files file bytes → length bytes ≤ file_limit kind → LoadedBy (FileGives before.files kind Judges file) errored result)
      → LoadsOne (λ known. Gives known kind Judges Unnamed name) names As before now result
  named_loads bytes result l by =
      let n = bytes_named before.files kind name bytes l.loaded in
      loads_given (λ known. Gives known kind Judges Unnamed name) (Some bytes) result l
      (subst (λ (named : Option (List ℕ)). LoadedBy (Gives before.files kind Judges Unnamed named) l.errored result) (sym n.is_named) (by n.file l.errored n.is_file n.few))

  pub unnamed_loads : (result : Result A Unloaded) → LoadsOne (λ known. BytesGive known kind name) names As before now (Ok None)
      → ((errored : Bool) → LoadedBy (StandsFor kind Unnamed) errored result)
      → LoadsOne (λ known. Gives known kind Judges Unnamed name) names As before now result
  unnamed_loads result l by =
      loads_given (λ known. Gives known kind Judges Unnamed name) None result l
      (subst (λ (named : Option (List ℕ)). LoadedBy (Gives before.files kind Judges Unnamed named) l.errored result) (sym (none_is_named before.files kind name l.loaded)) (by l.errored))

  pub unread_loads : (u : Unloaded) → LoadsOne (λ known. BytesGive known kind name) names As before now (Err u)
      → LoadsOne (λ known. Gives known kind Judges Unnamed name) names As before now (Err u)
  unread_loads u l =
      loads_not (λ known. Gives known kind Judges Unnamed name) u l (bytes_unloaded before.files kind Judges Unnamed name l.errored u l.loaded)
