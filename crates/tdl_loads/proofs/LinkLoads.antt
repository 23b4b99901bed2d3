-- The load of links, by how they were read and judged.
use Rattle.std.proofs.Common.{◌≡◌, ℕ, ◌+◌, ◌≤◌, Bool, true, List, [], ◌∷◌, ◌++◌, Option, Some, None, drop, length, map, slice_get, refl, sym, ap, subst, ◌∙◌, inl, inr}
use Rattle.std.specs.Prelude.{Result, Ok, Err}
use Rattle.std.specs.List.{enumerate_from, flat_map}
use Rattle.gs_ai.specs.declared.row.AiRow.{AiRow}
use Rattle.gs_chars.specs.Answers.{OrError, first_or}
use Rattle.gs_links.specs.declared.error.StoreFault.{StoreFault}
use Rattle.gs_links.specs.declared.error.StoreFault.TheVariants as store
use Rattle.gs_links.specs.declared.link.Link.{Link}
use Rattle.gs_links.specs.Loads.{links_of, load_answer, store_errors}
use Rattle.gs_linkset.specs.declared.link_types.Context.{Context}
use Rattle.gs_linktext.specs.ReadAnswers.{IsReadAs, IsReadError}
use Rattle.gs_linktext_grammar.specs.declared.error.LinkTextFault.{LinkTextFault}
use Rattle.gs_linktext_grammar.specs.declared.error.LinkTextFault.TheVariants as text
use Rattle.gs_linktext_grammar.proofs.PartLemmas.{drop_all, drop_at}
use Rattle.gs_merge.specs.MergedDocuments.{merge_answer}
use Rattle.gs_template.specs.Errors.{first_error}
use Rattle.gs_template.specs.declared.error.PlaceFault.{PlaceFault}
use Rattle.gs_translate.specs.Steps.{Then, goes_on, reworded}
use Rattle.tdl_messages.specs.declared.file_kind.FileKind.{FileKind}
use Rattle.tdl_messages.specs.declared.file_kind.FileKind.TheVariants as kind
use Rattle.tdl_messages.specs.declared.rejection.FileFault.{FileFault}
use Rattle.tdl_messages.specs.declared.rejection.FileFault.TheVariants.{Place, Store}
use Rattle.tdl_messages.specs.declared.rejection.Rejection.{Rejection}
use Rattle.tdl_loads.specs.declared.loads.Unloaded.{Unloaded}
use Rattle.tdl_loads.specs.declared.loads.Unloaded.TheVariants as unloaded
use Rattle.tdl_loads.specs.Loads.{JudgesText, Stop, link_errors, merged_store, merged_with, merging, of_verdict, other_verdict, placed, places_errors, read_as, rejected, store_verdict, unread}
use Rattle.tdl_loads.specs.LoadsSupport.{AreLinked, LoadedBy, linked_with}
use Rattle.tdl_loads.specs.Reads.{JudgedAs, JudgedBy, unread_text}
use Rattle.gs_links.specs.declared.error.StoreFault.TheVariants.{TooMany}

-- ---- no link

-- the empty linkset is the store of no link
pub no_link : (ais : List AiRow) (voc : List ℕ) → load_answer ais voc [] ≡ Ok []
unfolding load_answer store_errors links_of
no_link ais voc = refl

-- ---- templates

place_error : (i : ℕ) (errors : List PlaceFault) (error : PlaceFault) → Err error ≡ first_error errors
    → Err (Place i error) ≡ first_or (map (Place i) errors) (tt {0})
place_error i [] error e = absurd (let made : Result (Unit {0}) PlaceFault = Err error in let f : made ≡ Ok (tt {0}) = e in cc)
place_error i (one ∷ errors) error e =
    let made : Result (Unit {0}) PlaceFault = Err error in
    let f : made ≡ Err one = e in
    let same : error ≡ one = cc in
    ap (λ x. Err (Place i x)) same

no_place_error : (i : ℕ) (errors : List PlaceFault) → Ok (tt {0}) ≡ first_error errors → Ok (tt {0}) ≡ first_or (map (Place i) errors) (tt {0})
no_place_error i [] e = refl
no_place_error i (one ∷ errors) e = absurd (let made : Result (Unit {0}) PlaceFault = Ok (tt {0}) in let f : made ≡ Err one = e in cc)

-- a link whose reference is valid, or has an error
pub link_placed : (ais : List AiRow) (i : ℕ) (link : Link) (errors : List PlaceFault) → link_errors ais (i, link) ≡ map (Place i) errors
    → Ok (tt {0}) ≡ first_error errors → Ok (tt {0}) ≡ first_or (link_errors ais (i, link)) (tt {0})
link_placed ais i link errors is e = rw is (no_place_error i errors e)

pub link_misplaced : (ais : List AiRow) (i : ℕ) (link : Link) (errors : List PlaceFault) (error : PlaceFault)
    → link_errors ais (i, link) ≡ map (Place i) errors → Err error ≡ first_error errors
    → Err (Place i error) ≡ first_or (link_errors ais (i, link)) (tt {0})
link_misplaced ais i link errors error is e = rw is (place_error i errors error e)

none_first : (errors : List FileFault) → Ok (tt {0}) ≡ first_or errors (tt {0}) → errors ≡ []
none_first [] e = refl
none_first (one ∷ errors) e = absurd (let made : Result (Unit {0}) FileFault = Ok (tt {0}) in let f : made ≡ Err one = e in cc)

front_first : (errors more : List FileFault) (error : FileFault) → Err error ≡ first_or errors (tt {0}) → Err error ≡ first_or (errors ++ more) (tt {0})
front_first [] more error e = absurd (let made : Result (Unit {0}) FileFault = Err error in let f : made ≡ Ok (tt {0}) = e in cc)
front_first (one ∷ errors) more error e = e

-- the errors of the links from one on
abbrev pub errors_from : List AiRow → List Link → ℕ → List FileFault
errors_from ais links i = flat_map (link_errors ais) (enumerate_from i (drop i links))

pub places_begin : (ais : List AiRow) (links : List Link) → places_errors ais links ≡ errors_from ais links 0
unfolding places_errors
places_begin ais links = refl

pub places_end : (ais : List AiRow) (links : List Link) (i : ℕ) → length links ≤ i → errors_from ais links i ≡ []
places_end ais links i high = rw (drop_all links i high) refl

pub places_more : (ais : List AiRow) (links : List Link) (i : ℕ) (link : Link) → slice_get links i ≡ Some link
    → Ok (tt {0}) ≡ first_or (link_errors ais (i, link)) (tt {0}) → errors_from ais links i ≡ errors_from ais links (i + 1)
places_more ais links i link at none = rw (drop_at links i link at)
    (ap (λ (es : List FileFault). es ++ errors_from ais links (i + 1)) (none_first (link_errors ais (i, link)) none))

pub places_found : (ais : List AiRow) (links : List Link) (i : ℕ) (link : Link) (error : FileFault) → slice_get links i ≡ Some link
    → Err error ≡ first_or (link_errors ais (i, link)) (tt {0}) → Err error ≡ first_or (errors_from ais links i) (tt {0})
places_found ais links i link error at found = rw (drop_at links i link at)
    (front_first (link_errors ais (i, link)) (errors_from ais links (i + 1)) error found)

-- all links are valid, or the first that is not gives the error of all
pub places_clear : (ais : List AiRow) (links : List Link) (i : ℕ) → places_errors ais links ≡ errors_from ais links i → length links ≤ i
    → Ok (tt {0}) ≡ first_or (places_errors ais links) (tt {0})
places_clear ais links i so_far high = rw (so_far ∙ places_end ais links i high) refl

pub places_stop : (ais : List AiRow) (links : List Link) (i : ℕ) (link : Link) (error : FileFault)
    → places_errors ais links ≡ errors_from ais links i → slice_get links i ≡ Some link
    → Err error ≡ first_or (link_errors ais (i, link)) (tt {0}) → Err error ≡ first_or (places_errors ais links) (tt {0})
places_stop ais links i link error so_far at found = rw so_far (places_found ais links i link error at found)

pub placed_links : (templates : Bool) (ais : List AiRow) (links : List Link) → templates ≡ true
    → Ok (tt {0}) ≡ first_or (places_errors ais links) (tt {0}) → placed templates ais links ≡ Ok links
placed_links templates ais links is none = rw (is, none_first (places_errors ais links) none) refl

placed_by : (errors : List FileFault) (links : List Link) (error : FileFault) → Err error ≡ first_or errors (tt {0}) → first_or errors links ≡ Err error
placed_by [] links error e = absurd (let made : Result (Unit {0}) FileFault = Err error in let f : made ≡ Ok (tt {0}) = e in cc)
placed_by (one ∷ errors) links error e =
    let made : Result (Unit {0}) FileFault = Err error in
    let f : made ≡ Err one = e in
    let same : error ≡ one = cc in
    ap Err (sym same)

pub misplaced_links : (kind : FileKind) (templates : Bool) (ais : List AiRow) (links : List Link) (error : FileFault) → templates ≡ true
    → Err error ≡ first_or (places_errors ais links) (tt {0}) → of_verdict kind (placed templates ais links) ≡ Err
    (rejected (record { kind = kind; error = error }))
misplaced_links kind templates ais links error is found = rw (is, placed_by (places_errors ais links) links error found) refl

-- ---- stores

-- a store that was loaded, as its links are placed
pub store_placed : (kind : FileKind) (templates : Bool) (ais : List AiRow) (answer : Result (List Link) StoreFault) (links : List Link) (result : Result (List Link) Unloaded)
    → OrError store.Memory (Ok links) answer → JudgedAs kind (placed templates ais links) result
    → JudgedAs kind (store_verdict templates ais answer) result
store_placed kind templates ais answer links result (inl e) j = absurd
    (let made : Result (List Link) StoreFault = Ok links in let f : made ≡ Err store.Memory = e in cc)
store_placed kind templates ais answer links result (inr e) j = rw (← e) j

-- ---- verdicts and their errors

-- a verdict that is an error has the kind and the error of the rejection
judged_error : {A : Type 0} (kind : FileKind) (verdict : Result A FileFault) (rejection : Rejection)
    → of_verdict kind verdict ≡ Err (rejected rejection) → (rejection.kind ≡ kind) × (verdict ≡ Err rejection.error)
judged_error kind (Ok a) rejection e = absurd (let f : Ok a ≡ Err (rejected rejection) = e in cc)
judged_error {A = A} kind (Err error) rejection e =
    let made : Result A Stop = Err (rejected (record { kind = kind; error = error })) in
    let f : made ≡ Err (rejected rejection) = e in
    let same : record { kind = kind; error = error } ≡ rejection = cc in
    (sym (ap (λ (r : Rejection). r.kind) same), ap (λ (r : Rejection). Err r.error) same)

pub judged_by : {A : Type 0} (kind : FileKind) (Judges : Result A FileFault → Type 0) (verdict : Result A FileFault) (result : Result A Unloaded)
    → Judges verdict → JudgedAs kind verdict result → JudgedBy kind Judges result
judged_by kind Judges verdict (Ok a) j e = subst Judges e j
judged_by kind Judges verdict (Err unloaded.Memory) j e = tt
judged_by kind Judges verdict (Err unloaded.ReadFault) j e = absurd e
judged_by kind Judges verdict (Err (unloaded.Refused rejection)) j e =
    let told = judged_error kind verdict rejection e in
    (told.0, subst Judges told.1 j)

pub text_judged : (kind : FileKind) (templates : Bool) (ais : List AiRow) (voc bytes : List ℕ) (contexts : List Context) (result : Result (List Link) Unloaded)
    → IsReadAs bytes contexts → JudgedAs kind (store_verdict templates ais (load_answer ais voc contexts)) result
    → JudgedBy kind (JudgesText templates ais voc bytes) result
text_judged kind templates ais voc bytes contexts result is j =
    judged_by kind (JudgesText templates ais voc bytes) (store_verdict templates ais (load_answer ais voc contexts)) result (read_as contexts is refl) j

pub text_unjudged : (kind : FileKind) (templates : Bool) (ais : List AiRow) (voc bytes : List ℕ) (error : LinkTextFault)
    → IsReadError bytes error → JudgedBy kind (JudgesText templates ais voc bytes) (Err (unread_text kind error))
text_unjudged kind templates ais voc bytes text.Memory is = tt
text_unjudged kind templates ais voc bytes text.Syntax is = (refl, unread text.Syntax (λ e. let f : text.Syntax ≡ text.Memory = e in cc) is refl)
text_unjudged kind templates ais voc bytes (text.Anchor i) is = (refl, unread (text.Anchor i) (λ e. let f : text.Anchor i ≡ text.Memory = e in cc) is refl)
text_unjudged kind templates ais voc bytes (text.Rel i) is = (refl, unread (text.Rel i) (λ e. let f : text.Rel i ≡ text.Memory = e in cc) is refl)

-- ---- links that are merged

pub other_unjudged : (kind : FileKind) (verdict : Result (List Link) FileFault) (u : Unloaded) → JudgedAs kind verdict (Err u)
    → JudgedAs kind (other_verdict verdict) (Err u)
other_unjudged kind verdict unloaded.Memory j = tt
other_unjudged kind verdict unloaded.ReadFault j = absurd j
other_unjudged kind verdict (unloaded.Refused rejection) j =
    let told = judged_error kind verdict rejection j in
    rw told.1 (ap (λ (k : FileKind). Err (rejected (record { kind = k; error = rejection.error }))) (sym told.0))

pub store_merged : (ais : List AiRow) (verdict : Result (List Link) FileFault) (store links : List Link) (result : Result (List Context) Unloaded)
    → verdict ≡ Ok store → JudgedAs kind.Merge (merged_store (Ok store) links) result
    → JudgedAs kind.Merge (merged_store verdict links) result
store_merged ais verdict store links result e j = rw e j

merged_error : (ais : List AiRow) (voc : List ℕ) (error : FileFault) (third : Option (List Link)) → merged_with ais voc (Err error) third ≡ Err error
merged_error ais voc error None = refl
merged_error ais voc error (Some links) = refl

pub with_merged : (ais : List AiRow) (voc : List ℕ) (verdict : Result (List Context) FileFault) (merged : List Context) (third : Option (List Link)) (result : Result (List Context) Unloaded)
    → verdict ≡ Ok merged → JudgedAs kind.Merge (merged_with ais voc (Ok merged) third) result
    → JudgedAs kind.Merge (merged_with ais voc verdict third) result
with_merged ais voc verdict merged third result e j = rw e j

with_unmerged : (ais : List AiRow) (voc : List ℕ) (verdict : Result (List Context) FileFault) (third : Option (List Link)) (u : Unloaded)
    → JudgedAs kind.Merge verdict (Err u) → JudgedAs kind.Merge (merged_with ais voc verdict third) (Err u)
with_unmerged ais voc verdict third unloaded.Memory j = tt
with_unmerged ais voc verdict third unloaded.ReadFault j = absurd j
with_unmerged ais voc verdict third (unloaded.Refused rejection) j =
    let told = judged_error kind.Merge verdict rejection j in
    rw (told.1, merged_error ais voc rejection.error third) (ap (λ (k : FileKind). Err (rejected (record { kind = k; error = rejection.error }))) (sym told.0))

-- a merge without a result, and links with their merged document
pub merging_not : (ais : List AiRow) (voc : List ℕ) (links : List Link) (second third : Option (List Link)) (some : List Link) (u : Unloaded)
    → second ≡ Some some → JudgedAs kind.Merge (reworded (λ _. Store TooMany) (merge_answer links some)) (Err u)
    → JudgedAs kind.Merge (merging ais voc links second third) (Err u)
merging_not ais voc links second third some u e j =
    subst (λ (s : Option (List Link)). JudgedAs kind.Merge (merging ais voc links s third) (Err u)) (sym e)
    (with_unmerged ais voc (reworded (λ _. Store TooMany) (merge_answer links some)) third u j)

pub linked_is : (ais : List AiRow) (voc : List ℕ) (links : List Link) (second third : Option (List Link)) (contexts : List Context)
    → merging ais voc links second third ≡ Ok contexts → AreLinked ais voc links second third
    (Ok (record { links = links; merged = contexts }))
linked_is ais voc links second third contexts e = rw e refl

pub linked_not : (ais : List AiRow) (voc : List ℕ) (links : List Link) (second third : Option (List Link)) (First : Result (Option (List Link)) Stop → Type 0) (errored : Bool) (u : Unloaded)
    → First (Ok third) → JudgedAs kind.Merge (merging ais voc links second third) (Err u)
    → LoadedBy (Then First (AreLinked ais voc links second)) errored (Err u)
linked_not ais voc links second third First errored unloaded.Memory first j = tt
linked_not ais voc links second third First errored unloaded.ReadFault first j = absurd j
linked_not ais voc links second third First errored (unloaded.Refused rejection) first j = goes_on third first (ap (linked_with links) (sym j))
