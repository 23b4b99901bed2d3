-- A spelling as a tag or an EPC URI means the identity that is spelled.
use Rattle.std.proofs.Common.{◌≡◌, ℕ, Bool, true, false, not, List, Option, Some, None, Ok, Err, bytes_eq, filter, find, position, slice_get, refl, sym, ap, subst, ◌∙◌, inl, inr, true≢false}
use Rattle.std.specs.Prelude.{Result, if◌then◌else◌}
use Rattle.std.specs.List.{list_any}
use Rattle.std.specs.Option.{option_map, option_map_or, option_or}
use Rattle.std.proofs.lemmas.Bool.{eqb-true, not-true}
use Rattle.std.proofs.lemmas.List.Elements.{filter_passes}
use Rattle.std.proofs.lemmas.List.Quantifiers.{position-Some}
use Rattle.std.proofs.lemmas.Option.{get_or_from_slice_get}
use Rattle.gs_ai.specs.declared.pair.Pair.{Pair}
use Rattle.gs_ai.specs.declared.row.AiRow.{AiRow}
use Rattle.gs_ai.specs.Values.{has_code}
use Rattle.gs_ai.proofs.RowLemmas.{and_left, and_right}
use Rattle.gs_chars.proofs.TruthsAndLists.{equal_bytes, place_left, place_right, true_or_false}
use Rattle.gs_tables_document.specs.declared.document.Kind.{Kind}
use Rattle.gs_tables_document.specs.declared.document.SerialAt.{SerialAt}
use Rattle.gs_tables_document.specs.declared.document.SerialAt.TheVariants.{Nowhere, Tail, Ai}
use Rattle.gs_tables_document.specs.declared.document.LevelName.{LevelName}
use Rattle.gs_tables_document.specs.declared.document.LevelName.TheVariants as level
use Rattle.gs_epc.specs.declared.epc.Epc.{Epc}
use Rattle.gs_epc.specs.declared.error.EpcFault.{EpcFault}
use Rattle.gs_epc.specs.declared.error.EpcFault.TheVariants.{Memory as NoRoom}
use Rattle.gs_epc.specs.Candidates.{Candidate, HasFilterOn}
use Rattle.gs_epc.specs.Layout.{IsLaidOut, KeyFields}
use Rattle.gs_epc.specs.Readings.{ReadsAs, ReadsHex}
use Rattle.gs_epc.specs.KeyParts.{IsOfKind, epc_at, epc_of_key, take_apart}
use Rattle.gs_epc.specs.Writes.{ReadsText, Writes, WritesAs, same_fields}
use Rattle.gs_epc.specs.declared.error.EpcWriteFault.TheVariants as write
use Rattle.gs_epc.proofs.LaidLaws.{laid_again}
use Rattle.gs_epc.proofs.LaidSets.{no_pairs}
use Rattle.gs_epc.proofs.ReadLaws.{read_back}
use Rattle.gs_epc.proofs.Tries.{candidate_kept}
use Rattle.gs_ident.specs.Elements.{Elements, pairs_of}
use Rattle.gs_ident.specs.Identities.{IsMadeWith, ascending, counted, elements_of, is_other, listed}
use Rattle.gs_ident.proofs.CodeOrder.{own_ascending}
use Rattle.gs_ident.proofs.IdentityLemmas.{made_facts}
use Rattle.gs_ident.proofs.PairLemmas.{each_from_all, found_each, not_found}
use Rattle.gs_prefix.specs.declared.entry.PrefixEntry.{PrefixEntry}
use Rattle.gs_tables.specs.Judgements.{IsLoaded}
use Rattle.gs_tables.specs.KeptRules.{KeptKind}
use Rattle.gs_tables.specs.Tables.{IsShaped, TableRows}
use Rattle.gs_translate.specs.declared.form.FieldName.TheVariants.{Filter, Serial}
use Rattle.gs_translate.specs.declared.form.Form.{Form}
use Rattle.gs_translate.specs.declared.reader.Meaning.{Meaning}
use Rattle.gs_translate.specs.declared.form.Options.{Options}
use Rattle.gs_translate.specs.declared.reason.Reason.{Reason}
use Rattle.gs_translate.specs.declared.reason.Reason.TheVariants.{Epc as NoEpc, Extra, Missing, NoKind}
use Rattle.gs_translate.specs.declared.form.Target.{Target}
use Rattle.gs_translate.specs.declared.form.Target.TheVariants.{Hex, Tag, Pure, Raw, Bracketed, Link, Canon}
use Rattle.gs_translate.specs.Meanings.{IsRead, MeansEpc, epc_meaning}
use Rattle.gs_translate.specs.Steps.{Reworded, Then, goes_on, rejects}
use Rattle.gs_translate.specs.Targets.{FitsFilter, and_then, else_rejected, encoding_for, epc_for, extra_pair, filter_for, has_key, is_serial, kept, kind_for, lacks_filter, length_for, unless_extra, with_tag}
use Rattle.gs_translate.specs.Translations.{AreInOrder, IsOfLevel, IsSpelling, IsTranslation, MeansIdentity, write_reason}
use Rattle.gs_translate.proofs.FilterLaws.{filter_fits, kept_fits}
use Rattle.gs_translate.proofs.MadeLaws.{made_of_read}
use Rattle.gs_translate.proofs.PairLaws.{ais_kept}
use Rattle.gs_translate.proofs.StepLaws.{given_ok, gives_ok}
use Rattle.gs_translate.proofs.ReadAgain.{kept_made, means_again}
use Rattle.gs_translate.proofs.SameLinks.{same_meaning}

-- ---- steps that are all made

both_steps : {A B : Type 0} (first : Result A Reason) (next : A → Result B Reason) (b : B) → and_then first next ≡ Ok b
    → (a : A) × (first ≡ Ok a) × (next a ≡ Ok b)
both_steps (Ok a) next b e = (a, refl, e)
both_steps (Err reason) next b e = absurd (let f : Err reason ≡ Ok b = e in cc)

is_there : {X : Type 0} (reason : Reason) (found : Option X) (x : X) → else_rejected reason found ≡ Ok x → found ≡ Some x
is_there reason (Some y) x e = let f : Ok y ≡ Ok x = e in cc
is_there reason None x e = absurd (let f : Err reason ≡ Ok x = e in cc)

-- ---- the kind of the key

none_extra : (i n : ℕ) (extra : Option Pair) → option_map_or (λ (pair : Pair). Err (Extra pair.code)) extra (Ok i) ≡ Ok n → (i ≡ n) × (extra ≡ None)
none_extra i n None e = (let f : Ok i ≡ Ok n = e in cc, refl)
none_extra i n (Some pair) e = absurd (let f : Err (Extra pair.code) ≡ Ok n = e in cc)

-- the identity has the key of the kind at this index, and only the kind's serial as another pair
record IsOfKindAt (set : TableRows) (identity : Elements) (kind : ℕ) : Type 0 where
  row : Kind
  named : slice_get set.kinds kind ≡ Some row
  key : identity.key.code ≡ row.key
  alone : extra_pair row.serial identity ≡ None

kind_found : (set : TableRows) (identity : Elements) (kind : ℕ) → kind_for set identity ≡ Ok kind → IsOfKindAt set identity kind
kind_found set identity kind e =
    let test = has_key identity.key.code in
    let place = both_steps (else_rejected NoKind (position test set.kinds)) (λ i. and_then (else_rejected NoKind (slice_get set.kinds i)) (unless_extra identity i)) kind e in
    let row = both_steps (else_rejected NoKind (slice_get set.kinds place.0)) (unless_extra identity place.0) kind place.2 in
    let named : slice_get set.kinds place.0 ≡ Some row.0 = is_there NoKind (slice_get set.kinds place.0) row.0 row.1 in
    let none = none_extra place.0 kind (extra_pair row.0.serial identity) row.2 in
    let passes = (position-Some test set.kinds place.0 row.0 (is_there NoKind (position test set.kinds) place.0 place.1)).1 in
    let here = get_or_from_slice_get set.kinds place.0 row.0 row.0 named in
    let has : test row.0 ≡ true = rw here at passes in
    record { row = row.0; named = ap (slice_get set.kinds) (sym none.0) ∙ named; key = equal_bytes identity.key.code row.0.key has; alone = none.1 }

-- ---- only the key and its serial

own_serial : (serial : SerialAt) (pair : Pair) → not (is_serial serial pair) ≡ false → serial ≡ Ai pair.code
own_serial (Ai code) pair e = elim (true_or_false (bytes_eq code pair.code)) as (λ _. Ai code ≡ Ai pair.code) [
  | inl same ↦ ap Ai (equal_bytes code pair.code same)
  | inr other ↦ absurd (let f : true ≡ false = rw other at e in cc)
]
own_serial Nowhere pair e = absurd (let f : true ≡ false = e in cc)
own_serial Tail pair e = absurd (let f : true ≡ false = e in cc)

-- the code of an attribute is not among those that the key's row lists
not_listed : (ais : List AiRow) (identity : Elements) (row : AiRow) → IsMadeWith ais identity
    → find (has_code identity.key.code) ais ≡ Some row → (i : ℕ) (pair : Pair) → slice_get identity.attributes i ≡ Some pair
    → list_any (bytes_eq pair.code) row.qualifiers ≡ false
unfolding elements_of
not_listed ais identity row made found i pair at =
    let pairs = counted ais (pairs_of identity) in
    let facts = made_facts ais pairs identity made.given_back in
    let key : identity.key ≡ facts.key = ap (λ (e : Elements). e.key) facts.elements in
    let test = is_other (listed ais facts.key) facts.key in
    let attributes : identity.attributes ≡ ascending (filter test pairs) = ap (λ (e : Elements). e.attributes) facts.elements in
    let here : slice_get (ascending (filter test pairs)) i ≡ Some pair = ap (λ (ps : List Pair). slice_get ps i) (sym attributes) ∙ at in
    let own = own_ascending (filter test pairs) i pair here in
    let other : test pair ≡ true = found_each (λ p. test p ≡ true) (λ (p : Pair). bytes_eq pair.code p.code) (filter test pairs) pair own (each_from_all (λ p. test p ≡ true) (filter test pairs) (filter_passes test pairs)) in
    let apart = not-true (list_any (bytes_eq pair.code) (listed ais facts.key)) (and_right _ _ other) in
    let row_is : find (has_code facts.key.code) ais ≡ Some row = rw key at found in
    let lists : listed ais facts.key ≡ row.qualifiers = rw row_is refl in
    rw lists at apart

of_kind : (set : TableRows) (identity : Elements) (kind : ℕ) (is : IsOfKindAt set identity kind) → KeptKind set.ais is.row
    → IsMadeWith set.ais identity → IsOfKind is.row identity
of_kind set identity kind is kept made =
    let each = not_found (λ (pair : Pair). not (is_serial is.row.serial pair)) _ is.alone in
    let found : find (has_code identity.key.code) set.ais ≡ Some kept.row = rw is.key kept.found in
    record {
      key = is.key;
      qualifiers = λ i pair at. own_serial is.row.serial pair (each i pair (place_left identity.qualifiers identity.attributes i pair at));
      attributes = no_pairs identity.attributes (λ i pair at.
          let place = place_right identity.qualifiers identity.attributes i pair at in
          let serial = own_serial is.row.serial pair (each place.0 pair place.1) in
          let fits = rw serial at kept.serial in
          let there : list_any (bytes_eq pair.code) kept.row.qualifiers ≡ true = and_right _ _ (and_left _ _ fits) in
          let apart = not_listed set.ais identity kept.row made found i pair at in
          absurd (true≢false (sym there ∙ apart)));
    }

-- ---- the fields

kind_of_fields : (kind n : ℕ) (fields : Option KeyFields) (epc : Epc) → option_map (epc_of_key kind n) fields ≡ Some epc → epc.kind ≡ kind
kind_of_fields kind n None epc e = absurd (let f : None ≡ Some epc = e in cc)
kind_of_fields kind n (Some fields) epc e = let same : epc_of_key kind n fields ≡ epc = (let f : Some (epc_of_key kind n fields) ≡ Some epc = e in cc) in ap (λ (x : Epc). x.kind) (sym same)

kind_taken : (set : TableRows) (kind n : ℕ) (row : Kind) (identity : Elements) (epc : Epc) → slice_get set.kinds kind ≡ Some row
    → epc_at set kind identity n ≡ Some epc → epc.kind ≡ kind
kind_taken set kind n row identity epc named e = kind_of_fields kind n (take_apart set.ais row identity n) epc (rw named at e)

-- ---- the filter value and the encoding

fits_or : (a b : Option ℕ) → FitsFilter a → FitsFilter b → FitsFilter (option_or a b)
fits_or (Some number) b f g = f
fits_or None b f g = g

has_filter : (name : LevelName) (filter : Option ℕ) → lacks_filter name filter ≡ false → FitsFilter filter → HasFilterOn name filter
has_filter level.Pure filter e fits = tt
has_filter level.Tag (Some number) e fits = fits
has_filter level.Tag None e fits = absurd (let f : true ≡ false = e in cc)
has_filter level.Binary (Some number) e fits = fits
has_filter level.Binary None e fits = absurd (let f : true ≡ false = e in cc)

unless_lacking : (lacks : Bool) (tagged epc : Epc) → (if lacks then Err (Missing Filter) else Ok tagged) ≡ Ok epc → (lacks ≡ false) × (epc ≡ tagged)
unless_lacking true tagged epc e = absurd (let f : Err (Missing Filter) ≡ Ok epc = e in cc)
unless_lacking false tagged epc e = (refl, let f : Ok tagged ≡ Ok epc = e in let same : tagged ≡ epc = cc in sym same)

-- the EPC that is written of an identity: its fields by its kind, with a filter value if the level has one
record IsTaken (set : TableRows) (name : LevelName) (identity : Elements) (epc : Epc) : Type 0 where
  kind : ℕ
  n : ℕ
  fields : Epc
  encoding : List ℕ
  filter : Option ℕ
  of : IsOfKindAt set identity kind
  taken : epc_at set kind identity n ≡ Some fields
  is : epc ≡ record fields { encoding = encoding; filter = filter }
  has : HasFilterOn name filter

taken_of : (set : TableRows) (prefixes : List PrefixEntry) (options : Options) (name : LevelName) (meaning : Meaning) (epc : Epc)
    → FitsFilter options.filter → FitsFilter meaning.filter → epc_for set prefixes options name meaning ≡ Ok epc
    → IsTaken set name meaning.identity epc
taken_of set prefixes options name meaning epc own fits e =
    let kind = both_steps (kind_for set meaning.identity) (λ k. and_then (length_for set prefixes options meaning k) (λ n. and_then (else_rejected (Missing Serial) (epc_at set k meaning.identity n)) (with_tag options name meaning))) epc e in
    let n = both_steps (length_for set prefixes options meaning kind.0) (λ n. and_then (else_rejected (Missing Serial) (epc_at set kind.0 meaning.identity n)) (with_tag options name meaning)) epc kind.2 in
    let fields = both_steps (else_rejected (Missing Serial) (epc_at set kind.0 meaning.identity n.0)) (with_tag options name meaning) epc n.2 in
    let tagged : Epc = record fields.0 { encoding = encoding_for options meaning; filter = filter_for options meaning } in
    let tag = unless_lacking (lacks_filter name (filter_for options meaning)) tagged epc fields.2 in
    let has = has_filter name (filter_for options meaning) tag.0 (fits_or meaning.filter options.filter fits own) in
    record {
      kind = kind.0;
      n = n.0;
      fields = fields.0;
      encoding = encoding_for options meaning;
      filter = filter_for options meaning;
      of = kind_found set meaning.identity kind.0 kind.1;
      taken = is_there (Missing Serial) (epc_at set kind.0 meaning.identity n.0) fields.0 fields.1;
      is = tag.1;
      has = has;
    }

-- ---- the identity that is read from the text

-- the text says fields that are laid out to the identity
record SaysAgain (set : TableRows) (name : LevelName) (text : List ℕ) (identity : Elements) : Type 0 where
  epc : Epc
  read : ReadsText set name text (Ok epc)
  laid : IsLaidOut set epc identity

row_kept : (set : TableRows) (name : LevelName) (epc : Epc) (i : ℕ) (candidate : Candidate set name epc i) (row : Kind) → IsShaped set
    → slice_get set.kinds epc.kind ≡ Some row → KeptKind set.ais row
row_kept set name epc i candidate row shaped named =
    let info = candidate.info in
    let kept = candidate_kept set name epc i candidate shaped in
    let same : info.kind ≡ epc.kind = eqb-true info.kind epc.kind (and_left _ _ (and_left _ _ candidate.passes)) in
    let here : Some kept.kind ≡ Some row = sym kept.named ∙ ap (slice_get set.kinds) same ∙ named in
    let one : kept.kind ≡ row = cc in
    subst (λ (k : Kind). KeptKind set.ais k) one kept.of_kind

says_again : (set : TableRows) (name : LevelName) (identity : Elements) (epc : Epc) (text : List ℕ) → IsLoaded set
    → IsMadeWith set.ais identity → IsTaken set name identity epc → Writes set name epc text → SaysAgain set name text identity
says_again set name identity epc text loaded made t writes =
    let shaped = loaded.shaped in
    let info = writes.candidate.info in
    let kinds : epc.kind ≡ t.kind = ap (λ (x : Epc). x.kind) t.is ∙ kind_taken set t.kind t.n t.of.row identity t.fields t.of.named t.taken in
    let named : slice_get set.kinds epc.kind ≡ Some t.of.row = ap (slice_get set.kinds) kinds ∙ t.of.named in
    let kept = row_kept set name epc writes.option writes.candidate t.of.row shaped named in
    let of = of_kind set identity t.kind t.of kept made in
    let laid = laid_again set t.kind t.n t.of.row identity t.fields shaped (ais_kept set shaped) t.of.named of made t.taken in
    let tagged : Epc = record t.fields { encoding = t.encoding; filter = t.filter } in
    let again : IsLaidOut set (same_fields name info tagged) identity = record { kind = laid.kind; named = laid.named; laid = laid.laid } in
    record {
      epc = same_fields name info epc;
      read = read_back set name epc text loaded (subst (λ (x : Epc). HasFilterOn name x.filter) (sym t.is) t.has) writes;
      laid = subst (λ (x : Epc). IsLaidOut set (same_fields name info x) identity) (sym t.is) again;
    }

-- ---- spellings

-- a text means the identity that an EPC is laid out to, which is read of it
epc_means : (set : TableRows) (Reads : Result Epc EpcFault → Type 0) (epc : Epc) (identity : Elements) → Reads (Ok epc)
    → IsLaidOut set epc identity → Then (Reworded NoRoom NoEpc Reads) (MeansEpc set) (Ok (epc_meaning epc identity))
epc_means set Reads epc identity read laid = goes_on epc (gives_ok NoRoom NoEpc Reads epc read) (identity, laid, refl)

module _ (set : TableRows) (prefixes : List PrefixEntry) (options : Options) (from : Form) (text answer : List ℕ) (source : Meaning)
    (loaded : IsLoaded set) (in_order : AreInOrder options) (read : IsRead set from text (Ok source)) where
  abbrev narrow : Meaning
  narrow = kept set options.keys_only source

  made : IsMadeWith set.ais narrow.identity
  made = kept_made set options.keys_only source loaded.shaped (made_of_read set from text source loaded.shaped read)

  fits : FitsFilter narrow.filter
  fits = kept_fits set options.keys_only source (filter_fits set from text source loaded.shaped read)

  -- the spelling is that of the kept part of the source
  spelling_kept : (to : Target) → IsTranslation set prefixes options from to text (Ok answer) → IsSpelling set prefixes options to narrow (Ok answer)
  spelling_kept to (rejects error first e) = absurd (let f : Ok answer ≡ Err error = e in cc)
  spelling_kept to (goes_on own first spelling) =
      subst (λ (m : Meaning). IsSpelling set prefixes options to (kept set options.keys_only m) (Ok answer))
      (same_meaning set from text own source loaded.shaped first read) spelling

  said_again : (name : LevelName) → IsOfLevel set prefixes options name narrow (Ok answer) → SaysAgain set name answer narrow.identity
  said_again name (rejects error first e) = absurd (let f : Ok answer ≡ Err error = e in cc)
  said_again name (goes_on epc first writes) = says_again set name narrow.identity epc answer loaded made
      (taken_of set prefixes options name narrow epc in_order.filter fits (sym first))
      (given_ok write.Memory write_reason (WritesAs set name epc) answer writes)

  meant : (to : Target) → IsTranslation set prefixes options from to text (Ok answer) → MeansIdentity set to answer narrow.identity
  meant Hex t =
      let says = said_again level.Binary (spelling_kept Hex t) in
      record { meaning = epc_meaning says.epc narrow.identity; means = epc_means set (ReadsHex set answer) says.epc narrow.identity says.read says.laid; same = refl }
  meant Tag t =
      let says = said_again level.Tag (spelling_kept Tag t) in
      record { meaning = epc_meaning says.epc narrow.identity; means = epc_means set (ReadsAs set level.Tag answer) says.epc narrow.identity says.read says.laid; same = refl }
  meant Pure t =
      let says = said_again level.Pure (spelling_kept Pure t) in
      record { meaning = epc_meaning says.epc narrow.identity; means = epc_means set (ReadsAs set level.Pure answer) says.epc narrow.identity says.read says.laid; same = refl }
  meant Raw t = means_again set prefixes options from Raw text answer source loaded.shaped in_order tt read t
  meant Bracketed t = means_again set prefixes options from Bracketed text answer source loaded.shaped in_order tt read t
  meant Link t = means_again set prefixes options from Link text answer source loaded.shaped in_order tt read t
  meant Canon t = means_again set prefixes options from Canon text answer source loaded.shaped in_order tt read t

pub each_means_again : (set : TableRows) (prefixes : List PrefixEntry) (options : Options) (from : Form) (to : Target) (text answer : List ℕ) (source : Meaning)
    → IsLoaded set → AreInOrder options → IsRead set from text (Ok source) → IsTranslation set prefixes options from to text (Ok answer)
    → MeansIdentity set to answer (kept set options.keys_only source).identity
each_means_again set prefixes options from to text answer source loaded in_order read t = meant set prefixes options from text answer source loaded in_order read to t
