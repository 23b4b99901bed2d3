-- An EPC that is written in another form: the identity that it names, taken apart, gives its fields back, and has nothing but its
-- key and its serial.
use Rattle.std.proofs.Common.{◌≡◌, ℕ, ◌==◌, ◌+◌, ◌≤◌, ◌&&◌, ◌||◌, Bool, true, false, not, length, List, [], ◌∷◌, ◌++◌, Some, None, filter, find, map, position, slice_get, take, refl, sym, ap, subst, ◌∙◌, arith, Option, append-nil}
use Rattle.std.specs.Prelude.{Result, Ok, Err, if◌then◌else◌}
use Rattle.std.specs.List.{list_any}
use Rattle.std.specs.Option.{MatchOption, option_map_or}
use Rattle.std.proofs.lemmas.Option.{slice_get-map}
use Rattle.gs_chars.specs.Limits.{longest_text}
use Rattle.gs_chars.proofs.TruthsAndLists.{get_take, mapped_some, same_bytes, same_number}
use Rattle.gs_ai.specs.declared.pair.Pair.{Pair}
use Rattle.gs_ai.specs.declared.row.AiRow.{AiRow}
use Rattle.gs_ai.specs.Values.{has_code}
use Rattle.gs_ai.proofs.RuleLemmas.{none_at}
use Rattle.gs_ident.specs.Elements.{Elements, elements_with, is_coded}
use Rattle.gs_ident.specs.Identities.{stands_for_none}
use Rattle.gs_ident.specs.QualifiedKeys.{pairs_in}
use Rattle.gs_ident.proofs.MovedPairs.{any_at}
use Rattle.gs_prefix.specs.declared.entry.PrefixEntry.{PrefixEntry}
use Rattle.gs_tables_document.specs.declared.document.KindRow.{KindRow}
use Rattle.gs_tables_document.specs.declared.error.LoadFault.{LoadFault}
use Rattle.gs_tables_document.specs.declared.error.LoadFault.TheVariants.{BadKind}
use Rattle.gs_tables_document.specs.declared.document.Kind.{Kind}
use Rattle.gs_tables_document.specs.declared.document.SerialAt.{SerialAt}
use Rattle.gs_tables_document.specs.declared.document.SerialAt.TheVariants.{Nowhere, Tail, Ai}
use Rattle.gs_tables_document.specs.declared.document.LevelName.{LevelName}
use Rattle.gs_tables_document.specs.declared.document.LevelName.TheVariants as level
use Rattle.gs_tables_document.specs.declared.document.OptInfo.{OptInfo}
use Rattle.gs_chars.specs.Answers.{error_if}
use Rattle.gs_tables.specs.Rules.{fits_key, has_key, is_kind, is_new_name}
use Rattle.gs_tables.specs.Tables.{IsShaped, TableRows, kind_of, kind_rejections, kinds_rejections, level_rows}
use Rattle.gs_epc.specs.declared.epc.Epc.{Epc}
use Rattle.gs_epc.specs.declared.error.EpcFault.{EpcFault}
use Rattle.gs_epc.specs.Epcs.{IsOfSet}
use Rattle.gs_epc.specs.Layout.{IsLaidOut, fields_in, key_pair, lay, serial_elements}
use Rattle.gs_epc.specs.Writes.{ReadsText}
use Rattle.gs_epc.proofs.KeptLaws.{fit_kind}
use Rattle.gs_epc.proofs.LaidLaws.{no_kinds}
use Rattle.gs_epc.proofs.TakenSets.{apart}
use Rattle.gs_translate.specs.declared.reader.Meaning.{Meaning}
use Rattle.gs_translate.specs.declared.form.Options.{Options}
use Rattle.gs_translate.specs.declared.form.Target.{Target}
use Rattle.gs_translate.specs.declared.reason.Reason.{Reason}
use Rattle.gs_translate.specs.Meanings.{IsRead, epc_meaning, short}
use Rattle.gs_translate.specs.MeaningsSupport.{epc_reason, form_at}
use Rattle.gs_translate.specs.Steps.{AppendsText, UnlessMemory, rejects}
use Rattle.gs_translate.specs.Targets.{epc_for, has_option, is_option_of, is_serial, kept, key_and_serial, kind_for, length_for, narrowed, with_tag}
use Rattle.gs_translate.specs.Targets as targets
use Rattle.gs_translate.specs.Translations.{IsSpelling, IsTranslation}
use Rattle.gs_translate.proofs.EpcTexts.{means_at, none_read}
use Rattle.gs_translate.proofs.StepLaws.{then_appended, unless_rejected}
use Rattle.gs_chars.proofs.Searches.{find_at_place, position-map, position_is}
use Rattle.std.proofs.lemmas.Bool.{and_from, and_parts, not-true, false_from_ne_true}

-- ---- a kind is the first that has its key

passes_kind : (b : Bool) (error : LoadFault) → error_if (not b) error ≡ [] → b ≡ true
passes_kind true error h = refl
passes_kind false error h = absurd (let g : error ∷ [] ≡ [] = h in cc)

new_key : (ais : List AiRow) (earlier : List KindRow) (kind : KindRow) → is_kind ais earlier kind ≡ true → list_any (has_key kind.key) earlier ≡ false
unfolding is_kind
new_key ais earlier kind h =
    let parts = and_parts (is_new_name earlier kind.name && not (list_any (has_key kind.key) earlier)) (option_map_or (λ row. fits_key ais row kind) (find (has_code kind.key) ais) false) h in
    not-true _ (and_parts (is_new_name earlier kind.name) (not (list_any (has_key kind.key) earlier)) parts.0).1

not_earlier : (ais : List AiRow) (kinds : List KindRow) (i : ℕ) (kind : KindRow) → kinds_rejections ais kinds ≡ []
    → slice_get kinds i ≡ Some kind → list_any (has_key kind.key) (take i kinds) ≡ false
unfolding kinds_rejections
not_earlier ais kinds i kind none at =
    let zero_plus : 0 + i ≡ i = omega arith in
    let here = none_at (kind_rejections ais kinds) 0 kinds none i kind at in
    let row : kind_rejections ais kinds (i, kind) ≡ [] = rw zero_plus at here in
    new_key ais (take i kinds) kind (passes_kind (is_kind ais (take i kinds) kind) (BadKind i) row)

first_row : (kinds : List KindRow) (i : ℕ) (kind : KindRow) → slice_get kinds i ≡ Some kind
    → list_any (has_key kind.key) (take i kinds) ≡ false → position (has_key kind.key) kinds ≡ Some i
first_row kinds i kind at none =
    position_is (has_key kind.key) kinds i kind at (same_bytes kind.key) (λ j other less there.
    false_from_ne_true (has_key kind.key other) (λ same.
    let early : slice_get (take i kinds) j ≡ Some other = get_take kinds i j less ∙ there in
    let some = any_at (has_key kind.key) (take i kinds) j other early same in
    let both : true ≡ false = sym some ∙ none in
    cc))

first_kind : (set : TableRows) (i : ℕ) (kind : Kind) → IsShaped set → slice_get set.kinds i ≡ Some kind → position (targets.has_key kind.key) set.kinds ≡ Some i
first_kind set i kind shaped at =
    let ais = shaped.document.ais in
    let rows = shaped.document.kinds in
    let here : slice_get (map (kind_of ais) rows) i ≡ Some kind = rw shaped.made at at in
    let row = mapped_some (kind_of ais) (slice_get rows i) kind (sym (slice_get-map (kind_of ais) rows i) ∙ here) in
    let first = first_row rows i row.0 row.1 (not_earlier ais rows i row.0 (no_kinds shaped.document shaped.in_order) row.1) in
    let moved : position (targets.has_key row.0.key) (map (kind_of ais) rows) ≡ Some i = position-map (targets.has_key row.0.key) (kind_of ais) rows ∙ first in
    rw (shaped.made, ← row.2) moved

-- ---- nothing but the key and its serial

own_or_none : (code : List ℕ) (pair : Pair) (none : Bool) → pair.code ≡ code
    → find (λ (p : Pair). not (is_serial (Ai code) p)) ((if none then [] else pair ∷ []) ++ []) ≡ None
own_or_none code pair true same = refl
own_or_none code pair false same = rw (same, same_bytes code) refl

none_extra : (ais : List AiRow) (at : SerialAt) (serial : List ℕ) → find (λ (p : Pair). not (is_serial at p)) (serial_elements ais at serial ++ []) ≡ None
none_extra ais Nowhere serial = refl
none_extra ais Tail serial = refl
none_extra ais (Ai code) serial = own_or_none code (record { code = code; value = serial }) (stands_for_none ais (record { code = code; value = serial })) refl

-- ---- an option has the kind and the length

of_info : (info : OptInfo) (kind n : ℕ) → kind ≡ info.kind → n ≡ info.gcp → is_option_of kind n info ≡ true
of_info info kind n k g = rw (k, g) (and_from (info.kind == info.kind) (info.gcp == info.gcp) (same_number info.kind) (same_number info.gcp))

in_first : (a b c : Bool) → a ≡ true → (a || b || c) ≡ true
in_first true b c h = refl
in_first false b c h = absurd (let g : false ≡ true = h in cc)

in_second : (a b c : Bool) → b ≡ true → (a || b || c) ≡ true
in_second true true c h = refl
in_second false true c h = refl
in_second a false c h = absurd (let g : false ≡ true = h in cc)

in_third : (a b c : Bool) → c ≡ true → (a || b || c) ≡ true
in_third true true true h = refl
in_third true false true h = refl
in_third false true true h = refl
in_third false false true h = refl
in_third a b false h = absurd (let g : false ≡ true = h in cc)

in_a_level : (set : TableRows) (name : LevelName) (kind n : ℕ) → list_any (is_option_of kind n) (level_rows name set).info ≡ true → has_option set kind n ≡ true
in_a_level set level.Binary kind n h = in_first (list_any (is_option_of kind n) set.binary.info)
    (list_any (is_option_of kind n) set.tag.info) (list_any (is_option_of kind n) set.pure.info) h
in_a_level set level.Tag kind n h = in_second (list_any (is_option_of kind n) set.binary.info) (list_any (is_option_of kind n) set.tag.info)
    (list_any (is_option_of kind n) set.pure.info) h
in_a_level set level.Pure kind n h = in_third (list_any (is_option_of kind n) set.binary.info) (list_any (is_option_of kind n) set.tag.info)
    (list_any (is_option_of kind n) set.pure.info) h

own_option : (set : TableRows) (epc : Epc) → IsOfSet set epc → has_option set epc.kind epc.gcp ≡ true
own_option set epc of =
    let kind : epc.kind ≡ of.info.kind = ap (λ (x : Epc). x.kind) of.fields in
    let gcp : epc.gcp ≡ of.info.gcp = ap (λ (x : Epc). x.gcp) of.fields in
    let there = any_at (is_option_of epc.kind epc.gcp) (level_rows of.level set).info of.option of.info of.said (of_info of.info epc.kind epc.gcp kind gcp) in
    in_a_level set of.level epc.kind epc.gcp there

-- ---- the EPC that is written

module _ (set : TableRows) (prefixes : List PrefixEntry) (options : Options) (epc : Epc) (identity : Elements) (shaped : IsShaped set)
    (of : IsOfSet set epc) (laid : IsLaidOut set epc identity) where
  own_kind : kind_for set identity ≡ Ok epc.kind
  own_kind =
      let first = first_kind set epc.kind laid.kind shaped laid.named in
      let none = none_extra set.ais laid.kind.serial (fields_in epc).serial in
      rw (laid.laid, first, laid.named, none) refl

  own_length : length_for set prefixes options (epc_meaning epc identity) epc.kind ≡ Ok epc.gcp
  own_length = rw (own_option set epc of) refl

  -- the fields of the EPC are given back
  pub own_epc : (to : LevelName) → epc_for set prefixes options to (epc_meaning epc identity) ≡ with_tag options to (epc_meaning epc identity) epc
  own_epc to =
      let back = apart set epc identity shaped of laid in
      rw (own_kind, own_length, back) refl

-- ---- the identity of an EPC has no more than its key and its serial

own_kept : (code : List ℕ) (pair : Pair) (none : Bool) → pair.code ≡ code
    → filter (is_coded code) (if none then [] else pair ∷ []) ≡ (if none then [] else pair ∷ [])
own_kept code pair true same = refl
own_kept code pair false same = rw (same, same_bytes code) refl

serial_kept : (ais : List AiRow) (at : SerialAt) (key : Pair) (serial : List ℕ)
    → key_and_serial at (elements_with key (serial_elements ais at serial) []) ≡ elements_with key (serial_elements ais at serial) []
serial_kept ais Nowhere key serial = refl
serial_kept ais Tail key serial = refl
serial_kept ais (Ai code) key serial =
    ap (λ (q : List Pair). elements_with key q []) (own_kept code (record { code = code; value = serial }) (stands_for_none ais (record { code = code; value = serial })) refl)

narrowed_laid : (set : TableRows) (epc : Epc) (identity : Elements) → IsShaped set → IsLaidOut set epc identity → narrowed set identity ≡ identity
narrowed_laid set epc identity shaped laid =
    let first = first_kind set epc.kind laid.kind shaped laid.named in
    let found : find (targets.has_key laid.kind.key) set.kinds ≡ Some laid.kind = find_at_place (targets.has_key laid.kind.key) set.kinds epc.kind laid.kind first laid.named in
    rw (laid.laid, found) (serial_kept set.ais laid.kind.serial (key_pair set.ais laid.kind (fields_in epc)) (fields_in epc).serial)

kept_laid : (set : TableRows) (keys_only : Bool) (epc : Epc) (identity : Elements) → IsShaped set → IsLaidOut set epc identity
    → epc_meaning epc identity ≡ kept set keys_only (epc_meaning epc identity)
kept_laid set true epc identity shaped laid = ap (epc_meaning epc) (sym (narrowed_laid set epc identity shaped laid))
kept_laid set false epc identity shaped laid = refl

-- the pairs of the slice of a serial, with no attributes after them
pub listed : (slice : List Pair) (serial : Option Pair) → MatchOption serial (slice ≡ []) (λ pair. slice ≡ pair ∷ []) → slice ++ [] ≡ pairs_in serial
listed slice None e = append-nil slice ∙ e
listed slice (Some pair) e = append-nil slice ∙ e

-- ---- translations

-- what is appended as the spelling of the EPC of a text is the translation of the text, also if only keys are kept
pub translated : {Done : Type 0} (set : TableRows) (prefixes : List PrefixEntry) (options : Options) (from : LevelName) (to : Target) (text : List ℕ) (epc : Epc) (before now : List ℕ) (result : Result Done Reason)
    → IsShaped set → length text ≤ longest_text → ReadsText set from text (Ok epc) → IsOfSet set epc
    → ((identity : Elements) → IsLaidOut set epc identity → UnlessMemory result (AppendsText (IsSpelling set prefixes options to (epc_meaning epc identity)) before now result))
    → UnlessMemory result (AppendsText (IsTranslation set prefixes options (form_at from) to text) before now result)
translated set prefixes options from to text epc before now result shaped few read of spelled =
    let kind = fit_kind set epc shaped of in
    let elements = lay set.ais kind.0 (fields_in epc) in
    let laid : IsLaidOut set epc elements = record { kind = kind.0; named = kind.1; laid = refl } in
    let meaning = epc_meaning epc elements in
    let whole : UnlessMemory result (AppendsText (IsSpelling set prefixes options to (kept set options.keys_only meaning)) before now result) = subst (λ (m : Meaning). UnlessMemory result (AppendsText (IsSpelling set prefixes options to m) before now result)) (kept_laid set options.keys_only epc elements shaped laid) (spelled elements laid) in
    then_appended (IsRead set (form_at from) text) (λ m. IsSpelling set prefixes options to (kept set options.keys_only m)) meaning before now result (short few (means_at set from text epc elements read laid)) whole

-- why a text is not read is why it has no translation
not_read : (set : TableRows) (prefixes : List PrefixEntry) (options : Options) (from : LevelName) (to : Target) (text : List ℕ)
    (error : EpcFault) → length text ≤ longest_text → ReadsText set from text (Err error) → UnlessMemory {X = List ℕ}
    (Err (epc_reason error)) (IsTranslation set prefixes options (form_at from) to text (Err (epc_reason error)))
not_read set prefixes options from to text error few read =
    unless_rejected Meaning (List ℕ) (epc_reason error) (λ said. rejects (epc_reason error) (short few said) refl) (none_read set from text error read)

pub not_appended : (set : TableRows) (prefixes : List PrefixEntry) (options : Options) (from : LevelName) (to : Target)
    (text before : List ℕ) (error : EpcFault) → length text ≤ longest_text → ReadsText set from text (Err error)
    → UnlessMemory {X = Unit {0}} (Err (epc_reason error)) (AppendsText {Done = Unit {0}} (IsTranslation set prefixes options (form_at from) to text) before before (Err (epc_reason error)))
not_appended set prefixes options from to text before error few read =
    unless_rejected (List ℕ) (Unit {0}) {B = AppendsText {Done = Unit {0}} (IsTranslation set prefixes options (form_at from) to text) before before (Err (epc_reason error))} (epc_reason error) (λ said. (refl, said)) (not_read set prefixes options from to text error few read)
