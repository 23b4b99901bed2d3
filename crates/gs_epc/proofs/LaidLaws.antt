-- Laying out undoes taking apart: the fields of an identity of the table are laid out to it.
use Rattle.std.proofs.Common.{◌≡◌, ℕ, ◌++◌, true, List, [], map, Some, None, find, slice_get, refl, sym, ap, ◌∙◌}
use Rattle.std.specs.List.{filter_map}
use Rattle.std.specs.Option.{option_map, option_map_or}
use Rattle.std.proofs.lemmas.List.Elements.{All-head}
use Rattle.std.proofs.lemmas.Option.{slice_get-map}
use Rattle.gs_chars.proofs.TruthsAndLists.{none_behind, none_in_front, mapped_some as mapped}
use Rattle.gs_ai.specs.declared.pair.Pair.{Pair}
use Rattle.gs_ai.specs.declared.row.AiRow.{AiRow}
use Rattle.gs_ai.specs.Tables.{KeepsRules, are_distinct, is_row, table_errors}
use Rattle.gs_ai.specs.Values.{has_code, parts_error, value_error}
use Rattle.gs_ai.proofs.RowLemmas.{listed, row_parts}
use Rattle.gs_ident.specs.Elements.{Elements, pairs_of}
use Rattle.gs_ident.specs.Identities.{IsInOrder, IsMadeWith, counted, elements_of, pair_with}
use Rattle.gs_ident.proofs.IdentityLemmas.{made_facts}
use Rattle.gs_tables_document.specs.declared.document.Document.{Document}
use Rattle.gs_tables_document.specs.declared.error.LoadFault.TheVariants.{Ai as AiFault}
use Rattle.gs_tables_document.specs.declared.document.Kind.{Kind}
use Rattle.gs_tables_document.specs.declared.document.SerialAt.{SerialAt}
use Rattle.gs_tables_document.specs.declared.document.SerialAt.TheVariants.{Nowhere, Tail, Ai}
use Rattle.gs_tables_document.specs.declared.document.LevelName.TheVariants.{Binary, Tag, Pure}
use Rattle.gs_tables.specs.KeptRules.{KeptKind}
use Rattle.gs_tables.specs.Tables.{IsShaped, TableRows, kind_of, kinds_rejections, level_rejections, limit_rejections, row_rejections}
use Rattle.gs_tables.proofs.KeptRows.{kind_at}
use Rattle.gs_epc.specs.declared.epc.Epc.{Epc}
use Rattle.gs_epc.specs.Layout.{IsLaidOut, lay, parts_at, serial_elements}
use Rattle.gs_epc.specs.KeyParts.{IsOfKind, epc_at, epc_of_key, serial_in, take_apart, fields_at}
use Rattle.gs_epc.proofs.LaidAgain.{key_again, parts_kept}
use Rattle.gs_epc.proofs.LaidSets.{AllOf, are_one, is_tail, no_pairs, own_element}
use Rattle.gs_ident.proofs.KeyPairs.{found_place}
use Rattle.gs_ident.proofs.MovedPairs.{row_distinct}

-- ---- the kinds of a set satisfy the rules

pub no_kinds : (document : Document) → row_rejections document ≡ [] → kinds_rejections document.ais document.kinds ≡ []
unfolding row_rejections
no_kinds document none =
    let levels = level_rejections document.ais document.kinds Binary document.binary ++ (level_rejections document.ais document.kinds Tag document.tag ++ level_rejections document.ais document.kinds Pure document.pure) in
    let behind = none_behind (limit_rejections document) (map AiFault (table_errors document.ais) ++ (kinds_rejections document.ais document.kinds ++ levels)) none in
    none_in_front (kinds_rejections document.ais document.kinds) levels
    (none_behind (map AiFault (table_errors document.ais)) (kinds_rejections document.ais document.kinds ++ levels) behind)

kept_kind : (set : TableRows) (i : ℕ) (row : Kind) → IsShaped set → slice_get set.kinds i ≡ Some row → KeptKind set.ais row
kept_kind set i row shaped at =
    let here : slice_get (map (kind_of shaped.document.ais) shaped.document.kinds) i ≡ Some row = rw shaped.made at at in
    let kind = mapped (kind_of shaped.document.ais) (slice_get shaped.document.kinds i) row (sym (slice_get-map (kind_of shaped.document.ais) shaped.document.kinds i) ∙ here) in
    let kept = kind_at shaped.document.ais shaped.document.kinds i kind.0 (no_kinds shaped.document shaped.in_order) kind.1 in
    rw (shaped.made, ← kind.2) kept

-- ---- the qualifiers

-- the qualifiers are the pairs that are found by the codes that the key's row lists
found_by_codes : (ais : List AiRow) (identity : Elements) (row : AiRow) → IsMadeWith ais identity
    → find (has_code identity.key.code) ais ≡ Some row
    → identity.qualifiers ≡ filter_map (pair_with (counted ais (pairs_of identity))) row.qualifiers
unfolding elements_of
found_by_codes ais identity row made found =
    let facts = made_facts ais (counted ais (pairs_of identity)) identity made.given_back in
    let key : identity.key ≡ facts.key = ap (λ (e : Elements). e.key) facts.elements in
    let row_is : find (has_code facts.key.code) ais ≡ Some row = rw key at found in
    let lists : option_map_or (λ (r : AiRow). r.qualifiers) (find (has_code facts.key.code) ais) [] ≡ row.qualifiers = rw row_is refl in
    ap (λ (e : Elements). e.qualifiers) facts.elements ∙ ap (filter_map (pair_with (counted ais (pairs_of identity)))) lists

qualifiers_are : (ais : List AiRow) (row : AiRow) (at : SerialAt) (serial : List ℕ) (identity : Elements)
    → identity.qualifiers ≡ filter_map (pair_with (counted ais (pairs_of identity))) row.qualifiers → are_distinct row.qualifiers ≡ true
    → ((i : ℕ) (pair : Pair) → slice_get identity.qualifiers i ≡ Some pair → at ≡ Ai pair.code)
    → serial_in ais row.parts at identity ≡ Some serial → identity.qualifiers ≡ serial_elements ais at serial
qualifiers_are ais row Nowhere serial identity found distinct all e = no_pairs identity.qualifiers (λ i pair at. let f = all i pair at in cc)
qualifiers_are ais row Tail serial identity found distinct all e = no_pairs identity.qualifiers (λ i pair at. let f = all i pair at in cc)
qualifiers_are ais row (Ai code) serial identity found distinct all e =
    let own : AllOf code identity.qualifiers = λ i pair at. let f = all i pair at in cc in
    let one = are_one ais (pairs_of identity) code row.qualifiers distinct (rw found at own) in
    own_element ais row.parts code serial identity (rw found one) e

-- ---- the identity

equal_elements : (identity : Elements) (key : Pair) (qualifiers : List Pair) → identity.key ≡ key → identity.qualifiers ≡ qualifiers
    → identity.attributes ≡ [] → identity ≡ record { key = key; qualifiers = qualifiers; attributes = [] }
equal_elements identity key qualifiers a b c = rw (← a, ← b, ← c) refl

equal_pair : (pair : Pair) (code value : List ℕ) → pair.code ≡ code → pair.value ≡ value → pair ≡ record { code = code; value = value }
equal_pair pair code value a b = rw (← a, ← b) refl

pub again : (ais : List AiRow) (kind : Kind) (n : ℕ) (serial : List ℕ) (identity : Elements) → KeepsRules ais → KeptKind ais kind
    → IsOfKind kind identity → IsMadeWith ais identity → serial_in ais (parts_at ais kind.key) kind.serial identity ≡ Some serial
    → identity ≡ lay ais kind (fields_at (parts_at ais kind.key) kind n identity.key.value serial)
again ais kind n serial identity rules kept of made e =
    let row = kept.row in
    let parts : parts_at ais kind.key ≡ row.parts = rw kept.found refl in
    let serial_is : serial_in ais row.parts kind.serial identity ≡ Some serial = rw parts at e in
    let place = found_place (has_code kind.key) ais row kept.found in
    let in_order : is_row row ≡ true = (rules.rows_in_order place.0 row place.1).0 in
    let fits = (All-head (IsInOrder ais) identity.key _ made.in_order).fits in
    let key_fits : value_error ais kind.key identity.key.value ≡ None = rw of.key at fits in
    let no_error : parts_error row.parts identity.key.value ≡ None = rw kept.found at key_fits in
    let tail = is_tail ais row kept.form row.parts kind.serial serial identity kept.serial serial_is in
    let value = key_again row.parts kept.form kind n identity.key.value serial kept.formed kept.lead kept.further (listed row.parts (row_parts row in_order)) (parts_kept row.parts identity.key.value no_error) tail in
    let found : find (has_code identity.key.code) ais ≡ Some row = rw of.key kept.found in
    let qualifiers = qualifiers_are ais row kind.serial serial identity (found_by_codes ais identity row made found) (row_distinct row in_order) of.qualifiers serial_is in
    rw parts (equal_elements identity _ _ (equal_pair identity.key _ _ of.key (sym value)) qualifiers of.attributes)

pub laid_again : (set : TableRows) (kind n : ℕ) (row : Kind) (identity : Elements) (epc : Epc) → IsShaped set → KeepsRules set.ais
    → slice_get set.kinds kind ≡ Some row → IsOfKind row identity → IsMadeWith set.ais identity → epc_at set kind identity n ≡ Some epc
    → IsLaidOut set epc identity
laid_again set kind n row identity epc shaped rules named of made e =
    let taken : option_map (epc_of_key kind n) (take_apart set.ais row identity n) ≡ Some epc = rw named at e in
    let fields = mapped (epc_of_key kind n) (take_apart set.ais row identity n) epc taken in
    let serial = mapped _ (serial_in set.ais (parts_at set.ais row.key) row.serial identity) fields.0 fields.1 in
    let laid = again set.ais row n serial.0 identity rules (kept_kind set kind row shaped named) of made serial.1 in
    rw (← fields.2, ← serial.2) (record { kind = row; named = named; laid = laid })
