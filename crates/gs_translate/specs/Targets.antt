-- The conditions for writing an identity as a tag or an EPC URI: TDS 2.0, section 7 (correspondence between EPCs and GS1 keys).
-- The reasons and their order are this project's own.
use Rattle.std.specs.Prelude.{ℕ, ◌≤◌, ◌==◌, ◌&&◌, ◌||◌, not, Bool, true, false, if◌then◌else◌, List, ◌++◌, find, IfSome, is_none, position, slice_get, take_while, Option, Result, Ok, Err, bytes_eq}
use Rattle.std.specs.List.{list_any}
use Rattle.std.specs.Option.{option_map_or, option_or}
use Rattle.gs_ai.specs.declared.pair.Pair.{Pair}
use Rattle.gs_ai.specs.Tables.{is_empty}
use Rattle.gs_chars.specs.Characters.{is_digit}
use Rattle.gs_tables_document.specs.declared.document.Kind.{Kind}
use Rattle.gs_tables_document.specs.declared.document.SerialAt.{SerialAt}
use Rattle.gs_tables_document.specs.declared.document.SerialAt.TheVariants.{Nowhere, Tail, Ai}
use Rattle.gs_tables_document.specs.declared.document.LevelName.{LevelName}
use Rattle.gs_tables_document.specs.declared.document.LevelName.TheVariants.{Binary, Tag, Pure}
use Rattle.gs_tables_document.specs.declared.document.OptInfo.{OptInfo}
use Rattle.gs_epc.specs.declared.epc.Epc.{Epc}
use Rattle.gs_epc.specs.KeyParts.{epc_at, value_from_prefix}
use Rattle.gs_ident.specs.Elements.{Elements, key_alone, with_qualifier}
use Rattle.gs_prefix.specs.declared.entry.PrefixEntry.{PrefixEntry}
use Rattle.gs_prefix.specs.Lengths.{prefix_length}
use Rattle.gs_tables.specs.Tables.{TableRows}
use Rattle.gs_translate.specs.declared.form.FieldName.TheVariants.{Gcp, Serial, Filter}
use Rattle.gs_translate.specs.declared.reader.Meaning.{Meaning}
use Rattle.gs_translate.specs.declared.form.Options.{Options}
use Rattle.gs_translate.specs.declared.reason.Reason.{Reason}
use Rattle.gs_translate.specs.declared.reason.Reason.TheVariants.{NoKind, Extra, Missing, NoOption}

-- ---- the kind of a key

-- trusted, own: holds if the key of `kind` has the code `code`
abbrev pub has_key : List ℕ → Kind → Bool
has_key code kind = bytes_eq code kind.key

-- trusted, own: holds if `pair` is the serial, in a separate element
abbrev pub is_serial : SerialAt → Pair → Bool
is_serial (Ai code) pair = bytes_eq code pair.code
is_serial Nowhere pair = false
is_serial Tail pair = false

-- ---- narrowing

-- trusted, own: the key with its serial, if that is a separate element; such an element is a key qualifier
abbrev pub key_and_serial : SerialAt → Elements → Elements
key_and_serial (Ai code) identity = with_qualifier code identity
key_and_serial Nowhere identity = key_alone identity
key_and_serial Tail identity = key_alone identity

-- trusted, own: the identity with only its key kept, by the kind of the key; just the key if it is of no kind
abbrev pub narrowed : TableRows → Elements → Elements
narrowed set identity =
    option_map_or (λ (kind : Kind). key_and_serial kind.serial identity) (find (has_key identity.key.code) set.kinds) (key_alone identity)

-- trusted, own: the meaning, narrowed if only keys are kept
abbrev pub kept : TableRows → Bool → Meaning → Meaning
kept set true meaning = record meaning { identity = narrowed set meaning.identity }
kept set false meaning = meaning

-- ---- rejections in steps

-- trusted, own: the value if there is one, otherwise the reason
abbrev pub else_rejected : {X : Type 0} → Reason → Option X → Result X Reason
else_rejected reason found = option_map_or Ok found (Err reason)

-- trusted, own: the step after an answer, which is made unless that rejects
abbrev pub and_then : {A B : Type 0} → Result A Reason → (A → Result B Reason) → Result B Reason
and_then (Ok a) next = next a
and_then (Err reason) next = Err reason

-- ---- the key

-- trusted, own: the first pair that no EPC says: neither the key nor the serial
abbrev pub extra_pair : SerialAt → Elements → Option Pair
extra_pair serial identity = find (λ pair. not (is_serial serial pair)) (identity.qualifiers ++ identity.attributes)

-- trusted, own: the index, unless the identity has a pair that no EPC of the kind says
abbrev pub unless_extra : Elements → ℕ → Kind → Result ℕ Reason
unless_extra identity i kind = option_map_or (λ (pair : Pair). Err (Extra pair.code)) (extra_pair kind.serial identity) (Ok i)

-- trusted, own: the kind of the key, by its index
abbrev pub kind_for : TableRows → Elements → Result ℕ Reason
kind_for set identity =
    and_then (else_rejected NoKind (position (has_key identity.key.code) set.kinds)) (λ i.
    and_then (else_rejected NoKind (slice_get set.kinds i)) (unless_extra identity i))

-- ---- the length of the company prefix

-- trusted, own: the digits in which the value of the key goes on from the company prefix, up to the first byte that is not a
-- digit
abbrev pub digits_from_prefix : TableRows → ℕ → List ℕ → List ℕ
digits_from_prefix set kind value = take_while is_digit (value_from_prefix set kind value)

-- trusted, own: the length that the text gives, otherwise that of the options, otherwise that of the list
abbrev pub known_length : TableRows → List PrefixEntry → Options → Meaning → ℕ → Option ℕ
known_length set prefixes options meaning kind =
    option_or meaning.gcp (option_or options.gcp (prefix_length prefixes (digits_from_prefix set kind meaning.identity.key.value)))

-- trusted, own: holds if the option `info` is of the kind `kind` and the company prefix length `n`
abbrev pub is_option_of : ℕ → ℕ → OptInfo → Bool
is_option_of kind n info = (info.kind == kind) && (info.gcp == n)

-- trusted, own: holds if an option of any level is of the kind `kind` and the company prefix length `n`
abbrev pub has_option : TableRows → ℕ → ℕ → Bool
has_option set kind n =
    list_any (is_option_of kind n) set.binary.info || list_any (is_option_of kind n) set.tag.info || list_any (is_option_of kind n) set.pure.info

-- trusted, own: the company prefix length, if there is an option of this length
abbrev pub length_for : TableRows → List PrefixEntry → Options → Meaning → ℕ → Result ℕ Reason
length_for set prefixes options meaning kind =
    and_then (else_rejected (Missing Gcp) (known_length set prefixes options meaning kind)) (λ n.
    if has_option set kind n then Ok n else Err NoOption)

-- ---- the facts of a tag apart from its key

-- trusted, own: holds if `filter` is nothing or a filter value of 0 to 7
abbrev pub FitsFilter : Option ℕ → Type 0
FitsFilter filter = IfSome filter (λ number. number ≤ 7)

-- trusted, own: the filter value that the text gives, otherwise that of the options
abbrev pub filter_for : Options → Meaning → Option ℕ
filter_for options meaning = option_or meaning.filter options.filter

-- trusted, own: holds if there is no filter value, and the level is not that of pure identities
abbrev pub lacks_filter : LevelName → Option ℕ → Bool
lacks_filter Pure filter = false
lacks_filter Tag filter = is_none filter
lacks_filter Binary filter = is_none filter

-- trusted, own: the encoding of the options, otherwise that of the text
abbrev pub encoding_for : Options → Meaning → List ℕ
encoding_for options meaning = if is_empty options.encoding then meaning.encoding else options.encoding

-- trusted, own: the EPC with the encoding and the filter value of a tag
abbrev pub with_tag : Options → LevelName → Meaning → Epc → Result Epc Reason
with_tag options level meaning epc =
    if lacks_filter level (filter_for options meaning) then Err (Missing Filter)
    else Ok (record epc { encoding = encoding_for options meaning; filter = filter_for options meaning })

-- ---- the EPC

-- trusted, TDS 2.0, section 7; the order is own: The EPC that is written of a meaning as a tag or an EPC URI, or the first
-- reason why there is none. The reasons: the key has no kind; a pair is neither the key nor the serial; the company prefix
-- length is missing. Further: no option of any level has it; the serial is missing; a filter value is missing.
abbrev pub epc_for : TableRows → List PrefixEntry → Options → LevelName → Meaning → Result Epc Reason
epc_for set prefixes options level meaning =
    and_then (kind_for set meaning.identity) (λ kind.
    and_then (length_for set prefixes options meaning kind) (λ n.
    and_then (else_rejected (Missing Serial) (epc_at set kind meaning.identity n)) (with_tag options level meaning)))
