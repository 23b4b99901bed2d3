-- The fields of an option of a set by the values of a derivation.
use Rattle.std.proofs.Common.{◌≡◌, ℕ, ◌*◌, ◌<◌, List, length, Some, slice_get, get_or, refl, ap, ◌∙◌, arith}
use Rattle.std.proofs.lemmas.List.{length-map}
use Rattle.std.specs.Prelude.{◌%◌, ◌↔◌, IfSome, IsOk, Result, Ok, Err}
use Rattle.std.specs.List.{AllPass}
use Rattle.std.proofs.lemmas.Option.{slice_get_within}
use Rattle.gs_chars.proofs.TruthsAndLists.{read_at}
use Rattle.gs_bits.specs.HexText.{bits_of_hex, is_hex_digit}
use Rattle.gs_bits.specs.declared.errors.HexFault.{HexFault}
use Rattle.gs_bits.specs.declared.errors.HexFault.TheVariants.{OddDigits, Full}
use Rattle.gs_grammar.specs.declared.item.Item.{Item}
use Rattle.gs_grammar.specs.Derivations.{EachWord, OneDerivation}
use Rattle.gs_grammar.specs.Levels.{OptionForm}
use Rattle.gs_tables_document.specs.declared.document.Field.TheVariants.{Filter}
use Rattle.gs_tables_document.specs.declared.document.LevelName.{LevelName}
use Rattle.gs_tables_document.specs.declared.document.LevelName.TheVariants.{Binary}
use Rattle.gs_tables_document.specs.declared.document.OptInfo.{OptInfo}
use Rattle.gs_tables.specs.Tables.{IsShaped, TableRows, level_rows}
use Rattle.gs_tables.proofs.KeptSets.{as_many_said, options_kept}
use Rattle.gs_epc.specs.declared.epc.Epc.{Epc}
use Rattle.gs_epc.specs.declared.error.EpcFault.{EpcFault}
use Rattle.gs_epc.specs.declared.error.EpcFault.TheVariants.{Hex, NoReading, Memory}
use Rattle.gs_epc.specs.Epcs.{IsOfSet, epc_of, options_of, value_at}
use Rattle.gs_epc.specs.Filters.{IsFilter}
use Rattle.gs_epc.specs.Readings.{IsHex, ReadsAs, ReadsHex, Says}
use Rattle.gs_epc.proofs.FieldRules.{filter_kept}

-- an option holds the values, and these are its facts
pub record IsSaid (set : TableRows) (level : LevelName) (option : ℕ) (values : List (List ℕ)) (info : OptInfo) : Type 0 where
  pub items : List Item
  pub words : List (List ℕ)
  pub of_level : slice_get (options_of level set) option ≡ Some items
  pub said : slice_get (level_rows level set).info option ≡ Some info
  pub held : EachWord items values words

-- ---- an option and its facts

pub as_many : (set : TableRows) (level : LevelName) → IsShaped set → length (options_of level set) ≡ length (level_rows level set).info
as_many set level shaped = length-map (level_rows level set).level.options (λ (option : OptionForm). option.items) ∙ as_many_said set level shaped

-- the option of a derivation has facts
pub option_low : (set : TableRows) (level : LevelName) (symbols : List ℕ) (option : ℕ) (values : List (List ℕ)) (infos : List OptInfo)
    → IsShaped set → OneDerivation (options_of level set) symbols option values → infos ≡ (level_rows level set).info
    → option < length infos
option_low set level symbols option values infos shaped one rows =
    let d = one.derivation in
    let place = one.of_option in
    let low = slice_get_within (options_of level set) d.option d.items d.of_level in
    let same = as_many set level shaped in
    let count = ap length rows in
    omega arith

pub said_of : (set : TableRows) (level : LevelName) (symbols : List ℕ) (option : ℕ) (values : List (List ℕ)) (infos : List OptInfo) (info : OptInfo)
    → IsShaped set → OneDerivation (options_of level set) symbols option values → infos ≡ (level_rows level set).info
    → info ≡ get_or infos option info → IsSaid set level option values info
said_of set level symbols option values infos info shaped one rows read =
    let d = one.derivation in
    let low = option_low set level symbols option values infos shaped one rows in
    record {
      items = d.items;
      words = d.words;
      of_level = rw one.of_option at d.of_level;
      said = rw rows at (read_at infos option info low read);
      held = rw one.of_values at d.derives.each;
    }

-- ---- its filter

pub filter_of_said : (set : TableRows) (level : LevelName) (option : ℕ) (values : List (List ℕ)) (info : OptInfo) → IsShaped set
    → IsSaid set level option values info → IfSome (value_at Filter info.fields values) IsFilter
filter_of_said set level option values info shaped h =
    filter_kept set level h.items info values h.words (options_kept set level shaped option h.items info h.of_level h.said) h.held

-- ---- its fields

pub of_set : (set : TableRows) (level : LevelName) (option : ℕ) (values : List (List ℕ)) (info : OptInfo) (epc : Epc)
    → IsSaid set level option values info → epc ≡ epc_of info values → IsOfSet set epc
of_set set level option values info epc h fields =
    record { level = level; option = option; items = h.items; info = info; values = values; words = h.words; of_level = h.of_level; said = h.said; held = h.held; fields = fields }

pub says : (set : TableRows) (level : LevelName) (symbols : List ℕ) (option : ℕ) (values : List (List ℕ)) (info : OptInfo) (epc : Epc)
    → IsSaid set level option values info → OneDerivation (options_of level set) symbols option values → epc ≡ epc_of info values
    → Says set level symbols epc
says set level symbols option values info epc h one fields = record { option = option; values = values; info = info; read = one; said = h.said; fields = fields }

-- ---- the answer to a text of digits

pub is_hex : (text bits : List ℕ) (made : Result (List ℕ) HexFault) → made ≡ Ok bits → ((made ≡ Err OddDigits) ↔ (length text % 2 ≡ 1))
    → ((made ≡ Err Full) ↔ ((length text % 2 ≡ 0) × (2 * 64 < length text))) → (IsOk made → AllPass is_hex_digit text) → IsHex text
is_hex text bits made is odd full digits =
    let not_odd : length text % 2 ≡ 1 → ⊥ = λ h. let e = odd.1 h in cc in
    let even : length text % 2 ≡ 0 = omega arith in
    let not_full : 2 * 64 < length text → ⊥ = λ h. let e = full.1 (even, h) in cc in
    record { even = even; short = omega arith; digits = digits (rw is refl) }

pub hex_answer : (set : TableRows) (text bits : List ℕ) (answer : Result Epc EpcFault) → IsHex text → bits ≡ bits_of_hex text
    → ReadsAs set Binary bits answer → ReadsHex set text answer
hex_answer set text bits (Ok epc) hex e h = (hex, rw e at h)
hex_answer set text bits (Err NoReading) hex e h = (hex, rw e at h)
hex_answer set text bits (Err Memory) hex e h = tt
hex_answer set text bits (Err (Hex error)) hex e h = absurd h
