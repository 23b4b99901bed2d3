-- A dump that is read is written as its text in upper case.
use Rattle.std.proofs.Common.{◌≡◌, ◌==◌, ◌&&◌, ◌||◌, ◌%◌, ◌*◌, ◌<◌, ℕ, not, true, false, List, [], ◌∷◌, ◌++◌, length, map, All, Some, slice_get, unwrap_or, bytes_eq, refl, sym, ap, ◌∙◌, arith}
use Rattle.std.specs.Char.{to_ascii_uppercase}
use Rattle.std.specs.List.{AllPass, concat}
use Rattle.std.proofs.lemmas.Bool.Decides.{nat_tests}
use Rattle.std.proofs.lemmas.List.Elements.{All-head, All-tail}
use Rattle.gs_ai.specs.Tables.{is_empty}
use Rattle.gs_chars.specs.Escapes.{hex_digit, hex_value}
use Rattle.gs_chars.proofs.TruthsAndLists.{and_first, equal_bytes, or_true, same_bytes, same_number}
use Rattle.gs_bits.specs.Bits.{AreBits, number_of}
use Rattle.gs_bits.specs.HexText.{bits_of_hex, hex_of_bits, is_hex_digit}
use Rattle.gs_grammar.specs.declared.item.Item.{Item}
use Rattle.gs_grammar.specs.Derivations.{EachWord, no_item, one_item}
use Rattle.gs_grammar.specs.Items.{size_of_all}
use Rattle.gs_grammar.specs.WrittenWords.{written}
use Rattle.gs_grammar.proofs.WordLaws.{none_bad}
use Rattle.gs_tables_document.specs.declared.document.Field.TheVariants.{Filter}
use Rattle.gs_tables_document.specs.declared.document.LevelName.TheVariants.{Binary}
use Rattle.gs_tables_document.specs.declared.document.OptInfo.{OptInfo}
use Rattle.gs_tables_document.specs.Items.{FieldItem, alone}
use Rattle.gs_tables.specs.Judgements.{IsLoaded}
use Rattle.gs_tables.specs.KeptRules.{KeptOption}
use Rattle.gs_tables.specs.Rules.{is_filter, is_one, items_of_field, keeps_level}
use Rattle.gs_tables.specs.Tables.{IsShaped, TableRows, level_rows}
use Rattle.gs_tables.proofs.KeptSets.{options_kept}
use Rattle.gs_epc.specs.Candidates.{is_candidate}
use Rattle.gs_epc.specs.Epcs.{epc_of, options_of}
use Rattle.gs_epc.specs.Readings.{IsHex}
use Rattle.gs_epc.specs.Writes.{Writes}
use Rattle.gs_epc.proofs.HexRead.{hex_digits, written_bits}
use Rattle.gs_epc.proofs.Tries.{as_many}
use Rattle.gs_membank.specs.declared.dump.Dump.{Dump}
use Rattle.gs_membank.specs.Answers.{IsBank, WrittenDump, word_of}
use Rattle.gs_membank.specs.Banks.{control_bits}
use Rattle.gs_membank.proofs.ControlLemmas.{word_length}
use Rattle.gs_membank.proofs.FieldsAgain.{nothing_left_out, values_again}
use Rattle.gs_membank.proofs.FullWords.{InBounds, full_words, words_held}
use Rattle.gs_membank.proofs.OneOption.{one_option}
use Rattle.gs_bits.proofs.HexBits.{hex_of_four}
use Rattle.std.proofs.lemmas.Bool.{and_from, and_parts, not-true}

-- ---- digits in upper case

record IsUpper (c : ℕ) : Type 0 where
  small : unwrap_or (hex_value c) 0 < 16
  digit : hex_digit (unwrap_or (hex_value c) 0) ≡ to_ascii_uppercase c

digit_again : (c : ℕ) → is_hex_digit c ≡ true → IsUpper c
digit_again c h = record { small = grind (arith, nat_tests); digit = grind (arith, nat_tests) }

upper_again : (text : List ℕ) → AllPass is_hex_digit text → hex_of_bits (bits_of_hex text) ≡ map to_ascii_uppercase text
upper_again [] all = refl
upper_again (c ∷ text) all =
    let first = digit_again c (All-head (λ x. is_hex_digit x ≡ true) c text all) in
    let rest = upper_again text (All-tail (λ x. is_hex_digit x ≡ true) c text all) in
    let small = first.small in
    let value : unwrap_or (hex_value c) 0 % 16 ≡ unwrap_or (hex_value c) 0 = omega arith in
    hex_of_four (unwrap_or (hex_value c) 0) (bits_of_hex text) ∙ rw (value, first.digit, rest) refl

digits_joined : (first second : List ℕ) → length first % 4 ≡ 0 → hex_of_bits (first ++ second) ≡ hex_of_bits first ++ hex_of_bits second
digits_joined [] second whole = refl
digits_joined (a ∷ []) second whole = absurd (omega arith)
digits_joined (a ∷ b ∷ []) second whole = absurd (omega arith)
digits_joined (a ∷ b ∷ c ∷ []) second whole = absurd (omega arith)
digits_joined (a ∷ b ∷ c ∷ d ∷ first) second whole = ap (λ w. hex_digit (number_of (a ∷ b ∷ c ∷ d ∷ [])) ∷ w) (digits_joined first second (omega arith))

-- ---- the option that was read is the first that writes

encoding_named : (encoding : List ℕ) (parts : List FieldItem) → keeps_level Binary encoding parts ≡ true → is_empty encoding ≡ false
unfolding keeps_level
encoding_named encoding parts h =
    let front = and_first (not (is_empty encoding) && is_one is_filter (items_of_field Filter parts)) (size_of_all (alone parts) % 16 == 0) h in
    not-true (is_empty encoding) (and_first (not (is_empty encoding)) (is_one is_filter (items_of_field Filter parts)) front)

passes_again : (info : OptInfo) (values : List (List ℕ)) → is_candidate Binary (epc_of info values) info ≡ true
passes_again info values =
    and_from ((info.kind == info.kind) && (info.gcp == info.gcp)) (is_empty info.encoding || bytes_eq info.encoding info.encoding)
    (and_from (info.kind == info.kind) (info.gcp == info.gcp) (same_number info.kind) (same_number info.gcp))
    (or_true (is_empty info.encoding) (bytes_eq info.encoding info.encoding) (same_bytes info.encoding))

record IsSame (one other : OptInfo) : Type 0 where
  kind : one.kind ≡ other.kind
  encoding : one.encoding ≡ other.encoding
  gcp : one.gcp ≡ other.gcp

same_option : (one other : OptInfo) (values : List (List ℕ)) → is_empty other.encoding ≡ false
    → is_candidate Binary (epc_of other values) one ≡ true → IsSame one other
same_option one other values named passes =
    let parts = and_parts ((one.kind == other.kind) && (one.gcp == other.gcp)) (is_empty other.encoding || bytes_eq other.encoding one.encoding) passes in
    let numbers = and_parts (one.kind == other.kind) (one.gcp == other.gcp) parts.0 in
    let kind = numbers.0 in
    let gcp = numbers.1 in
    let asked : bytes_eq other.encoding one.encoding ≡ true = rw named at parts.1 in
    record { kind = grind (arith, nat_tests); encoding = sym (equal_bytes other.encoding one.encoding asked); gcp = grind (arith, nat_tests) }

as_many_values : (items : List Item) (values words : List (List ℕ)) → EachWord items values words → length items ≡ length values
as_many_values _ _ _ no_item = refl
as_many_values _ _ _ (one_item item value w items values words word each) = let rest = as_many_values items values words each in omega arith

writes_again : (set : TableRows) (option : ℕ) (items : List Item) (info : OptInfo) (values words : List (List ℕ)) → IsShaped set
    → slice_get (options_of Binary set) option ≡ Some items → slice_get (level_rows Binary set).info option ≡ Some info
    → (kept : KeptOption set Binary items info) → EachWord items values words → All InBounds items → Writes set Binary (epc_of info values)
    (hex_of_bits (written items values))
writes_again set option items info values words shaped at said kept each all =
    let count = as_many set Binary items info kept ∙ as_many_values items values words each in
    let same = values_again set items info values words kept each count in
    let named = encoding_named info.encoding kept.parts kept.of_level in
    record {
      option = option;
      candidate = record { items = items; info = info; of_level = at; said = said; passes = passes_again info values };
      holds = record { held = rw same (words_held items values words all each); whole = nothing_left_out info values };
      first = λ i other low holds.
          let is = same_option other.info info values named other.passes in
          one_option set i option other.info info shaped other.said said low is.kind is.encoding is.gcp;
      text_is = ap (λ v. hex_of_bits (written items v)) (sym same);
    }

pub read_again : (set : TableRows) (text : List ℕ) (dump : Dump) → IsLoaded set → IsHex text → (bank : IsBank set (bits_of_hex text) dump)
    → size_of_all bank.says.read.derivation.items ≡ 16 * bank.words → WrittenDump set dump (map to_ascii_uppercase text)
read_again set text dump loaded hex bank size =
    let says = bank.says in
    let d = says.read.derivation in
    let at = rw says.read.of_option at d.of_level in
    let kept = options_kept set Binary loaded.shaped says.option d.items says.info at says.said in
    let each = rw says.read.of_values at d.derives.each in
    let all = none_bad true d.items kept.bounds.none_bad in
    let said = bank.size in
    let joined : length (concat d.words) ≡ length bank.encoding = ap length d.derives.joined in
    let full : bank.encoding ≡ written d.items says.values = sym d.derives.joined ∙ full_words d.items says.values d.words all each (omega arith) in
    let made = writes_again set says.option d.items says.info says.values d.words loaded.shaped at says.said kept each all in
    let written : Writes set Binary dump.epc (hex_of_bits bank.encoding) = rw (says.fields, full) made in
    let bits : AreBits bank.encoding = rw full (written_bits d.items says.values kept.bounds.none_bad) in
    let digits = hex_digits bank.encoding bits (omega arith) in
    let each_four = digits.count in
    let word = word_of bank.words dump in
    let sixteen = word_length word in
    let few = bank.begins.words in
    record {
      encoding = hex_of_bits bank.encoding;
      words = bank.words;
      written = written;
      size = omega arith;
      few = omega arith;
      text_is = sym (upper_again text hex.digits) ∙ ap hex_of_bits bank.begins.joined ∙ digits_joined (control_bits word) bank.encoding (omega arith);
    }
