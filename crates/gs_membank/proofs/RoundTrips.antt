-- The text and the line of a dump are read as that dump.
use Rattle.std.proofs.Common.{◌≡◌, ◌+◌, ◌/◌, ◌%◌, ◌<◌, ℕ, Bool, true, false, List, ◌∷◌, ◌++◌, length, Some, Ok, sym, ap, ◌∙◌, arith, length-append}
use Rattle.std.proofs.lemmas.List.Elements.{All-append, All-cons}
use Rattle.gs_chars.specs.Escapes.{hex_digit, hex_value}
use Rattle.gs_bits.specs.Bits.{AreBits, bits_of}
use Rattle.gs_bits.specs.BitLaws.{AreBits-bits_of}
use Rattle.gs_bits.specs.HexText.{bits_of_hex, hex_of_bits, is_hex_digit}
use Rattle.gs_tables_document.specs.declared.document.LevelName.TheVariants.{Binary, Tag}
use Rattle.gs_tables.specs.Judgements.{IsLoaded}
use Rattle.gs_tables.specs.Tables.{TableRows}
use Rattle.gs_epc.specs.Candidates.{HasFilter}
use Rattle.gs_epc.specs.Epcs.{IsOfSet}
use Rattle.gs_epc.specs.Readings.{IsHex, Says}
use Rattle.gs_epc.specs.Writes.{same_fields}
use Rattle.gs_epc.proofs.HexRead.{hex_digits, hex_read}
use Rattle.gs_epc.proofs.ReadLaws.{read_back}
use Rattle.gs_membank.specs.declared.dump.ControlWord.{ControlWord}
use Rattle.gs_membank.specs.declared.dump.Dump.{Dump}
use Rattle.gs_membank.specs.Answers.{IsShown, ReadsDump, ShownDump, WrittenDump, word_of}
use Rattle.gs_membank.specs.Banks.{bit_of, control_bits}
use Rattle.gs_membank.specs.ShownLines.{IsShownStart}
use Rattle.gs_membank.proofs.ControlLemmas.{word_length}
use Rattle.gs_membank.proofs.DumpLaws.{bit_same}
use Rattle.gs_membank.proofs.DumpTexts.{hex_joined, hex_length}
use Rattle.gs_membank.proofs.FilterLemmas.{names_encoding, same_in_bits, same_in_tags}
use Rattle.gs_chars.proofs.Spellings.{digit_reads}

-- ---- the digits of a control word

flag_small : (set : Bool) → bit_of set < 2
flag_small true = omega arith
flag_small false = omega arith

word_bits : (word : ControlWord) → AreBits (control_bits word)
word_bits word =
    All-append (λ b. b < 2) (bits_of 5 word.words) (bit_of word.user ∷ bit_of word.extended ∷ bit_of word.toggle ∷ bits_of 8 word.attributes) (AreBits-bits_of 5 word.words)
    (All-cons (λ b. b < 2) (bit_of word.user) (bit_of word.extended ∷ bit_of word.toggle ∷ bits_of 8 word.attributes) (flag_small word.user)
    (All-cons (λ b. b < 2) (bit_of word.extended) (bit_of word.toggle ∷ bits_of 8 word.attributes) (flag_small word.extended)
    (All-cons (λ b. b < 2) (bit_of word.toggle) (bits_of 8 word.attributes) (flag_small word.toggle) (AreBits-bits_of 8 word.attributes))))

-- ---- a dump that is written

pub dump_back : (set : TableRows) (dump : Dump) (text : List ℕ) → IsLoaded set → IsOfSet set dump.epc → HasFilter dump.epc.filter
    → dump.attributes < 256 → WrittenDump set dump text → ReadsDump set text (Ok dump)
dump_back set dump text loaded of has attributes w =
    let word = word_of w.words dump in
    let front = hex_of_bits (control_bits word) in
    let whole : length (control_bits word) % 4 ≡ 0 = ap (λ n. n % 4) (word_length word) in
    let digits = hex_digits (control_bits word) (word_bits word) whole in
    let back = read_back set Binary dump.epc w.encoding loaded has w.written in
    let same = same_in_bits dump.epc w.written.candidate.info w.written.candidate.passes (names_encoding set dump.epc loaded.shaped of has) in
    let says : Says set Binary (bits_of_hex w.encoding) dump.epc = rw same at back.1 in
    let hex : IsHex w.encoding = back.0 in
    let count : length text ≡ length front + length w.encoding = ap length w.text_is ∙ length-append front w.encoding in
    let four = digits.count in
    let sixteen = word_length word in
    let size = w.size in
    let few = w.few in
    let all = hex_length w.encoding in
    let read : bits_of_hex text ≡ control_bits word ++ bits_of_hex w.encoding =
    ap bits_of_hex w.text_is ∙ hex_joined front w.encoding ∙ ap (λ bits. bits ++ bits_of_hex w.encoding)
    (hex_read (control_bits word) (word_bits word) whole) in (
      record {
        even = omega arith;
        short = omega arith;
        digits = rw w.text_is (All-append (λ x. is_hex_digit x ≡ true) front w.encoding digits.digits hex.digits);
      },
      record {
        words = w.words;
        encoding = bits_of_hex w.encoding;
        begins = record { words = omega arith; attributes = attributes; joined = read };
        size = omega arith;
        says = says;
      },
    )

-- ---- a line that is shown

pub shown_back : (set : TableRows) (dump : Dump) (text : List ℕ) → IsLoaded set → IsOfSet set dump.epc → HasFilter dump.epc.filter
    → dump.attributes < 256 → ShownDump set dump text → IsShown set text dump
shown_back set dump text loaded of has attributes w =
    let back : Says set Tag w.tag (same_fields Tag w.written.candidate.info dump.epc) = read_back set Tag dump.epc w.tag loaded has w.written in
    let same = same_in_tags dump.epc w.written.candidate.info w.written.candidate.passes (names_encoding set dump.epc loaded.shaped of has) in
    let says : Says set Tag w.tag dump.epc = rw same at back in
    record {
      rest = w.tag;
      start = record {
        high = hex_digit (dump.attributes / 16);
        low = hex_digit (dump.attributes % 16);
        high_value = dump.attributes / 16;
        low_value = dump.attributes % 16;
        high_digit = digit_reads (dump.attributes / 16) (omega arith);
        low_digit = digit_reads (dump.attributes % 16) (omega arith);
        number = omega arith;
        joined = w.text_is;
      };
      says = says;
    }

-- ---- a text begins as one line

pub one_start : (text rest behind : List ℕ) (user other : Bool) (attributes others : ℕ) → IsShownStart text user attributes rest
    → IsShownStart text other others behind → (user ≡ other) × (attributes ≡ others) × (rest ≡ behind)
one_start text rest behind user other attributes others a b =
    let same : 117 ∷ (48 + bit_of user) ∷ 32 ∷ 97 ∷ a.high ∷ a.low ∷ 32 ∷ rest ≡ 117 ∷ (48 + bit_of other) ∷ 32 ∷ 97 ∷ b.high ∷ b.low ∷ 32 ∷ behind = sym a.joined ∙ b.joined in
    let digit : 48 + bit_of user ≡ 48 + bit_of other = cc in
    let high : a.high ≡ b.high = cc in
    let low : a.low ≡ b.low = cc in
    let first : Some a.high_value ≡ Some b.high_value = sym a.high_digit ∙ ap hex_value high ∙ b.high_digit in
    let second : Some a.low_value ≡ Some b.low_value = sym a.low_digit ∙ ap hex_value low ∙ b.low_digit in
    let first' : a.high_value ≡ b.high_value = cc in
    let second' : a.low_value ≡ b.low_value = cc in
    let number = a.number in
    let number' = b.number in
    (bit_same user other (omega arith), omega arith, cc)
