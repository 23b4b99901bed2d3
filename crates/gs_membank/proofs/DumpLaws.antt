-- Bits are at most one dump, and rejected bits are not a dump.
use Rattle.std.proofs.Common.{◌≡◌, ◌%◌, ◌^◌, ◌<◌, ℕ, Bool, true, false, List, ◌∷◌, length, take, drop, Err, refl, sym, ap, ap₂, ◌∙◌, arith}
use Rattle.std.proofs.lemmas.List.{drop_at, take_at}
use Rattle.gs_chars.proofs.TruthsAndLists.{same_at}
use Rattle.gs_bits.specs.Bits.{bits_of, number_of}
use Rattle.gs_bits.specs.BitLaws.{length-bits_of, number_of-bits_of}
use Rattle.gs_bits.specs.HexText.{bits_of_hex}
use Rattle.gs_grammar.specs.Derivations.{Derivation}
use Rattle.gs_grammar.proofs.OneReading.{one_reading}
use Rattle.gs_tables_document.specs.declared.document.LevelName.{LevelName}
use Rattle.gs_tables_document.specs.declared.document.LevelName.TheVariants.{Binary}
use Rattle.gs_tables.specs.Tables.{TableRows, level_rows}
use Rattle.gs_epc.specs.declared.epc.Epc.{Epc}
use Rattle.gs_epc.specs.Epcs.{epc_of, options_of}
use Rattle.gs_epc.specs.Readings.{IsHex, Says}
use Rattle.gs_membank.specs.declared.dump.ControlWord.{ControlWord}
use Rattle.gs_membank.specs.declared.dump.Dump.{Dump}
use Rattle.gs_membank.specs.declared.error.DumpFault.{DumpFault}
use Rattle.gs_membank.specs.declared.error.DumpFault.TheVariants.{Hex, NoWord, Extended, Toggle, Words, NoReading, Memory}
use Rattle.gs_membank.specs.Answers.{IsBank, IsBankError, ReadsDump, word_of}
use Rattle.gs_membank.specs.Banks.{BeginsWith, bit_of, control_bits}
use Rattle.gs_membank.proofs.ControlLemmas.{behind_length, behind_word, word_length}
use Rattle.gs_membank.proofs.HeadLemmas.{never_both}

-- ---- bits begin with one control word

same_number : (n a b : ℕ) → a < 2 ^ n → b < 2 ^ n → bits_of n a ≡ bits_of n b → a % 2 ^ n ≡ b % 2 ^ n
same_number n a b small other e = sym (number_of-bits_of n a) ∙ ap number_of e ∙ number_of-bits_of n b

pub bit_same : (a b : Bool) → bit_of a ≡ bit_of b → a ≡ b
bit_same true true e = refl
bit_same true false e = absurd (omega arith)
bit_same false true e = absurd (omega arith)
bit_same false false e = refl

abbrev word_by : ℕ → Bool → Bool → Bool → ℕ → ControlWord
word_by words user extended toggle attributes = record { words = words; user = user; extended = extended; toggle = toggle; attributes = attributes }

equal_words : (a b c d : ℕ) (u v e f t s : Bool) → a ≡ b → u ≡ v → e ≡ f → t ≡ s → c ≡ d → word_by a u e t c ≡ word_by b v f s d
equal_words a b c d u v e f t s p q r x y = rw (p, q, r, x, y) refl

abbrev flags_of : ControlWord → List ℕ
flags_of word = bit_of word.user ∷ bit_of word.extended ∷ bit_of word.toggle ∷ bits_of 8 word.attributes

same_word : (one other : ControlWord) → one.words < 32 → other.words < 32 → one.attributes < 256 → other.attributes < 256
    → control_bits one ≡ control_bits other → one ≡ other
same_word one other w v a b same =
    let front : bits_of 5 one.words ≡ bits_of 5 other.words =
    sym (take_at (bits_of 5 one.words) (flags_of one) 5 (length-bits_of 5 one.words)) ∙ ap (take 5) same ∙ take_at (bits_of 5 other.words)
    (flags_of other) 5 (length-bits_of 5 other.words) in
    let back : flags_of one ≡ flags_of other =
    sym (drop_at (bits_of 5 one.words) (flags_of one) 5 (length-bits_of 5 one.words)) ∙ ap (drop 5) same ∙ drop_at (bits_of 5 other.words)
    (flags_of other) 5 (length-bits_of 5 other.words) in
    let user : bit_of one.user ≡ bit_of other.user = cc in
    let extended : bit_of one.extended ≡ bit_of other.extended = cc in
    let toggle : bit_of one.toggle ≡ bit_of other.toggle = cc in
    let last : bits_of 8 one.attributes ≡ bits_of 8 other.attributes = cc in
    let words = same_number 5 one.words other.words (omega arith) (omega arith) front in
    let attributes = same_number 8 one.attributes other.attributes (omega arith) (omega arith) last in
    equal_words one.words other.words one.attributes other.attributes one.user other.user one.extended other.extended one.toggle other.toggle (omega arith) (bit_same one.user other.user user) (bit_same one.extended other.extended extended) (bit_same one.toggle other.toggle toggle) (omega arith)

pub one_word : (bits behind rest : List ℕ) (one other : ControlWord) → BeginsWith bits one behind → BeginsWith bits other rest → (one ≡ other) × (behind ≡ rest)
one_word bits behind rest one other first second =
    let bits_one : take 16 bits ≡ control_bits one = ap (take 16) first.joined ∙ take_at (control_bits one) behind 16 (word_length one) in
    let bits_other : take 16 bits ≡ control_bits other = ap (take 16) second.joined ∙ take_at (control_bits other) rest 16 (word_length other) in
    (same_word one other first.words second.words first.attributes second.attributes (sym bits_one ∙ bits_other), sym (behind_word bits behind one first) ∙ behind_word bits rest other second)

-- ---- symbols say one EPC

pub one_epc : (set : TableRows) (level : LevelName) (symbols : List ℕ) (one other : Epc) → Says set level symbols one
    → Says set level symbols other → one ≡ other
one_epc set level symbols one other a b =
    let read = one_reading (options_of level set) symbols a.option b.option a.values b.values a.read b.read in
    let info = same_at (level_rows level set).info a.option b.option a.info b.info a.said b.said read.0 in
    a.fields ∙ ap₂ epc_of info read.1 ∙ sym b.fields

-- ---- bits are one dump

abbrev dump_by : Bool → ℕ → Epc → Dump
dump_by user attributes epc = record { user = user; attributes = attributes; epc = epc }

pub equal_dumps : (u v : Bool) (a b : ℕ) (e f : Epc) → u ≡ v → a ≡ b → e ≡ f → dump_by u a e ≡ dump_by v b f
equal_dumps u v a b e f p q r = rw (p, q, r) refl

pub one_bank : (set : TableRows) (bits : List ℕ) (one other : Dump) → IsBank set bits one → IsBank set bits other → one ≡ other
one_bank set bits one other a b =
    let same = one_word bits a.encoding b.encoding (word_of a.words one) (word_of b.words other) a.begins b.begins in
    let says : Says set Binary b.encoding one.epc = rw same.1 at a.says in
    equal_dumps one.user other.user one.attributes other.attributes one.epc other.epc (ap (λ (w : ControlWord). w.user) same.0)
    (ap (λ (w : ControlWord). w.attributes) same.0) (one_epc set Binary b.encoding one.epc other.epc says b.says)

-- ---- rejected bits are not a dump

bank_rejected : (set : TableRows) (bits : List ℕ) (error : DumpFault) (dump : Dump) → IsBankError set bits error → IsBank set bits dump → ⊥
bank_rejected set bits (Hex e) dump bad bank = bad.reason
bank_rejected set bits NoWord dump bad bank = bad.reason
bank_rejected set bits Extended dump bad bank =
    let same = one_word bits bad.behind bank.encoding bad.word (word_of bank.words dump) bad.begins bank.begins in
    let e : true ≡ false = sym bad.reason ∙ ap (λ (w : ControlWord). w.extended) same.0 in
    cc
bank_rejected set bits Toggle dump bad bank =
    let same = one_word bits bad.behind bank.encoding bad.word (word_of bank.words dump) bad.begins bank.begins in
    let e : true ≡ false = sym bad.reason.1 ∙ ap (λ (w : ControlWord). w.toggle) same.0 in
    cc
bank_rejected set bits (Words said count) dump bad bank =
    let same = one_word bits bad.behind bank.encoding bad.word (word_of bank.words dump) bad.begins bank.begins in
    let words : bad.word.words ≡ bank.words = ap (λ (w : ControlWord). w.words) same.0 in
    let size : length bad.behind ≡ length bank.encoding = ap length same.1 in
    let whole = bank.size in
    bad.reason.3 (omega arith)
bank_rejected set bits NoReading dump bad bank =
    let same = one_word bits bad.behind bank.encoding bad.word (word_of bank.words dump) bad.begins bank.begins in
    let derived : Derivation (options_of Binary set) bad.behind = rw same.1 bank.says.read.derivation in
    bad.reason.2 derived
bank_rejected set bits Memory dump bad bank = bad.reason

pub no_dump : (set : TableRows) (text : List ℕ) (error : DumpFault) (dump : Dump) → ReadsDump set text (Err error) → (error ≡ Memory → ⊥)
    → IsHex text → IsBank set (bits_of_hex text) dump → ⊥
no_dump set text (Hex e) dump bad some hex bank = never_both text e bad hex
no_dump set text NoWord dump bad some hex bank =
    let whole = behind_length (bits_of_hex text) bank.encoding (word_of bank.words dump) bank.begins in
    let short = bad.1 in
    absurd (omega arith)
no_dump set text Extended dump bad some hex bank = bank_rejected set (bits_of_hex text) Extended dump bad.1 bank
no_dump set text Toggle dump bad some hex bank = bank_rejected set (bits_of_hex text) Toggle dump bad.1 bank
no_dump set text (Words said count) dump bad some hex bank = bank_rejected set (bits_of_hex text) (Words said count) dump bad.1 bank
no_dump set text NoReading dump bad some hex bank = bank_rejected set (bits_of_hex text) NoReading dump bad.1 bank
no_dump set text Memory dump bad some hex bank = some refl
