-- The control word at the start of a hexadecimal text, and the digits after it.
use Rattle.std.proofs.Common.{◌≡◌, ◌≤◌, ℕ, true, false, List, length, drop, slice_index, Ok, Err, ap₂, ◌∙◌, arith, subst}
use Rattle.std.proofs.lemmas.List.{length-drop}
use Rattle.std.proofs.lemmas.List.Elements.{All-drop, All-get_or}
use Rattle.gs_bits.specs.declared.errors.HexFault.{HexFault}
use Rattle.gs_bits.specs.declared.errors.HexFault.TheVariants.{OddDigits, Full, BadDigit}
use Rattle.gs_bits.specs.HexText.{bits_of_hex, is_hex_digit}
use Rattle.gs_tables_document.specs.declared.document.LevelName.TheVariants.{Binary}
use Rattle.gs_tables.specs.Tables.{TableRows}
use Rattle.gs_epc.specs.declared.epc.Epc.{Epc}
use Rattle.gs_epc.specs.declared.error.EpcFault.{EpcFault}
use Rattle.gs_epc.specs.declared.error.EpcFault.TheVariants.{Hex as HexOf, NoReading as NoEpc}
use Rattle.gs_epc.specs.Readings.{IsHex, IsHexFault, ReadsHex, Says}
use Rattle.gs_membank.specs.declared.dump.ControlWord.{ControlWord}
use Rattle.gs_membank.specs.declared.error.DumpFault.{DumpFault}
use Rattle.gs_membank.specs.declared.error.DumpFault.TheVariants.{Hex, NoWord, Extended, Toggle, Words, NoReading, Memory}
use Rattle.gs_membank.specs.Answers.{IsWordError, ReadsDump}
use Rattle.gs_membank.specs.AnswersSupport.{IsHeadOf}
use Rattle.gs_membank.specs.Banks.{BeginsWith, IsPlain}
use Rattle.gs_membank.proofs.ControlLemmas.{behind_length, behind_word}
use Rattle.gs_membank.proofs.DumpTexts.{hex_behind, hex_length}

-- ---- a control word that is rejected

pub word_rejected : (set : TableRows) (text behind : List ℕ) (word : ControlWord) (error : DumpFault) → IsHex text
    → BeginsWith (bits_of_hex text) word behind → IsWordError set word behind error → ReadsDump set text (Err error)
word_rejected set text behind word (Hex error) hex begins reason = absurd reason
word_rejected set text behind word NoWord hex begins reason = absurd reason
word_rejected set text behind word Extended hex begins reason = (hex, record { word = word; behind = behind; begins = begins; reason = reason })
word_rejected set text behind word Toggle hex begins reason = (hex, record { word = word; behind = behind; begins = begins; reason = reason })
word_rejected set text behind word (Words said bits) hex begins reason = (hex, record { word = word; behind = behind; begins = begins; reason = reason })
word_rejected set text behind word NoReading hex begins reason = (hex, record { word = word; behind = behind; begins = begins; reason = reason })
word_rejected set text behind word Memory hex begins reason = tt

-- ---- the digits after the word

pub head_long : (text : List ℕ) (word : ControlWord) → IsHeadOf text word → 4 ≤ length text
head_long text word head =
    let whole = behind_length (bits_of_hex text) head.behind word head.begins in
    let count = hex_length text in
    omega arith

behind_bits : (text : List ℕ) (word : ControlWord) → (head : IsHeadOf text word) → bits_of_hex (drop 4 text) ≡ head.behind
behind_bits text word head = hex_behind text (head_long text word head) ∙ behind_word (bits_of_hex text) head.behind word head.begins

hex_drop : (text : List ℕ) → IsHex text → 4 ≤ length text → IsHex (drop 4 text)
hex_drop text hex long =
    let count = length-drop 4 text in
    let even = hex.even in
    let short = hex.short in
    record { even = omega arith; short = omega arith; digits = All-drop (λ x. is_hex_digit x ≡ true) 4 text hex.digits }

no_bad_digit : (text : List ℕ) (place : ℕ) → IsHexFault text (BadDigit place) → IsHex text → ⊥
no_bad_digit text place bad hex =
    let is : is_hex_digit (slice_index text place) ≡ true = All-get_or (λ x. is_hex_digit x ≡ true) text place 0 bad.2.within hex.digits in
    let none : false ≡ true = rw bad.2.bad at is in
    cc

pub never_both : (text : List ℕ) (error : HexFault) → IsHexFault text error → IsHex text → ⊥
never_both text OddDigits odd hex = let even = hex.even in absurd (omega arith)
never_both text Full full hex = let short = hex.short in let long = full.1 in absurd (omega arith)
never_both text (BadDigit place) bad hex = no_bad_digit text place bad hex

-- the digits after the word are hexadecimal
pub never_hex : (set : TableRows) (text rest : List ℕ) (word : ControlWord) (answer : EpcFault) (error : HexFault) → IsHeadOf text word
    → rest ≡ drop 4 text → answer ≡ HexOf error → ReadsHex set rest (Err answer) → ⊥
never_hex set text rest word answer error head same is read =
    let reads : EpcFault → Type 0 = λ e. ReadsHex set rest (Err e) in
    let bad : IsHexFault rest error = subst reads is read in
    never_both (drop 4 text) error (rw same at bad) (hex_drop text head.hex (head_long text word head))

plain_same : (word : ControlWord) → IsPlain word → word ≡ record { words = word.words; user = word.user; extended = false; toggle = false; attributes = word.attributes }
plain_same word plain = ap₂ (λ e t. record word { extended = e; toggle = t }) plain.extended plain.toggle

pub bank_read : (set : TableRows) (text : List ℕ) (word : ControlWord) (epc : Epc) → IsHeadOf text word → ReadsHex set (drop 4 text)
    (Ok epc) → ReadsDump set text (Ok (record { user = word.user; attributes = word.attributes; epc = epc }))
bank_read set text word epc head read =
    let says : Says set Binary head.behind epc = rw (behind_bits text word head) at read.1 in
    let begins_with : ControlWord → Type 0 = λ w. BeginsWith (bits_of_hex text) w head.behind in
    let begins = subst begins_with (plain_same word head.plain) head.begins in
    (head.hex, record { words = word.words; encoding = head.behind; begins = begins; size = head.whole; says = says })

pub none_read : (set : TableRows) (text rest : List ℕ) (word : ControlWord) (answer : EpcFault) → IsHeadOf text word → rest ≡ drop 4 text
    → answer ≡ NoEpc → ReadsHex set rest (Err answer) → ReadsDump set text (Err NoReading)
none_read set text rest word answer head same is read =
    let reads : EpcFault → Type 0 = λ e. ReadsHex set rest (Err e) in
    let none : ReadsHex set rest (Err NoEpc) = subst reads is read in
    let behind : ReadsHex set (drop 4 text) (Err NoEpc) = rw same at none in
    word_rejected set text head.behind word NoReading head.hex head.begins (head.plain, head.whole, rw (behind_bits text word head) at behind.1)
