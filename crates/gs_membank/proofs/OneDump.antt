-- A text has one answer as a dump.
use Rattle.std.proofs.Common.{◌≡◌, ◌-◌, ◌*◌, ◌<◌, ◌≤◌, ℕ, Bool, true, false, List, [], ◌∷◌, length, take, drop, unwrap_or, refl, sym, ap, ◌∙◌, inl, inr, arith}
use Rattle.std.specs.Prelude.{◌≢◌, Result, Ok, Err}
use Rattle.std.proofs.lemmas.Bool.{cases_eq}
use Rattle.std.proofs.lemmas.Bool.Decides.{leb_tells}
use Rattle.std.proofs.lemmas.List.{length-drop}
use Rattle.std.proofs.lemmas.List.Elements.{All-append, All-drop, All-nil}
use Rattle.gs_chars.specs.Escapes.{hex_value}
use Rattle.gs_bits.specs.Bits.{AreBits, bits_of, number_of}
use Rattle.gs_bits.specs.BitLaws.{AreBits-bits_of}
use Rattle.gs_bits.specs.HexText.{bits_of_hex}
use Rattle.gs_bits.specs.declared.errors.HexFault.{HexFault}
use Rattle.gs_bits.specs.declared.errors.HexFault.TheVariants.{OddDigits, Full, BadDigit}
use Rattle.gs_bits.proofs.HexBits.{first_bad_same}
use Rattle.gs_tables.specs.Tables.{TableRows}
use Rattle.gs_epc.specs.declared.epc.Epc.{Epc}
use Rattle.gs_epc.specs.declared.error.EpcFault.{EpcFault}
use Rattle.gs_epc.specs.declared.error.EpcFault.TheVariants as epc
use Rattle.gs_epc.specs.Readings.{IsHex, IsHexFault, ReadsHex}
use Rattle.gs_membank.specs.declared.dump.ControlWord.{ControlWord}
use Rattle.gs_membank.specs.declared.dump.Dump.{Dump}
use Rattle.gs_membank.specs.declared.error.DumpFault.{DumpFault}
use Rattle.gs_membank.specs.declared.error.DumpFault.TheVariants as reading
use Rattle.gs_membank.specs.Answers.{IsBankError, IsWordError, ReadsDump}
use Rattle.gs_membank.specs.AnswersSupport.{IsHeadOf}
use Rattle.gs_membank.specs.Banks.{BeginsWith, IsPlain}
use Rattle.gs_membank.proofs.ControlLemmas.{behind_length, taken_joined, taken_small, word_taken, word_with}
use Rattle.gs_membank.proofs.DumpLaws.{no_dump, one_bank, one_word}
use Rattle.gs_membank.proofs.HeadLemmas.{bank_read, never_both, never_hex, none_read, word_rejected}

-- some answer is known, and is not that memory ran out
abbrev pub SomeKnown : {A E : Type 0} → E → (Result A E → Type 0) → Type 0
SomeKnown {A = A} {E = E} memory Answer = (answer : Result A E) × (answer ≢ Err memory) × Answer answer

-- ---- dumps that are read: at most one answer

clash : (b : Bool) → b ≡ true → b ≡ false → ⊥
clash b p q = let e : true ≡ false = sym p ∙ q in cc

same_word_error : (set : TableRows) (word : ControlWord) (behind : List ℕ) (error other : DumpFault) → IsWordError set word behind error
    → IsWordError set word behind other → error ≡ other
same_word_error set word behind reading.Extended reading.Extended a b = refl
same_word_error set word behind reading.Extended reading.Toggle a b = absurd (clash word.extended a b.0)
same_word_error set word behind reading.Extended (reading.Words said bits) a b = absurd (clash word.extended a b.0.extended)
same_word_error set word behind reading.Extended reading.NoReading a b = absurd (clash word.extended a b.0.extended)
same_word_error set word behind reading.Toggle reading.Extended a b = absurd (clash word.extended b a.0)
same_word_error set word behind reading.Toggle reading.Toggle a b = refl
same_word_error set word behind reading.Toggle (reading.Words said bits) a b = absurd (clash word.toggle a.1 b.0.toggle)
same_word_error set word behind reading.Toggle reading.NoReading a b = absurd (clash word.toggle a.1 b.0.toggle)
same_word_error set word behind (reading.Words said bits) reading.Extended a b = absurd (clash word.extended b a.0.extended)
same_word_error set word behind (reading.Words said bits) reading.Toggle a b = absurd (clash word.toggle b.1 a.0.toggle)
same_word_error set word behind (reading.Words said bits) (reading.Words said' bits') a b = rw (a.1, a.2, b.1, b.2) refl
same_word_error set word behind (reading.Words said bits) reading.NoReading a b = absurd (a.3 b.1)
same_word_error set word behind reading.NoReading reading.Extended a b = absurd (clash word.extended b a.0.extended)
same_word_error set word behind reading.NoReading reading.Toggle a b = absurd (clash word.toggle b.1 a.0.toggle)
same_word_error set word behind reading.NoReading (reading.Words said bits) a b = absurd (b.3 a.1)
same_word_error set word behind reading.NoReading reading.NoReading a b = refl
same_word_error set word behind (reading.Hex error) other a b = absurd a
same_word_error set word behind reading.NoWord other a b = absurd a
same_word_error set word behind reading.Memory other a b = absurd a
same_word_error set word behind error (reading.Hex other) a b = absurd b
same_word_error set word behind error reading.NoWord a b = absurd b
same_word_error set word behind error reading.Memory a b = absurd b

same_bank_error : (set : TableRows) (bits : List ℕ) (error other : DumpFault) → IsBankError set bits error → IsBankError set bits other → error ≡ other
same_bank_error set bits error other a b =
    let same = one_word bits a.behind b.behind a.word b.word a.begins b.begins in
    let moved : IsWordError set b.word b.behind error = rw (same.0, same.1) at a.reason in
    same_word_error set b.word b.behind error other moved b.reason

same_hex_error : (text : List ℕ) (error other : HexFault) → IsHexFault text error → IsHexFault text other → error ≡ other
same_hex_error text OddDigits OddDigits f g = refl
same_hex_error text OddDigits Full f g = absurd (let even = g.0 in omega arith)
same_hex_error text OddDigits (BadDigit place) f g = absurd (let even = g.0 in omega arith)
same_hex_error text Full OddDigits f g = absurd (let even = f.0 in omega arith)
same_hex_error text Full Full f g = refl
same_hex_error text Full (BadDigit place) f g = absurd (let long = f.1 in let short = g.1 in omega arith)
same_hex_error text (BadDigit place) OddDigits f g = absurd (let even = f.0 in omega arith)
same_hex_error text (BadDigit place) Full f g = absurd (let short = f.1 in let long = g.1 in omega arith)
same_hex_error text (BadDigit place) (BadDigit place') f g = ap BadDigit (first_bad_same text place place' f.2 g.2)

-- why a text is not a dump: it is not a hexadecimal text, is shorter than a control word, or its bits are not a dump
data DumpCase (set : TableRows) (text : List ℕ) (error : DumpFault) : Type 0 where
  no_hex : (fault : HexFault) → error ≡ reading.Hex fault → IsHexFault text fault → DumpCase set text error
  no_word : error ≡ reading.NoWord → IsHex text → length (bits_of_hex text) < 16 → DumpCase set text error
  no_bank : IsHex text → IsBankError set (bits_of_hex text) error → DumpCase set text error

dump_case : (set : TableRows) (text : List ℕ) (error : DumpFault) → error ≢ reading.Memory → ReadsDump set text (Err error) → DumpCase set text error
dump_case set text (reading.Hex fault) t r = no_hex fault refl r
dump_case set text reading.NoWord t r = no_word refl r.0 r.1
dump_case set text reading.Extended t r = no_bank r.0 r.1
dump_case set text reading.Toggle t r = no_bank r.0 r.1
dump_case set text (reading.Words said bits) t r = no_bank r.0 r.1
dump_case set text reading.NoReading t r = no_bank r.0 r.1
dump_case set text reading.Memory t r = absurd (t refl)

short_bank : (set : TableRows) (bits : List ℕ) (error : DumpFault) → length bits < 16 → IsBankError set bits error → ⊥
short_bank set bits error few bad = let whole = behind_length bits bad.behind bad.word bad.begins in omega arith

same_case : (set : TableRows) (text : List ℕ) (error other : DumpFault) → DumpCase set text error → DumpCase set text other → error ≡ other
same_case set text error other (no_hex f e a) (no_hex g e' b) = e ∙ ap reading.Hex (same_hex_error text f g a b) ∙ sym e'
same_case set text error other (no_hex f e a) (no_word e' hex less) = absurd (never_both text f a hex)
same_case set text error other (no_hex f e a) (no_bank hex bad) = absurd (never_both text f a hex)
same_case set text error other (no_word e hex less) (no_hex f e' a) = absurd (never_both text f a hex)
same_case set text error other (no_word e hex less) (no_word e' hex' less') = e ∙ sym e'
same_case set text error other (no_word e hex less) (no_bank hex' bad) = absurd (short_bank set (bits_of_hex text) other less bad)
same_case set text error other (no_bank hex bad) (no_hex f e a) = absurd (never_both text f a hex)
same_case set text error other (no_bank hex bad) (no_word e hex' less) = absurd (short_bank set (bits_of_hex text) error less bad)
same_case set text error other (no_bank hex bad) (no_bank hex' bad') = same_bank_error set (bits_of_hex text) error other bad bad'

pub one_dump : (set : TableRows) (text : List ℕ) (one other : Result Dump DumpFault) → one ≢ Err reading.Memory → other ≢ Err reading.Memory
    → ReadsDump set text one → ReadsDump set text other → one ≡ other
one_dump set text (Ok dump) (Ok dump') t u a b = ap Ok (one_bank set (bits_of_hex text) dump dump' a.1 b.1)
one_dump set text (Ok dump) (Err error) t u a b = absurd (no_dump set text error dump b (λ e. u (ap Err e)) a.0 a.1)
one_dump set text (Err error) (Ok dump) t u a b = absurd (no_dump set text error dump a (λ e. t (ap Err e)) b.0 b.1)
one_dump set text (Err error) (Err other) t u a b =
    ap Err (same_case set text error other (dump_case set text error (λ e. t (ap Err e)) a) (dump_case set text other (λ e. u (ap Err e)) b))

-- ---- dumps that are read: an answer

hex_bits : (text : List ℕ) → AreBits (bits_of_hex text)
hex_bits [] = All-nil (λ b. b < 2)
hex_bits (c ∷ text) = All-append (λ b. b < 2) (bits_of 4 (unwrap_or (hex_value c) 0)) (bits_of_hex text) (AreBits-bits_of 4 (unwrap_or (hex_value c) 0)) (hex_bits text)

-- 16 bits or more begin with a control word
word_there : (b0 : List ℕ) → AreBits b0 → 16 ≤ length b0 → (word : ControlWord) × (behind : List ℕ) × BeginsWith b0 word behind
word_there b0 are0 long =
    let b1 : List ℕ = drop 5 b0 in
    let b2 : List ℕ = drop 1 b1 in
    let b3 : List ℕ = drop 1 b2 in
    let b4 : List ℕ = drop 1 b3 in
    let b5 : List ℕ = drop 8 b4 in
    let l1 : length b1 ≡ length b0 - 5 = length-drop 5 b0 in
    let l2 : length b2 ≡ length b1 - 1 = length-drop 1 b1 in
    let l3 : length b3 ≡ length b2 - 1 = length-drop 1 b2 in
    let l4 : length b4 ≡ length b3 - 1 = length-drop 1 b3 in
    let are1 : AreBits b1 = All-drop (λ b. b < 2) 5 b0 are0 in
    let are2 : AreBits b2 = All-drop (λ b. b < 2) 1 b1 are1 in
    let are3 : AreBits b3 = All-drop (λ b. b < 2) 1 b2 are2 in
    let are4 : AreBits b4 = All-drop (λ b. b < 2) 1 b3 are3 in
    let r0 : 5 ≤ length b0 = omega arith in
    let r1 : 1 ≤ length b1 = omega arith in
    let r2 : 1 ≤ length b2 = omega arith in
    let r3 : 1 ≤ length b3 = omega arith in
    let r4 : 8 ≤ length b4 = omega arith in
    let w : ℕ = number_of (take 5 b0) in
    let u : ℕ = number_of (take 1 b1) in
    let e : ℕ = number_of (take 1 b2) in
    let t : ℕ = number_of (take 1 b3) in
    let a : ℕ = number_of (take 8 b4) in (
      word_with w u e t a,
      b5,
      word_taken w u e t a b0 b1 b2 b3 b4 b5
          (taken_small 5 w b0 are0 r0 refl) (taken_small 1 u b1 are1 r1 refl) (taken_small 1 e b2 are2 r2 refl)
          (taken_small 1 t b3 are3 r3 refl) (taken_small 8 a b4 are4 r4 refl)
          (record {
            words_are = taken_joined 5 w b0 b1 are0 r0 refl refl;
            user_is = taken_joined 1 u b1 b2 are1 r1 refl refl;
            extended_is = taken_joined 1 e b2 b3 are2 r2 refl refl;
            toggle_is = taken_joined 1 t b3 b4 are3 r3 refl refl;
            attributes_are = taken_joined 8 a b4 b5 are4 r4 refl refl;
          }),
    )

abbrev SomeDump : TableRows → List ℕ → Type 0
SomeDump set text = SomeKnown reading.Memory (ReadsDump set text)

dump_enough : (dump : Dump) → Ok dump ≡ Err reading.Memory → ⊥
dump_enough dump e = cc

module _ (set : TableRows) (text : List ℕ) (whole : SomeKnown epc.Memory (ReadsHex set text)) (behind : SomeKnown epc.Memory (ReadsHex set (drop 4 text))) where
  behind_read : (word : ControlWord) → IsHeadOf text word → (said : Result Epc EpcFault) → said ≢ Err epc.Memory
      → ReadsHex set (drop 4 text) said → SomeDump set text
  behind_read word head (Ok e) t r = (Ok (record { user = word.user; attributes = word.attributes; epc = e }), dump_enough _, bank_read set text word e head r)
  behind_read word head (Err epc.NoReading) t r = (Err reading.NoReading, (λ e. cc), none_read set text (drop 4 text) word epc.NoReading head refl refl r)
  behind_read word head (Err (epc.Hex fault)) t r = absurd (never_hex set text (drop 4 text) word (epc.Hex fault) fault head refl refl r)
  behind_read word head (Err epc.Memory) t r = absurd (t refl)

  with_head : (word : ControlWord) → IsHeadOf text word → SomeDump set text
  with_head word head = behind_read word head behind.0 behind.1 behind.2

  with_plain : (word : ControlWord) (bits : List ℕ) → IsHex text → BeginsWith (bits_of_hex text) word bits → IsPlain word → SomeDump set text
  with_plain word bits hex begins plain = elim (cases_eq (length bits) (16 * word.words)) as (λ _. SomeDump set text) [
    | inl count ↦ with_head word (record { hex = hex; behind = bits; begins = begins; plain = plain; whole = count })
    | inr other ↦ (Err (reading.Words word.words (length bits)), (λ e. cc), word_rejected set text bits word (reading.Words word.words (length bits)) hex begins (plain, refl, refl, other))
  ]

  with_flags : (word : ControlWord) (bits : List ℕ) (extended toggle : Bool) → word.extended ≡ extended → word.toggle ≡ toggle → IsHex text
      → BeginsWith (bits_of_hex text) word bits → SomeDump set text
  with_flags word bits true toggle p q hex begins = (Err reading.Extended, (λ e. cc), word_rejected set text bits word reading.Extended hex begins p)
  with_flags word bits false true p q hex begins = (Err reading.Toggle, (λ e. cc), word_rejected set text bits word reading.Toggle hex begins (p, q))
  with_flags word bits false false p q hex begins = with_plain word bits hex begins (record { extended = p; toggle = q })

  with_hex : IsHex text → SomeDump set text
  with_hex hex = elim (leb_tells 16 (length (bits_of_hex text))) as (λ _. SomeDump set text) [
    | inl e ↦ let word = word_there (bits_of_hex text) (hex_bits text) e.1 in with_flags word.0 word.1 word.0.extended word.0.toggle refl refl hex word.2
    | inr e ↦ (Err reading.NoWord, (λ f. cc), (hex, e.1))
  ]

  by_hex : (said : Result Epc EpcFault) → said ≢ Err epc.Memory → ReadsHex set text said → SomeDump set text
  by_hex (Ok e) t r = with_hex r.0
  by_hex (Err epc.NoReading) t r = with_hex r.0
  by_hex (Err (epc.Hex fault)) t r = (Err (reading.Hex fault), (λ e. cc), r)
  by_hex (Err epc.Memory) t r = absurd (t refl)

  pub some_dump : SomeDump set text
  some_dump = by_hex whole.0 whole.1 whole.2
