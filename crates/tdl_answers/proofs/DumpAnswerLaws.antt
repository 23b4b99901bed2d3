-- Dumps, and the lines that show them, have one answer each by tables that are loaded.
use Rattle.std.proofs.Common.{◌≡◌, ◌+◌, ◌*◌, ◌/◌, ◌<◌, ◌≤◌, ℕ, Bool, true, false, List, [], ◌∷◌, ◌++◌, length, drop, Option, Some, None, refl, sym, ap, ◌∙◌, inl, inr, arith}
use Rattle.std.specs.Prelude.{◌≢◌, if◌then◌else◌, nat_le, Result, Ok, Err}
use Rattle.std.proofs.lemmas.Bool.{cases_eq}
use Rattle.std.proofs.lemmas.Bool.Decides.{leb_tells}
use Rattle.std.proofs.lemmas.List.{length-drop}
use Rattle.gs_bits.specs.HexText.{hex_of_bits}
use Rattle.gs_chars.specs.Escapes.{hex_value}
use Rattle.gs_epc.specs.declared.epc.Epc.{Epc}
use Rattle.gs_epc.specs.declared.error.EpcFault.{EpcFault}
use Rattle.gs_epc.specs.declared.error.EpcFault.TheVariants as epc
use Rattle.gs_epc.specs.declared.error.EpcWriteFault.{EpcWriteFault}
use Rattle.gs_epc.specs.declared.error.EpcWriteFault.TheVariants as write
use Rattle.gs_epc.specs.Readings.{ReadsAs, ReadsHex, Says}
use Rattle.gs_epc.specs.Writes.{WritesAs}
use Rattle.gs_membank.specs.declared.dump.Dump.{Dump}
use Rattle.gs_membank.specs.declared.error.DumpFault.TheVariants as reading
use Rattle.gs_membank.specs.declared.error.DumpLineFault.{DumpLineFault}
use Rattle.gs_membank.specs.declared.error.DumpLineFault.TheVariants as line
use Rattle.gs_membank.specs.declared.error.DumpWriteFault.{DumpWriteFault}
use Rattle.gs_membank.specs.declared.error.DumpWriteFault.TheVariants as writing
use Rattle.gs_membank.specs.Answers.{ReadsDump, ReadsShown, ShowsDump, WritesDump, of_writing, word_of}
use Rattle.gs_membank.specs.Banks.{bit_of, control_bits}
use Rattle.gs_membank.specs.ShownLines.{IsShownStart, shown_start}
use Rattle.gs_membank.proofs.DumpLaws.{one_epc, equal_dumps as same_dump}
use Rattle.gs_membank.proofs.OneDump.{SomeKnown, some_dump}
use Rattle.gs_membank.proofs.RoundTrips.{one_start}
use Rattle.gs_membank.proofs.WriteLemmas.{dump_written, too_long as dump_too_long}
use Rattle.gs_tables_document.specs.declared.document.LevelName.{LevelName}
use Rattle.gs_tables_document.specs.declared.document.LevelName.TheVariants as level
use Rattle.gs_tables.specs.Judgements.{IsLoaded}
use Rattle.gs_tables.specs.Tables.{IsShaped, TableRows}
use Rattle.gs_translate.specs.declared.form.Form.TheVariants as form
use Rattle.gs_translate.specs.declared.reader.Meaning.{Meaning}
use Rattle.gs_translate.specs.declared.reason.Reason.{Reason}
use Rattle.gs_translate.specs.declared.reason.Reason.TheVariants as reason
use Rattle.gs_translate.specs.Meanings.{IsRead, MeansEpc, short, too_long}
use Rattle.gs_translate.specs.Steps.{Reworded, Then, goes_on, rejects}
use Rattle.gs_translate.specs.StepsSupport.{HasSome}
use Rattle.gs_translate.proofs.AnswerLaws.{some_read}
use Rattle.gs_translate.proofs.OneWriting.{writes_one}
use Rattle.gs_translate.proofs.SomeWriting.{writes_some}
use Rattle.gs_chars.specs.Limits.{longest_text}

-- ---- reading an EPC, by the meanings of texts

known_said : (set : TableRows) (Reads : Result Epc EpcFault → Type 0) (answer : Result Meaning Reason)
    → Then (Reworded epc.Memory reason.Epc Reads) (MeansEpc set) answer → SomeKnown epc.Memory Reads
known_said set Reads answer (rejects error read e) = (read.given, read.enough, read.is_given)
known_said set Reads answer (goes_on epc read next) = (read.given, read.enough, read.is_given)

tag_read : (set : TableRows) (text : List ℕ) → IsLoaded set → length text ≤ longest_text → SomeKnown epc.Memory (ReadsAs set level.Tag text)
tag_read set text loaded few = by (some_read set form.Tag text loaded)
  where
    by_read : (answer : Result Meaning Reason) → IsRead set form.Tag text answer → SomeKnown epc.Memory (ReadsAs set level.Tag text)
    by_read answer (too_long more e) = absurd (omega (arith, few, more))
    by_read answer (short few' m) = known_said set (ReadsAs set level.Tag text) answer m

    by : HasSome (IsRead set form.Tag text) → SomeKnown epc.Memory (ReadsAs set level.Tag text)
    by some = by_read some.0 some.1

hex_read : (set : TableRows) (text : List ℕ) → IsLoaded set → length text ≤ longest_text → SomeKnown epc.Memory (ReadsHex set text)
hex_read set text loaded few = by (some_read set form.Hex text loaded)
  where
    by_read : (answer : Result Meaning Reason) → IsRead set form.Hex text answer → SomeKnown epc.Memory (ReadsHex set text)
    by_read answer (too_long more e) = absurd (omega (arith, few, more))
    by_read answer (short few' m) = known_said set (ReadsHex set text) answer m

    by : HasSome (IsRead set form.Hex text) → SomeKnown epc.Memory (ReadsHex set text)
    by some = by_read some.0 some.1

-- ---- dumps that are shown

-- an answer is made of that to the EPC
record MadeOf (set : TableRows) (level : LevelName) (dump : Dump) (make : Result (List ℕ) EpcWriteFault → Result (List ℕ) DumpWriteFault)
    (answer : Result (List ℕ) DumpWriteFault) : Type 0 where
  given : Result (List ℕ) EpcWriteFault
  enough : given ≢ Err write.Memory
  writes : WritesAs set level dump.epc given
  is : answer ≡ make given

one_made : (set : TableRows) (level : LevelName) (dump : Dump) (make : Result (List ℕ) EpcWriteFault → Result (List ℕ) DumpWriteFault) (one other : Result (List ℕ) DumpWriteFault)
    → MadeOf set level dump make one → MadeOf set level dump make other → one ≡ other
one_made set level dump make one other a b = a.is ∙ ap make (writes_one set level dump.epc a.given b.given a.enough b.enough a.writes b.writes) ∙ sym b.is

text_enough : (text : List ℕ) → Ok text ≡ Err write.Memory → ⊥
text_enough text e = cc

abbrev shown_by : Dump → Result (List ℕ) EpcWriteFault → Result (List ℕ) DumpWriteFault
shown_by dump (Ok tag) = Ok (shown_start dump.user dump.attributes ++ tag)
shown_by dump (Err error) = Err (of_writing error)

shown_made : (set : TableRows) (dump : Dump) (answer : Result (List ℕ) DumpWriteFault) → answer ≢ Err writing.Memory
    → ShowsDump set dump answer → MadeOf set level.Tag dump (shown_by dump) answer
shown_made set dump (Ok text) t s = record { given = Ok s.tag; enough = text_enough s.tag; writes = s.written; is = ap Ok s.text_is }
shown_made set dump (Err writing.TooLong) t s = absurd s
shown_made set dump (Err writing.NoOption) t s = record { given = Err write.NoOption; enough = λ e. cc; writes = s; is = refl }
shown_made set dump (Err (writing.CannotHold field why)) t s = record { given = Err (write.CannotHold field why); enough = λ e. cc; writes = s; is = refl }
shown_made set dump (Err writing.Memory) t s = absurd (t refl)

pub one_shown : (set : TableRows) (dump : Dump) (one other : Result (List ℕ) DumpWriteFault) → one ≢ Err writing.Memory
    → other ≢ Err writing.Memory → ShowsDump set dump one → ShowsDump set dump other → one ≡ other
one_shown set dump one other t u a b = one_made set level.Tag dump (shown_by dump) one other (shown_made set dump one t a) (shown_made set dump other u b)

pub some_shown : (set : TableRows) (dump : Dump) → SomeKnown writing.Memory (ShowsDump set dump)
some_shown set dump = by (writes_some set level.Tag dump.epc)
  where
    by_answer : (given : Result (List ℕ) EpcWriteFault) → given ≢ Err write.Memory → WritesAs set level.Tag dump.epc given
        → SomeKnown writing.Memory (ShowsDump set dump)
    by_answer (Ok tag) t w = (Ok (shown_start dump.user dump.attributes ++ tag), (λ e. let f : Ok (shown_start dump.user dump.attributes ++ tag) ≡ Err writing.Memory = e in cc), record { tag = tag; written = w; text_is = refl })
    by_answer (Err write.NoOption) t w = (Err writing.NoOption, (λ e. cc), w)
    by_answer (Err (write.CannotHold field why)) t w = (Err (writing.CannotHold field why), (λ e. cc), w)
    by_answer (Err write.Memory) t w = absurd (t refl)

    by : SomeKnown write.Memory (WritesAs set level.Tag dump.epc) → SomeKnown writing.Memory (ShowsDump set dump)
    by some = by_answer some.0 some.1 some.2

-- ---- dumps that are written

abbrev text_by : Dump → List ℕ → ℕ → List ℕ
text_by dump encoding words = hex_of_bits (control_bits (word_of words dump)) ++ encoding

abbrev written_by : Dump → Result (List ℕ) EpcWriteFault → Result (List ℕ) DumpWriteFault
written_by dump (Ok encoding) = if nat_le (length encoding / 4) 31 then Ok (text_by dump encoding (length encoding / 4)) else Err writing.TooLong
written_by dump (Err error) = Err (of_writing error)

fits : (dump : Dump) (encoding text : List ℕ) (words : ℕ) → length encoding ≡ 4 * words → words ≤ 31 → text ≡ text_by dump encoding words
    → Ok text ≡ written_by dump (Ok encoding)
fits dump encoding text words size few is =
    let quarter : length encoding / 4 ≡ words = omega arith in
    elim (leb_tells words 31) as (λ _. Ok text ≡ written_by dump (Ok encoding)) [
      | inl e ↦ rw (quarter, e.0, is) refl
      | inr e ↦ absurd (let more = e.1 in omega arith)
    ]

passes : (dump : Dump) (encoding : List ℕ) (words : ℕ) → length encoding ≡ 4 * words → 31 < words → Err writing.TooLong ≡ written_by dump (Ok encoding)
passes dump encoding words size many =
    let quarter : length encoding / 4 ≡ words = omega arith in
    elim (leb_tells words 31) as (λ _. Err writing.TooLong ≡ written_by dump (Ok encoding)) [
      | inl e ↦ absurd (let few = e.1 in omega arith)
      | inr e ↦ rw (quarter, e.0) refl
    ]

written_made : (set : TableRows) (dump : Dump) (answer : Result (List ℕ) DumpWriteFault) → answer ≢ Err writing.Memory
    → WritesDump set dump answer → MadeOf set level.Binary dump (written_by dump) answer
written_made set dump (Ok text) t s = record { given = Ok s.encoding; enough = text_enough s.encoding; writes = s.written; is = fits dump s.encoding text s.words s.size s.few s.text_is }
written_made set dump (Err writing.TooLong) t s = record { given = Ok s.encoding; enough = text_enough s.encoding; writes = s.written; is = passes dump s.encoding s.words s.size s.many }
written_made set dump (Err writing.NoOption) t s = record { given = Err write.NoOption; enough = λ e. cc; writes = s; is = refl }
written_made set dump (Err (writing.CannotHold field why)) t s = record { given = Err (write.CannotHold field why); enough = λ e. cc; writes = s; is = refl }
written_made set dump (Err writing.Memory) t s = absurd (t refl)

pub one_written_dump : (set : TableRows) (dump : Dump) (one other : Result (List ℕ) DumpWriteFault) → one ≢ Err writing.Memory
    → other ≢ Err writing.Memory → WritesDump set dump one → WritesDump set dump other → one ≡ other
one_written_dump set dump one other t u a b = one_made set level.Binary dump (written_by dump) one other (written_made set dump one t a)
    (written_made set dump other u b)

pub some_written_dump : (set : TableRows) (dump : Dump) → IsShaped set → SomeKnown writing.Memory (WritesDump set dump)
some_written_dump set dump shaped = by (writes_some set level.Binary dump.epc)
  where
    by_answer : (given : Result (List ℕ) EpcWriteFault) → given ≢ Err write.Memory → WritesAs set level.Binary dump.epc given
        → SomeKnown writing.Memory (WritesDump set dump)
    by_answer (Ok encoding) t w = elim (leb_tells (length encoding / 4) 31) as (λ _. SomeKnown writing.Memory (WritesDump set dump)) [
      | inl e ↦ (Ok (text_by dump encoding (length encoding / 4)), (λ f. let g : Ok (text_by dump encoding (length encoding / 4)) ≡ Err writing.Memory = f in cc), dump_written set dump encoding (hex_of_bits (control_bits (word_of (length encoding / 4) dump))) _ shaped w e.1 refl refl)
      | inr e ↦ (Err writing.TooLong, (λ f. cc), dump_too_long set dump encoding shaped w e.1)
    ]
    by_answer (Err write.NoOption) t w = (Err writing.NoOption, (λ e. cc), w)
    by_answer (Err (write.CannotHold field why)) t w = (Err (writing.CannotHold field why), (λ e. cc), w)
    by_answer (Err write.Memory) t w = absurd (t refl)

    by : SomeKnown write.Memory (WritesAs set level.Binary dump.epc) → SomeKnown writing.Memory (WritesDump set dump)
    by some = by_answer some.0 some.1 some.2

-- ---- dumps that are read

pub some_dump_by : (set : TableRows) (text : List ℕ) → IsLoaded set → length text ≤ longest_text → SomeKnown reading.Memory (ReadsDump set text)
some_dump_by set text loaded few =
    let count = length-drop 4 text in
    some_dump set text (hex_read set text loaded few) (hex_read set (drop 4 text) loaded (omega (arith, few, count)))

-- ---- lines that show dumps: at most one answer

abbrev dump_by : Bool → ℕ → Epc → Dump
dump_by user attributes epc = record { user = user; attributes = attributes; epc = epc }

pub one_line_dump : (set : TableRows) (text : List ℕ) (one other : Result Dump DumpLineFault) → one ≢ Err line.Memory
    → other ≢ Err line.Memory → ReadsShown set text one → ReadsShown set text other → one ≡ other
one_line_dump set text (Ok dump) (Ok other) t u a b =
    let same = one_start text a.rest b.rest dump.user other.user dump.attributes other.attributes a.start b.start in
    let says : Says set level.Tag b.rest dump.epc = rw same.2 at a.says in
    ap Ok (same_dump dump.user other.user dump.attributes other.attributes dump.epc other.epc same.0 same.1 (one_epc set level.Tag b.rest dump.epc other.epc says b.says))
one_line_dump set text (Ok dump) (Err line.Line) t u a b = absurd (b dump.user dump.attributes a.rest a.start)
one_line_dump set text (Ok dump) (Err line.NoReading) t u a b =
    let same = one_start text a.rest b.rest dump.user b.user dump.attributes b.attributes a.start b.start in
    let says : Says set level.Tag b.rest dump.epc = rw same.2 at a.says in
    absurd (b.none says.read.derivation)
one_line_dump set text (Err line.Line) (Ok dump) t u a b = absurd (a dump.user dump.attributes b.rest b.start)
one_line_dump set text (Err line.Line) (Err line.Line) t u a b = refl
one_line_dump set text (Err line.Line) (Err line.NoReading) t u a b = absurd (a b.user b.attributes b.rest b.start)
one_line_dump set text (Err line.NoReading) (Ok dump) t u a b =
    let same = one_start text a.rest b.rest a.user dump.user a.attributes dump.attributes a.start b.start in
    let says : Says set level.Tag a.rest dump.epc = rw (← same.2) at b.says in
    absurd (a.none says.read.derivation)
one_line_dump set text (Err line.NoReading) (Err line.Line) t u a b = absurd (b a.user a.attributes a.rest a.start)
one_line_dump set text (Err line.NoReading) (Err line.NoReading) t u a b = refl
one_line_dump set text (Err line.Memory) other t u a b = absurd (t refl)
one_line_dump set text one (Err line.Memory) t u a b = absurd (u refl)

-- ---- lines that show dumps: an answer

-- a text begins as a line that shows a dump, or does not
data StartCase (text : List ℕ) : Type 0 where
  starts : (user : Bool) (attributes : ℕ) (rest : List ℕ) → IsShownStart text user attributes rest → StartCase text
  starts_not : ((user : Bool) (attributes : ℕ) (rest : List ℕ) → IsShownStart text user attributes rest → ⊥) → StartCase text

module _ (a b d e f g h : ℕ) (text : List ℕ) where
  start_digits : (user : Bool) (high low : Option ℕ) → hex_value f ≡ high → hex_value g ≡ low → a ≡ 117 → b ≡ 48 + bit_of user → d ≡ 32
      → e ≡ 97 → h ≡ 32 → StartCase (a ∷ b ∷ d ∷ e ∷ f ∷ g ∷ h ∷ text)
  start_digits user None low p q pa pb pd pe ph = starts_not (λ v n r s.
      let joined = s.joined in
      let same : f ≡ s.high = cc in
      let both : None ≡ Some s.high_value = sym p ∙ ap hex_value same ∙ s.high_digit in
      cc)
  start_digits user (Some high) None p q pa pb pd pe ph = starts_not (λ v n r s.
      let joined = s.joined in
      let same : g ≡ s.low = cc in
      let both : None ≡ Some s.low_value = sym q ∙ ap hex_value same ∙ s.low_digit in
      cc)
  start_digits user (Some high) (Some low) p q pa pb pd pe ph = starts user (16 * high + low) text (record {
    high = f;
    low = g;
    high_value = high;
    low_value = low;
    high_digit = p;
    low_digit = q;
    number = refl;
    joined = rw (pa, pb, pd, pe, ph) refl;
  })

  start_places : (user : Bool) → a ≡ 117 → b ≡ 48 + bit_of user → StartCase (a ∷ b ∷ d ∷ e ∷ f ∷ g ∷ h ∷ text)
  start_places user pa pb = elim (cases_eq d 32) as (λ _. StartCase (a ∷ b ∷ d ∷ e ∷ f ∷ g ∷ h ∷ text)) [
    | inr differs ↦ starts_not (λ v n r s. differs (let joined = s.joined in cc))
    | inl pd ↦ elim (cases_eq e 97) as (λ _. StartCase (a ∷ b ∷ d ∷ e ∷ f ∷ g ∷ h ∷ text)) [
      | inr differs ↦ starts_not (λ v n r s. differs (let joined = s.joined in cc))
      | inl pe ↦ elim (cases_eq h 32) as (λ _. StartCase (a ∷ b ∷ d ∷ e ∷ f ∷ g ∷ h ∷ text)) [
        | inr differs ↦ starts_not (λ v n r s. differs (let joined = s.joined in cc))
        | inl ph ↦ start_digits user (hex_value f) (hex_value g) refl refl pa pb pd pe ph
      ]
    ]
  ]

  no_bit : (b ≡ 48 → ⊥) → (b ≡ 49 → ⊥) → (user : Bool) → b ≡ 48 + bit_of user → ⊥
  no_bit zero_not one_not true is = one_not is
  no_bit zero_not one_not false is = zero_not is

  start_bit : StartCase (a ∷ b ∷ d ∷ e ∷ f ∷ g ∷ h ∷ text)
  start_bit = elim (cases_eq a 117) as (λ _. StartCase (a ∷ b ∷ d ∷ e ∷ f ∷ g ∷ h ∷ text)) [
    | inr differs ↦ starts_not (λ v n r s. differs (let joined = s.joined in cc))
    | inl pa ↦ elim (cases_eq b 48) as (λ _. StartCase (a ∷ b ∷ d ∷ e ∷ f ∷ g ∷ h ∷ text)) [
      | inl zero ↦ start_places false pa zero
      | inr zero_not ↦ elim (cases_eq b 49) as (λ _. StartCase (a ∷ b ∷ d ∷ e ∷ f ∷ g ∷ h ∷ text)) [
        | inl one ↦ start_places true pa one
        | inr one_not ↦ starts_not (λ v n r s. no_bit zero_not one_not v (let joined = s.joined in cc))
      ]
    ]
  ]

start_case : (text : List ℕ) → StartCase text
start_case [] = starts_not (λ v n r s. let joined = s.joined in cc)
start_case (a ∷ []) = starts_not (λ v n r s. let joined = s.joined in cc)
start_case (a ∷ b ∷ []) = starts_not (λ v n r s. let joined = s.joined in cc)
start_case (a ∷ b ∷ d ∷ []) = starts_not (λ v n r s. let joined = s.joined in cc)
start_case (a ∷ b ∷ d ∷ e ∷ []) = starts_not (λ v n r s. let joined = s.joined in cc)
start_case (a ∷ b ∷ d ∷ e ∷ f ∷ []) = starts_not (λ v n r s. let joined = s.joined in cc)
start_case (a ∷ b ∷ d ∷ e ∷ f ∷ g ∷ []) = starts_not (λ v n r s. let joined = s.joined in cc)
start_case (a ∷ b ∷ d ∷ e ∷ f ∷ g ∷ h ∷ text) = start_bit a b d e f g h text

pub some_line_dump : (set : TableRows) (text : List ℕ) → IsLoaded set → length text ≤ longest_text → SomeKnown line.Memory (ReadsShown set text)
some_line_dump set text loaded few = by (start_case text)
  where
    by_read : (user : Bool) (attributes : ℕ) (rest : List ℕ) → IsShownStart text user attributes rest → (said : Result Epc EpcFault)
        → said ≢ Err epc.Memory → ReadsAs set level.Tag rest said → SomeKnown line.Memory (ReadsShown set text)
    by_read user attributes rest start (Ok e) t r = (Ok (record { user = user; attributes = attributes; epc = e }), (λ f. cc), record { rest = rest; start = start; says = r })
    by_read user attributes rest start (Err epc.NoReading) t r = (Err line.NoReading, (λ f. cc), record { user = user; attributes = attributes; rest = rest; start = start; none = r })
    by_read user attributes rest start (Err (epc.Hex fault)) t r = absurd r
    by_read user attributes rest start (Err epc.Memory) t r = absurd (t refl)

    by : StartCase text → SomeKnown line.Memory (ReadsShown set text)
    by (starts_not none) = (Err line.Line, (λ f. cc), none)
    by (starts user attributes rest start) =
        let count : length text ≡ 7 + length rest = ap length start.joined ∙ omega arith in
        let some = tag_read set rest loaded (omega (arith, few, count)) in
        by_read user attributes rest start some.0 some.1 some.2
