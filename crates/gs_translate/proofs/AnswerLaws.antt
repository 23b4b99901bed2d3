-- A text has at most one meaning and one answer, and one by tables that satisfy their rules.
use Rattle.std.proofs.Common.{◌≡◌, ℕ, zero, suc, ◌≤◌, ◌⊎◌, true, List, [], ◌∷◌, Option, Some, None, refl, sym, ◌∙◌, ap, inl, inr, length, take, get_or, arith}
use Rattle.std.specs.Prelude.{◌≢◌, ◌%◌, is_some, Result, Ok, Err}
use Rattle.std.specs.List.{AllPass}
use Rattle.std.proofs.lemmas.Bool.{cases_eq}
use Rattle.std.proofs.lemmas.Bool.Decides.{leb_tells}
use Rattle.std.proofs.lemmas.List.Elements.{All-cons, All-nil}
use Rattle.gs_chars.proofs.TruthsAndLists.{same_at}
use Rattle.gs_chars.specs.Escapes.{hex_value}
use Rattle.gs_bits.specs.HexText.{FirstBadDigit, bits_of_hex, is_hex_digit}
use Rattle.gs_bits.specs.declared.errors.HexFault.{HexFault}
use Rattle.gs_bits.specs.declared.errors.HexFault.TheVariants.{OddDigits, Full, BadDigit}
use Rattle.gs_bits.proofs.HexBits.{first_bad_same, no_bad_digit}
use Rattle.gs_grammar.specs.Counts.{Counted, none_of, one_of, two_of}
use Rattle.gs_grammar.specs.Derivations.{OneDerivation}
use Rattle.gs_grammar.proofs.DecidedWords.{each_counted}
use Rattle.gs_grammar.proofs.OneReading.{one_reading}
use Rattle.gs_ident.specs.Elements.{Elements}
use Rattle.gs_ident.specs.Links.{canonical_link}
use Rattle.gs_tables_document.specs.declared.document.LevelName.{LevelName}
use Rattle.gs_tables_document.specs.declared.document.LevelName.TheVariants as level
use Rattle.gs_tables_document.specs.declared.document.OptInfo.{OptInfo}
use Rattle.gs_tables.specs.Judgements.{IsLoaded}
use Rattle.gs_tables.specs.Tables.{IsShaped, TableRows, level_rows}
use Rattle.gs_epc.specs.declared.epc.Epc.{Epc}
use Rattle.gs_epc.specs.declared.error.EpcFault.{EpcFault}
use Rattle.gs_epc.specs.declared.error.EpcFault.TheVariants.{Hex, NoReading, Memory}
use Rattle.gs_epc.specs.Epcs.{IsOfSet, epc_of, options_of}
use Rattle.gs_epc.specs.Layout.{IsLaidOut, lay, fields_in}
use Rattle.gs_epc.specs.Readings.{IsHex, IsHexFault, ReadsAs, ReadsHex, Says}
use Rattle.gs_epc.proofs.KeptLaws.{fit_kind}
use Rattle.gs_epc.proofs.ReadingFacts.{hex_answer, of_set, said_of, says}
use Rattle.gs_translate.specs.declared.form.Form.{Form}
use Rattle.gs_translate.specs.declared.form.Form.TheVariants as form
use Rattle.gs_translate.specs.declared.reader.Meaning.{Meaning}
use Rattle.gs_translate.specs.declared.reason.Reason.TheVariants.{Epc as NoEpc}
use Rattle.gs_translate.specs.Answers.{IsAnswer}
use Rattle.gs_translate.specs.Conditions.{AsksForOne, AsksForSome}
use Rattle.gs_translate.specs.Meanings.{IsRead, Means, MeansEpc, ReadsBracketed, ReadsRaw, epc_meaning}
use Rattle.gs_translate.specs.MeaningsSupport.{ReadsLink}
use Rattle.gs_translate.specs.Steps.{Reworded, Then, goes_on, rejects}
use Rattle.gs_translate.specs.StepsSupport.{HasOne, HasSome}
use Rattle.gs_translate.proofs.PairLaws.{ais_kept, one_bracketed, one_link, one_of_pairs, one_raw, some_bracketed, some_link, some_of_pairs, some_raw}
use Rattle.gs_translate.proofs.StepLaws.{gives_err, gives_ok, one_after_long, one_reworded, some_after_long, then_one, then_some}
use Rattle.gs_translate.specs.declared.reason.Reason.{Reason}

-- the answer is not out of memory
abbrev IsKnown : Result Epc EpcFault → Type 0
IsKnown (Ok epc) = Unit {0}
IsKnown (Err error) = error ≢ Memory

-- ---- at most one answer to the symbols of a level

same_epc : (set : TableRows) (level : LevelName) (symbols : List ℕ) (one other : Epc) → Says set level symbols one → Says set level symbols other → one ≡ other
same_epc set level symbols one other a b =
    let same = one_reading (options_of level set) symbols a.option b.option a.values b.values a.read b.read in
    let info = same_at (level_rows level set).info a.option b.option a.info b.info a.said b.said same.0 in
    a.fields ∙ ap (λ i. epc_of i a.values) info ∙ ap (epc_of b.info) same.1 ∙ sym b.fields

same_read : (set : TableRows) (level : LevelName) (symbols : List ℕ) (one other : Result Epc EpcFault) → IsKnown one → IsKnown other
    → ReadsAs set level symbols one → ReadsAs set level symbols other → one ≡ other
same_read set level symbols (Err Memory) other t u a b = absurd (t refl)
same_read set level symbols (Err (Hex error)) other t u a b = absurd a
same_read set level symbols (Ok epc) (Ok epc') t u a b = ap Ok (same_epc set level symbols epc epc' a b)
same_read set level symbols (Ok epc) (Err NoReading) t u a b = absurd (b a.read.derivation)
same_read set level symbols (Ok epc) (Err Memory) t u a b = absurd (u refl)
same_read set level symbols (Ok epc) (Err (Hex error)) t u a b = absurd b
same_read set level symbols (Err NoReading) (Ok epc) t u a b = absurd (a b.read.derivation)
same_read set level symbols (Err NoReading) (Err NoReading) t u a b = refl
same_read set level symbols (Err NoReading) (Err Memory) t u a b = absurd (u refl)
same_read set level symbols (Err NoReading) (Err (Hex error)) t u a b = absurd b

-- ---- at most one answer to hexadecimal digits

no_error : (text : List ℕ) (error : HexFault) → IsHexFault text error → IsHex text → ⊥
no_error text OddDigits f hex = let even = hex.even in omega arith
no_error text Full f hex = let long = f.1 in let short = hex.short in omega arith
no_error text (BadDigit place) f hex = no_bad_digit text place hex.digits f.2

same_error : (text : List ℕ) (error other : HexFault) → IsHexFault text error → IsHexFault text other → error ≡ other
same_error text OddDigits OddDigits f g = refl
same_error text OddDigits Full f g = absurd (let even = g.0 in omega arith)
same_error text OddDigits (BadDigit place) f g = absurd (let even = g.0 in omega arith)
same_error text Full OddDigits f g = absurd (let even = f.0 in omega arith)
same_error text Full Full f g = refl
same_error text Full (BadDigit place) f g = absurd (let long = f.1 in let short = g.1 in omega arith)
same_error text (BadDigit place) OddDigits f g = absurd (let even = f.0 in omega arith)
same_error text (BadDigit place) Full f g = absurd (let short = f.1 in let long = g.1 in omega arith)
same_error text (BadDigit place) (BadDigit place') f g = ap BadDigit (first_bad_same text place place' f.2 g.2)

-- why the text is not a hexadecimal one, or the answer to its bits
abbrev HexCase : TableRows → List ℕ → Result Epc EpcFault → Type 0
HexCase set text answer = ((error : HexFault) × (answer ≡ Err (Hex error)) × IsHexFault text error) ⊎ (IsHex text × ReadsAs set level.Binary (bits_of_hex text) answer)

hex_case : (set : TableRows) (text : List ℕ) (answer : Result Epc EpcFault) → IsKnown answer → ReadsHex set text answer → HexCase set text answer
hex_case set text (Ok epc) t a = inr a
hex_case set text (Err NoReading) t a = inr a
hex_case set text (Err Memory) t a = absurd (t refl)
hex_case set text (Err (Hex error)) t a = inl (error, refl, a)

same_hex : (set : TableRows) (text : List ℕ) (one other : Result Epc EpcFault) → IsKnown one → IsKnown other → ReadsHex set text one
    → ReadsHex set text other → one ≡ other
same_hex set text one other t u a b = elim (hex_case set text one t a) as (λ _. one ≡ other) [
  | inl f ↦ elim (hex_case set text other u b) as (λ _. one ≡ other) [
    | inl g ↦ f.1 ∙ ap (λ error. Err (Hex error)) (same_error text f.0 g.0 f.2 g.2) ∙ sym g.1
    | inr h ↦ absurd (no_error text f.0 f.2 h.0)
  ]
  | inr h ↦ elim (hex_case set text other u b) as (λ _. one ≡ other) [
    | inl g ↦ absurd (no_error text g.0 g.2 h.0)
    | inr k ↦ same_read set level.Binary (bits_of_hex text) one other t u h.1 k.1
  ]
]

-- ---- at most one meaning of a text

pub same_laid : (set : TableRows) (epc epc' : Epc) (one other : Elements) → epc ≡ epc' → IsLaidOut set epc one → IsLaidOut set epc' other → one ≡ other
same_laid set epc epc' one other e a b =
    let kind = same_at set.kinds epc.kind epc'.kind a.kind b.kind a.named b.named (ap (λ (x : Epc). x.kind) e) in
    a.laid ∙ ap (λ (x : Epc). lay set.ais a.kind (fields_in x)) e ∙ ap (λ k. lay set.ais k (fields_in epc')) kind ∙ sym b.laid

known_of : (said : Result Epc EpcFault) → said ≢ Err Memory → IsKnown said
known_of (Ok epc) t = tt
known_of (Err error) t = λ e. t (ap Err e)

one_epc : (set : TableRows) (epc : Epc) → HasOne (MeansEpc set epc)
one_epc set epc one other a b =
    a.2 ∙ ap (λ (x : Elements). Ok (epc_meaning epc x)) (same_laid set epc epc a.0 b.0 refl a.1 b.1) ∙ sym b.2

means_one : (set : TableRows) (Reads : Result Epc EpcFault → Type 0)
    → ((one other : Result Epc EpcFault) → IsKnown one → IsKnown other → Reads one → Reads other → one ≡ other)
    → HasOne (Then (Reworded Memory NoEpc Reads) (MeansEpc set))
means_one set Reads same =
    then_one (Reworded Memory NoEpc Reads) (MeansEpc set)
    (one_reworded Memory NoEpc Reads (λ one other t u a b. same one other (known_of one t) (known_of other u) a b)) (one_epc set)

one_meaning : (set : TableRows) (form : Form) (text : List ℕ) → AsksForOne form set → HasOne (Means set form text)
one_meaning set form.Hex text asks = means_one set (ReadsHex set text) (same_hex set text)
one_meaning set form.Tag text asks = means_one set (ReadsAs set level.Tag text) (same_read set level.Tag text)
one_meaning set form.Pure text asks = means_one set (ReadsAs set level.Pure text) (same_read set level.Pure text)
one_meaning set form.Raw text shaped = one_of_pairs set (ReadsRaw set text) (one_raw set text (ais_kept set shaped))
one_meaning set form.Bracketed text shaped = one_of_pairs set (ReadsBracketed set text) (one_bracketed set text (ais_kept set shaped))
one_meaning set form.Link text asks = one_of_pairs set (ReadsLink set text) (one_link set text)

pub one_read : (set : TableRows) (form : Form) (text : List ℕ) → AsksForOne form set → HasOne (IsRead set form text)
one_read set form text asks = one_after_long (Means set form) text (one_meaning set form text asks)

one_canonical : (meaning : Meaning) → HasOne (λ (answer : Result (List ℕ) Reason). answer ≡ Ok (canonical_link meaning.identity))
one_canonical meaning one other a b = a ∙ sym b

pub one_answer : (set : TableRows) (form : Form) (text : List ℕ) → AsksForOne form set → HasOne (IsAnswer set form text)
one_answer set form text asks = then_one (IsRead set form text) (λ meaning link. link ≡ Ok (canonical_link meaning.identity)) (one_read set form text asks) one_canonical

-- ---- an answer to the symbols of a level

-- a text spells an EPC of the set, or there is an error that is not out of memory
data Known (set : TableRows) (Reads : Result Epc EpcFault → Type 0) : Type 0 where
  says_epc : (epc : Epc) → Reads (Ok epc) → IsOfSet set epc → Known set Reads
  has_error : (error : EpcFault) → error ≢ Memory → Reads (Err error) → Known set Reads

-- the facts at an index, or any after the last one
some_info : (infos : List OptInfo) (i : ℕ) → (info : OptInfo) × (info ≡ get_or infos i info)
some_info [] i = (record { kind = 0; encoding = []; gcp = 0; fields = [] }, refl)
some_info (info ∷ infos) zero = (info, refl)
some_info (info ∷ infos) (suc i) = some_info infos i

known_one : (set : TableRows) (level : LevelName) (symbols : List ℕ) (option : ℕ) (values : List (List ℕ)) → IsShaped set
    → OneDerivation (options_of level set) symbols option values → Known set (λ answer. ReadsAs set level symbols answer)
known_one set level symbols option values shaped one =
    let info = some_info (level_rows level set).info option in
    let said = said_of set level symbols option values (level_rows level set).info info.0 shaped one refl info.1 in
    says_epc (epc_of info.0 values) (says set level symbols option values info.0 (epc_of info.0 values) said one refl)
    (of_set set level option values info.0 (epc_of info.0 values) said refl)

known_counted : (set : TableRows) (level : LevelName) (symbols : List ℕ) → IsLoaded set → Counted (options_of level set) symbols
    → Known set (λ answer. ReadsAs set level symbols answer)
known_counted set level symbols loaded (none_of none) = has_error NoReading (λ e. cc) none
known_counted set level symbols loaded (one_of option values one) = known_one set level symbols option values loaded.shaped one
known_counted set level symbols loaded (two_of two) = absurd (loaded.clear level (record { w = symbols; two = two }))

known_level : (set : TableRows) (level : LevelName) (symbols : List ℕ) → IsLoaded set → Known set (λ answer. ReadsAs set level symbols answer)
known_level set level symbols loaded = known_counted set level symbols loaded (each_counted (options_of level set) symbols)

-- ---- an answer to hexadecimal digits

-- all bytes are digits, or one is the first that is not
abbrev AreKnown : List ℕ → Type 0
AreKnown text = AllPass is_hex_digit text ⊎ ((place : ℕ) × FirstBadDigit text place)

bad_later : (c : ℕ) (text : List ℕ) (place : ℕ) → is_hex_digit c ≡ true → FirstBadDigit text place → FirstBadDigit (c ∷ text) (suc place)
bad_later c text place digit bad = record {
  within = let l = bad.within in omega arith;
  bad = bad.bad;
  digits_before = All-cons (λ x. is_hex_digit x ≡ true) c (take place text) digit bad.digits_before;
}

digits_behind : (c : ℕ) (text : List ℕ) (value : Option ℕ) → hex_value c ≡ value → AreKnown text → AreKnown (c ∷ text)
digits_behind c text None e rest = inr (0, record { within = omega arith; bad = e; digits_before = All-nil (λ x. is_hex_digit x ≡ true) })
digits_behind c text (Some v) e (inl all) = inl (All-cons (λ x. is_hex_digit x ≡ true) c text (ap is_some e) all)
digits_behind c text (Some v) e (inr bad) = inr (suc bad.0, bad_later c text bad.0 (ap is_some e) bad.1)

digits_known : (text : List ℕ) → AreKnown text
digits_known [] = inl (All-nil (λ x. is_hex_digit x ≡ true))
digits_known (c ∷ text) = digits_behind c text (hex_value c) refl (digits_known text)

known_bits : (set : TableRows) (text : List ℕ) → IsHex text → Known set (λ answer. ReadsAs set level.Binary (bits_of_hex text) answer)
    → Known set (λ answer. ReadsHex set text answer)
known_bits set text hex (says_epc epc read of) = says_epc epc (hex, read) of
known_bits set text hex (has_error error t read) = has_error error t (hex_answer set text (bits_of_hex text) (Err error) hex refl read)

known_digits : (set : TableRows) (text : List ℕ) → IsLoaded set → length text % 2 ≡ 0 → length text ≤ 128 → AreKnown text
    → Known set (λ answer. ReadsHex set text answer)
known_digits set text loaded even few (inl all) = known_bits set text (record { even = even; short = few; digits = all })
    (known_level set level.Binary (bits_of_hex text) loaded)
known_digits set text loaded even few (inr bad) = has_error (Hex (BadDigit bad.0)) (λ e. cc) (even, few, bad.1)

known_hex : (set : TableRows) (text : List ℕ) → IsLoaded set → Known set (λ answer. ReadsHex set text answer)
known_hex set text loaded = elim (cases_eq (length text % 2) 0) as (λ _. Known set (λ answer. ReadsHex set text answer)) [
  | inr odd ↦ has_error (Hex OddDigits) (λ e. cc) (omega arith)
  | inl even ↦ elim (leb_tells (length text) 128) as (λ _. Known set (λ answer. ReadsHex set text answer)) [
    | inl e ↦ known_digits set text loaded even e.1 (digits_known text)
    | inr e ↦ has_error (Hex Full) (λ f. cc) (even, e.1)
  ]
]

-- ---- a meaning of a text

means_some : (set : TableRows) (Reads : Result Epc EpcFault → Type 0) → IsShaped set → Known set Reads
    → HasSome (Then (Reworded Memory NoEpc Reads) (MeansEpc set))
means_some set Reads shaped (has_error error t read) = (Err (NoEpc error), rejects (NoEpc error) (gives_err Memory NoEpc Reads error t read) refl)
means_some set Reads shaped (says_epc epc read of) =
    let kind = fit_kind set epc shaped of in
    let elements = lay set.ais kind.0 (fields_in epc) in
    let laid : IsLaidOut set epc elements = record { kind = kind.0; named = kind.1; laid = refl } in
    (Ok (epc_meaning epc elements), goes_on epc (gives_ok Memory NoEpc Reads epc read) (elements, laid, refl))

some_meaning : (set : TableRows) (form : Form) (text : List ℕ) → AsksForSome form set → HasSome (Means set form text)
some_meaning set form.Hex text loaded = means_some set (ReadsHex set text) loaded.shaped (known_hex set text loaded)
some_meaning set form.Tag text loaded = means_some set (ReadsAs set level.Tag text) loaded.shaped (known_level set level.Tag text loaded)
some_meaning set form.Pure text loaded = means_some set (ReadsAs set level.Pure text) loaded.shaped (known_level set level.Pure text loaded)
some_meaning set form.Raw text shaped = some_of_pairs set (ReadsRaw set text) (some_raw set text (ais_kept set shaped))
some_meaning set form.Bracketed text shaped = some_of_pairs set (ReadsBracketed set text) (some_bracketed set text (ais_kept set shaped))
some_meaning set form.Link text asks = some_of_pairs set (ReadsLink set text) (some_link set text)

pub some_read : (set : TableRows) (form : Form) (text : List ℕ) → AsksForSome form set → HasSome (IsRead set form text)
some_read set form text asks = some_after_long (Means set form) text (λ few. some_meaning set form text asks)

some_canonical : (meaning : Meaning) → HasSome (λ (answer : Result (List ℕ) Reason). answer ≡ Ok (canonical_link meaning.identity))
some_canonical meaning = (Ok (canonical_link meaning.identity), refl)

pub some_answer : (set : TableRows) (form : Form) (text : List ℕ) → AsksForSome form set → HasSome (IsAnswer set form text)
some_answer set form text asks = then_some (IsRead set form text) (λ meaning link. link ≡ Ok (canonical_link meaning.identity)) (some_read set form text asks) (λ meaning read. some_canonical meaning)

-- ---- loaded tables satisfy the conditions of each form

pub suits_one : (set : TableRows) (form : Form) → IsLoaded set → AsksForOne form set
suits_one set form.Hex loaded = tt
suits_one set form.Tag loaded = tt
suits_one set form.Pure loaded = tt
suits_one set form.Raw loaded = loaded.shaped
suits_one set form.Bracketed loaded = loaded.shaped
suits_one set form.Link loaded = tt

pub suits_some : (set : TableRows) (form : Form) → IsLoaded set → AsksForSome form set
suits_some set form.Hex loaded = loaded
suits_some set form.Tag loaded = loaded
suits_some set form.Pure loaded = loaded
suits_some set form.Raw loaded = loaded.shaped
suits_some set form.Bracketed loaded = loaded.shaped
suits_some set form.Link loaded = tt
