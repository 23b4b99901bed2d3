-- The filter value of a text is one of 0 to 7.
use Rattle.std.proofs.Common.{◌≡◌, ℕ, ◌≤◌, ◌+◌, ◌-◌, ◌*◌, Bool, true, false, List, [], ◌∷◌, Option, Some, None, sym, subst, arith}
use Rattle.std.specs.Prelude.{IfSome, Result, Ok, Err}
use Rattle.std.specs.Option.{option_map}
use Rattle.gs_ai.specs.declared.pair.Pair.{Pair}
use Rattle.gs_bits.specs.HexText.{bits_of_hex}
use Rattle.gs_tables_document.specs.declared.document.Field.TheVariants.{Filter}
use Rattle.gs_tables_document.specs.declared.document.LevelName.{LevelName}
use Rattle.gs_tables_document.specs.declared.document.LevelName.TheVariants as level
use Rattle.gs_epc.specs.declared.epc.Epc.{Epc}
use Rattle.gs_epc.specs.declared.error.EpcFault.{EpcFault}
use Rattle.gs_epc.specs.declared.error.EpcFault.TheVariants.{Memory as NoRoom}
use Rattle.gs_epc.specs.Epcs.{value_at}
use Rattle.gs_epc.specs.Filters.{IsFilter}
use Rattle.gs_epc.specs.Readings.{ReadsAs, ReadsHex, Says}
use Rattle.gs_epc.proofs.ReadingFacts.{IsSaid, filter_of_said}
use Rattle.gs_grammar.specs.Words.{decimal_value}
use Rattle.gs_ident.specs.declared.errors.IdentFault.{IdentFault}
use Rattle.gs_ident.specs.Elements.{Elements}
use Rattle.gs_ident.specs.Identities.{identity_of_pairs}
use Rattle.gs_tables.specs.Tables.{IsShaped, TableRows}
use Rattle.gs_translate.specs.declared.form.Form.{Form}
use Rattle.gs_translate.specs.declared.form.Form.TheVariants as form
use Rattle.gs_translate.specs.declared.reader.Meaning.{Meaning}
use Rattle.gs_translate.specs.declared.reason.Reason.{Reason}
use Rattle.gs_translate.specs.declared.reason.Reason.TheVariants.{Epc as NoEpc, Ident}
use Rattle.gs_translate.specs.Meanings.{IsIdentified, IsRead, epc_meaning, identity_meaning, Means, MeansEpc, ReadsBracketed, ReadsRaw, short, too_long}
use Rattle.gs_translate.specs.MeaningsSupport.{ReadsLink, identified}
use Rattle.gs_translate.specs.Steps.{Reworded, Then, goes_on, rejects}
use Rattle.gs_translate.proofs.StepLaws.{given_ok}
use Rattle.gs_translate.specs.Targets.{FitsFilter, kept}

-- ---- tags and EPC URIs

digit_fits : (number : ℕ) → number ≤ 7 → decimal_value ((48 + number) ∷ []) ≤ 7
digit_fits number small =
    let same : (48 + number - 48) * 1 + 0 ≡ number = omega arith in
    rw same small

value_fits : (value : Option (List ℕ)) → IfSome value IsFilter → FitsFilter (option_map decimal_value value)
value_fits None fits = tt
value_fits (Some value) fits = subst (λ (v : List ℕ). decimal_value v ≤ 7) (sym fits.text) (digit_fits fits.number fits.small)

pub said_fits : (set : TableRows) (level : LevelName) (symbols : List ℕ) (epc : Epc) → IsShaped set → Says set level symbols epc → FitsFilter epc.filter
said_fits set level symbols epc shaped says =
    let d = says.read.derivation in
    let is : IsSaid set level says.option says.values says.info = record {
      items = d.items;
      words = d.words;
      of_level = rw says.read.of_option at d.of_level;
      said = says.said;
      held = rw says.read.of_values at d.derives.each;
    } in
    let fits = value_fits (value_at Filter says.info.fields says.values) (filter_of_said set level says.option says.values says.info shaped is) in
    subst (λ (e : Epc). FitsFilter e.filter) (sym says.fields) fits

-- the EPC that a reader reads from a text has a filter value that fits
abbrev Fits : (Result Epc EpcFault → Type 0) → Type 0
Fits Reads = (epc : Epc) → Reads (Ok epc) → FitsFilter epc.filter

epc_fits : (set : TableRows) (Reads : Result Epc EpcFault → Type 0) (meaning : Meaning) → Fits Reads
    → Then (Reworded NoRoom NoEpc Reads) (MeansEpc set) (Ok meaning) → FitsFilter meaning.filter
epc_fits set Reads meaning fits (rejects error read e) = absurd (let f : Ok meaning ≡ Err error = e in cc)
epc_fits set Reads meaning fits (goes_on epc read (elements, laid, is)) =
    let same : meaning ≡ epc_meaning epc elements = (let f : Ok meaning ≡ Ok (epc_meaning epc elements) = is in cc) in
    subst (λ (x : Meaning). FitsFilter x.filter) (sym same) (fits epc (given_ok NoRoom NoEpc Reads epc read))

-- ---- element strings and links

identified_fits : (made : Result Elements IdentFault) (meaning : Meaning) → Ok meaning ≡ identified made → FitsFilter meaning.filter
identified_fits (Ok identity) meaning e = let same : meaning ≡ identity_meaning identity = let f : Ok meaning ≡ Ok
    (identity_meaning identity) = e in cc in rw same tt
identified_fits (Err error) meaning e = absurd (let f : Ok meaning ≡ Err (Ident error) = e in cc)

pairs_fit : (set : TableRows) (Reads : Result (List Pair) Reason → Type 0) (meaning : Meaning) → Then Reads (IsIdentified set) (Ok meaning)
    → FitsFilter meaning.filter
pairs_fit set Reads meaning (rejects error read e) = absurd (let f : Ok meaning ≡ Err error = e in cc)
pairs_fit set Reads meaning (goes_on pairs read e) = identified_fits (identity_of_pairs set.ais pairs) meaning e

-- ---- a text

means_fit : (set : TableRows) (form : Form) (text : List ℕ) (meaning : Meaning) → IsShaped set → Means set form text (Ok meaning) → FitsFilter meaning.filter
means_fit set form.Hex text meaning shaped m = epc_fits set (ReadsHex set text) meaning
    (λ epc read. said_fits set level.Binary (bits_of_hex text) epc shaped read.1) m
means_fit set form.Tag text meaning shaped m = epc_fits set (ReadsAs set level.Tag text) meaning (λ epc read. said_fits set level.Tag text epc shaped read) m
means_fit set form.Pure text meaning shaped m = epc_fits set (ReadsAs set level.Pure text) meaning (λ epc read. said_fits set level.Pure text epc shaped read) m
means_fit set form.Raw text meaning shaped m = pairs_fit set (ReadsRaw set text) meaning m
means_fit set form.Bracketed text meaning shaped m = pairs_fit set (ReadsBracketed set text) meaning m
means_fit set form.Link text meaning shaped m = pairs_fit set (ReadsLink set text) meaning m

pub filter_fits : (set : TableRows) (form : Form) (text : List ℕ) (meaning : Meaning) → IsShaped set → IsRead set form text (Ok meaning)
    → FitsFilter meaning.filter
filter_fits set form text meaning shaped (too_long more e) = absurd (cc)
filter_fits set form text meaning shaped (short few m) = means_fit set form text meaning shaped m

pub kept_fits : (set : TableRows) (keys_only : Bool) (meaning : Meaning) → FitsFilter meaning.filter → FitsFilter (kept set keys_only meaning).filter
kept_fits set true meaning fits = fits
kept_fits set false meaning fits = fits
