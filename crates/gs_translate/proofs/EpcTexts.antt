-- The EPC of a text of a level, and the meaning that it has.
use Rattle.std.proofs.Common.{◌≡◌, ℕ, List, Some, refl}
use Rattle.std.specs.Prelude.{Result, Ok, Err}
use Rattle.gs_bits.specs.HexText.{bits_of_hex}
use Rattle.gs_tables_document.specs.declared.document.LevelName.{LevelName}
use Rattle.gs_tables_document.specs.declared.document.LevelName.TheVariants as level
use Rattle.gs_tables.specs.Tables.{IsShaped, TableRows}
use Rattle.gs_epc.specs.declared.epc.Epc.{Epc}
use Rattle.gs_epc.specs.declared.error.EpcFault.{EpcFault}
use Rattle.gs_epc.specs.declared.error.EpcFault.TheVariants.{Hex, NoReading, Memory}
use Rattle.gs_epc.specs.Layout.{IsLaidOut}
use Rattle.gs_epc.specs.Readings.{ReadsAs, ReadsHex}
use Rattle.gs_epc.specs.Writes.{ReadsText}
use Rattle.gs_ident.specs.Elements.{Elements}
use Rattle.gs_translate.specs.declared.reader.Meaning.{Meaning}
use Rattle.gs_translate.specs.declared.reason.Reason.{Reason}
use Rattle.gs_translate.specs.declared.reason.Reason.TheVariants.{Epc as NoEpc}
use Rattle.gs_translate.specs.Meanings.{Means, MeansEpc, epc_meaning}
use Rattle.gs_translate.specs.MeaningsSupport.{epc_reason, form_at}
use Rattle.gs_translate.specs.Steps.{Reworded, Then, UnlessMemory, goes_on, rejects}
use Rattle.gs_translate.specs.Targets.{FitsFilter}
use Rattle.gs_translate.proofs.FilterLaws.{said_fits}
use Rattle.gs_translate.proofs.StepLaws.{gives_err, gives_ok}

-- the meaning of the EPC that a reader reads
pub epc_means : (set : TableRows) (Reads : Result Epc EpcFault → Type 0) (epc : Epc) (meaning : Result Meaning Reason) → Reads (Ok epc)
    → MeansEpc set epc meaning → Then (Reworded Memory NoEpc Reads) (MeansEpc set) meaning
epc_means set Reads epc meaning read means = goes_on epc (gives_ok Memory NoEpc Reads epc read) means

-- the meaning that is made of the EPC's fields
pub meaning_made : (set : TableRows) (seen epc : Epc) (identity : Elements) (encoding : List ℕ) → seen ≡ epc → encoding ≡ seen.encoding
    → IsLaidOut set epc identity → MeansEpc set epc (Ok (record { identity = identity; gcp = Some seen.gcp; filter = seen.filter; encoding = encoding }))
meaning_made set seen epc identity encoding same is laid = (identity, laid, rw (is, same) refl)

-- why nothing is read is why there is no meaning
pub none_means : (set : TableRows) (Reads : Result Epc EpcFault → Type 0) (error : EpcFault) → Reads (Err error)
    → UnlessMemory {X = Meaning} (Err (epc_reason error)) (Then (Reworded Memory NoEpc Reads) (MeansEpc set) (Err (epc_reason error)))
none_means set Reads Memory h = λ known. absurd (known refl)
none_means set Reads NoReading h = λ known. rejects (NoEpc NoReading) (gives_err Memory NoEpc Reads NoReading (λ e. cc) h) refl
none_means set Reads (Hex error) h = λ known. rejects (NoEpc (Hex error)) (gives_err Memory NoEpc Reads (Hex error) (λ e. cc) h) refl

-- a text of a level means what its EPC means
pub means_at : (set : TableRows) (name : LevelName) (text : List ℕ) (epc : Epc) (elements : Elements) → ReadsText set name text (Ok epc)
    → IsLaidOut set epc elements → Means set (form_at name) text (Ok (epc_meaning epc elements))
means_at set level.Binary text epc elements read laid = epc_means set (ReadsHex set text) epc (Ok (epc_meaning epc elements)) read (elements, laid, refl)
means_at set level.Tag text epc elements read laid = epc_means set (ReadsAs set level.Tag text) epc (Ok (epc_meaning epc elements)) read (elements, laid, refl)
means_at set level.Pure text epc elements read laid = epc_means set (ReadsAs set level.Pure text) epc (Ok (epc_meaning epc elements)) read
    (elements, laid, refl)

pub none_read : (set : TableRows) (name : LevelName) (text : List ℕ) (error : EpcFault) → ReadsText set name text (Err error)
    → UnlessMemory {X = Meaning} (Err (epc_reason error)) (Means set (form_at name) text (Err (epc_reason error)))
none_read set level.Binary text error read = none_means set (ReadsHex set text) error read
none_read set level.Tag text error read = none_means set (ReadsAs set level.Tag text) error read
none_read set level.Pure text error read = none_means set (ReadsAs set level.Pure text) error read

-- the filter value of the EPC is one of 0 to 7
pub fits_at : (set : TableRows) (name : LevelName) (text : List ℕ) (epc : Epc) → IsShaped set → ReadsText set name text (Ok epc) → FitsFilter epc.filter
fits_at set level.Binary text epc shaped read = said_fits set level.Binary (bits_of_hex text) epc shaped read.1
fits_at set level.Tag text epc shaped read = said_fits set level.Tag text epc shaped read
fits_at set level.Pure text epc shaped read = said_fits set level.Pure text epc shaped read
