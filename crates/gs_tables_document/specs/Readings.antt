-- The reading of the bytes of a table document: its rows, or the first error of its form.
use Rattle.std.specs.Prelude.{◌≡◌, ◌⊎◌, ℕ, List, [], Some, None, slice_get, IsUtf8}
use Rattle.serde_json.specs.Data.{Data}
use Rattle.serde_json.specs.Read.{read as read_text}
use Rattle.gs_json.specs.declared.error.JsonFault.{JsonFault}
use Rattle.gs_json.specs.declared.error.JsonFault.TheVariants.{Syntax}
use Rattle.gs_tables_document.specs.declared.document.Document.{Document}
use Rattle.gs_tables_document.specs.declared.error.LoadFault.{LoadFault}
use Rattle.gs_tables_document.specs.declared.error.LoadFault.TheVariants.{Json, Memory}
use Rattle.gs_tables_document.specs.Documents.{document_errors, IsDocument}

-- trusted, own: holds if `bytes` are valid UTF-8 and the JSON text of the tree `d`
abbrev pub IsJson : List ℕ → Data → Type 0
IsJson bytes d = IsUtf8 bytes × (read_text bytes ≡ Some d)

-- trusted, own: holds if `bytes` are a table document with the rows of `document`
abbrev pub Holds : List ℕ → Document → Type 0
Holds bytes document = (d : Data) × IsJson bytes d × (document_errors d ≡ []) × IsDocument d document

-- trusted, own: holds if `bytes` are not JSON text and `error` is `Syntax`, or it is the first error of the form of the
-- document
abbrev pub IsFormError : List ℕ → JsonFault → Type 0
IsFormError bytes error = ((error ≡ Syntax) × (IsUtf8 bytes → read_text bytes ≡ None))
    ⊎ ((d : Data) × IsJson bytes d × (slice_get (document_errors d) 0 ≡ Some error))

-- trusted, own: holds if the rejection is `Memory`, or an error of the form of the document `bytes`
abbrev pub IsFormRejection : List ℕ → LoadFault → Type 0
IsFormRejection bytes (Json error) = IsFormError bytes error
IsFormRejection bytes Memory = Unit {0}
IsFormRejection bytes _ = ⊥
