-- Rejections of the form of a document.
use Rattle.std.proofs.Common.{◌≡◌, ◌⊎◌, List, None, inl, inr, refl, ℕ}
use Rattle.std.specs.Prelude.{Err, IsUtf8}
use Rattle.serde_json.specs.Data.{Data}
use Rattle.serde_json.specs.Read.{read as read_text}
use Rattle.gs_json.specs.Answers.{of_json}
use Rattle.gs_json.specs.Shapes.{IsFirst, first_error}
use Rattle.gs_json.specs.declared.error.JsonFault.{JsonFault}
use Rattle.gs_json.specs.declared.error.JsonFault.TheVariants as json
use Rattle.gs_tables_document.specs.Documents.{document_errors}
use Rattle.gs_tables_document.specs.Readings.{IsJson, IsFormRejection}
use Rattle.gs_tables_document.specs.declared.error.LoadFault.TheVariants.{Json, Memory}
use Rattle.gs_tables_document.proofs.ErrorLists.{error_at}

by_error : (bytes : List ℕ) (d : Data) (error : JsonFault) → IsJson bytes d → Err error ≡ first_error (document_errors d)
    → IsFormRejection bytes (of_json Memory Json error)
by_error bytes d json.Memory is h = tt
by_error bytes d json.Syntax is h = inr (d, is, error_at (document_errors d) json.Syntax h)
by_error bytes d (json.Lacks p) is h = inr (d, is, error_at (document_errors d) (json.Lacks p) h)
by_error bytes d (json.Kind p) is h = inr (d, is, error_at (document_errors d) (json.Kind p) h)
by_error bytes d (json.Unknown p) is h = inr (d, is, error_at (document_errors d) (json.Unknown p) h)

-- the answer to a document by the first error of its form
pub form_rejected : (bytes : List ℕ) (d : Data) (error : JsonFault) → IsJson bytes d
    → IsFirst (Err error) (document_errors d) → IsFormRejection bytes (of_json Memory Json error)
form_rejected bytes d error is (inl h) = let same : error ≡ json.Memory = cc in rw same tt
form_rejected bytes d error is (inr h) = by_error bytes d error is h

-- the answer to bytes that are not JSON text
pub not_json : (bytes : List ℕ) (error : JsonFault) → (error ≡ json.Syntax → IsUtf8 bytes → read_text bytes ≡ None)
    → (error ≡ json.Syntax) ⊎ (error ≡ json.Memory) → IsFormRejection bytes (of_json Memory Json error)
not_json bytes error none (inl s) = rw s (inl (refl, none s))
not_json bytes error none (inr m) = rw m tt
