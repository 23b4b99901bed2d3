-- The result of loading the bytes of a list: its entries, or the first rejection. Each list of bytes has exactly one result, or
-- `Memory` instead.
use Rattle.std.specs.Prelude.{ℕ, List, ◌++◌, map, Result, Err}
use Rattle.std.specs.Option.{option_map_or}
use Rattle.serde_json.specs.Data.{Data}
use Rattle.gs_chars.specs.Answers.{first_or}
use Rattle.gs_json.specs.Members.{document_of}
use Rattle.gs_json.specs.declared.error.JsonFault.TheVariants.{Syntax}
use Rattle.gs_prefix.specs.declared.entry.PrefixEntry.{PrefixEntry}
use Rattle.gs_prefix.specs.declared.error.PrefixFault.{PrefixFault}
use Rattle.gs_prefix.specs.declared.error.PrefixFault.TheVariants.{Json}
use Rattle.gs_prefix.specs.Documents.{entries_of, form_errors}
use Rattle.gs_prefix.specs.Rules.{rejections}

-- trusted, own: the answer to a document: the errors of its form are before the rejections of its entries
unfoldable pub document_answer : Data → Result (List PrefixEntry) PrefixFault
document_answer d = first_or (map Json (form_errors d) ++ rejections (entries_of d)) (entries_of d)

-- trusted, own: the answer to the bytes
unfoldable pub load_answer : List ℕ → Result (List PrefixEntry) PrefixFault
load_answer bytes = option_map_or document_answer (document_of bytes) (Err (Json Syntax))
