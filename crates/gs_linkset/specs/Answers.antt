-- The answers of reading. `Memory` may be returned instead of each.
use Rattle.std.specs.Prelude.{ℕ, List, Result, Err}
use Rattle.std.specs.Option.{option_map_or}
use Rattle.serde_json.specs.Data.{Data}
use Rattle.gs_json.specs.declared.error.JsonFault.{JsonFault}
use Rattle.gs_json.specs.declared.error.JsonFault.TheVariants.{Syntax}
use Rattle.gs_chars.specs.Answers.{first_or}
use Rattle.gs_json.specs.Members.{document_of}
use Rattle.gs_linkset.specs.Documents.{contexts_of, document_errors}
use Rattle.gs_linkset.specs.declared.link_types.Context.{Context}

-- trusted, own: the contexts of the document `d`, or its first error
unfoldable pub document_answer : Data → Result (List Context) JsonFault
document_answer d = first_or (document_errors d) (contexts_of d)

-- trusted, own: the contexts of the document `bytes`, its first error, or `Syntax` if it is not JSON
unfoldable pub read_answer : List ℕ → Result (List Context) JsonFault
read_answer bytes = option_map_or document_answer (document_of bytes) (Err Syntax)
