-- The form in which a linkset is sent: RFC 9264, sections 4.1 and 4.2. That JSON is in for a text that cannot be is this
-- project's own.
use Rattle.std.specs.Prelude.{List, position, ℕ, Option, Some, None}
use Rattle.gs_linkset.specs.LinkShapes.{links_of_document}
use Rattle.gs_linkset.specs.WrittenTrees.{written}
use Rattle.gs_linkset.specs.declared.link_types.Context.{Context}
use Rattle.gs_linktext.specs.Spelling.{cannot_spell, spelled}
use Rattle.gs_http.specs.declared.documents.LinksetForm.{LinksetForm}
use Rattle.gs_http.specs.declared.documents.LinksetForm.TheVariants.{Json, Text}
use Rattle.gs_http.specs.declared.documents.Rendered.{Rendered}

-- trusted, RFC 9264, section 4.2: the JSON form of a document
abbrev pub in_json : List Context → Rendered
in_json contexts = record { form = Json; text = written contexts }

-- trusted, RFC 9264, section 4.1, and own: the document as text if each link of it can be spelled, otherwise as JSON
abbrev pub by_unspellable : Option ℕ → List Context → Rendered
by_unspellable None contexts = record { form = Text; text = spelled contexts }
by_unspellable (Some i) contexts = in_json contexts

-- trusted, own: the document as text, or as JSON if text cannot hold one of its links
abbrev pub text_or_json : List Context → Rendered
text_or_json contexts = by_unspellable (position cannot_spell (links_of_document contexts)) contexts

-- trusted, RFC 9264, section 4: the document in the requested form
abbrev pub rendered_as : LinksetForm → List Context → Rendered
rendered_as Json contexts = in_json contexts
rendered_as Text contexts = text_or_json contexts
