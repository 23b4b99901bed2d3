-- The spelling of a document whose links can all be spelled.
use Rattle.std.proofs.Common.{◌≡◌, List, None, map, position, true, ◌∙◌}
use Rattle.std.specs.List.{list_all}
use Rattle.gs_linkset.specs.LinkShapes.{is_context, links_of_document}
use Rattle.gs_linkset.specs.declared.link_types.Context.{Context}
use Rattle.gs_linktext_grammar.specs.declared.error.LinkTextFault.{LinkTextFault}
use Rattle.gs_linktext_grammar.specs.declared.error.LinkTextFault.TheVariants.{Memory}
use Rattle.gs_linktext.specs.ReadAnswers.{IsReadAs, IsReadError, IsTextOf}
use Rattle.gs_linktext.specs.Spelling.{cannot_spell, spelled}
use Rattle.gs_linktext.proofs.OneReading.{error_free, one_document, one_links}
use Rattle.gs_linktext.proofs.SpelledAttrs.{links_error_free, links_given}
use Rattle.gs_linktext.proofs.SpelledGrammar.{links_written, read_link}
use Rattle.gs_linktext.proofs.SpelledLexemes.{links_lexed, links_lexemes}
use Rattle.gs_linktext.proofs.SpelledLinks.{good_links, links_spelt}

pub is_text : (doc : List Context) → list_all is_context doc ≡ true → position cannot_spell (links_of_document doc) ≡ None
    → IsTextOf (spelled doc) (links_of_document doc)
is_text doc shaped none =
    let links = links_of_document doc in
    let good = good_links doc shaped none in
    record { written = map read_link links; document = (links_lexemes links, links_lexed links (links_spelt links good), links_written links good); error_free = links_error_free 0 links good; given = links_given links good }

pub same_links : (doc contexts : List Context) → IsTextOf (spelled doc) (links_of_document doc) → IsReadAs (spelled doc) contexts
    → links_of_document contexts ≡ links_of_document doc
same_links doc contexts text read =
    let same = one_document (spelled doc) read.written text.written read.document text.document in
    read.cut.same ∙ one_links text.written read.links (links_of_document doc) (rw (← same) read.given) text.given

pub is_read : (doc : List Context) (error : LinkTextFault) → IsTextOf (spelled doc) (links_of_document doc) → IsReadError (spelled doc) error → error ≡ Memory
is_read doc error text rejected = error_free (spelled doc) text.written error text.document text.error_free rejected
