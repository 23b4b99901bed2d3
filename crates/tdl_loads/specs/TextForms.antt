-- The load of a linkset as text.
use Rattle.std.specs.Prelude.{◌≡◌, ℕ, List, Ok}
use Rattle.gs_ai.specs.declared.row.AiRow.{AiRow}
use Rattle.gs_links.specs.Loads.{load_answer}
use Rattle.gs_links.specs.declared.link.Link.{Link}
use Rattle.gs_linkset.specs.declared.link_types.Context.{Context}
use Rattle.gs_linktext.specs.ReadAnswers.{IsReadAs, IsReadError}
use Rattle.gs_linktext_grammar.specs.declared.error.LinkTextFault.{LinkTextFault}
use Rattle.gs_linktext_grammar.specs.declared.error.LinkTextFault.TheVariants.{Memory}

-- trusted, own: holds if `text` is read as a linkset, fails to be read only for memory, and loads to `links` in every reading
pub record TextLoads (ais : List AiRow) (voc text : List ℕ) (links : List Link) : Type 0 where
  pub contexts : List Context
  pub read : IsReadAs text contexts
  pub error_free : (error : LinkTextFault) → IsReadError text error → error ≡ Memory
  pub loads : (contexts : List Context) → IsReadAs text contexts → load_answer ais voc contexts ≡ Ok links
