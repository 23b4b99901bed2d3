-- The answer to a request: GS1-Conformant Resolver, redirects, linksets and the resolver description file; the statuses are
-- those of RFC 9110, section 15. The cases and their order are this project's own.
use Rattle.std.specs.Prelude.{ℕ, ◌||◌, not, Bool, if◌then◌else◌, List, [], ◌∷◌, codes, Option, Some, None, Result, Ok, Err, bytes_eq}
use Rattle.gs_ai.specs.declared.pair.Pair.{Pair}
use Rattle.gs_ai.specs.declared.row.AiRow.{AiRow}
use Rattle.gs_dlink.specs.Answers.{target_answer}
use Rattle.gs_dlink.specs.Uris.{path_of}
use Rattle.gs_dlink.specs.declared.error.LinkFault.{LinkFault}
use Rattle.gs_dlink.specs.declared.error.LinkFault.TheVariants.{NoKeyPath}
use Rattle.gs_ident.specs.Elements.{Elements}
use Rattle.gs_ident.specs.Identities.{identity_of_pairs}
use Rattle.gs_ident.specs.declared.errors.IdentFault.{IdentFault}
use Rattle.gs_linkset.specs.WrittenTrees.{written}
use Rattle.gs_linkset.specs.declared.link_types.Context.{Context}
use Rattle.gs_links.specs.Choices.{chosen}
use Rattle.gs_links.specs.Documents.{document_of, linked}
use Rattle.gs_links.specs.Languages.{narrowed}
use Rattle.gs_links.specs.Loads.{is_path}
use Rattle.gs_links.specs.declared.link.Link.{Link}
use Rattle.gs_links.specs.declared.link.Want.{Want}
use Rattle.gs_links.specs.declared.link.Want.TheVariants.{All, Relation as RelationOf}
use Rattle.gs_http.specs.Forms.{rendered_as}
use Rattle.gs_http.specs.References.{document_for, reference_for}
use Rattle.gs_http.specs.declared.documents.LinksetForm.{LinksetForm}
use Rattle.gs_http.specs.declared.documents.Rendered.{Rendered}
use Rattle.gs_http.specs.declared.resolver.Settings.{Settings}
use Rattle.gs_http.specs.Heads.{Asked}
use Rattle.gs_http.specs.LanguageRanges.{accepted_ranges}
use Rattle.gs_http.specs.Wishes.{Wish, for_linkset, for_relation, wish_of}

-- trusted, RFC 9110, section 15: The answer to a request: the resolver description file, a linkset, several links to choose
-- from, or one link to redirect to. Or it is that the request is bad, that nothing is found, or that the method is not allowed.
pub data Answer : Type 0 where
  linkset : Rendered → Answer
  described choices redirect : List ℕ → Answer
  bad_request not_found not_allowed : Answer

-- trusted, RFC 9110, section 9.3.2: holds if `method` is HEAD
abbrev pub is_head : List ℕ → Bool
is_head method = bytes_eq method (codes "HEAD")

-- trusted, GS1-Conformant Resolver: holds if the path of `target` is that of the resolver description file
abbrev pub is_description : List ℕ → Bool
is_description target = bytes_eq (path_of target) (codes "/.well-known/gs1resolver")

-- trusted, own: the answer for the resolver description file: its bytes, if there is one
abbrev pub describe : Option (List ℕ) → Answer
describe None = not_found
describe (Some text) = described text

-- trusted, RFC 9264, section 4.2: the document of links that is sent for an identity
abbrev pub sent_document : Bool → Elements → List Link → List Context
sent_document templates identity links = document_for templates identity (document_of links)

-- trusted, GS1-Conformant Resolver: the answer for a linkset: its document in a form, if there is a link
abbrev pub by_linkset : Bool → LinksetForm → Elements → List Link → Answer
by_linkset templates form identity [] = not_found
by_linkset templates form identity (link ∷ links) = linkset (rendered_as form (sent_document templates identity (link ∷ links)))

-- trusted, GS1-Conformant Resolver: the answer for a relation: the one link, or several to choose from in JSON, if there is at
-- least one
abbrev pub by_relation : Bool → Elements → List Link → Answer
by_relation templates identity [] = not_found
by_relation templates identity (link ∷ []) = redirect (reference_for templates identity link.target.href)
by_relation templates identity (link ∷ other ∷ links) = choices (written (sent_document templates identity (link ∷ other ∷ links)))

-- trusted, own: the wish for the links of a relation; it does not matter which text holds its name
abbrev pub of_relation : List ℕ → Want
of_relation name = RelationOf (record { ref_ptr = (0, 0); now = name })

-- trusted, own: the answer by the links chosen for `identity`: for a linkset all, for a relation those in the first accepted
-- language that one has
abbrev pub by_elements : Bool → List Link → List (List ℕ) → Elements → Wish → Answer
by_elements templates links ranges identity (for_linkset form) = by_linkset templates form identity (linked links (chosen links identity All))
by_elements templates links ranges identity (for_relation name) =
    by_relation templates identity (linked links (narrowed links (chosen links identity (of_relation name)) ranges))

-- trusted, own: the answer by the identity of the pairs that the target names, if they have one
abbrev pub by_identity : Bool → List Link → List (List ℕ) → Wish → Result Elements IdentFault → Answer
by_identity templates links ranges wish (Ok identity) = by_elements templates links ranges identity wish
by_identity templates links ranges wish (Err error) = bad_request

-- trusted, own: the answer by the pairs that the target names
abbrev pub by_pairs : List AiRow → Bool → List Link → List (List ℕ) → Wish → Result (List Pair) LinkFault → Answer
by_pairs table templates links ranges wish (Ok pairs) = by_identity templates links ranges wish (identity_of_pairs table pairs)
by_pairs table templates links ranges wish (Err NoKeyPath) = not_found
by_pairs table templates links ranges wish (Err error) = bad_request

-- trusted, own: the answer to a request, by the first case that fits
unfoldable pub answer_of : List AiRow → List Link → Settings → Asked → Answer
answer_of table links settings asked =
    if not (bytes_eq asked.method (codes "GET") || is_head asked.method) then not_allowed
    else if not (is_path asked.target) then bad_request
    else if is_description asked.target then describe settings.describe
    else by_pairs table settings.templates links (accepted_ranges asked.fields) (wish_of settings.voc asked) (target_answer table 0 asked.target)
