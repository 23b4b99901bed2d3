-- Documents of the same links load the same links.
use Rattle.std.proofs.Common.{◌≡◌, ℕ, List, [], ◌∷◌, ◌++◌, map, refl, ap, sym, ◌∙◌}
use Rattle.std.specs.Prelude.{Result, Ok, Err}
use Rattle.std.specs.List.{flat_map}
use Rattle.std.proofs.lemmas.Grind.{flat_map-append}
use Rattle.gs_ai.specs.declared.row.AiRow.{AiRow}
use Rattle.gs_ident.specs.Elements.{Elements}
use Rattle.gs_linkset.specs.LinkShapes.{links_of_context, links_of_document, links_of_relation}
use Rattle.gs_linkset.specs.declared.link_types.Context.{Context}
use Rattle.gs_linkset.specs.declared.link_types.Relation.{Relation}
use Rattle.gs_linkset.specs.declared.link_types.Target.{Target}
use Rattle.gs_chars.specs.Answers.{first_or}
use Rattle.gs_links.specs.Loads.{anchor_answer, context_links, expanded, link_with, links_by, links_of, load_answer, relation_links, store_errors}
use Rattle.gs_links.specs.declared.error.AnchorWhy.{AnchorWhy}
use Rattle.gs_links.specs.declared.error.StoreFault.{StoreFault}
use Rattle.gs_links.specs.declared.link.Link.{Link}

-- a link at an anchor, none if it is not an anchor
abbrev link_at : List ℕ → List ℕ → Target → Result Elements AnchorWhy → List Link
link_at voc name target (Ok anchor) = link_with anchor (expanded voc name) target ∷ []
link_at voc name target (Err why) = []

-- the links that are loaded of a link of a document
abbrev pub link_by : List AiRow → List ℕ → List ℕ × List ℕ × Target → List Link
link_by table voc link = link_at voc link.1 link.2 (anchor_answer table link.0)

-- the links that are loaded of a relation
abbrev relation_at : List ℕ → Relation → Result Elements AnchorWhy → List Link
relation_at voc relation (Ok anchor) = relation_links voc anchor relation
relation_at voc relation (Err why) = []

targets_by : (voc name : List ℕ) (targets : List Target) (o : Result Elements AnchorWhy) → flat_map
    (λ target. link_at voc name target o) targets ≡ relation_at voc (record { name = name; targets = targets }) o
targets_by voc name [] (Ok anchor) = refl
targets_by voc name [] (Err why) = refl
targets_by voc name (t ∷ ts) (Ok anchor) = ap (λ (ls : List Link). link_with anchor (expanded voc name) t ∷ ls) (targets_by voc name ts (Ok anchor))
targets_by voc name (t ∷ ts) (Err why) = targets_by voc name ts (Err why)

mapped : (table : List AiRow) (voc anchor name : List ℕ) (targets : List Target)
    → flat_map (link_by table voc) (map (λ target. (anchor, name, target)) targets) ≡ flat_map (λ target. link_at voc name target (anchor_answer table anchor)) targets
mapped table voc anchor name [] = refl
mapped table voc anchor name (t ∷ ts) = ap (λ (ls : List Link). link_at voc name t (anchor_answer table anchor) ++ ls) (mapped table voc anchor name ts)

relations_by : (voc : List ℕ) (relations : List Relation) (o : Result Elements AnchorWhy)
    → flat_map (λ relation. relation_at voc relation o) relations ≡ links_by voc relations o
relations_by voc relations (Ok anchor) = refl
relations_by voc [] (Err why) = refl
relations_by voc (r ∷ rs) (Err why) = relations_by voc rs (Err why)

context_by : (table : List AiRow) (voc anchor : List ℕ) (relations : List Relation)
    → flat_map (link_by table voc) (flat_map (links_of_relation anchor) relations) ≡ flat_map (λ relation. relation_at voc relation (anchor_answer table anchor)) relations
context_by table voc anchor [] = refl
context_by table voc anchor (r ∷ rs) =
    flat_map-append (link_by table voc) (links_of_relation anchor r) (flat_map (links_of_relation anchor) rs)
    ∙ ap (λ (ls : List Link). ls ++ flat_map (link_by table voc) (flat_map (links_of_relation anchor) rs))
    (mapped table voc anchor r.name r.targets ∙ targets_by voc r.name r.targets (anchor_answer table anchor))
    ∙ ap (λ (ls : List Link). relation_at voc r (anchor_answer table anchor) ++ ls) (context_by table voc anchor rs)

one_context : (table : List AiRow) (voc : List ℕ) (context : Context)
    → flat_map (link_by table voc) (links_of_context context) ≡ context_links table voc context
unfolding context_links
one_context table voc context = context_by table voc context.anchor context.relations ∙ relations_by voc context.relations (anchor_answer table context.anchor)

pub all_links : (table : List AiRow) (voc : List ℕ) (contexts : List Context)
    → flat_map (link_by table voc) (links_of_document contexts) ≡ flat_map (context_links table voc) contexts
all_links table voc [] = refl
all_links table voc (context ∷ contexts) =
    flat_map-append (link_by table voc) (links_of_context context) (links_of_document contexts)
    ∙ ap (λ (ls : List Link). ls ++ flat_map (link_by table voc) (links_of_document contexts)) (one_context table voc context)
    ∙ ap (λ (ls : List Link). context_links table voc context ++ ls) (all_links table voc contexts)

loaded : (table : List AiRow) (voc : List ℕ) (contexts : List Context) (links : List Link) → load_answer table voc contexts ≡ Ok links
    → links ≡ flat_map (link_by table voc) (links_of_document contexts)
unfolding load_answer links_of
loaded table voc contexts links h = by (store_errors table contexts) h ∙ sym (all_links table voc contexts)
  where
    by : (errors : List StoreFault) → first_or errors (flat_map (context_links table voc) contexts) ≡ Ok links
        → links ≡ flat_map (context_links table voc) contexts
    by [] e = let f : links ≡ flat_map (context_links table voc) contexts = cc in f
    by (error ∷ errors) e = absurd (cc)

pub same_store : (table : List AiRow) (voc : List ℕ) (a b : List Context) (x y : List Link) → links_of_document a ≡ links_of_document b
    → load_answer table voc a ≡ Ok x → load_answer table voc b ≡ Ok y → x ≡ y
same_store table voc a b x y same h g =
    loaded table voc a x h ∙ ap (flat_map (link_by table voc)) same ∙ sym (loaded table voc b y g)
