-- The contexts that links are cut into. The cut is this project's own.
use Rattle.std.specs.Prelude.{◌≡◌, ℕ, Bool, true, ◌&&◌, ◌||◌, not, List, [], ◌∷◌}
use Rattle.std.specs.List.{list_all}
use Rattle.std.specs.Str.{bytes_eq}
use Rattle.gs_linkset.specs.LinkShapes.{ascend, is_below, links_of_document, relation_names}
use Rattle.gs_linkset.specs.declared.link_types.Context.{Context}
use Rattle.gs_linkset.specs.declared.link_types.Relation.{Relation}
use Rattle.gs_linkset.specs.declared.link_types.Target.{Target}
use Rattle.gs_linktext_grammar.specs.Grammar.{is_some_part}

-- trusted, own: holds if `relation` has a target
abbrev pub has_target : Relation → Bool
has_target relation = is_some_part relation.targets

-- trusted, own: holds if `context` has a relation, and each of its relations has a target
abbrev pub is_full : Context → Bool
is_full context = is_some_part context.relations && list_all has_target context.relations

-- trusted, own: the name of the first relation
abbrev pub first_name : List Relation → List ℕ
first_name [] = []
first_name (relation ∷ relations) = relation.name

-- trusted, own: the name of the last relation
abbrev pub last_name : List Relation → List ℕ
last_name [] = []
last_name (relation ∷ []) = relation.name
last_name (relation ∷ next ∷ relations) = last_name (next ∷ relations)

-- trusted, own: Holds if `context` cannot go on with the links of `next`. Their anchors differ, or the relation of the first
-- link of `next` is below that of the last of `context`.
abbrev pub is_apart : Context → Context → Bool
is_apart context next = not (bytes_eq context.anchor next.anchor) || is_below (first_name next.relations) (last_name context.relations)

-- trusted, own: holds if no context can go on with the links of the next
abbrev pub are_apart : List Context → Bool
are_apart [] = true
are_apart (context ∷ []) = true
are_apart (context ∷ next ∷ contexts) = is_apart context next && are_apart (next ∷ contexts)

-- trusted, own: holds if the names of the relations of `context` ascend
abbrev pub ascends : Context → Bool
ascends context = ascend (relation_names context.relations)

-- trusted, own: Holds if `contexts` have the links `links`, each has a link, and the names of the relations ascend in each. A
-- new context begins only if it has to.
pub record IsCut (links : List (List ℕ × List ℕ × Target)) (contexts : List Context) : Type 0 where
  pub same : links_of_document contexts ≡ links
  pub ascending : list_all ascends contexts ≡ true
  pub full : list_all is_full contexts ≡ true
  pub apart : are_apart contexts ≡ true
