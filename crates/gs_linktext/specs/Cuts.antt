-- Contexts, one link more: the definitions of the private steps of reading.
use Rattle.std.specs.Prelude.{◌≡◌, ℕ, Bool, true, ◌&&◌, not, List, [], ◌∷◌, ◌++◌}
use Rattle.std.specs.Str.{bytes_eq}
use Rattle.gs_linkset.specs.LinkShapes.{is_below, links_of_context}
use Rattle.gs_linkset.specs.declared.link_types.Context.{Context}
use Rattle.gs_linkset.specs.declared.link_types.Relation.{Relation}
use Rattle.gs_linkset.specs.declared.link_types.Target.{Target}
use Rattle.gs_linktext.specs.Contexts.{ascends, first_name, is_full, last_name}

-- a relation with one target
abbrev pub relation_with : List ℕ → Target → Relation
relation_with name target = record { name = name; targets = target ∷ [] }

-- a context with one link
abbrev pub context_with : List ℕ → List ℕ → Target → Context
context_with anchor name target = record { anchor = anchor; relations = relation_with name target ∷ [] }

-- holds if a context can go on with a link
abbrev pub takes : Context → List ℕ → List ℕ → Bool
takes context anchor name = bytes_eq context.anchor anchor && not (is_below name (last_name context.relations))

-- holds if `new` is the context `old` with one link more
pub record IsMore (old new : Context) (name : List ℕ) (target : Target) : Type 0 where
  pub links : links_of_context new ≡ links_of_context old ++ (old.anchor, name, target) ∷ []
  pub anchor : new.anchor ≡ old.anchor
  pub full : is_full old ≡ true → is_full new ≡ true
  pub first : is_full old ≡ true → first_name new.relations ≡ first_name old.relations
  pub ascending : not (is_below name (last_name old.relations)) ≡ true → ascends old ≡ true → ascends new ≡ true
