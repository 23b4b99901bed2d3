-- The links that are lent (RFC 9264, section 4.2.2).
use Rattle.std.specs.Prelude.{map}
use Rattle.gs_linkset.specs.declared.link_types.Context.{Context}
use Rattle.gs_linkset.specs.declared.link_types.ContextRef.{ContextRef}
use Rattle.gs_linkset.specs.declared.link_types.Relation.{Relation}
use Rattle.gs_linkset.specs.declared.link_types.RelationRef.{RelationRef}

-- trusted, own: the relation whose name and targets are lent
abbrev pub relation_lent : RelationRef → Relation
relation_lent relation = record { name = relation.name.now; targets = map (λ target. target.now) relation.targets.now }

-- trusted, own: the context whose anchor and relations are lent
abbrev pub context_lent : ContextRef → Context
context_lent context = record { anchor = context.anchor.now; relations = map relation_lent context.relations.now }
