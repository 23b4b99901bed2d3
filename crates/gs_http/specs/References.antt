-- The target URIs that are sent. If they are templates, the values of the request's identity fill their places (RFC 6570, section
-- 3.2.2). That a resolver has templates or not, and that attributes have none, is this project's own rule.
use Rattle.std.specs.Prelude.{ℕ, Bool, if◌then◌else◌, List, map}
use Rattle.gs_ident.specs.Elements.{Elements}
use Rattle.gs_linkset.specs.declared.link_types.Context.{Context}
use Rattle.gs_linkset.specs.declared.link_types.Relation.{Relation}
use Rattle.gs_linkset.specs.declared.link_types.Target.{Target}
use Rattle.gs_template.specs.Templates.{filled}

-- trusted, own: the target URI for an identity: with its places filled if it is a template, otherwise unchanged
abbrev pub reference_for : Bool → Elements → List ℕ → List ℕ
reference_for templates identity href = if templates then filled href identity else href

-- trusted, RFC 6570, section 3.2.2, and own: the target for `identity`: its reference is filled, and its attributes stay
abbrev pub target_for : Elements → Target → Target
target_for identity target = record { href = filled target.href identity; attrs = target.attrs }

-- trusted, own: the relation for `identity`, target by target
abbrev pub relation_for : Elements → Relation → Relation
relation_for identity relation = record { name = relation.name; targets = map (target_for identity) relation.targets }

-- trusted, own: the context for `identity`, relation by relation
abbrev pub context_for : Elements → Context → Context
context_for identity context = record { anchor = context.anchor; relations = map (relation_for identity) context.relations }

-- trusted, own: the document for an identity, with all target URIs filled if they are templates, otherwise unchanged
abbrev pub document_for : Bool → Elements → List Context → List Context
document_for templates identity contexts = if templates then map (context_for identity) contexts else contexts
