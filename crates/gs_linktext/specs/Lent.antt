-- The lent links of a document: the definitions of the private steps of writing.
use Rattle.std.specs.Prelude.{ℕ, List}
use Rattle.gs_linkset.specs.declared.link_types.Target.{Target}
use Rattle.gs_linktext.specs.declared.writer.LentLink.{LentLink}

-- the anchor, the relation type and the target of a lent link
abbrev pub seen : LentLink → List ℕ × List ℕ × Target
seen link = (link.anchor.now, link.relation.now, link.target.now)
