use Rattle.gs_linktext.proofs.AttrLemmas.{attributes}
use Rattle.gs_linktext.proofs.attrs.attrs_of.Goals as goal

pub returns : goal.returns
returns c = rw (c.from_vec.ensures, c.in_ok-attrs.ensures) (attributes c.args.params.now c.in_ok-groups.groups c.in_ok-groups.ensures.ordered c.in_ok-groups.ensures.items)
