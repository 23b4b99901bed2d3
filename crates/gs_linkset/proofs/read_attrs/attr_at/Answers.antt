use Rattle.std.proofs.Common.{◌∙◌}
use Rattle.std.proofs.lemmas.Str.{is_utf8-from_IsUtf8}
use Rattle.gs_linkset.proofs.ReadLemmas.{attr_shaped}
use Rattle.gs_linkset.proofs.read_attrs.attr_at.Goals as goal

pub returns-clause-shape : goal.returns-clause-shape
returns-clause-shape c =
    let same = c.in_ok-from_bytes.ensures ∙ c.as_bytes-2.ensures.value in
    let own = rw c.in-Some.is at c.in_ok-value.ensures.shape in
    rw same (attr_shaped c.args.name.now c.in-Some.value c.requires (is_utf8-from_IsUtf8 c.args.name.now c.utf8.name) (rw c.as_bytes.ensures.value at own))
