use Rattle.std.proofs.Common.{◌∙◌}
use Rattle.std.proofs.lemmas.Str.{is_utf8-from_IsUtf8}
use Rattle.gs_linkset.proofs.ReadLemmas.{relation_shaped}
use Rattle.gs_linkset.proofs.reader.relation_at.Goals as goal

pub returns-clause-shape : goal.returns-clause-shape
returns-clause-shape c =
    let same = c.in_ok-from_bytes.ensures ∙ c.as_bytes.ensures.value in
    rw same (relation_shaped c.args.name.now c.in_ok-targets.targets c.requires (is_utf8-from_IsUtf8 c.args.name.now c.utf8.name) c.in_ok-targets.ensures.shape)
