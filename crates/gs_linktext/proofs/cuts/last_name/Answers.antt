use Rattle.std.proofs.Common.{sym, ap, ◌∙◌}
use Rattle.gs_linktext.specs.Contexts.{last_name}
use Rattle.gs_linktext.proofs.CutLemmas.{last_of}
use Rattle.gs_linktext.proofs.cuts.last_name.Goals as goal

pub returns-in-Some : goal.returns-in-Some
returns-in-Some c = c.as_bytes.ensures ∙ sym (ap last_name c.in-Some.ensures.cases.0 ∙ last_of c.in-Some.field-0-1.now c.in-Some.last.now)
