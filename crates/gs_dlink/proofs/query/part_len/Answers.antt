use Rattle.std.proofs.Common.{◌∙◌}
use Rattle.gs_dlink.specs.Uris.{separates_parts}
use Rattle.gs_chars.proofs.PlaceLemmas.{place_is}
use Rattle.gs_dlink.proofs.query.part_len.Goals as goal

pub returns-clause-place : goal.returns-clause-place
returns-clause-place c = c.unwrap_or.ensures ∙ place_is separates_parts c.args.text.now c.memchr2.result c.memchr2.ensures
