use Rattle.std.proofs.Common.{◌∙◌}
use Rattle.gs_dlink.specs.Uris.{ends_authority}
use Rattle.gs_chars.proofs.PlaceLemmas.{place_is}
use Rattle.gs_dlink.proofs.query.authority_len.Goals as goal

pub returns-clause-place : goal.returns-clause-place
returns-clause-place c = c.unwrap_or.ensures ∙ place_is ends_authority c.args.text.now c.memchr3.result c.memchr3.ensures
