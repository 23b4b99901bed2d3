use Rattle.std.proofs.Common.{◌∙◌}
use Rattle.memchr.specs.Find.{is_byte2}
use Rattle.gs_chars.proofs.PlaceLemmas.{place_is}
use Rattle.gs_element.proofs.bracketed_text.plain_len.Goals as goal

pub returns-clause-len : goal.returns-clause-len
returns-clause-len c = c.unwrap_or.ensures ∙ place_is (is_byte2 40 92) c.args.text.now c.memchr2.result c.memchr2.ensures
