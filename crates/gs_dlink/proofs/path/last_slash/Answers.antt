use Rattle.std.proofs.Common.{rules}
use Rattle.gs_dlink.proofs.CutLemmas.{slash_answer}
use Rattle.gs_dlink.proofs.path.last_slash.Goals as goal

pub returns : goal.returns
returns c = slash_answer c.args.text.now _ (search rules)
