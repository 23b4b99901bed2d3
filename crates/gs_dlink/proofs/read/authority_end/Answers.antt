use Rattle.std.proofs.Common.{◌∙◌}
use Rattle.gs_dlink.proofs.CutLemmas.{no_authority, no_scheme, rest_taken, some_authority}
use Rattle.gs_dlink.proofs.read.authority_end.Goals as goal

pub returns-then-len-eq0-clause-end : goal.returns-then-len-eq0-clause-end
returns-then-len-eq0-clause-end c = no_authority c.args.text.now c.in_ok-scheme.scheme c.authority_len-len.result c.in_ok-scheme.ensures.end
    (rw (rest_taken c.in_ok-scheme.scheme c.args.text.now) at c.authority_len-len.ensures.place) c.if-len-eq0.true

pub returns-else-len-eq0-clause-end : goal.returns-else-len-eq0-clause-end
returns-else-len-eq0-clause-end c = some_authority c.args.text.now c.in_ok-scheme.scheme c.authority_len-len.result c.in_ok-scheme.ensures.end (rw (rest_taken c.in_ok-scheme.scheme c.args.text.now) at c.authority_len-len.ensures.place) c.if-len-eq0.false

pub returns-in_err-scheme-clause-end : goal.returns-in_err-scheme-clause-end
returns-in_err-scheme-clause-end c = c.from_residual.ensures ∙ no_scheme c.args.text.now c.in_err-scheme.ensures.end
