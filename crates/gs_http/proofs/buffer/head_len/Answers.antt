use Rattle.std.proofs.Common.{ap, ◌∙◌}
use Rattle.gs_http.specs.Streams.{head_end}
use Rattle.gs_http.proofs.Fronts.{taken_min}
use Rattle.gs_http.proofs.buffer.head_len.Goals as goal

pub returns-clause-len : goal.returns-clause-len
returns-clause-len c = c.head_end.ensures.end ∙ ap head_end (taken_min c.args.bytes.now c.min.result 8192 c.min.ensures)
