use Rattle.std.proofs.Common.{refl}
use Rattle.gs_http.specs.declared.buffer.Filled.TheVariants as filled
use Rattle.gs_http.proofs.Connections.{turned}
use Rattle.gs_http.proofs.Fronts.{within}
use Rattle.gs_http.proofs.connection.answer_next.Goals as goal

pub answer_head-requires-clause-within : goal.answer_head-requires-clause-within
answer_head-requires-clause-within g c = within 8192 c.fill.new.bytes c.in-Head.len c.in-Head.ensures.begins

pub returns-in-Ended : goal.returns-in-Ended
returns-in-Ended g c = turned _ _ _ _ _ _ _ _ filled.Ended _ _ _ c.in-Ended.ensures.fetches c.in-Ended.ensures.begins c.in-Ended.ensures.few
    (refl, refl)

pub returns-in-Failed : goal.returns-in-Failed
returns-in-Failed g c = turned _ _ _ _ _ _ _ _ filled.Failed _ _ _ c.in-Failed.ensures.fetches c.in-Failed.ensures.begins c.in-Failed.ensures.few
    (refl, refl)

pub returns-in-Memory : goal.returns-in-Memory
returns-in-Memory g c = turned _ _ _ _ _ _ _ _ filled.Memory _ _ _ c.in-Memory.ensures.fetches c.in-Memory.ensures.begins c.in-Memory.ensures.few
    (refl, refl)

pub returns-in-Headless : goal.returns-in-Headless
returns-in-Headless g c = turned _ _ _ _ _ _ _ _ filled.Headless _ _ _ c.in-Headless.ensures.fetches c.in-Headless.ensures.begins c.in-Headless.ensures.few
    (c.reject.ensures c.args.resolver.now.table c.args.resolver.now.links c.args.resolver.now.settings c.args.last)

pub returns-in-Head : goal.returns-in-Head
returns-in-Head g c = turned _ _ _ _ _ _ _ _ (filled.Head c.in-Head.len) _ _ _ c.in-Head.ensures.fetches c.in-Head.ensures.begins c.in-Head.ensures.few
    (c.answer_head.ensures.answered, c.answer_head.ensures.lets_go)
