use Rattle.std.proofs.Common.{◌∙◌, ap, arith}
use Rattle.tdl_gen.specs.Generator.{generated_line}
use Rattle.tdl_gen.proofs.CountLemmas.{counts_answered, counts_none, ok_bounded}
use Rattle.tdl_gen.proofs.counts.count_lines.Goals as goal

pub loop-init : goal.loop-init
loop-init c = (c.new-generator.ensures, counts_none c.args.by.set.now, omega arith, omega arith)

pub loop-preserved : goal.loop-preserved
loop-preserved c =
    let k = c.loop.invariant in
    let e = c.in_ok-counts.ensures in
    let line = c.as_bytes.ensures.value ∙ c.in_ok-line.ensures.line ∙ ap generated_line k.0 in (
      omega (arith, c.next_line.ensures.further, k.0),
      counts_answered c.args.by.set.now c.loop.counter c.as_bytes.result.now c.loop.counts c.in_ok-counts.counts c.answer_line-answer.result line k.1 e.known c.answer_line-answer.ensures e.one_more,
      ok_bounded c.loop.counter c.loop.counts c.in_ok-counts.counts c.answer_line-answer.result e.one_more k.2,
      omega (arith, e.bounded, k.3),
    )
