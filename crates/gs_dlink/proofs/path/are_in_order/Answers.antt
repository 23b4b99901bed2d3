use Rattle.std.proofs.Common.{map, sym, ◌∙◌}
use Rattle.std.proofs.lemmas.List.{length-map}
use Rattle.gs_dlink.specs.ValuesSupport.{written_of}
use Rattle.gs_dlink.proofs.OrderLemmas.{code_met, code_passed, order_ends}
use Rattle.gs_dlink.proofs.path.are_in_order.Goals as goal
use Rattle.gs_dlink.proofs.path.are_in_order.Goals.{then-is_code_at, else-is_code_at}

pub loop-code-preserved : goal.loop-code-preserved
loop-code-preserved c =
    elim c.if-is_code_at.branch [
      | then-is_code_at w ↦ rw w.next-is (code_met c.args.list.now (map written_of c.args.pairs.now) c.loop-code.code-index c.loop-code.next c.code-item.result c.loop-code.invariant c.loop-code-test.true c.code-item.is
          (rw c.as_bytes.ensures at (sym c.is_code_at.ensures ∙ w.if-is_code_at.true)))
      | else-is_code_at w ↦ rw w.next-is (code_passed c.args.list.now (map written_of c.args.pairs.now) c.loop-code.code-index c.loop-code.next c.code-item.result c.loop-code.invariant c.loop-code-test.true c.code-item.is
          (rw c.as_bytes.ensures at (sym c.is_code_at.ensures ∙ w.if-is_code_at.false)))
    ]

pub returns : goal.returns
returns c = order_ends c.args.list.now (map written_of c.args.pairs.now) c.loop-code.code-index c.loop-code.next _ c.loop-code.invariant c.loop-code-test.false (length-map c.args.pairs.now written_of)
