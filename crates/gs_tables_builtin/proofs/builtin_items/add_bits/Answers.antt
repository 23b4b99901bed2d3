use Rattle.std.proofs.Common.{◌∙◌, ◌-◌, arith}
use Rattle.std.proofs.lemmas.Nat.Bits.{shr_and_one}
use Rattle.gs_tables_builtin.proofs.BuiltInLemmas.{bits_more}
use Rattle.gs_tables_builtin.proofs.builtin_items.add_bits.Goals as goal

pub loop-left-preserved : goal.loop-left-preserved
loop-left-preserved c =
    let left = c.loop-left.left in (
      omega arith,
      bits_more c.loop-left.bits.items _ _ left c.args.number (omega arith)
          (shr_and_one c.args.number (left - 1)) c.in_ok-push.ensures.items ∙ c.loop-left.invariant.1,
    )
