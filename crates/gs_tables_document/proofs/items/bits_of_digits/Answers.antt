use Rattle.std.proofs.Common.{ℕ, ◌-◌}
use Rattle.gs_tables_document.proofs.Parts.{mapped_step}
use Rattle.gs_tables_document.proofs.items.bits_of_digits.Goals as goal

pub loop-c-preserved : goal.loop-c-preserved
loop-c-preserved c =
    mapped_step (λ (b : ℕ). b - 48) c.args.text.now c.loop-c.c-index _ c.loop-c.bits.items c.push.new.self.items _ c.loop-c-test.true c.loop-c.invariant
    c.saturating_sub.ensures c.in_ok-push.ensures.items
