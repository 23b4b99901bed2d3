use Rattle.std.proofs.Common.{◌≡◌, ℕ, ◌+◌, ◌*◌, ◌≤◌, List, ◌++◌, length, append-nil, refl, sym, ◌∙◌, arith}
use Rattle.gs_ambig.specs.declared.machine.Edge.{Edge}
use Rattle.gs_grammar_compile.specs.EscapeTables.{esc_table}
use Rattle.gs_grammar_compile.proofs.AddedCodes.{character_step}
use Rattle.gs_grammar_compile.proofs.spelling_states.add_spelled.Goals as goal

all_spelled : (lo hi first count least left end : ℕ) (table whole : List (List Edge)) → left ≤ 0 → first ≡ lo → count ≡ hi → end ≡ length table + 4 * hi →
    whole ++ esc_table least left (length whole) end ≡ table ++ esc_table first count (length table) end → whole ≡ table ++ esc_table lo hi
    (length table) (length table + 4 * hi)
all_spelled lo hi first count least left end table whole none f k e all =
    let left_is : left ≡ 0 = omega arith in
    sym (append-nil whole) ∙ rw (left_is, f, k, e) at all

pub loop-left-preserved : goal.loop-left-preserved
loop-left-preserved c = character_step _ _ _ _ _ _ _ _ c.loop-left-test.true refl c.saturating_sub-least.ensures c.loop-left.invariant c.in_ok-add_character.ensures

pub returns : goal.returns
returns c =
    let hi = c.from.ensures in
    all_spelled c.args.lo c.args.hi c.from-least.result c.from-left.result c.loop-left.least c.loop-left.left c.in_ok-end.end c.args.table.now c.loop-left.table c.loop-left-test.false c.from-least.ensures c.from-left.ensures (rw hi at c.in_ok-end.ensures) c.loop-left.invariant
