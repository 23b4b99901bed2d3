use Rattle.gs_grammar_level.proofs.MachinesOfOptions.{share_inside, shared_bits}
use Rattle.gs_grammar_level.proofs.share.shared_text.Goals as goal

pub shown-requires : goal.shown-requires
shown-requires c = λ bits.
    let option = rw c.options.ensures.options at c.index-options-first.is in
    let first = share_inside _ _ _ _ c.requires.share in
    rw c.from_vec.ensures (shared_bits _ _ _ _ _ _ c.bit_level.ensures.of_kind first option c.items-items.ensures.in_bounds c.requires.share (rw c.bit_level.ensures.is at bits))
