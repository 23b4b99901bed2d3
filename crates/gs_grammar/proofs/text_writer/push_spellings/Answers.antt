use Rattle.std.proofs.Common.{arith, ℕ, ◌∷◌, [], drop, get_or, sym}
use Rattle.std.proofs.lemmas.List.{take_at}
use Rattle.gs_chars.specs.Escapes.{written_spelling}
use Rattle.gs_grammar.proofs.HoldLemmas.{in_set82_at, written_short}
use Rattle.gs_grammar.proofs.WritingLemmas.{begins_more, flat_step, flat_end}
use Rattle.gs_grammar.proofs.text_writer.push_spellings.Goals as goal

pub write_escape-count-requires : goal.write_escape-count-requires
write_escape-count-requires c = in_set82_at _ _ c.loop-character-test.true c.requires

pub slice_bounds-spelling-end : goal.slice_bounds-spelling-end
slice_bounds-spelling-end c =
    let short = written_short (get_or c.args.value.now c.loop-character.character-index 0) in
    let count = c.write_escape-count.ensures.len in
    omega arith

pub loop-character-preserved : goal.loop-character-preserved
loop-character-preserved c =
    let spelling = written_spelling (get_or c.args.value.now c.loop-character.character-index 0) in
    let spelled = take_at spelling (drop {A = ℕ} c.write_escape-count.result (0 ∷ 0 ∷ 0 ∷ [])) c.write_escape-count.result (sym c.write_escape-count.ensures.len) in
    record {
      whole = rw (c.in_ok-extend_from_slice.ensures.items, c.write_escape-count.ensures.written, spelled)
          (flat_step written_spelling c.loop-character.text.items _ c.args.value.now c.loop-character.character-index c.loop-character-test.true c.loop-character.invariant.whole);
      begun = begins_more _ _ _ _ c.in_ok-extend_from_slice.ensures.items c.loop-character.invariant.begun;
    }

pub returns-clause-written : goal.returns-clause-written
returns-clause-written c = flat_end written_spelling c.loop-character.text.items _ c.args.value.now c.loop-character.character-index c.loop-character-test.false c.loop-character.invariant.whole
