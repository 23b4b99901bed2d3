use Rattle.std.proofs.Common.{sym, ◌∙◌}
use Rattle.gs_ai.proofs.PartLemmas.{wrong_here, wrong_later, wrong_nowhere}
use Rattle.gs_ai.proofs.value.+find_wrong_character.Goals as goal

pub returns-in_err-find_wrong_character-in-None-clause-place :
    goal.returns-in_err-find_wrong_character-in-None-clause-place
returns-in_err-find_wrong_character-in-None-clause-place t c =
    let split = c.in_ok-part.ensures.cases in
    let here = sym c.find_wrong_in.ensures.place ∙ c.in-None.is in
    let later = sym c.find_wrong_character.ensures.place ∙ c.in_err-find_wrong_character-in-None.was in
    rw c.from_residual-in_err-find_wrong_character-in-None.ensures
    (sym (rw split.0 (wrong_nowhere c.in_ok-part.part.now c.in_ok-part.others.now c.args.value.now c.split_piece.result.0.now c.split_piece.result.1.now c.split_piece.ensures.piece c.split_piece.ensures.rest here later)))

pub returns-in-Some-clause-place : goal.returns-in-Some-clause-place
returns-in-Some-clause-place t c =
    let split = c.in_ok-part.ensures.cases in
    let here = sym c.find_wrong_in.ensures.place ∙ c.in-Some.is in
    sym (rw split.0 (wrong_here c.in_ok-part.part.now c.in_ok-part.others.now c.args.value.now c.split_piece.result.0.now c.in-Some.i c.split_piece.ensures.piece here))

pub returns-in_ok-find_wrong_character-in-None-clause-place :
    goal.returns-in_ok-find_wrong_character-in-None-clause-place
returns-in_ok-find_wrong_character-in-None-clause-place t c =
    let split = c.in_ok-part.ensures.cases in
    let here = sym c.find_wrong_in.ensures.place ∙ c.in-None.is in
    let later = sym c.find_wrong_character.ensures.place ∙ c.in_ok-find_wrong_character-in-None.was in
    sym (rw split.0 (wrong_later c.in_ok-part.part.now c.in_ok-part.others.now c.args.value.now c.split_piece.result.0.now c.split_piece.result.1.now c.in_ok-find_wrong_character-in-None.field-0 c.split_piece.ensures.piece c.split_piece.ensures.rest here later))
