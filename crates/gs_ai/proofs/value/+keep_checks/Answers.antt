use Rattle.std.proofs.Common.{◌≡◌, ℕ, Bool, true, false, List, ◌∷◌, take, refl, ◌∙◌}
use Rattle.std.specs.List.{list_all}
use Rattle.gs_ai.specs.declared.part.Part.{Part}
use Rattle.gs_ai.specs.declared.part.Part.TheVariants.{Zero, Num, NumCheck, NumUpTo, NumOpt, Set, SetOpt, Date, Other}
use Rattle.gs_ai.specs.Parts.{greatest_length}
use Rattle.gs_ai.specs.Values.{keeps_check, pieces}
use Rattle.gs_ai.proofs.value.+keep_checks.Goals as goal
use Rattle.gs_ai.proofs.value.+keep_checks.Goals.{in-NumCheck, in_default-part}

other_passes : (p : Part) (piece : List ℕ) → ((k : ℕ) → p ≡ NumCheck k → ⊥) → true ≡ keeps_check (p, piece)
other_passes Zero piece h = refl
other_passes (Num k) piece h = refl
other_passes (NumCheck k) piece h = absurd (h k refl)
other_passes (NumUpTo k) piece h = refl
other_passes (NumOpt k) piece h = refl
other_passes (Set k) piece h = refl
other_passes (SetOpt k) piece h = refl
other_passes Date piece h = refl
other_passes Other piece h = refl

first_decides : (parts others : List Part) (part : Part) (value piece : List ℕ) (kept : Bool) → parts ≡ part ∷ others
    → piece ≡ take (greatest_length part) value →
    kept ≡ keeps_check (part, piece) → kept ≡ false → kept ≡ list_all keeps_check (pieces parts value)
first_decides parts others part value piece kept split e k fails =
    let none : keeps_check (part, take (greatest_length part) value) ≡ false = rw (← e, ← k) fails in
    rw (split, none) fails

pub returns-else-kept : goal.returns-else-kept
returns-else-kept t c =
    let kept : c.match-part.kept ≡ keeps_check (c.in-Some.part.now, c.split_piece.result.0.now) = elim c.match-part.branch as (λ _. c.match-part.kept ≡ keeps_check (c.in-Some.part.now, c.split_piece.result.0.now)) [
      | in-NumCheck w ↦ rw w.in-NumCheck.is (w.kept-is ∙ w.has_check_digit-kept.ensures)
      | in_default-part w ↦ w.kept-is ∙ other_passes c.in-Some.part.now c.split_piece.result.0.now w.in_default-part.not-NumCheck
    ] in
    first_decides c.args.parts.now c.in-Some.others.now c.in-Some.part.now c.args.value.now c.split_piece.result.0.now c.match-part.kept c.in-Some.ensures.cases.0 c.split_piece.ensures.piece kept c.if-kept.false
