use Rattle.std.proofs.Common.{◌≡◌, true, false}
use Rattle.gs_grammar_level.proofs.cuttings.cuts_are_fixed.Goals as goal

pub returns-then-not-has_one_length : goal.returns-then-not-has_one_length
returns-then-not-has_one_length c = λ fixed. absurd (let e : false ≡ true = fixed in cc)
