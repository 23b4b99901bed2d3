use Rattle.std.proofs.Common.{ℕ, ◌==◌, ◌||◌, rules, tests}
use Rattle.std.proofs.lemmas.Iterator.{YieldsList-from_slice}
use Rattle.std.proofs.lemmas.Iterator.Search.{all_from_yields_List}
use Rattle.gs_bits.proofs.digits.are_bit_digits.Goals as goal

pub returns : goal.returns
returns c =
    all_from_yields_List (λ (d : ℕ). (d == 48) || (d == 49)) _ _ _ c.all.ensures.ran (YieldsList-from_slice c.args.text.now cc)
    (λ x b q k. search (rules, tests))
