use Rattle.std.proofs.Common.{◌≡◌, ◌∙◌, false, leb, length, arith, rules}
use Rattle.std.proofs.lemmas.Iterator.{YieldsList-from_slice, YieldsList-from_zip}
use Rattle.std.proofs.lemmas.Iterator.Search.{all_from_yields_List}
use Rattle.gs_links.specs.Choices.{is_same_pair}
use Rattle.gs_links.proofs.ChoiceLemmas.{first_zipped, too_few}
use Rattle.gs_links.proofs.choice.are_first.Goals as goal

pub returns-then-first-pairs : goal.returns-then-first-pairs
returns-then-first-pairs c =
    all_from_yields_List (λ p. is_same_pair p.0 p.1) c.all.new.self _ _ c.all.ensures.ran
    (YieldsList-from_zip (YieldsList-from_slice c.args.first.now cc) (YieldsList-from_slice c.args.pairs.now cc)) (λ x b q k. search rules)
    ∙ first_zipped c.args.first.now c.args.pairs.now c.if-first-pairs.true

pub returns-else-first-pairs : goal.returns-else-first-pairs
returns-else-first-pairs c =
    let few : leb (length c.args.first.now) (length c.args.pairs.now) ≡ false = search rules in
    few ∙ too_few c.args.first.now c.args.pairs.now (omega (arith, c.if-first-pairs.false))
