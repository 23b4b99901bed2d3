use Rattle.std.proofs.Common.{◌≡◌, ◌+◌, [], ◌∷◌, ◌++◌, take, refl, sym, ap, ◌∙◌}
use Rattle.std.proofs.lemmas.List.{take_all, take_more}
use Rattle.gs_ai.specs.declared.pair.Pair.{Pair}
use Rattle.gs_links.proofs.kept_anchor.lent_pairs.Goals as goal

pub loop-pair-init : goal.loop-pair-init
loop-pair-init c = c.in_ok-list.ensures.items

pub loop-pair-preserved : goal.loop-pair-preserved
loop-pair-preserved c =
    let i = c.loop-pair.pair-index in
    let pairs = c.args.pairs.now in
    let pair = c.pair-item.result in
    let more : take (i + 1) pairs ≡ take i pairs ++ pair ∷ [] = take_more pairs i pair c.loop-pair-test.true ∙ ap (λ (x : Pair). take i pairs ++ x ∷ []) (sym c.pair-item.is) in
    rw (c.in_ok-push.ensures.items, c.loop-pair.invariant, c.lent.ensures, more) refl

pub returns : goal.returns
returns c = rw (take_all c.loop-pair.pair-index c.args.pairs.now c.loop-pair-test.false) at c.loop-pair.invariant
