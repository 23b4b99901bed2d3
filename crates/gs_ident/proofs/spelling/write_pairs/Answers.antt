use Rattle.std.proofs.Common.{◌≡◌, ℕ, ◌+◌, ◌<◌, List, [], ◌∷◌, ◌++◌, length, get_or, take, sym, ap, ◌∙◌}
use Rattle.std.specs.List.{flat_map}
use Rattle.std.proofs.lemmas.List.{flat_map_more, take_all, take_more}
use Rattle.gs_ai.specs.declared.pair.Pair.{Pair}
use Rattle.gs_ident.specs.Links.{percent_encoded}
use Rattle.gs_ident.proofs.BeginLemmas.{begins_after, begins_more, on_err}
use Rattle.gs_ident.proofs.spelling.write_pairs.Goals as goal

one_more : (f : Pair → List ℕ) (pairs : List Pair) (i : ℕ) (pair : Pair) (first so_far new : List ℕ) → i < length pairs → pair ≡ get_or pairs i pair →
    so_far ≡ first ++ flat_map f (take i pairs) → new ≡ so_far ++ f pair → new ≡ first ++ flat_map f (take (i + 1) pairs)
one_more f pairs i pair first so_far new h is e n =
    let more : take (i + 1) pairs ≡ take i pairs ++ pair ∷ [] = take_more pairs i pair h ∙ ap (λ (p : Pair). take i pairs ++ p ∷ []) (sym is) in
    rw (n, e, more) (flat_map_more f first (take i pairs) pair)

pub loop-pair-preserved : goal.loop-pair-preserved
loop-pair-preserved c =
    one_more (λ p. c.args.before ∷ (p.code ++ c.args.between ∷ percent_encoded p.value)) c.args.pairs.now c.loop-pair.pair-index c.pair-item.result c.args.out.now.items c.loop-pair.out.items c.write_pair.new.out.items
    c.loop-pair-test.true c.pair-item.is c.loop-pair.invariant c.in_ok-write_pair.ensures.written

pub returns-clause-written : goal.returns-clause-written
returns-clause-written c = rw (take_all c.loop-pair.pair-index c.args.pairs.now c.loop-pair-test.false) at c.loop-pair.invariant

pub returns-in_err-write_pair-clause-begun : goal.returns-in_err-write_pair-clause-begun
returns-in_err-write_pair-clause-begun c = on_err c.from_residual.result _
    (begins_after _ _ _ c.in_err-write_pair.ensures.begun (begins_more _ _ _ c.loop-pair.invariant))
