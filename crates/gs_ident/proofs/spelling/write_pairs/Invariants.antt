use Rattle.std.proofs.Common.{◌≡◌, ◌++◌, ◌∷◌, take}
use Rattle.std.specs.List.{flat_map}
use Rattle.gs_ident.specs.Links.{percent_encoded}
use Rattle.gs_ident.proofs.spelling.write_pairs.Given as goal

-- the text of the pairs so far
abbrev pub invariant-loop-pair : goal.invariant-loop-pair
invariant-loop-pair l = l.out.items ≡ l.fn.out.items ++ flat_map (λ p. l.before ∷ (p.code ++ l.between ∷ percent_encoded p.value)) (take l.pair-index l.pairs)
