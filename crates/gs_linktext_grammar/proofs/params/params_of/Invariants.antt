use Rattle.std.proofs.Common.{◌≡◌, drop, map}
use Rattle.gs_linktext_grammar.specs.Grammar.{params_of}
use Rattle.gs_linktext_grammar.specs.Pieces.{prepended}
use Rattle.gs_linktext_grammar.proofs.params.params_of.Given as goal

-- the parameters so far, and those of the rest
abbrev pub invariant-loop-part : goal.invariant-loop-part
invariant-loop-part l = params_of (map (λ part. part.now) l.fn.parts) ≡ prepended l.params.items
    (params_of (drop l.part-index (map (λ part. part.now) l.fn.parts)))
