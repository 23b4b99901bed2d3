use Rattle.std.proofs.Common.{◌≡◌, ◌≤◌, ◌∙◌, ℕ, List, length, take, ap, arith}
use Rattle.std.specs.Prelude.{fold}
use Rattle.std.proofs.lemmas.List.{take_all}
use Rattle.gs_ai.specs.declared.pair.Pair.{Pair}
use Rattle.gs_ident.specs.Elements.{Elements}
use Rattle.gs_links.specs.Index.{number_with}
use Rattle.gs_links.proofs.index.number_of.Goals as goal

all_pairs : (anchor : Elements) (items : List Pair) (number i start : ℕ) → number ≡ fold number_with start (take i items) → length items ≤ i
    → items ≡ anchor.qualifiers → number ≡ fold number_with start anchor.qualifiers
all_pairs anchor items number i start so_far all is = so_far ∙ ap (fold number_with start) (take_all i items all ∙ is)

pub returns : goal.returns
returns c = all_pairs c.args.anchor.now _ c.loop-pair.number c.loop-pair.pair-index
    (number_with 14695981039346656037 c.args.anchor.now.key) c.loop-pair.invariant (omega arith) (cc)
