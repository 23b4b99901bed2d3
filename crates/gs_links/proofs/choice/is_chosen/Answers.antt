use Rattle.std.proofs.Common.{◌≡◌, ◌==◌, ℕ, true, List, length, refl, sym}
use Rattle.gs_ai.specs.declared.pair.Pair.{Pair}
use Rattle.gs_ident.specs.Elements.{Elements}
use Rattle.gs_links.specs.Choices.{is_candidate, is_chosen}
use Rattle.gs_links.specs.declared.link.Link.{Link}
use Rattle.gs_links.specs.declared.link.Want.{Want}
use Rattle.gs_links.proofs.choice.is_chosen.Goals as goal

candidate_at : (identity : Elements) (want : Want) (depth : ℕ) (link : Link) (own : List Pair) → is_candidate identity want link ≡ true
    → own ≡ link.anchor.qualifiers → (length own == depth) ≡ is_chosen identity want depth link
candidate_at identity want depth link own candidate is = rw (is, candidate) refl

pub returns-then-is_candidate : goal.returns-then-is_candidate
returns-then-is_candidate c = candidate_at c.args.identity.now c.args.want c.args.depth c.args.link.now _ (sym c.if-is_candidate.ensures) c.qualifiers.ensures
