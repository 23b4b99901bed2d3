use Rattle.std.proofs.Common.{◌≡◌, [], arith}
use Rattle.std.proofs.lemmas.Grind.{common_steps}
use Rattle.std.proofs.lemmas.List.Elements.{All-from_get_or}
use Rattle.percent_encoding.specs.Iter.{encoded_text}
use Rattle.gs_ident.specs.Links.{percent_encoded}
use Rattle.gs_ident.proofs.ValueEscapes.{IsByte, same_text}
use Rattle.gs_ident.proofs.spelling.append_pieces.Goals as goal

pub returns-clause-written : goal.returns-clause-written
returns-clause-written c =
    let small = All-from_get_or IsByte c.args.value.now 0 (λ i within. omega (arith, c.type_inv.value i)) in
    let whole : encoded_text c.percent_encode-piece-items.result ≡ percent_encoded c.args.value.now = rw c.percent_encode-piece-items.ensures.text (same_text _ small) in
    let same : encoded_text c.into_iter-piece-iterator.result ≡ percent_encoded c.args.value.now = cc in
    let none : encoded_text c.loop-piece.piece-iterator ≡ [] = c.in-None.ensures.steps in
    grind (arith, common_steps, c.loop-piece.invariant.whole, same, none)
