use Rattle.std.proofs.Common.{◌≡◌, List, Ok, ◌∙◌, ap, sym}
use Rattle.std.proofs.lemmas.Result.{IfOk-weaker, err_from_is_err_and}
use Rattle.gs_ai.specs.declared.pair.Pair.{Pair}
use Rattle.gs_ai.specs.declared.row.AiRow.{AiRow}
use Rattle.gs_ident.specs.declared.maker.KeyPlace.{KeyPlace}
use Rattle.gs_ident.specs.Answers.{HasOnlyKey}
use Rattle.gs_ident.specs.Elements.{Elements}
use Rattle.gs_ident.specs.Identities.{counted, identity_of_counted, identity_of_pairs}
use Rattle.gs_ident.specs.Moves.{HasElements}
use Rattle.gs_ident.proofs.IdentityLemmas.{made_with}
use Rattle.gs_ident.proofs.maker.make.Goals as goal

-- the elements of the only key of the pairs that count are the identity of the pairs
answered : (table : List AiRow) (given pairs : List Pair) (place : KeyPlace) (identity : Elements) → pairs ≡ counted table given
    → HasOnlyKey table pairs place → HasElements table pairs place.pair identity → identity_of_pairs table given ≡ Ok identity
answered table given pairs place identity same key has =
    ap (identity_of_counted table) (sym same) ∙ key.only key.first.0 key.first.1 ∙ sym (ap (λ (e : Elements). Ok e) (has key.first.0 key.first.1))

pub elements_of-requires-clause-agree : goal.elements_of-requires-clause-agree
elements_of-requires-clause-agree c = rw c.as_slice.ensures.value at c.in_ok-first.ensures.agree

pub elements_of-requires-clause-first : goal.elements_of-requires-clause-first
elements_of-requires-clause-first c = rw c.as_slice.ensures.value at c.in_ok-first.ensures.first

pub returns-clause-made : goal.returns-clause-made
returns-clause-made c =
    let key = rw c.as_slice.ensures.value at c.in_ok-first.ensures in
    IfOk-weaker c.elements_of.result _ _ (λ identity has. answered c.args.table.now c.args.pairs.items _ c.in_ok-first.first identity c.keys_of_counted-keys.ensures.counted key has) c.elements_of.ensures.elements

pub returns-clause-with_table : goal.returns-clause-with_table
returns-clause-with_table c =
    let key = rw c.as_slice.ensures.value at c.in_ok-first.ensures in
    IfOk-weaker c.elements_of.result _ _ (λ identity has. made_with c.args.table.now c.args.pairs.items identity c.requires
    (answered c.args.table.now c.args.pairs.items _ c.in_ok-first.first identity c.keys_of_counted-keys.ensures.counted key has)) c.elements_of.ensures.elements

pub returns-in_err-first-clause-rejected : goal.returns-in_err-first-clause-rejected
returns-in_err-first-clause-rejected c =
    let p = err_from_is_err_and c.from_residual.result c.from_residual.ensures.1 in
    rw (p.1, p.2) (rw (c.as_slice.ensures.value, c.keys_of_counted-keys.ensures.counted) at c.in_err-first.ensures)
