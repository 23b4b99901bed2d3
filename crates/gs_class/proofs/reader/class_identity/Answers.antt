use Rattle.std.proofs.Common.{◌∙◌, ◌≡◌, ◌∷◌, Ok, Some}
use Rattle.std.proofs.lemmas.Result.{IfOk-weaker}
use Rattle.gs_ai.specs.declared.pair.Pair.{Pair}
use Rattle.gs_ident.specs.Identities.{identity_of_pairs}
use Rattle.gs_ident.specs.QualifiedKeys.{pairs_in}
use Rattle.gs_epc.specs.Layout.{lay}
use Rattle.gs_class.specs.Meanings.{said_by}
use Rattle.gs_class.specs.Sets.{kind_of}
use Rattle.gs_class.proofs.ClassIdentities.{identity_is, is_key}
use Rattle.gs_class.proofs.reader.class_identity.Goals as goal

pub of_key-requires : goal.of_key-requires
of_key-requires c =
    let said = said_by c.args.class.now c.args.values.now in
    let lot = c.from-2.ensures ∙ c.in_ok-from_bytes.ensures ∙ (rw c.items.ensures at c.value_of-lot.ensures) in
    is_key c.args.ais.now c.args.class.now said c.requires c.rows.ensures.kept _ _ _ _ (c.lent.ensures ∙ c.as_bytes.ensures)
    (c.from.ensures ∙ c.in_ok-key_value.ensures) (c.lent-2.ensures ∙ c.as_bytes-2.ensures) lot

pub returns-clause-identity : goal.returns-clause-identity
returns-clause-identity c =
    let class = c.args.class.now in
    let said = said_by class c.args.values.now in
    let lot = c.from-2.ensures ∙ c.in_ok-from_bytes.ensures ∙ (rw c.items.ensures at c.value_of-lot.ensures) in
    let element : Pair = record { code = c.lent-2.result; value = c.from-2.result } in
    IfOk-weaker c.of_key.result (λ identity. identity_of_pairs c.args.ais.now (_ ∷ pairs_in (Some element)) ≡ Ok identity)
    (λ identity. identity ≡ lay c.args.ais.now (kind_of class) said)
    (λ identity. identity_is c.args.ais.now class said c.requires c.rows.ensures.kept _ _ _ _ identity (c.lent.ensures ∙ c.as_bytes.ensures) (c.from.ensures ∙ c.in_ok-key_value.ensures) (c.lent-2.ensures ∙ c.as_bytes-2.ensures) lot) c.of_key.ensures.made
