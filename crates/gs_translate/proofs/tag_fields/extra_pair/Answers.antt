use Rattle.std.proofs.Common.{not, refl}
use Rattle.std.proofs.lemmas.List.Folds.{find-append}
use Rattle.gs_ai.specs.declared.pair.Pair.{Pair}
use Rattle.gs_translate.specs.Targets.{is_serial}
use Rattle.gs_translate.proofs.tag_fields.extra_pair.Goals as goal

pub returns-in-Some : goal.returns-in-Some
returns-in-Some c =
    let e = find-append (λ (pair : Pair). not (is_serial c.args.serial.now pair)) c.args.identity.now.qualifiers c.args.identity.now.attributes in
    let first = rw c.qualifiers.ensures at c.in-Some.ensures in
    rw (e, ← first) refl

pub returns-in-None : goal.returns-in-None
returns-in-None c =
    let e = find-append (λ (pair : Pair). not (is_serial c.args.serial.now pair)) c.args.identity.now.qualifiers c.args.identity.now.attributes in
    let first = rw c.qualifiers.ensures at c.in-None.ensures in
    let second = rw c.attributes.ensures at c.first_other-in-None.ensures in
    rw (e, ← first) second
