use Rattle.std.proofs.Common.{refl}
use Rattle.std.specs.Prelude.{Ok}
use Rattle.std.proofs.lemmas.Result.{err_from_is_err_and}
use Rattle.gs_ident.specs.Elements.{Elements}
use Rattle.gs_translate.specs.Meanings.{IsRead, identity_meaning, short}
use Rattle.gs_translate.specs.Steps.{rejects}
use Rattle.gs_translate.specs.Targets.{kept}
use Rattle.gs_translate.specs.Translations.{IsSpelling}
use Rattle.gs_translate.proofs.StepLaws.{then_appended, unless_rejected}
use Rattle.gs_translate.proofs.translator.Translator.append_named.Goals as goal

pub returns-in_err-named-clause-written : goal.returns-in_err-named-clause-written
returns-in_err-named-clause-written c =
    let p = err_from_is_err_and c.from_residual.result c.from_residual.ensures.1 in
    let named = rw c.in_err-named.was at c.requires.named in
    rw (p.1, p.2) (unless_rejected Elements (Unit {0}) c.in_err-named.field-0.0 (λ said. (refl, rejects c.in_err-named.field-0.0 (short c.requires.short said) refl)) named)

pub returns-clause-written : goal.returns-clause-written
returns-clause-written c =
    let t = c.self.inside in
    let means = rw (← c.self.view_is, c.in_ok-named.was) at c.requires.named in
    let read : IsRead t.set.now t.from c.args.text.now (Ok (identity_meaning c.in_ok-named.field-0)) = short c.requires.short means in
    let spelled = rw c.kept-identity.ensures.kept at c.append_spelling.ensures.written in
    rw (← c.self.view_is) (then_appended (IsRead t.set.now t.from c.args.text.now) (λ meaning. IsSpelling t.set.now t.prefixes.now t.options.now t.to (kept t.set.now t.options.now.keys_only meaning)) (identity_meaning c.in_ok-named.field-0) c.args.out.now.items c.append_spelling.new.out.items c.append_spelling.result read spelled)
