use Rattle.std.proofs.Common.{List, ℕ}
use Rattle.std.proofs.lemmas.Result.{err_from_is_err_and}
use Rattle.gs_translate.specs.Translations.{IsTranslated}
use Rattle.gs_translate.proofs.StepLaws.{appended_alone, unless_rejected}
use Rattle.gs_translate.proofs.translator.Translator.translate.Goals as goal

pub returns-in_err-append : goal.returns-in_err-append
returns-in_err-append c =
    let p = err_from_is_err_and c.from_residual-in_err-append.result c.from_residual-in_err-append.ensures.1 in
    rw (p.1, p.2) (unless_rejected (Unit {0}) (List ℕ) c.in_err-append.field-0.0 (λ said. said.1) c.in_err-append.ensures.written)

pub returns : goal.returns
returns c =
    let appended = c.in_ok-append.ensures.written in
    appended_alone (IsTranslated c.args.self.now c.args.text.now) _ _ appended.0 c.from_vec.result c.in_ok-out.ensures appended.1 c.from_vec.ensures appended.2
