use Rattle.std.proofs.Common.{◌≡◌, ◌++◌, ◌∙◌, Some, slice_get, ap, refl}
use Rattle.std.proofs.lemmas.Result.{IfOk-equal}
use Rattle.gs_ident.specs.Elements.{Elements}
use Rattle.gs_ident.specs.Links.{spelled}
use Rattle.gs_epc.specs.Layout.{fields_in}
use Rattle.gs_epc.proofs.FilterNumbers.{texts_told}
use Rattle.gs_epc.proofs.LaidLinks.{laid_is}
use Rattle.gs_epc.proofs.words.EpcWords.append_link.Goals as goal

pub append_laid_out-requires-clause-fit : goal.append_laid_out-requires-clause-fit
append_laid_out-requires-clause-fit c =
    let texts : c.key_texts-texts.result ≡ fields_in c.args.self.now = rw (← c.self.view_is) (texts_told c.self.inside.info.now _ _ _ (c.new-numbers.ensures ∙ c.items.ensures) c.key_texts-texts.ensures) in
    rw texts (c.kind_at-kind.ensures.fit c.args.self.now c.requires (rw (← c.self.view_is) refl))

pub returns-clause-written : goal.returns-clause-written
returns-clause-written c = λ identity laid.
    let named : slice_get c.args.set.now.kinds c.args.self.now.kind ≡ Some c.kind_at-kind.result.now = rw (← c.self.view_is) c.kind_at-kind.ensures.named in
    let texts : c.key_texts-texts.result ≡ fields_in c.args.self.now = rw (← c.self.view_is) (texts_told c.self.inside.info.now _ _ _ (c.new-numbers.ensures ∙ c.items.ensures) c.key_texts-texts.ensures) in
    IfOk-equal c.append_laid_out.result _ _ _ c.append_laid_out.ensures.written
    (ap (λ (i : Elements). c.args.out.now.items ++ spelled c.args.stem.now i) (laid_is c.args.set.now c.args.self.now identity c.kind_at-kind.result.now c.args.set.now.ais c.key_texts-texts.result named refl texts laid))
