use Rattle.std.proofs.Common.{◌≡◌, ◌++◌}
use Rattle.std.proofs.lemmas.Result.{IfOk-weaker}
use Rattle.gs_ident.specs.Links.{percent_encoded}
use Rattle.gs_epc.specs.Layout.{behind_check, key_digits, with_check, zero_in_front}
use Rattle.gs_epc.proofs.WrittenLinks.{digits_written}
use Rattle.gs_epc.proofs.link_writer.append_digits_value.Goals as goal

pub returns-clause-written : goal.returns-clause-written
returns-clause-written c =
    let out = c.args.out.now.items in
    let parts = c.args.parts.now in
    let digits = key_digits c.args.kind.now.lead c.args.fields.now.prefix c.args.fields.now.rest in
    let behind = behind_check c.args.kind.now c.args.fields.now in
    let now = c.append_behind.new.out.items in
    let zero = rw c.zero_in_front.ensures at c.in_ok-append_few.ensures.written in
    let checked : c.append_checked.new.out.items ≡ c.append_few.new.out.items ++ with_check digits = rw (← c.fields.view_is) c.in_ok-append_checked.ensures.written in
    IfOk-weaker c.append_behind.result (λ _. now ≡ c.append_checked.new.out.items ++ percent_encoded behind) (λ _. now ≡ out ++ percent_encoded (zero_in_front parts ++ with_check digits ++ behind))
    (λ _ e. digits_written parts out digits behind c.append_few.new.out.items c.append_checked.new.out.items now c.requires.digits zero checked e) c.append_behind.ensures.written
