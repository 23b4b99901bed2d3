use Rattle.std.proofs.Common.{◌≡◌, ◌++◌}
use Rattle.std.proofs.lemmas.Result.{IfOk-weaker}
use Rattle.gs_ident.specs.Links.{percent_encoded}
use Rattle.gs_epc.specs.Layout.{tail_of_key}
use Rattle.gs_epc.proofs.WrittenLinks.{three_written}
use Rattle.gs_epc.proofs.link_writer.append_behind.Goals as goal

pub returns-clause-written : goal.returns-clause-written
returns-clause-written c =
    let out = c.args.out.now.items in
    let piece = c.fields.inside.piece.now in
    let total = c.fields.inside.total.now in
    let tail = tail_of_key c.args.kind.now.serial c.fields.inside.serial.now in
    let now = c.append_some-3.new.out.items in
    let last = rw c.tail_of_key.ensures at c.append_some-3.ensures.written in
    rw (← c.fields.view_is) (IfOk-weaker c.append_some-3.result (λ _. now ≡ c.append_some-2.new.out.items ++ percent_encoded tail) (λ _. now ≡ out ++ percent_encoded (piece ++ (total ++ tail)))
    (λ _ e. three_written out piece total tail c.append_some.new.out.items c.append_some-2.new.out.items now c.in_ok-append_some.ensures.written c.in_ok-append_some-2.ensures.written e) last)
