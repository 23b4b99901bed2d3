use Rattle.std.proofs.Common.{◌≡◌, ◌∷◌, ◌++◌}
use Rattle.std.proofs.lemmas.Result.{IfOk-weaker}
use Rattle.std.specs.List.{flat_map}
use Rattle.gs_ident.specs.Links.{path_step, percent_encoded}
use Rattle.gs_epc.specs.Layout.{serial_elements}
use Rattle.gs_epc.proofs.LaidLinks.{no_step, one_step}
use Rattle.gs_epc.proofs.link_writer.append_serial.Goals as goal

pub returns-in-Some-clause-written : goal.returns-in-Some-clause-written
returns-in-Some-clause-written c =
    let serial = c.args.serial.now in
    let elements = serial_elements c.args.set.now.ais c.args.kind.now.serial serial in
    IfOk-weaker c.append_element.result (λ _. c.append_element.new.out.items ≡ c.args.out.now.items ++ (47 ∷ (c.in-Some.code.now ++ 47 ∷ percent_encoded serial))) (λ _. c.append_element.new.out.items ≡ c.args.out.now.items ++ flat_map path_step elements)
    (λ _ e. one_step elements serial c.in-Some.code.now c.args.out.now.items c.append_element.new.out.items c.in-Some.ensures e) c.append_element.ensures.written

pub returns-in-None-clause-written : goal.returns-in-None-clause-written
returns-in-None-clause-written c =
    no_step (serial_elements c.args.set.now.ais c.args.kind.now.serial c.args.serial.now) c.args.serial.now c.args.out.now.items c.in-None.ensures
