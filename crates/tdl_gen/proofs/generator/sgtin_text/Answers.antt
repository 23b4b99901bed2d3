use Rattle.std.proofs.Common.{◌++◌, ◌∷◌, ◌/◌, ◌%◌, ◌^◌, ap, sym, append_assoc}
use Rattle.std.specs.Prelude.{codes, decimal}
use Rattle.tdl_gen.specs.Generator.{digits_in}
use Rattle.tdl_gen.proofs.LineLemmas.{zeros_before}
use Rattle.tdl_gen.proofs.generator.sgtin_text.Goals as goal

pub returns : goal.returns
returns c =
    let x = c.args.state in
    rw (c.in_ok-format.ensures.ok, c.laid_out.ensures, c.laid_out-2.ensures, zeros_before 7 ((x / 2 ^ 40) % 10000000), zeros_before 6 ((x / 2 ^ 20) % 1000000))
    (ap (λ text. codes "urn:epc:id:sgtin:" ++ text) (sym (append_assoc (digits_in 7 ((x / 2 ^ 40) % 10000000)) (46 ∷ digits_in 6 ((x / 2 ^ 20) % 1000000)) (46 ∷ decimal c.args.serial))))
