use Rattle.std.proofs.Common.{◌∙◌}
use Rattle.gs_epc.specs.Layout.{fields_in}
use Rattle.gs_epc.proofs.LayoutLaws.{laid_out, laid_with}
use Rattle.gs_epc.proofs.layout.lay_out.Goals as goal

pub returns-clause-laid : goal.returns-clause-laid
returns-clause-laid c =
    let pairs = c.in_ok-key.ensures in
    laid_out c.args.set.now.ais c.args.kind.now (fields_in c.args.epc.now) _ _ _ _ c.from_pairs.ensures pairs.key
    (c.in_ok-qualifiers.ensures ∙ pairs.serial) c.new.ensures.items

pub returns-clause-with_table : goal.returns-clause-with_table
returns-clause-with_table c =
    let pairs = c.in_ok-key.ensures in
    let ais = c.args.set.now.ais in
    let fields = fields_in c.args.epc.now in
    let laid = laid_out ais c.args.kind.now fields _ _ _ _ c.from_pairs.ensures pairs.key (c.in_ok-qualifiers.ensures ∙ pairs.serial) c.new.ensures.items in
    rw laid (laid_with ais c.args.kind.now fields c.requires.fit (rw c.ais.ensures.rows at c.rows.ensures.kept))
