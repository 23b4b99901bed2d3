use Rattle.std.proofs.Common.{◌≡◌, ◌∙◌, false, is_some, refl, sym, true}
use Rattle.gs_ai.specs.Tables.{is_row}
use Rattle.gs_ai.specs.Values.{has_code}
use Rattle.gs_ident.proofs.KeyPairs.{found_place}
use Rattle.gs_tables.specs.Forms.{characters_of}
use Rattle.gs_epc.specs.Layout.{fields_in, parts_at}
use Rattle.gs_epc.proofs.LayoutValues.{are_key_digits}
use Rattle.gs_epc.proofs.layout.key_value.Goals as goal

pub parts_of-parts-requires : goal.parts_of-parts-requires
parts_of-parts-requires c = rw (← c.epc.view_is) at c.requires.named

pub digits_value-requires : goal.digits_value-requires
digits_value-requires c =
    let fit = c.requires.fit in
    let kept = rw c.ais.ensures.rows at c.rows.ensures.kept in
    let row = fit.of_kind.row in
    let place = found_place (has_code c.args.kind.now.key) c.args.set.now.ais row fit.of_kind.found in
    let in_order : is_row row ≡ true = (kept.rows_in_order place.0 row place.1).0 in
    let parts : parts_at c.args.set.now.ais c.args.kind.now.key ≡ row.parts = rw fit.of_kind.found refl in
    let are : is_some (characters_of row.parts) ≡ false = sym (rw (c.parts_of-parts.ensures, parts) at c.are_characters.ensures) ∙ c.if-are_characters.false in
    are_key_digits c.args.set.now.ais c.args.kind.now (fields_in c.args.epc.now) fit row (sym fit.of_kind.found) in_order are
