use Rattle.std.proofs.Common.{◌≡◌, ◌++◌, ◌∙◌, false, true, is_some, refl, sym}
use Rattle.std.proofs.lemmas.Result.{IfOk-weaker}
use Rattle.gs_ai.specs.Tables.{is_row}
use Rattle.gs_ai.specs.Values.{has_code}
use Rattle.gs_ident.proofs.KeyPairs.{found_place}
use Rattle.gs_ident.specs.Links.{percent_encoded}
use Rattle.gs_tables.specs.Forms.{characters_of}
use Rattle.gs_epc.specs.Layout.{parts_at}
use Rattle.gs_epc.proofs.LayoutValues.{are_key_digits}
use Rattle.gs_epc.proofs.WrittenLinks.{characters_value, two_written}
use Rattle.gs_epc.proofs.link_writer.append_value.Goals as goal

pub returns-then-are_characters-clause-written : goal.returns-then-are_characters-clause-written
returns-then-are_characters-clause-written c =
    let out = c.args.out.now.items in
    let parts = parts_at c.args.set.now.ais c.args.kind.now.key in
    let fields = c.args.fields.now in
    let now = c.append_escaped-then-are_characters.new.out.items in
    let are : is_some (characters_of parts) ≡ true = sym (rw c.parts_of-parts.ensures at c.are_characters.ensures) ∙ c.if-are_characters.true in
    rw (characters_value parts c.args.kind.now fields are) (rw (← c.fields.view_is) (IfOk-weaker c.append_escaped-then-are_characters.result (λ _. now ≡ c.append_escaped.new.out.items ++ percent_encoded c.fields.inside.rest.now)
    (λ _. now ≡ out ++ percent_encoded (c.fields.inside.prefix.now ++ c.fields.inside.rest.now))
    (λ _ e. two_written out c.fields.inside.prefix.now c.fields.inside.rest.now c.append_escaped.new.out.items now c.in_ok-append_escaped.ensures.written e) c.append_escaped-then-are_characters.ensures.written))

pub append_digits_value-requires : goal.append_digits_value-requires
append_digits_value-requires c =
    let fit = c.requires.fit in
    let kept = rw c.ais.ensures.rows at c.rows.ensures.kept in
    let row = fit.of_kind.row in
    let place = found_place (has_code c.args.kind.now.key) c.args.set.now.ais row fit.of_kind.found in
    let in_order : is_row row ≡ true = (kept.rows_in_order place.0 row place.1).0 in
    let parts : parts_at c.args.set.now.ais c.args.kind.now.key ≡ row.parts = rw fit.of_kind.found refl in
    let are : is_some (characters_of row.parts) ≡ false = sym (rw (c.parts_of-parts.ensures, parts) at c.are_characters.ensures) ∙ c.if-are_characters.false in
    are_key_digits c.args.set.now.ais c.args.kind.now c.args.fields.now fit row (sym fit.of_kind.found) in_order are
