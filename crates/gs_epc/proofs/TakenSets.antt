-- Taking apart undoes laying out, for an EPC of the set.
use Rattle.std.proofs.Common.{◌≡◌, [], length, Some, None, refl, sym, ◌∙◌}
use Rattle.gs_tables_document.specs.declared.document.Field.TheVariants.{Gcp}
use Rattle.gs_tables_document.specs.Documents.{is_bits}
use Rattle.gs_ident.specs.Elements.{Elements}
use Rattle.gs_tables.specs.Rules.{is_digits, is_gcp, is_one, items_of_field, keeps_gcp}
use Rattle.gs_tables.specs.Tables.{IsShaped, TableRows}
use Rattle.gs_tables.proofs.KeptSets.{options_kept}
use Rattle.gs_epc.specs.declared.epc.Epc.{Epc}
use Rattle.gs_epc.specs.Epcs.{IsOfSet}
use Rattle.gs_epc.specs.Layout.{IsLaidOut, fields_in}
use Rattle.gs_epc.specs.KeyParts.{epc_at}
use Rattle.gs_epc.proofs.KeptFields.{AreHeld, digits_of}
use Rattle.gs_epc.proofs.KeptLaws.{fit_kind}
use Rattle.gs_epc.proofs.TakenKeys.{taken_back}
use Rattle.std.proofs.lemmas.Bool.{and_parts}

-- the prefix of an EPC of the set has its length
prefix_count : (set : TableRows) (epc : Epc) → IsShaped set → IsOfSet set epc → length epc.prefix ≡ epc.gcp
unfolding keeps_gcp
prefix_count set epc shaped of_set =
    let kept = options_kept set of_set.level shaped of_set.option of_set.items of_set.info of_set.of_level of_set.said in
    let bits = is_bits of_set.level in
    let held : AreHeld bits kept.parts of_set.values of_set.words = record { each = rw kept.items_are at of_set.held; good = rw kept.items_are at kept.bounds.none_bad } in
    let one = (and_parts (is_gcp kept.of_kind.form kept.kind.lead of_set.info.gcp) (is_one (is_digits of_set.info.gcp) (items_of_field Gcp kept.parts)) kept.gcp).1 in
    let count = (digits_of bits Gcp kept.parts of_set.values of_set.words of_set.info.gcp held one).0 in
    rw (of_set.fields, kept.fields_are) count

pub apart : (set : TableRows) (epc : Epc) (identity : Elements) → IsShaped set → IsOfSet set epc → IsLaidOut set epc identity
    → epc_at set epc.kind identity epc.gcp ≡ Some (record epc { encoding = []; filter = None })
apart set epc identity shaped of_set laid =
    let fit = fit_kind set epc shaped of_set in
    let both : Some fit.0 ≡ Some laid.kind = sym fit.1 ∙ laid.named in
    let one : fit.0 ≡ laid.kind = cc in
    let back = taken_back set.ais laid.kind epc.gcp (fields_in epc) (rw one at fit.2) (prefix_count set epc shaped of_set) in
    rw (laid.named, laid.laid, back) refl
