use Rattle.std.proofs.Common.{◌≡◌, ◌∙◌, List, ℕ, refl}
use Rattle.gs_ai.specs.declared.row.AiRow.{AiRow}
use Rattle.gs_tables_document.specs.declared.document.Kind.{Kind}
use Rattle.gs_epc.specs.Layout.{KeyFields, fields_in, key_pair, key_value, parts_at}
use Rattle.gs_epc.proofs.layout.key_and_serial.Goals as goal

keyed : (ais : List AiRow) (kind : Kind) (fields : KeyFields) (code value : List ℕ) → code ≡ kind.key → value ≡ key_value (parts_at ais kind.key) kind fields
    → record { code = code; value = value } ≡ key_pair ais kind fields
keyed ais kind fields code value same valued = rw (same, valued) refl

pub returns-clause-key : goal.returns-clause-key
returns-clause-key c =
    keyed c.args.set.now.ais c.args.kind.now (fields_in c.args.epc.now) _ _ (c.lent.ensures ∙ c.as_bytes.ensures) (c.from.ensures ∙ c.in_ok-value.ensures)

pub returns-clause-serial : goal.returns-clause-serial
returns-clause-serial c = c.serial_pair.ensures
