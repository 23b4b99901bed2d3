-- The number of a filter value, and the EPC that has it.
use Rattle.std.proofs.Common.{◌≡◌, ℕ, List, [], Option, Some, None, option_map, refl, ap, arith}
use Rattle.std.specs.Prelude.{IfSome}
use Rattle.std.specs.Option.{option_map_or}
use Rattle.gs_grammar.specs.Words.{decimal_value}
use Rattle.gs_tables_document.specs.declared.document.Field.{Field}
use Rattle.gs_tables_document.specs.declared.document.Field.TheVariants.{Filter}
use Rattle.gs_tables_document.specs.declared.document.OptInfo.{OptInfo}
use Rattle.gs_epc.specs.Epcs.{epc_of, value_at, value_of}
use Rattle.gs_epc.specs.FieldTexts.{epc_with, filter_number, key_fields}
use Rattle.gs_epc.specs.Filters.{IsFilter}
use Rattle.gs_epc.specs.Layout.{KeyFields, fields_in}

-- a filter value is the number of its one digit
number_told : (value : Option (List ℕ)) → IfSome value IsFilter → filter_number (option_map_or (λ text. text) value []) ≡ option_map decimal_value value
number_told None is = refl
number_told (Some value) is = rw is.text (ap Some (omega arith))

-- the number of the filter value and the texts of the key give the EPC
pub epc_told : (info : OptInfo) (values : List (List ℕ)) (fields : List (Option Field)) (filter : Option ℕ) (texts : KeyFields)
    → IfSome (value_at Filter info.fields values) IsFilter → fields ≡ info.fields → filter ≡ filter_number (value_of Filter fields values)
    → texts ≡ key_fields fields values → epc_with info filter texts ≡ epc_of info values
epc_told info values fields filter texts is e f g = rw (g, f, e, number_told (value_at Filter info.fields values) is) refl

pub texts_told : (info : OptInfo) (values : List (List ℕ)) (fields : List (Option Field)) (texts : KeyFields) → fields ≡ info.fields
    → texts ≡ key_fields fields values → texts ≡ fields_in (epc_of info values)
texts_told info values fields texts e g = rw (g, e) refl
