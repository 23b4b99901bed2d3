-- The built-in classes: a lot of a trade item, TDS 2.0, 'EPC Class URIs' (`urn:epc:class:lgtin`).
use Rattle.std.specs.Prelude.{ℕ, ◌-◌, List, [], ◌∷◌, map, codes, Option, Some, None}
use Rattle.gs_grammar.specs.declared.item.Item.TheVariants.{Lit, Pad, Esc}
use Rattle.gs_tables_document.specs.declared.document.Field.TheVariants.{Gcp, Rest, Serial}
use Rattle.gs_tables_document.specs.Items.{FieldItem}
use Rattle.gs_class.specs.declared.document.ClassRow.{ClassRow}

-- trusted, TDS 2.0, 'EPC Class URIs': the list of a company prefix of n digits, the indicator digit with the item reference,
-- and the lot
abbrev pub lgtin_items : ℕ → List (Option FieldItem)
lgtin_items n =
    Some (None, Lit (codes "urn:epc:class:lgtin:")) ∷ Some (Some Gcp, Pad n) ∷ Some (None, Lit (codes "."))
    ∷ Some (Some Rest, Pad (13 - n)) ∷ Some (None, Lit (codes ".")) ∷ Some (Some Serial, Esc 1 20) ∷ []

-- trusted, TDS 2.0, 'EPC Class URIs': the lot of a trade item whose company prefix has n digits
abbrev pub lgtin_row : ℕ → ClassRow
lgtin_row n = record { name = codes "lgtin"; key = codes "01"; lead = 1; element = codes "10"; gcp = n; items = lgtin_items n }

-- trusted, own: the built-in classes, by the length of the company prefix from 12 down to 6
abbrev pub built_in_rows : List ClassRow
built_in_rows = map lgtin_row (12 ∷ 11 ∷ 10 ∷ 9 ∷ 8 ∷ 7 ∷ 6 ∷ [])
