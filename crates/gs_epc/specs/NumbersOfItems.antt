-- The numbers of the first items of fields.
use Rattle.std.specs.Prelude.{◌≡◌, ◌+◌, ℕ, List, drop, position, slice_index, Option, Some, None}
use Rattle.gs_tables_document.specs.declared.document.Field.{Field}
use Rattle.gs_tables_document.specs.declared.document.Field.TheVariants.{Filter, Gcp, Rest, Piece, Total, Serial}
use Rattle.gs_tables.specs.Rules.{is_field}

-- the index of a field
abbrev pub index_of : Field → ℕ
index_of Filter = 0
index_of Gcp = 1
index_of Rest = 2
index_of Piece = 3
index_of Total = 4
index_of Serial = 5

-- the number of an item and one more, by its place after `from` items, and 0 if there is none
abbrev pub number_from : ℕ → Option ℕ → ℕ
number_from from None = 0
number_from from (Some place) = from + place + 1

-- holds if the numbers are those of the first items of the fields from a place on
abbrev pub AreNumbersFrom : ℕ → List (Option Field) → List ℕ → Type 0
AreNumbersFrom from fields numbers =
    (field : Field) → slice_index numbers (index_of field) ≡ number_from from (position (is_field field) (drop from fields))
