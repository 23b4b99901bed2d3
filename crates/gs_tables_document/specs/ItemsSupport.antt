-- Definitions for proofs and private functions, in addition to Items.antt.
use Rattle.std.specs.Prelude.{ℕ, ◌+◌, ◌==◌, if◌then◌else◌, List, Option, Some, None, option_map, option_and_then}
use Rattle.serde_json.specs.Data.{Data}
use Rattle.gs_json.specs.Answers.{items_count}
use Rattle.gs_tables_document.specs.declared.document.Field.{Field}
use Rattle.gs_tables_document.specs.Items.{text_arg, field_arg, byte_arg}

-- a count is this one
abbrev pub exactly : ℕ → ℕ → Option Unit
exactly n count = if count == n then Some tt else None

-- the numbers at a place of an array and the next, each below 2^8
abbrev pub two_bytes : ℕ → Data → Option (ℕ × ℕ)
two_bytes i d = option_and_then (λ a. option_map (λ b. (a, b)) (byte_arg (i + 1) d)) (byte_arg i d)

-- the field that the second part of an array of this many parts names
abbrev pub field_of_sized : ℕ → Data → Option Field
field_of_sized n d = if items_count d == n then field_arg 1 d else None

-- the text of a literal, in an array of two parts
abbrev pub literal_text : Data → Option (List ℕ)
literal_text d = if items_count d == 2 then text_arg 1 d else None
