-- Definitions for proofs and private functions, in addition to Rules.antt.
use Rattle.std.specs.Prelude.{ℕ, ◌-◌, List, Option}
use Rattle.gs_grammar.specs.Items.{size_of_all}
use Rattle.gs_tables_document.specs.Items.{FieldItem, alone, present}

-- the sum of the sizes of the items that are not absent
abbrev pub size_there : List (Option FieldItem) → ℕ
size_there items = size_of_all (alone (present items))
