-- Definitions for proofs and private functions, in addition to BuiltInAis.antt.
use Rattle.std.specs.Prelude.{ℕ, Bool, List, ◌++◌, drop, map, take}
use Rattle.std.specs.Borrow.{Bor}
use Rattle.gs_tables_builtin.specs.declared.builtin_codes.AiLine.{AiLine}
use Rattle.gs_tables_builtin.specs.declared.builtin_codes.AiLine.TheVariants as line
use Rattle.gs_ai.specs.declared.part.Part.{Part}
use Rattle.gs_ai.specs.declared.part.Role.{Role}
use Rattle.gs_ai.specs.declared.part.Role.TheVariants as role
use Rattle.gs_ai.specs.declared.row.AiRow.{AiRow}
use Rattle.gs_tables_builtin.specs.BuiltInAis.{attribute, qualifier, key, builtin_ais}

-- a row of these parts
abbrev pub ai_row : List ℕ → List Part → Role → List (List ℕ) → Bool → List ℕ → AiRow
ai_row code parts role qualifiers short none = record { code = code; parts = parts; role = role; qualifiers = qualifiers; short = short; none = none }

-- the text that is lent
abbrev pub known : Bor (List ℕ) → List ℕ
known text = text.now

-- the row that a line of the code describes
abbrev pub row_of : AiLine → AiRow
row_of (line.Attribute code p) = attribute code.now p
row_of (line.Qualifier code p none) = qualifier code.now p none.now
row_of (line.Key code parts qualifiers short) = key code.now parts.now (map known qualifiers.now) short

-- the n rows from index k
abbrev pub rows_at : ℕ → ℕ → List AiRow
rows_at k n = take n (drop k builtin_ais)

-- the rows of goods: identification and count, dates and weights
abbrev pub goods_ais : List AiRow
goods_ais = rows_at 0 4 ++ rows_at 4 6 ++ rows_at 10 5 ++ rows_at 15 7 ++ rows_at 22 6

-- the other rows: origins and destinations of goods, assets and services, and mutual agreements
abbrev pub other_ais : List AiRow
other_ais = rows_at 28 4 ++ rows_at 32 4 ++ rows_at 36 4 ++ rows_at 40 7 ++ rows_at 47 5 ++ rows_at 52 5
