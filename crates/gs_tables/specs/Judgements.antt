-- Which levels of a set are ambiguous: none of a set that is loaded, and the first of one that is rejected. After TDT 2.0,
-- section 3 (levels and options); that no level is ambiguous, and the order, are this project's own.
use Rattle.std.specs.Prelude.{ℕ, List, Result, Ok, Err}
use Rattle.gs_tables_document.specs.declared.error.LoadFault.{LoadFault}
use Rattle.gs_tables_document.specs.declared.error.LoadFault.TheVariants.{Ambiguous}
use Rattle.gs_tables_document.specs.declared.document.LevelName.{LevelName}
use Rattle.gs_tables_document.specs.declared.document.LevelName.TheVariants.{Binary, Tag, Pure}
use Rattle.gs_grammar.specs.Ambiguity.{IsUnambiguous, ShowsFirstShare}
use Rattle.gs_grammar.specs.Levels.{LevelForm, item_lists}
use Rattle.gs_tables.specs.Tables.{IsShaped, TableRows, level_rows}

-- trusted, own: the levels of a set, by their names
abbrev pub levels_of : TableRows → LevelName → LevelForm
levels_of set name = (level_rows name set).level

-- trusted, own: holds if `level` is not ambiguous
abbrev pub IsClear : LevelForm → Type 0
IsClear level = IsUnambiguous (item_lists level.options)

-- trusted, own: holds if no level is ambiguous
abbrev pub AreClear : (LevelName → LevelForm) → Type 0
AreClear levels = (name : LevelName) → IsClear (levels name)

-- trusted, own: holds if no level before the named one is ambiguous, in the order binary, tag, pure
abbrev pub AreClearBefore : (LevelName → LevelForm) → LevelName → Type 0
AreClearBefore levels Binary = Unit {0}
AreClearBefore levels Tag = IsClear (levels Binary)
AreClearBefore levels Pure = IsClear (levels Binary) × IsClear (levels Tag)

-- trusted, own, after TDT 2.0 section 3: Holds if the level `name` is the first that is ambiguous. Its options `i` and `j` are
-- the first pair that shares a list, and `text` shows one that they share.
pub record IsFirstAmbiguous (levels : LevelName → LevelForm) (name : LevelName) (i j : ℕ) (text : List ℕ) : Type 0 where
  pub before : AreClearBefore levels name
  pub share : ShowsFirstShare (levels name) i j text

-- trusted, own: holds if `set` is the set of rows that no rule rejects, and none of its levels is ambiguous
pub record IsLoaded (set : TableRows) : Type 0 where
  pub shaped : IsShaped set
  pub clear : AreClear (levels_of set)

-- trusted, own: Holds if the result is a rejection by the rules, or a set that they make with no ambiguous level. With an
-- ambiguous level the result is a rejection. It names the first such level, its first pair of options that shares a list, and a
-- text that shows one.
abbrev pub Judged : (Result TableRows LoadFault → Type 0) → Result TableRows LoadFault → Type 0
Judged Ruled (Ok set) = Ruled (Ok set) × AreClear (levels_of set)
Judged Ruled (Err (Ambiguous name i j text)) = (set : TableRows) × Ruled (Ok set) × IsFirstAmbiguous (levels_of set) name i j text
Judged Ruled (Err error) = Ruled (Err error)
