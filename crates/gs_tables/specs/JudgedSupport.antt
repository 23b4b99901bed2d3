-- Definitions for proofs and private functions, in addition to Judged.antt.
use Rattle.std.specs.Prelude.{◌≡◌, ◌⊎◌, List, [], Some, slice_get, Result, Ok, Err}
use Rattle.gs_tables_document.specs.declared.document.KindRow.{KindRow}
use Rattle.gs_tables_document.specs.declared.document.OptionRow.{OptionRow}
use Rattle.gs_tables_document.specs.declared.error.LoadFault.{LoadFault}
use Rattle.gs_tables_document.specs.declared.error.LoadFault.TheVariants.{Ambiguous, Memory}
use Rattle.gs_tables_document.specs.declared.document.LevelName.{LevelName}
use Rattle.gs_tables_document.specs.declared.document.LevelName.TheVariants.{Binary, Tag, Pure}
use Rattle.gs_grammar.specs.Ambiguity.{ShowsFirstShare}
use Rattle.gs_grammar.specs.Levels.{LevelForm}
use Rattle.gs_tables.specs.declared.level_tables.LevelTables.{LevelTables}
use Rattle.gs_tables.specs.Tables.{level_of}
use Rattle.gs_tables.specs.Judgements.{IsClear, AreClear, IsFirstAmbiguous}

-- the level of a name among three
abbrev pub by_name : LevelForm → LevelForm → LevelForm → LevelName → LevelForm
by_name binary tag pure Binary = binary
by_name binary tag pure Tag = tag
by_name binary tag pure Pure = pure

-- holds if the result is the check of this level: it is not ambiguous, or it is rejected; or `Memory` instead
abbrev pub IsLevelJudged : LevelName → LevelForm → Result (Unit {0}) LoadFault → Type 0
IsLevelJudged name level (Ok _) = IsClear level
IsLevelJudged name level (Err (Ambiguous other i j text)) = (other ≡ name) × ShowsFirstShare level i j text
IsLevelJudged name level (Err Memory) = Unit {0}
IsLevelJudged name level (Err _) = ⊥

-- holds if the result is the check of all levels: none is ambiguous, or the first that is; or `Memory` instead
abbrev pub AreJudged : (LevelName → LevelForm) → Result (Unit {0}) LoadFault → Type 0
AreJudged levels (Ok _) = AreClear levels
AreJudged levels (Err (Ambiguous name i j text)) = IsFirstAmbiguous levels name i j text
AreJudged levels (Err Memory) = Unit {0}
AreJudged levels (Err _) = ⊥

-- the levels that rows make
abbrev pub levels_of_rows : List KindRow → (binary tag pure : List OptionRow) → LevelName → LevelForm
levels_of_rows kinds binary tag pure = by_name (level_of kinds Binary binary).level (level_of kinds Tag tag).level (level_of kinds Pure pure).level

-- holds if the tables of the levels are those that rows make
abbrev pub AreOfRows : List KindRow → (binary tag pure : List OptionRow) → LevelTables → Type 0
AreOfRows kinds binary tag pure made =
    (made.binary ≡ level_of kinds Binary binary) × (made.tag ≡ level_of kinds Tag tag) × (made.pure ≡ level_of kinds Pure pure)

-- Holds if this is the result of rows, given the rejections of the rules and the levels of the rows. It is the first rejection.
-- If there is none, it is the check of the levels, and the value if none of them is ambiguous.
abbrev pub RuledAnswer : {X : Type 0} → List LoadFault → (LevelName → LevelForm) → (X → Type 0) → Result X LoadFault → Type 0
RuledAnswer rejections levels Made (Ok made) = (rejections ≡ []) × AreClear levels × Made made
RuledAnswer rejections levels Made (Err e) = (slice_get rejections 0 ≡ Some e) ⊎ ((rejections ≡ []) × AreJudged levels (Err e))
