-- Definitions for proofs and private functions, in addition to Tables.antt.
use Rattle.std.specs.Prelude.{◌≡◌, List, [], ◌++◌, Some, slice_get, Result, Ok, Err}
use Rattle.gs_ai.specs.declared.row.AiRow.{AiRow}
use Rattle.gs_tables_document.specs.declared.document.Document.{Document}
use Rattle.gs_tables_document.specs.declared.document.KindRow.{KindRow}
use Rattle.gs_tables_document.specs.declared.document.OptionRow.{OptionRow}
use Rattle.gs_tables_document.specs.declared.error.LoadFault.{LoadFault}
use Rattle.gs_tables_document.specs.declared.document.Kind.{Kind}
use Rattle.gs_tables_document.specs.declared.document.LevelName.{LevelName}
use Rattle.gs_tables_document.specs.declared.document.LevelName.TheVariants.{Binary, Tag, Pure}
use Rattle.gs_tables.specs.declared.level_tables.LevelTable.{LevelTable}
use Rattle.gs_tables.specs.Tables.{TableRows, kinds_rejections, level_rejections, rejections}

-- the set of these parts
abbrev pub set_with : List AiRow → List Kind → LevelTable → LevelTable → LevelTable → TableRows
set_with ais kinds binary tag pure = record { ais = ais; kinds = kinds; binary = binary; tag = tag; pure = pure }

-- the options of a level
abbrev pub options_of : LevelName → Document → List OptionRow
options_of Binary document = document.binary
options_of Tag document = document.tag
options_of Pure document = document.pure

-- the rejections of the kinds and of the options, in their order
abbrev pub rule_rejections : List AiRow → List KindRow → List OptionRow → List OptionRow → List OptionRow → List LoadFault
rule_rejections ais kinds binary tag pure =
    kinds_rejections ais kinds
    ++ (level_rejections ais kinds Binary binary ++ (level_rejections ais kinds Tag tag ++ level_rejections ais kinds Pure pure))

-- holds if the result is the first of the rejections, or Ok if there are none
abbrev pub IsFirst : List LoadFault → Result (Unit {0}) LoadFault → Type 0
IsFirst rejections (Ok _) = rejections ≡ []
IsFirst rejections (Err error) = slice_get rejections 0 ≡ Some error
