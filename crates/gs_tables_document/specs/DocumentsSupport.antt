-- Definitions for proofs and private functions, in addition to Documents.antt.
use Rattle.std.specs.Prelude.{ℕ, Bool, List, codes}
use Rattle.serde_json.specs.Data.{Data}
use Rattle.gs_json.specs.Members.{items_in}
use Rattle.gs_ai.specs.declared.part.Part.{Part}
use Rattle.gs_tables_document.specs.declared.document.OptionRow.{OptionRow}
use Rattle.gs_tables_document.specs.Documents.{Each, IsText, IsPartOf, of_bits, of_texts, IsOptionRow}

-- holds if these are the parts and the qualifiers of a row of application identifiers
abbrev pub AreAiLists : Bool → Data → List Part × List (List ℕ) → Type 0
AreAiLists second d lists = Each (IsPartOf second) (items_in (codes "parts") d) lists.0 × Each IsText (items_in (codes "qualifiers") d) lists.1

-- holds if these are the rows of the options of the levels: binary, tag and pure
abbrev pub AreOptions : Data → List OptionRow × List OptionRow × List OptionRow → Type 0
AreOptions d rows =
    Each (IsOptionRow (of_bits d)) (items_in (codes "binary") d) rows.0
    × Each (IsOptionRow (of_texts d)) (items_in (codes "tag") d) rows.1
    × Each (IsOptionRow (of_texts d)) (items_in (codes "pure") d) rows.2
