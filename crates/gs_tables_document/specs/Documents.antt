-- Table documents in JSON, this project's own profile: the form of a document, and its rows.
use Rattle.std.specs.Prelude.{◌≡◌, ◌≢◌, ◌==◌, ℕ, Bool, true, false, List, [], ◌∷◌, ◌++◌, codes, Option, unwrap_or}
use Rattle.serde_json.specs.Data.{Data}
use Rattle.serde_json.specs.Find.{as_object, as_str}
use Rattle.gs_json.specs.Members.{array_errors, items_in, may, must, number_in, text_in, truth_in}
use Rattle.gs_json.specs.Shapes.{members_errors}
use Rattle.gs_json.specs.declared.error.JsonFault.{JsonFault}
use Rattle.gs_json.specs.declared.plan.Entry.{Entry}
use Rattle.gs_json.specs.declared.plan.Sort.TheVariants.{Text, Number, Truth, Array, Texts, Arrays}
use Rattle.gs_ai.specs.declared.part.Part.{Part}
use Rattle.gs_ai.specs.declared.part.Part.TheVariants as part
use Rattle.gs_ai.specs.declared.part.Role.{Role}
use Rattle.gs_ai.specs.declared.part.Role.TheVariants as role
use Rattle.gs_ai.specs.declared.row.AiRow.{AiRow}
use Rattle.gs_ai.specs.Parts.{WritesNoRole, is_part, part_text, role_text}
use Rattle.gs_tables_document.specs.declared.document.Document.{Document}
use Rattle.gs_tables_document.specs.declared.document.KindRow.{KindRow}
use Rattle.gs_tables_document.specs.declared.document.OptionRow.{OptionRow}
use Rattle.gs_tables_document.specs.declared.document.LevelName.{LevelName}
use Rattle.gs_tables_document.specs.declared.document.LevelName.TheVariants.{Binary, Tag, Pure}
use Rattle.gs_tables_document.specs.declared.plans.Reading.{Reading}
use Rattle.gs_tables_document.specs.Items.{FieldItem, item_in, item_of}

-- ---- the form of a document

-- trusted, own: the members of the document, and of each row: those that must be there, then those that may
abbrev pub document_plan : List Entry
document_plan = must (codes "version") Number ∷ must (codes "ais") Array ∷ must (codes "kinds") Array ∷ must (codes "binary") Array ∷ must (codes "tag") Array ∷ must (codes "pure") Array ∷ []

-- trusted, own: the members of an application identifier
abbrev pub ai_plan : List Entry
ai_plan = must (codes "code") Text ∷ must (codes "parts") Texts ∷ must (codes "role") Text ∷ may (codes "qualifiers") Texts ∷ may (codes "short") Truth ∷ may (codes "none") Text ∷ []

-- trusted, own: the members of a kind, of a document of version 2 and of one of another version
abbrev pub kind_plan : Bool → List Entry
kind_plan false = must (codes "name") Text ∷ must (codes "key") Text ∷ must (codes "lead") Number ∷ must (codes "serial") Text ∷ []
kind_plan true = must (codes "name") Text ∷ must (codes "key") Text ∷ must (codes "lead") Number ∷ must (codes "serial") Text ∷ must (codes "fields") Texts ∷ []

-- trusted, own: the members of an option
abbrev pub option_plan : List Entry
option_plan = must (codes "kind") Text ∷ must (codes "encoding") Text ∷ must (codes "gcp") Number ∷ must (codes "items") Arrays ∷ []

-- trusted, own: holds if the document `d` is of version 2
abbrev pub is_second : Data → Bool
is_second d = number_in (codes "version") d == 2

-- trusted, own: the errors of an object by its plan
abbrev pub object_errors : List ℕ → List Entry → Data → List JsonFault
object_errors place plan d = members_errors place plan (as_object d)

-- trusted, own: the errors of the rows of the array of this name
unfoldable pub rows_errors : List ℕ → List Entry → Data → List JsonFault
rows_errors name plan d = array_errors [] name plan d

-- trusted, own: the errors of a document: those of its object, then those of the rows of each array
unfoldable pub document_errors : Data → List JsonFault
document_errors d =
    object_errors [] document_plan d
    ++ (rows_errors (codes "ais") ai_plan d
    ++ (rows_errors (codes "kinds") (kind_plan (is_second d)) d
    ++ (rows_errors (codes "binary") option_plan d
    ++ (rows_errors (codes "tag") option_plan d
    ++ rows_errors (codes "pure") option_plan d))))

-- ---- the rows of a document

-- trusted, own: holds if the symbols of the level are bits
abbrev pub is_bits : LevelName → Bool
is_bits Binary = true
is_bits Tag = false
is_bits Pure = false

-- trusted, own: holds if `Is` relates each item of the first list to the item of the second at its place, and the lists have
-- one length
abbrev pub Each : {X Y : Type 0} → (X → Y → Type 0) → List X → List Y → Type 0
Each Is [] [] = Unit {0}
Each Is (x ∷ xs) (y ∷ ys) = Is x y × Each Is xs ys
Each Is _ _ = ⊥

-- trusted, own: the text of this value, and the empty text if it is not a text
abbrev pub text_of : Data → List ℕ
text_of d = unwrap_or (as_str d) []

-- trusted, own: holds if the value `d` is the text `text`
abbrev pub IsText : Data → List ℕ → Type 0
IsText d text = text ≡ text_of d

-- trusted, own: holds if `text` writes the part `p`, or `p` is `Other` and `text` writes no part
pub record IsPart (text : List ℕ) (p : Part) : Type 0 where
  pub written : p ≢ part.Other → (is_part p ≡ true) × (part_text p ≡ text)
  pub other : p ≡ part.Other → (q : Part) → is_part q ≡ true → part_text q ≡ text → ⊥

-- trusted, own: holds if `text` writes the role `r`, or `r` is `Other` and `text` writes no role
pub record IsRole (text : List ℕ) (r : Role) : Type 0 where
  pub written : r ≢ role.Other → role_text r ≡ text
  pub other : r ≡ role.Other → WritesNoRole text

-- trusted, own: the reading of a part in a document of version 2, or in one of another version, which has no part `n..K?`
abbrev pub part_in : Bool → Part → Part
part_in false (part.NumOpt _) = part.Other
part_in _ p = p

-- trusted, own: holds if `p` is the part that the text `d` writes, in a document of version 2 or, if `second` is false, of
-- another
abbrev pub IsPartOf : Bool → Data → Part → Type 0
IsPartOf second d p = (q : Part) × IsPart (text_of d) q × (p ≡ part_in second q)

-- trusted, own: holds if `row` is the application identifier `d`, in a document of version 2 or, if `second` is false, of
-- another
pub record IsAiRow (second : Bool) (d : Data) (row : AiRow) : Type 0 where
  pub code : row.code ≡ text_in (codes "code") d
  pub parts : Each (IsPartOf second) (items_in (codes "parts") d) row.parts
  pub role : IsRole (text_in (codes "role") d) row.role
  pub qualifiers : Each IsText (items_in (codes "qualifiers") d) row.qualifiers
  pub short : row.short ≡ truth_in (codes "short") d
  pub none : row.none ≡ text_in (codes "none") d

-- trusted, own: holds if `row` is the kind `d`
pub record IsKindRow (d : Data) (row : KindRow) : Type 0 where
  pub name : row.name ≡ text_in (codes "name") d
  pub key : row.key ≡ text_in (codes "key") d
  pub lead : row.lead ≡ number_in (codes "lead") d
  pub serial : row.serial ≡ text_in (codes "serial") d
  pub fields : Each IsText (items_in (codes "fields") d) row.fields

-- trusted, own: the reading of the options of a bit level of `document`
abbrev pub of_bits : Data → Reading
of_bits document = record { bits = true; second = is_second document }

-- trusted, own: the reading of the options of a text level of `document`
abbrev pub of_texts : Data → Reading
of_texts document = record { bits = false; second = is_second document }

-- trusted, own: holds if `entry` is the item that the array `d` is, or `None` if it is not an item
abbrev pub IsItemAt : Reading → Data → Option FieldItem → Type 0
IsItemAt reading d entry = entry ≡ item_in reading.second (item_of reading.bits d)

-- trusted, own: holds if `row` is the option `d` of a bit level or of a text level
pub record IsOptionRow (reading : Reading) (d : Data) (row : OptionRow) : Type 0 where
  pub kind : row.kind ≡ text_in (codes "kind") d
  pub encoding : row.encoding ≡ text_in (codes "encoding") d
  pub gcp : row.gcp ≡ number_in (codes "gcp") d
  pub items : Each (IsItemAt reading) (items_in (codes "items") d) row.items

-- trusted, own: holds if `document` has the version and the rows of `d`
pub record IsDocument (d : Data) (document : Document) : Type 0 where
  pub version : document.version ≡ number_in (codes "version") d
  pub ais : Each (IsAiRow (is_second d)) (items_in (codes "ais") d) document.ais
  pub kinds : Each IsKindRow (items_in (codes "kinds") d) document.kinds
  pub binary : Each (IsOptionRow (of_bits d)) (items_in (codes "binary") d) document.binary
  pub tag : Each (IsOptionRow (of_texts d)) (items_in (codes "tag") d) document.tag
  pub pure : Each (IsOptionRow (of_texts d)) (items_in (codes "pure") d) document.pure
