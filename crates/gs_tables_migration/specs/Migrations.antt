-- Table documents of version 1 as documents of version 2, this project's own. The tree is the same, with the version 2 and, in
-- each kind, no further fields.
use Rattle.std.specs.Prelude.{◌≡◌, ℕ, ◌==◌, ◌||◌, Bool, true, false, if◌then◌else◌, List, [], map, codes, is_some}
use Rattle.std.specs.List.{list_all}
use Rattle.std.specs.Option.{option_map_or}
use Rattle.serde_json.specs.Data.{Data, number, unsigned, array, object, no_items, put}
use Rattle.serde_json.specs.Find.{as_object}
use Rattle.serde_json.specs.View.{items_of as listed}
use Rattle.serde_json.specs.Written.{compact_text}
use Rattle.gs_json.specs.Members.{document_of, items_in}
use Rattle.gs_ai.specs.declared.part.Part.{Part}
use Rattle.gs_ai.specs.declared.part.Part.TheVariants.{Other}
use Rattle.gs_ai.specs.declared.row.AiRow.{AiRow}
use Rattle.gs_tables_document.specs.Documents.{is_second}
use Rattle.gs_tables_document.specs.declared.document.Document.{Document}
use Rattle.gs_tables_document.specs.declared.document.OptionRow.{OptionRow}

-- trusted, own: the object with this value at a name, instead of its earlier value; a value that is not an object is unchanged
abbrev pub with_member : List ℕ → Data → Data → Data
with_member name value d = option_map_or (λ members. object (put name value members)) (as_object d) d

-- trusted, own: the kind with an empty list of further fields
abbrev pub with_fields : Data → Data
with_fields kind = with_member (codes "fields") (array no_items) kind

-- trusted, own: the kinds of a document, each with no further fields
abbrev pub kinds_with_fields : Data → Data
kinds_with_fields d = array (listed (map with_fields (items_in (codes "kinds") d)))

-- trusted, own: the document of version 2 for one of version 1; a document of version 2 is unchanged
unfoldable pub second_version : Data → Data
second_version d =
    if is_second d then d
    else with_member (codes "version") (number (unsigned 2)) (with_member (codes "kinds") (kinds_with_fields d) d)

-- trusted, own: The migrated text of a document: the JSON text of its second version, with no space. The members of each object
-- are in ascending order of name. It is empty for bytes that are not JSON text.
abbrev pub migrated : List ℕ → List ℕ
migrated bytes = option_map_or (λ d. compact_text (second_version d)) (document_of bytes) []

-- trusted, own: holds if `text` is the migrated text of `bytes`
abbrev pub IsMigrated : List ℕ → List ℕ → Type 0
IsMigrated bytes text = text ≡ migrated bytes

-- trusted, own: holds if each place of the items of `row` has an item
abbrev pub has_items : OptionRow → Bool
has_items row = list_all is_some row.items

-- trusted, own: holds if the part is one of the profile
abbrev pub is_known_part : Part → Bool
is_known_part Other = false
is_known_part _ = true

-- trusted, own: holds if each part of the application identifier `row` is one of the profile
abbrev pub has_parts : AiRow → Bool
has_parts row = list_all is_known_part row.parts

-- trusted, own: holds if the rows of `document`, of version 1 or 2, have only parts and items of the profile
pub record IsKnown (document : Document) : Type 0 where
  pub version : (document.version == 1 || document.version == 2) ≡ true
  pub ais : list_all has_parts document.ais ≡ true
  pub binary : list_all has_items document.binary ≡ true
  pub tag : list_all has_items document.tag ≡ true
  pub pure : list_all has_items document.pure ≡ true

-- trusted, own: the rows of a document as those of one of version 2
abbrev pub in_second : Document → Document
in_second document = record document { version = 2 }
