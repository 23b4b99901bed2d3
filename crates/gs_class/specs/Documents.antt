-- Documents of classes in JSON, this project's own profile: the form of a document, and its rows.
use Rattle.std.specs.Prelude.{false, List, [], ◌∷◌, ◌++◌, map, codes}
use Rattle.serde_json.specs.Data.{Data}
use Rattle.serde_json.specs.Find.{as_object}
use Rattle.gs_json.specs.Members.{array_errors, items_in, must, number_in, text_in}
use Rattle.gs_json.specs.Shapes.{members_errors}
use Rattle.gs_json.specs.declared.error.JsonFault.{JsonFault}
use Rattle.gs_json.specs.declared.plan.Entry.{Entry}
use Rattle.gs_json.specs.declared.plan.Sort.TheVariants.{Text, Number, Array, Arrays}
use Rattle.gs_tables_document.specs.Items.{item_of}
use Rattle.gs_class.specs.declared.document.ClassRow.{ClassRow}

-- trusted, own: the members of the document
abbrev pub document_plan : List Entry
document_plan = must (codes "version") Number ∷ must (codes "classes") Array ∷ []

-- trusted, own: the members of a row
abbrev pub row_plan : List Entry
row_plan = must (codes "name") Text ∷ must (codes "key") Text ∷ must (codes "lead") Number ∷ must (codes "element") Text ∷ must (codes "gcp") Number ∷ must (codes "items") Arrays ∷ []

-- trusted, own: the errors of the form of a document: those of its object, then of its rows
unfoldable pub form_errors : Data → List JsonFault
form_errors d = members_errors [] document_plan (as_object d) ++ array_errors [] (codes "classes") row_plan d

-- trusted, own: the row that an object is
abbrev pub row_of : Data → ClassRow
row_of d = record {
  name = text_in (codes "name") d;
  key = text_in (codes "key") d;
  lead = number_in (codes "lead") d;
  element = text_in (codes "element") d;
  gcp = number_in (codes "gcp") d;
  items = map (item_of false) (items_in (codes "items") d);
}

-- trusted, own: the rows of a document
abbrev pub rows_of : Data → List ClassRow
rows_of d = map row_of (items_in (codes "classes") d)
