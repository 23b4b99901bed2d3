-- The document in JSON of a list of company prefix lengths, this project's own profile: its form, and its entries.
use Rattle.std.specs.Prelude.{ℕ, ◌==◌, if◌then◌else◌, List, [], ◌∷◌, ◌++◌, map, codes}
use Rattle.serde_json.specs.Data.{Data}
use Rattle.serde_json.specs.Find.{as_object}
use Rattle.gs_json.specs.Members.{array_errors, items_in, must, number_in, text_in}
use Rattle.gs_json.specs.Shapes.{members_errors}
use Rattle.gs_json.specs.declared.error.JsonFault.{JsonFault}
use Rattle.gs_json.specs.declared.error.JsonFault.TheVariants.{Kind}
use Rattle.gs_json.specs.declared.plan.Entry.{Entry}
use Rattle.gs_json.specs.declared.plan.Sort.TheVariants.{Text, Number, Array}
use Rattle.gs_prefix.specs.declared.entry.PrefixEntry.{PrefixEntry}

-- trusted, own: the members of the document
abbrev pub list_plan : List Entry
list_plan = must (codes "version") Number ∷ must (codes "prefixes") Array ∷ []

-- trusted, own: the members of an entry
abbrev pub entry_plan : List Entry
entry_plan = must (codes "prefix") Text ∷ must (codes "length") Number ∷ []

-- trusted, own: the error of another version
abbrev pub version_errors : Data → List JsonFault
version_errors d = if number_in (codes "version") d == 1 then [] else Kind (codes "/version") ∷ []

-- trusted, own: the errors of the form of a document: those of its object, then of its version, then of its entries
unfoldable pub form_errors : Data → List JsonFault
form_errors d =
    members_errors [] list_plan (as_object d) ++ (version_errors d ++ array_errors [] (codes "prefixes") entry_plan d)

-- trusted, own: the entries of a document
abbrev pub entry_of : Data → PrefixEntry
entry_of d = record { prefix = text_in (codes "prefix") d; length = number_in (codes "length") d }

-- trusted, own: the entries of an array
abbrev pub entries_of : Data → List PrefixEntry
entries_of d = map entry_of (items_in (codes "prefixes") d)
