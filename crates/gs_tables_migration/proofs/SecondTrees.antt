-- The second version of a document without errors has none, and its rows are those of the document.
use Rattle.std.proofs.Common.{◌≡◌, ℕ, ◌+◌, true, false, Bool, ◌&&◌, List, [], ◌∷◌, map, Option, Some, None, is_some, codes, refl, ap, sym, ◌∙◌}
use Rattle.std.specs.Prelude.{if◌then◌else◌}
use Rattle.std.specs.List.{enumerate_from, flat_map, list_all}
use Rattle.std.specs.Str.{bytes_eq}
use Rattle.serde_json.specs.Data.{Data, null, boolean, number, unsigned, string, array, object, no_items, Members, put}
use Rattle.serde_json.specs.Find.{get_member}
use Rattle.serde_json.specs.View.{items_of as listed}
use Rattle.serde_json.proofs.Views.{get_member-put, get_member-put_other}
use Rattle.gs_chars.proofs.TruthsAndLists.{and_first, and_second, nil_parts, none_of_both}
use Rattle.gs_json.specs.Members.{items_in, must, number_in}
use Rattle.gs_json.specs.Places.{item_place, member_place}
use Rattle.gs_json.specs.Shapes.{items_list, members_errors}
use Rattle.gs_json.specs.declared.error.JsonFault.TheVariants.{Kind}
use Rattle.gs_json.specs.declared.plan.Entry.{Entry}
use Rattle.gs_json.specs.declared.plan.Sort.TheVariants as sort
use Rattle.gs_ai.specs.declared.part.Part.{Part}
use Rattle.gs_ai.specs.declared.part.Part.TheVariants as part
use Rattle.gs_ai.specs.declared.row.AiRow.{AiRow}
use Rattle.gs_tables_document.specs.Documents.{Each, IsAiRow, IsDocument, IsItemAt, IsKindRow, IsOptionRow, IsPartOf, ai_plan, document_errors, document_plan, is_second, kind_plan, object_errors, option_plan, part_in, rows_errors}
use Rattle.gs_tables_document.specs.Items.{FieldItem, is_first_field, is_first_item, item_in, item_of}
use Rattle.gs_tables_document.specs.declared.document.Document.{Document}
use Rattle.gs_tables_document.specs.declared.document.KindRow.{KindRow}
use Rattle.gs_tables_document.specs.declared.document.OptionRow.{OptionRow}
use Rattle.gs_tables_migration.specs.Migrations.{IsKnown, has_items, has_parts, in_second, is_known_part, kinds_with_fields, with_fields}
use Rattle.gs_tables_migration.proofs.PutMembers.{absent_member, members_more, members_put, other_name, rows_put}
use Rattle.gs_tables_migration.proofs.WholeMembers.{some_error}

-- ---- rows that are read in version 2 as in version 1

each_kept : {Y : Type 0} (Is Was : Data → Y → Type 0) (test : Y → Bool) → ((d : Data) (y : Y) → Was d y → test y ≡ true → Is d y)
    → (ds : List Data) (ys : List Y) → Each Was ds ys → list_all test ys ≡ true → Each Is ds ys
each_kept Is Was test each [] [] was all = tt
each_kept Is Was test each [] (y ∷ ys) was all = absurd was
each_kept Is Was test each (d ∷ ds) [] was all = absurd was
each_kept Is Was test each (d ∷ ds) (y ∷ ys) was all =
    (each d y was.0 (and_first (test y) (list_all test ys) all), each_kept Is Was test each ds ys was.1 (and_second (test y) (list_all test ys) all))

part_known : (q : Part) → is_known_part (part_in false q) ≡ true → part_in false q ≡ q
part_known part.Zero h = refl
part_known (part.Num k) h = refl
part_known (part.NumCheck k) h = refl
part_known (part.NumUpTo k) h = refl
part_known (part.NumOpt k) h = absurd (let g : false ≡ true = h in cc)
part_known (part.Set k) h = refl
part_known (part.SetOpt k) h = refl
part_known part.Date h = refl
part_known part.Other h = refl

part_kept : (d : Data) (p : Part) → IsPartOf false d p → is_known_part p ≡ true → IsPartOf true d p
part_kept d p (q, is, from) known = (q, is, from ∙ part_known q (rw from at known))

ai_kept : (d : Data) (row : AiRow) → IsAiRow false d row → has_parts row ≡ true → IsAiRow true d row
ai_kept d row is known = record {
  code = is.code;
  parts = each_kept (IsPartOf true) (IsPartOf false) is_known_part part_kept (items_in (codes "parts") d) row.parts is.parts known;
  role = is.role;
  qualifiers = is.qualifiers;
  short = is.short;
  none = is.none;
}

item_by : (x : FieldItem) (b : Bool) → is_some (if b then Some x else None) ≡ true → (if b then Some x else None) ≡ Some x
item_by x true h = refl
item_by x false h = absurd (let g : false ≡ true = h in cc)

item_known : (o : Option FieldItem) → is_some (item_in false o) ≡ true → item_in false o ≡ o
item_known None h = refl
item_known (Some x) h = item_by x (is_first_field x.0 && is_first_item x.1) h

module _ (bits : Bool) where
  item_kept : (d : Data) (entry : Option FieldItem) → IsItemAt (record { bits = bits; second = false }) d entry → is_some entry ≡ true
      → IsItemAt (record { bits = bits; second = true }) d entry
  item_kept d entry is known = is ∙ item_known (item_of bits d) (rw is at known)

  option_kept : (d : Data) (row : OptionRow) → IsOptionRow (record { bits = bits; second = false }) d row → has_items row ≡ true
      → IsOptionRow (record { bits = bits; second = true }) d row
  option_kept d row is known = record {
    kind = is.kind;
    encoding = is.encoding;
    gcp = is.gcp;
    items = each_kept (IsItemAt (record { bits = bits; second = true }))
        (IsItemAt (record { bits = bits; second = false })) is_some item_kept (items_in (codes "items") d) row.items is.items known;
  }

-- ---- kinds

-- a member of another name than `fields`, after the further fields are put
module _ (k : List ℕ) (other : bytes_eq k (codes "fields") ≡ false) (ms : Members) where
  beside_fields : get_member k (put (codes "fields") (array no_items) ms) ≡ get_member k ms
  beside_fields = get_member-put_other k (codes "fields") (array no_items) ms (other_name k (codes "fields") other)

kind_object : (place : List ℕ) (ms : Members) (row : KindRow) → IsKindRow (object ms) row
    → members_errors place (kind_plan false) (Some ms) ≡ [] → IsKindRow (object (put (codes "fields") (array no_items) ms)) row
kind_object place ms row is none =
    let no_fields : items_in (codes "fields") (object ms) ≡ [] = rw (absent_member place (kind_plan false) (codes "fields") ms refl none) refl in
    let fields : items_in (codes "fields") (object (put (codes "fields") (array no_items) ms)) ≡ [] = rw (get_member-put (codes "fields") (array no_items) ms) refl in
    record {
      name = rw (beside_fields (codes "name") refl ms) is.name;
      key = rw (beside_fields (codes "key") refl ms) is.key;
      lead = rw (beside_fields (codes "lead") refl ms) is.lead;
      serial = rw (beside_fields (codes "serial") refl ms) is.serial;
      fields = rw fields (rw no_fields at is.fields);
    }

kind_kept : (place : List ℕ) (d : Data) (row : KindRow) → IsKindRow d row → object_errors place (kind_plan false) d ≡ [] → IsKindRow (with_fields d) row
kind_kept place null row is none = absurd (some_error (Kind place) [] none)
kind_kept place (boolean b) row is none = absurd (some_error (Kind place) [] none)
kind_kept place (number n) row is none = absurd (some_error (Kind place) [] none)
kind_kept place (string s) row is none = absurd (some_error (Kind place) [] none)
kind_kept place (array ds) row is none = absurd (some_error (Kind place) [] none)
kind_kept place (object ms) row is none = kind_object place ms row is none

kinds_kept : (place : List ℕ) (n : ℕ) (ds : List Data) (rows : List KindRow) → Each IsKindRow ds rows
    → flat_map (λ (row : ℕ × Data). object_errors (item_place place row.0) (kind_plan false) row.1) (enumerate_from n ds) ≡ []
    → Each IsKindRow (map with_fields ds) rows
kinds_kept place n [] [] is none = tt
kinds_kept place n [] (row ∷ rows) is none = absurd is
kinds_kept place n (d ∷ ds) [] is none = absurd is
kinds_kept place n (d ∷ ds) (row ∷ rows) is none =
    let parts = nil_parts (object_errors (item_place place n) (kind_plan false) d) (flat_map (λ (row : ℕ × Data). object_errors (item_place place row.0) (kind_plan false) row.1) (enumerate_from (n + 1) ds)) none in
    (kind_kept (item_place place n) d row is.0 parts.0, kinds_kept place (n + 1) ds rows is.1 parts.1)

-- a kind without errors in version 1 has none in version 2
no_kind_errors : (place : List ℕ) (d : Data) → object_errors place (kind_plan false) d ≡ [] → object_errors place (kind_plan true) (with_fields d) ≡ []
no_kind_errors place null none = absurd (some_error (Kind place) [] none)
no_kind_errors place (boolean b) none = absurd (some_error (Kind place) [] none)
no_kind_errors place (number n) none = absurd (some_error (Kind place) [] none)
no_kind_errors place (string s) none = absurd (some_error (Kind place) [] none)
no_kind_errors place (array ds) none = absurd (some_error (Kind place) [] none)
no_kind_errors place (object ms) none =
    members_more place (codes "fields") (array no_items) ms (kind_plan false) (must (codes "fields") sort.Texts) refl refl refl none

-- ---- a document

list_back : (ds : List Data) → items_list (listed ds) ≡ ds
list_back [] = refl
list_back (d ∷ ds) = ap (λ es. d ∷ es) (list_back ds)

-- the second version of an object, by the kinds that are put into it
module _ (ms : Members) (kinds : Data) where
  abbrev second : Members
  second = put (codes "version") (number (unsigned 2)) (put (codes "kinds") kinds ms)

  beside : (k : List ℕ) → bytes_eq k (codes "version") ≡ false → bytes_eq k (codes "kinds") ≡ false → get_member k second ≡ get_member k ms
  beside k apart apart' =
      get_member-put_other k (codes "version") (number (unsigned 2)) (put (codes "kinds") kinds ms) (other_name k (codes "version") apart)
      ∙ get_member-put_other k (codes "kinds") kinds ms (other_name k (codes "kinds") apart')

  rows_beside : (k : List ℕ) → bytes_eq k (codes "version") ≡ false → bytes_eq k (codes "kinds") ≡ false → items_in k (object second) ≡ items_in k (object ms)
  rows_beside k apart apart' = rw (beside k apart apart') refl

  errors_beside : (k : List ℕ) (plan : List Entry) → bytes_eq k (codes "version") ≡ false → bytes_eq k (codes "kinds") ≡ false
      → rows_errors k plan (object ms) ≡ [] → rows_errors k plan (object second) ≡ []
  unfolding rows_errors
  errors_beside k plan apart apart' none = rw (rows_beside k apart apart') none

  says_two : number_in (codes "version") (object second) ≡ 2
  says_two = rw (get_member-put (codes "version") (number (unsigned 2)) (put (codes "kinds") kinds ms)) refl

  is_two : is_second (object second) ≡ true
  is_two = rw says_two refl

  kinds_there : get_member (codes "kinds") second ≡ Some kinds
  kinds_there =
      get_member-put_other (codes "kinds") (codes "version") (number (unsigned 2)) (put (codes "kinds") kinds ms)
      (other_name (codes "kinds") (codes "version") refl)
      ∙ get_member-put (codes "kinds") kinds ms

-- the second version of a document of another version
module _ (ms : Members) (document : Document) (first : is_second (object ms) ≡ false) (none : document_errors (object ms) ≡ []) where
  abbrev new_kinds : Data
  new_kinds = kinds_with_fields (object ms)

  kind_rows : items_in (codes "kinds") (object (second ms new_kinds)) ≡ map with_fields (items_in (codes "kinds") (object ms))
  kind_rows = rw (kinds_there ms new_kinds) (list_back (map with_fields (items_in (codes "kinds") (object ms))))

  no_kinds_errors : rows_errors (codes "kinds") (kind_plan false) (object ms) ≡ []
      → rows_errors (codes "kinds") (kind_plan true) (object (second ms new_kinds)) ≡ []
  unfolding rows_errors
  no_kinds_errors kinds =
      rw kind_rows (rows_put (λ place d. object_errors place (kind_plan false) d) (λ place d. object_errors place (kind_plan true) d) with_fields (member_place [] (codes "kinds")) no_kind_errors 0 (items_in (codes "kinds") (object ms)) kinds)

  kinds_read : (rows : List KindRow) → Each IsKindRow (items_in (codes "kinds") (object ms)) rows
      → rows_errors (codes "kinds") (kind_plan false) (object ms) ≡ []
      → Each IsKindRow (items_in (codes "kinds") (object (second ms new_kinds))) rows
  unfolding rows_errors
  kinds_read rows is kinds = rw kind_rows (kinds_kept (member_place [] (codes "kinds")) 0 (items_in (codes "kinds") (object ms)) rows is kinds)

  no_object_errors : object_errors [] document_plan (object ms) ≡ [] → object_errors [] document_plan (object (second ms new_kinds)) ≡ []
  no_object_errors own =
      members_put [] (codes "version") (number (unsigned 2)) (put (codes "kinds") new_kinds ms) document_plan refl refl
      (members_put [] (codes "kinds") new_kinds ms document_plan refl refl own)

  kinds_errors : rows_errors (codes "kinds") (kind_plan false) (object ms) ≡ []
  unfolding document_errors
  kinds_errors =
      let own = nil_parts (object_errors [] document_plan (object ms)) _ none in
      let ais = nil_parts (rows_errors (codes "ais") ai_plan (object ms)) _ own.1 in
      let kinds = nil_parts (rows_errors (codes "kinds") (kind_plan (is_second (object ms))) (object ms)) _ ais.1 in
      rw first at kinds.0

  pub second_errors : document_errors (object (second ms new_kinds)) ≡ []
  unfolding document_errors
  second_errors =
      let own = nil_parts (object_errors [] document_plan (object ms)) _ none in
      let ais = nil_parts (rows_errors (codes "ais") ai_plan (object ms)) _ own.1 in
      let kinds = nil_parts (rows_errors (codes "kinds") (kind_plan (is_second (object ms))) (object ms)) _ ais.1 in
      let binary = nil_parts (rows_errors (codes "binary") option_plan (object ms)) _ kinds.1 in
      let others = nil_parts (rows_errors (codes "tag") option_plan (object ms)) (rows_errors (codes "pure") option_plan (object ms)) binary.1 in
      none_of_both _ _ (no_object_errors own.0)
      (none_of_both _ _ (errors_beside ms new_kinds (codes "ais") ai_plan refl refl ais.0)
      (none_of_both _ _ (rw (is_two ms new_kinds) (no_kinds_errors kinds_errors))
      (none_of_both _ _ (errors_beside ms new_kinds (codes "binary") option_plan refl refl binary.0)
      (none_of_both _ _ (errors_beside ms new_kinds (codes "tag") option_plan refl refl others.0) (errors_beside ms new_kinds (codes "pure") option_plan refl refl others.1)))))

  module _ (is : IsDocument (object ms) document) (known : IsKnown document) where
    ais_read : Each (IsAiRow true) (items_in (codes "ais") (object (second ms new_kinds))) document.ais
    ais_read =
        rw (rows_beside ms new_kinds (codes "ais") refl refl) (each_kept (IsAiRow true) (IsAiRow false) has_parts ai_kept (items_in (codes "ais") (object ms)) document.ais (rw first at is.ais) known.ais)

    options_read : (bits : Bool) (name : List ℕ) → bytes_eq name (codes "version") ≡ false → bytes_eq name (codes "kinds") ≡ false → (rows : List OptionRow)
        → Each (IsOptionRow (record { bits = bits; second = false })) (items_in name (object ms)) rows → list_all has_items rows ≡ true
        → Each (IsOptionRow (record { bits = bits; second = true })) (items_in name (object (second ms new_kinds))) rows
    options_read bits name apart apart' rows read all =
        rw (rows_beside ms new_kinds name apart apart')
        (each_kept (IsOptionRow (record { bits = bits; second = true })) (IsOptionRow (record { bits = bits; second = false })) has_items (option_kept bits) (items_in name (object ms)) rows read all)

    pub second_document : IsDocument (object (second ms new_kinds)) (in_second document)
    second_document = record {
      version = sym (says_two ms new_kinds);
      ais = rw (is_two ms new_kinds) ais_read;
      kinds = kinds_read document.kinds is.kinds kinds_errors;
      binary = rw (is_two ms new_kinds) (options_read true (codes "binary") refl refl document.binary (rw first at is.binary) known.binary);
      tag = rw (is_two ms new_kinds) (options_read false (codes "tag") refl refl document.tag (rw first at is.tag) known.tag);
      pure = rw (is_two ms new_kinds) (options_read false (codes "pure") refl refl document.pure (rw first at is.pure) known.pure);
    }
