-- A document whose parts and items are all known, and that has no error, has no fraction.
use Rattle.std.proofs.Common.{◌≡◌, ℕ, true, false, Bool, List, [], ◌∷◌, Option, Some, None, is_some, codes, refl, sym, ◌∙◌}
use Rattle.std.specs.Prelude.{⊤}
use Rattle.std.specs.List.{AllByRecursion, list_all}
use Rattle.serde_json.specs.Data.{Data, null, boolean, number, string, array, object, Items, no_items, item, Members}
use Rattle.serde_json.specs.Find.{get_member}
use Rattle.serde_json.specs.Written.{has_float, items_have_float, members_have_float}
use Rattle.gs_chars.proofs.TruthsAndLists.{and_first, and_second, nil_parts}
use Rattle.gs_json.specs.Members.{items_in}
use Rattle.gs_json.specs.Places.{member_place}
use Rattle.gs_json.specs.Shapes.{items_list, members_errors, sort_errors}
use Rattle.gs_json.specs.declared.error.JsonFault.TheVariants.{Kind}
use Rattle.gs_json.specs.declared.plan.Entry.{Entry}
use Rattle.gs_json.specs.declared.plan.Sort.TheVariants as sort
use Rattle.gs_ai.specs.declared.row.AiRow.{AiRow}
use Rattle.gs_tables_document.specs.Documents.{Each, IsAiRow, IsDocument, IsItemAt, IsKindRow, IsOptionRow, ai_plan, document_errors, document_plan, is_second, kind_plan, object_errors, of_bits, of_texts, option_plan, rows_errors}
use Rattle.gs_tables_document.specs.Items.{FieldItem, item_in, item_of}
use Rattle.gs_tables_document.specs.declared.document.Document.{Document}
use Rattle.gs_tables_document.specs.declared.document.KindRow.{KindRow}
use Rattle.gs_tables_document.specs.declared.document.OptionRow.{OptionRow}
use Rattle.gs_tables_document.specs.declared.plans.Reading.{Reading}
use Rattle.gs_tables_migration.specs.Migrations.{IsKnown, has_items}
use Rattle.gs_tables_migration.proofs.SortedTrees.{HaveSorted, IsSorted, sorted_member}
use Rattle.gs_tables_migration.proofs.WholeItems.{item_whole}
use Rattle.gs_tables_migration.proofs.WholeMembers.{number_sort, object_whole, rows_whole, some_error, text_sort, texts_sort, truth_sort}

-- ---- rows

-- a row is an object
object_only : (place : List ℕ) (plan : List Entry) (d : Data) → IsSorted d → object_errors place plan d ≡ []
    → ((ms : Members) → d ≡ object ms → HaveSorted ms → members_errors place plan (Some ms) ≡ [] → members_have_float ms ≡ false) → has_float d ≡ false
object_only place plan null sorted none each = refl
object_only place plan (boolean b) sorted none each = refl
object_only place plan (number n) sorted none each = absurd (some_error (Kind place) [] none)
object_only place plan (string s) sorted none each = refl
object_only place plan (array ds) sorted none each = absurd (some_error (Kind place) [] none)
object_only place plan (object ms) sorted none each = each ms refl sorted none

ai_members : (place : List ℕ) (ms : Members) → HaveSorted ms → members_errors place ai_plan (Some ms) ≡ [] → members_have_float ms ≡ false
ai_members place ms sorted none =
    object_whole place ai_plan ms sorted none
    ((λ d _ fits. text_sort _ d fits), ((λ d _ fits. texts_sort _ d fits), ((λ d _ fits. text_sort _ d fits), ((λ d _ fits. texts_sort _ d fits), ((λ d _ fits. truth_sort _ d fits), ((λ d _ fits. text_sort _ d fits), tt))))))

ai_whole : (second : Bool) (place : List ℕ) (d : Data) (row : AiRow) → IsAiRow second d row → ⊤ → IsSorted d
    → object_errors place ai_plan d ≡ [] → has_float d ≡ false
ai_whole second place d row is _ sorted none = object_only place ai_plan d sorted none (λ ms _ own fits. ai_members place ms own fits)

kind_members : (second : Bool) (place : List ℕ) (ms : Members) → HaveSorted ms → members_errors place (kind_plan second) (Some ms) ≡ []
    → members_have_float ms ≡ false
kind_members false place ms sorted none =
    object_whole place (kind_plan false) ms sorted none
    ((λ d _ fits. text_sort _ d fits), ((λ d _ fits. text_sort _ d fits), ((λ d _ fits. number_sort _ d fits), ((λ d _ fits. text_sort _ d fits), tt))))
kind_members true place ms sorted none =
    object_whole place (kind_plan true) ms sorted none
    ((λ d _ fits. text_sort _ d fits), ((λ d _ fits. text_sort _ d fits), ((λ d _ fits. number_sort _ d fits), ((λ d _ fits. text_sort _ d fits), ((λ d _ fits. texts_sort _ d fits), tt)))))

kind_whole : (second : Bool) (place : List ℕ) (d : Data) (row : KindRow) → IsKindRow d row → ⊤ → IsSorted d
    → object_errors place (kind_plan second) d ≡ [] → has_float d ≡ false
kind_whole second place d row is _ sorted none = object_only place (kind_plan second) d sorted none (λ ms _ own fits. kind_members second place ms own fits)

-- ---- options

read_item : (second : Bool) (o : Option FieldItem) (x : FieldItem) → item_in second o ≡ Some x → (y : FieldItem) × (o ≡ Some y)
read_item true o x h = (x, h)
read_item false None x h = absurd (let g : None ≡ Some x = h in cc)
read_item false (Some y) x h = (y, refl)

there : (entry : Option FieldItem) → is_some entry ≡ true → (x : FieldItem) × (entry ≡ Some x)
there None h = absurd (let g : false ≡ true = h in cc)
there (Some x) h = (x, refl)

items_whole : (reading : Reading) (ds : Items) (entries : List (Option FieldItem)) → Each (IsItemAt reading) (items_list ds) entries
    → list_all is_some entries ≡ true → items_have_float ds ≡ false
items_whole reading no_items entries is all = refl
items_whole reading (item d ds) [] is all = absurd is
items_whole reading (item d ds) (entry ∷ entries) is all =
    let own = there entry (and_first (is_some entry) (list_all is_some entries) all) in
    let read = read_item reading.second (item_of reading.bits d) own.0 (sym is.0 ∙ own.1) in
    rw (item_whole reading.bits d read.0 read.1) (items_whole reading ds entries is.1 (and_second (is_some entry) (list_all is_some entries) all))

items_member : (reading : Reading) (place : List ℕ) (ms : Members) (row : OptionRow) (d : Data) → get_member (codes "items") ms ≡ Some d
    → sort_errors place sort.Arrays d ≡ []
    → Each (IsItemAt reading) (items_in (codes "items") (object ms)) row.items → has_items row ≡ true → has_float d ≡ false
items_member reading place ms row null found fits is all = refl
items_member reading place ms row (boolean b) found fits is all = refl
items_member reading place ms row (number n) found fits is all = absurd (some_error (Kind place) [] fits)
items_member reading place ms row (string s) found fits is all = refl
items_member reading place ms row (array ds) found fits is all = items_whole reading ds row.items (rw found at is) all
items_member reading place ms row (object os) found fits is all = absurd (some_error (Kind place) [] fits)

option_members : (reading : Reading) (place : List ℕ) (ms : Members) (row : OptionRow) → IsOptionRow reading (object ms) row
    → has_items row ≡ true → HaveSorted ms → members_errors place option_plan (Some ms) ≡ [] → members_have_float ms ≡ false
option_members reading place ms row is all sorted none =
    object_whole place option_plan ms sorted none
    ((λ d _ fits. text_sort _ d fits), ((λ d _ fits. text_sort _ d fits), ((λ d _ fits. number_sort _ d fits), ((λ d found fits. items_member reading _ ms row d found fits is.items all), tt))))

option_whole : (reading : Reading) (place : List ℕ) (d : Data) (row : OptionRow) → IsOptionRow reading d row → has_items row ≡ true
    → IsSorted d → object_errors place option_plan d ≡ [] → has_float d ≡ false
option_whole reading place d row is all sorted none =
    object_only place option_plan d sorted none (λ ms same own fits. option_members reading place ms row (rw same at is) all own fits)

-- ---- the document

all_true : {X : Type 0} (xs : List X) → AllByRecursion (λ _. ⊤) xs
all_true [] = tt
all_true (x ∷ xs) = (tt, all_true xs)

each_true : {X : Type 0} (test : X → Bool) (xs : List X) → list_all test xs ≡ true → AllByRecursion (λ x. test x ≡ true) xs
each_true test [] all = tt
each_true test (x ∷ xs) all = (and_first (test x) (list_all test xs) all, each_true test xs (and_second (test x) (list_all test xs) all))

module _ {Y : Type 0} (Is : Data → Y → Type 0) (P : Y → Type 0) (plan : List Entry)
    (each : (p : List ℕ) (d : Data) (y : Y) → Is d y → P y → IsSorted d → object_errors p plan d ≡ [] → has_float d ≡ false) where
  rows_member : (name place : List ℕ) (ms : Members) (ys : List Y) (d : Data) → HaveSorted ms → Each Is (items_in name (object ms)) ys
      → AllByRecursion P ys → rows_errors name plan (object ms) ≡ []
      → get_member name ms ≡ Some d → sort_errors place sort.Array d ≡ [] → has_float d ≡ false
  unfolding rows_errors
  rows_member name place ms ys null sorted is all none found fits = refl
  rows_member name place ms ys (boolean b) sorted is all none found fits = refl
  rows_member name place ms ys (number n) sorted is all none found fits = absurd (some_error (Kind place) [] fits)
  rows_member name place ms ys (string s) sorted is all none found fits = refl
  rows_member name place ms ys (array ds) sorted is all none found fits =
      rows_whole Is P (member_place [] name) plan each 0 ds ys (rw found at is) all (sorted_member name (array ds) ms sorted found) (rw found at none)
  rows_member name place ms ys (object os) sorted is all none found fits = absurd (some_error (Kind place) [] fits)

document_members : (ms : Members) (document : Document) → HaveSorted ms → document_errors (object ms) ≡ [] → IsDocument (object ms) document
    → IsKnown document → members_have_float ms ≡ false
unfolding document_errors
document_members ms document sorted none is known =
    let d = object ms in
    let own = nil_parts (object_errors [] document_plan d) _ none in
    let ais = nil_parts (rows_errors (codes "ais") ai_plan d) _ own.1 in
    let kinds = nil_parts (rows_errors (codes "kinds") (kind_plan (is_second d)) d) _ ais.1 in
    let binary = nil_parts (rows_errors (codes "binary") option_plan d) _ kinds.1 in
    let others = nil_parts (rows_errors (codes "tag") option_plan d) (rows_errors (codes "pure") option_plan d) binary.1 in
    object_whole [] document_plan ms sorted own.0 (
      (λ e _ fits. number_sort _ e fits),
      (
        (λ e found fits. rows_member (IsAiRow (is_second d)) (λ _. ⊤) ai_plan (ai_whole (is_second d)) (codes "ais") _ ms document.ais e sorted is.ais (all_true document.ais) ais.0 found fits),
        (
          (λ e found fits. rows_member IsKindRow (λ _. ⊤) (kind_plan (is_second d)) (kind_whole (is_second d)) (codes "kinds") _ ms document.kinds e sorted is.kinds (all_true document.kinds) kinds.0 found fits),
          (
            (λ e found fits. rows_member (IsOptionRow (of_bits d)) (λ row. has_items row ≡ true) option_plan (option_whole (of_bits d)) (codes "binary") _ ms document.binary e sorted is.binary (each_true has_items document.binary known.binary) binary.0 found fits),
            (
              (λ e found fits. rows_member (IsOptionRow (of_texts d)) (λ row. has_items row ≡ true) option_plan (option_whole (of_texts d)) (codes "tag") _ ms document.tag e sorted is.tag (each_true has_items document.tag known.tag) others.0 found fits),
              (
                (λ e found fits. rows_member (IsOptionRow (of_texts d)) (λ row. has_items row ≡ true) option_plan (option_whole (of_texts d)) (codes "pure") _ ms document.pure e sorted is.pure (each_true has_items document.pure known.pure) others.1 found fits),
                tt,
              ),
            ),
          ),
        ),
      ),
    )

pub document_whole : (d : Data) (document : Document) → IsSorted d → document_errors d ≡ [] → IsDocument d document → IsKnown document → has_float d ≡ false
unfolding document_errors
document_whole d document sorted none is known =
    object_only [] document_plan d sorted (nil_parts (object_errors [] document_plan d) _ none).0
    (λ ms same own _. document_members ms document own (rw same at none) (rw same at is) known)
