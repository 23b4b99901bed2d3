-- An object without errors by a plan has no fraction if none of its arrays has one.
use Rattle.std.proofs.Common.{◌≡◌, ℕ, ◌+◌, true, false, Bool, not, List, [], ◌∷◌, map, Some, refl, inl, inr}
use Rattle.std.specs.Prelude.{filter}
use Rattle.std.specs.List.{AllByRecursion, enumerate_from, flat_map}
use Rattle.std.specs.Str.{bytes_eq}
use Rattle.serde_json.specs.Data.{unsigned, negative, float, Data, null, boolean, number, string, array, object, Items, no_items, item, Members, no_members, member}
use Rattle.serde_json.specs.Find.{get_member}
use Rattle.serde_json.specs.Written.{has_float, items_have_float, members_have_float}
use Rattle.gs_chars.proofs.TruthsAndLists.{equal_bytes, nil_parts}
use Rattle.gs_json.specs.Answers.{names_of_members}
use Rattle.gs_json.specs.Places.{item_place, member_place}
use Rattle.gs_json.specs.Shapes.{entry_errors, is_named, is_text, items_list, members_errors, sort_errors, unknown_among, unknown_errors}
use Rattle.gs_json.specs.declared.error.JsonFault.TheVariants.{Kind}
use Rattle.gs_json.specs.declared.plan.Entry.{Entry}
use Rattle.gs_json.specs.declared.plan.Sort.TheVariants as sort
use Rattle.gs_tables_document.specs.Documents.{Each, object_errors}
use Rattle.gs_tables_migration.proofs.SortedTrees.{AreSorted, HasMember, HaveSorted, IsSorted, found_member}

-- ---- values of a sort

pub some_error : {X : Type 0} (x : X) (xs : List X) → x ∷ xs ≡ [] → ⊥
some_error x xs h = absurd (cc)

pub text_whole : (d : Data) → is_text d ≡ true → has_float d ≡ false
text_whole null h = refl
text_whole (boolean b) h = refl
text_whole (number n) h = absurd (let g : false ≡ true = h in cc)
text_whole (string s) h = refl
text_whole (array ds) h = absurd (let g : false ≡ true = h in cc)
text_whole (object ms) h = absurd (let g : false ≡ true = h in cc)

pub text_sort : (place : List ℕ) (d : Data) → sort_errors place sort.Text d ≡ [] → has_float d ≡ false
text_sort place null h = refl
text_sort place (boolean b) h = refl
text_sort place (number n) h = absurd (some_error (Kind place) [] h)
text_sort place (string s) h = refl
text_sort place (array ds) h = absurd (some_error (Kind place) [] h)
text_sort place (object ms) h = absurd (some_error (Kind place) [] h)

pub number_sort : (place : List ℕ) (d : Data) → sort_errors place sort.Number d ≡ [] → has_float d ≡ false
number_sort place null h = refl
number_sort place (boolean b) h = refl
number_sort place (number (unsigned n)) h = refl
number_sort place (number (negative n)) h = refl
number_sort place (number (float x)) h = absurd (some_error (Kind place) [] h)
number_sort place (string s) h = refl
number_sort place (array ds) h = absurd (some_error (Kind place) [] h)
number_sort place (object ms) h = absurd (some_error (Kind place) [] h)

pub truth_sort : (place : List ℕ) (d : Data) → sort_errors place sort.Truth d ≡ [] → has_float d ≡ false
truth_sort place null h = refl
truth_sort place (boolean b) h = refl
truth_sort place (number n) h = absurd (some_error (Kind place) [] h)
truth_sort place (string s) h = refl
truth_sort place (array ds) h = absurd (some_error (Kind place) [] h)
truth_sort place (object ms) h = absurd (some_error (Kind place) [] h)

texts_by : {X : Type 0} (f : ℕ → X) (n : ℕ) (d : Data) (ds : Items) (b : Bool) → is_text d ≡ b
    → (map f (map (λ e. e.0) (filter (λ e. not (is_text e.1)) (enumerate_from (n + 1) (items_list ds)))) ≡ [] → items_have_float ds ≡ false)
    → map f (map (λ e. e.0) (filter (λ e. not (is_text e.1)) (enumerate_from n (d ∷ items_list ds)))) ≡ [] → items_have_float (item d ds) ≡ false
texts_by f n d ds true is more h = rw (text_whole d is) (more (rw is at h))
texts_by f n d ds false is more h = absurd (some_error _ _ (rw is at h))

texts_whole : {X : Type 0} (f : ℕ → X) (n : ℕ) (ds : Items)
    → map f (map (λ e. e.0) (filter (λ e. not (is_text e.1)) (enumerate_from n (items_list ds)))) ≡ [] → items_have_float ds ≡ false
texts_whole f n no_items h = refl
texts_whole f n (item d ds) h = texts_by f n d ds (is_text d) refl (texts_whole f (n + 1) ds) h

pub texts_sort : (place : List ℕ) (d : Data) → sort_errors place sort.Texts d ≡ [] → has_float d ≡ false
texts_sort place null h = refl
texts_sort place (boolean b) h = refl
texts_sort place (number n) h = absurd (some_error (Kind place) [] h)
texts_sort place (string s) h = refl
texts_sort place (array ds) h = texts_whole (λ i. Kind (item_place place i)) 0 ds h
texts_sort place (object ms) h = absurd (some_error (Kind place) [] h)

-- ---- the members of an object

-- the value of an entry's name, if it is of the entry's sort, has no fraction
abbrev pub IsWhole : List ℕ → Members → Entry → Type 0
IsWhole place members entry =
    (d : Data) → get_member entry.name members ≡ Some d → sort_errors (member_place place entry.name) entry.sort d ≡ [] → has_float d ≡ false

module _ (place : List ℕ) (members : Members) (k : List ℕ) (d : Data) (found : get_member k members ≡ Some d) where
  planned_by : (entry : Entry) (b : Bool) → bytes_eq entry.name k ≡ b → IsWhole place members entry → entry_errors place members entry ≡ []
      → (b ≡ false → has_float d ≡ false) → has_float d ≡ false
  planned_by entry true is whole none more =
      let same = equal_bytes entry.name k is in
      let here : get_member entry.name members ≡ Some d = rw same found in
      whole d here (rw here at none)
  planned_by entry false is whole none more = more refl

  planned : (plan : List Entry) → is_named plan k ≡ true → AllByRecursion (IsWhole place members) plan
      → flat_map (entry_errors place members) plan ≡ [] → has_float d ≡ false
  planned [] named whole none = absurd (let g : false ≡ true = named in cc)
  planned (entry ∷ plan) named whole none =
      let parts = nil_parts (entry_errors place members entry) (flat_map (entry_errors place members) plan) none in
      planned_by entry (bytes_eq entry.name k) refl whole.0 parts.0 (λ other. planned plan (rw other at named) whole.1 parts.1)

named_by : {X : Type 0} (f : List ℕ → X) (plan : List Entry) (k l : List ℕ) (names : List (List ℕ)) (b : Bool) → is_named plan l ≡ b
    → map f (unknown_among plan (l ∷ names)) ≡ [] → (is_named plan l ≡ true) × (map f (unknown_among plan names) ≡ [])
named_by f plan k l names true is none = (is, rw is at none)
named_by f plan k l names false is none = absurd (some_error _ _ (rw is at none))

named : {X : Type 0} (f : List ℕ → X) (plan : List Entry) (k : List ℕ) (d : Data) (ms : Members)
    → map f (unknown_among plan (names_of_members ms)) ≡ [] → HasMember k d ms → is_named plan k ≡ true
named f plan k d no_members none has = absurd has
named f plan k d (member l e ms) none (inl has) = rw has.0 (named_by f plan k l (names_of_members ms) (is_named plan l) refl none).0
named f plan k d (member l e ms) none (inr has) = named f plan k d ms (named_by f plan k l (names_of_members ms) (is_named plan l) refl none).1 has

whole_members : (ms : Members) → ((k : List ℕ) (d : Data) → HasMember k d ms → has_float d ≡ false) → members_have_float ms ≡ false
whole_members no_members each = refl
whole_members (member k d ms) each = rw (each k d (inl (refl, refl))) (whole_members ms (λ l e has. each l e (inr has)))

-- an object without errors has no fraction if no value of its plan has one
pub object_whole : (place : List ℕ) (plan : List Entry) (ms : Members) → HaveSorted ms → members_errors place plan (Some ms) ≡ []
    → AllByRecursion (IsWhole place ms) plan → members_have_float ms ≡ false
object_whole place plan ms sorted none whole =
    let parts = nil_parts (flat_map (entry_errors place ms) plan) (unknown_errors place plan ms) none in
    whole_members ms (λ k d has. planned place ms k d (found_member k d ms sorted has) plan (named (λ name. _) plan k d ms parts.1 has) whole parts.0)

-- ---- the rows of an array

module _ {Y : Type 0} (Is : Data → Y → Type 0) (P : Y → Type 0) (place : List ℕ) (plan : List Entry)
    (each : (p : List ℕ) (d : Data) (y : Y) → Is d y → P y → IsSorted d → object_errors p plan d ≡ [] → has_float d ≡ false) where
  pub rows_whole : (n : ℕ) (ds : Items) (ys : List Y) → Each Is (items_list ds) ys → AllByRecursion P ys → AreSorted ds
      → flat_map (λ (row : ℕ × Data). object_errors (item_place place row.0) plan row.1) (enumerate_from n (items_list ds)) ≡ [] → items_have_float ds ≡ false
  rows_whole n no_items ys is all sorted none = refl
  rows_whole n (item d ds) [] is all sorted none = absurd is
  rows_whole n (item d ds) (y ∷ ys) is all sorted none =
      let parts = nil_parts (object_errors (item_place place n) plan d) (flat_map (λ (row : ℕ × Data). object_errors (item_place place row.0) plan row.1) (enumerate_from (n + 1) (items_list ds))) none in
      rw (each (item_place place n) d y is.0 all.0 sorted.0 parts.0) (rows_whole (n + 1) ds ys is.1 all.1 sorted.1 parts.1)
