-- The first error of an object, entry by entry and name by name.
use Rattle.std.proofs.Common.{◌≡◌, ℕ, ◌+◌, ◌<◌, ◌≤◌, false, List, [], ◌∷◌, ◌++◌, length, get_or, drop, map, take, Option, Some, Result, Ok, Err, String, Global, string_bytes, inr, refl, sym, ap, ◌∙◌}
use Rattle.std.specs.List.{enumerate_from, flat_map}
use Rattle.std.specs.Map.{keys_of}
use Rattle.std.proofs.lemmas.List.{drop_all, drop_more}
use Rattle.serde_json.specs.Data.{Data, Members}
use Rattle.serde_json.specs.Find.{as_object, at, get}
use Rattle.serde_json.specs.View.{members_view, view}
use Rattle.serde_json.specs.declared.value.Value.{Value as Tree}
use Rattle.gs_json.specs.Answers.{items_count}
use Rattle.gs_json.specs.Members.{array_errors, items_of}
use Rattle.gs_json.specs.Parts.{Part}
use Rattle.gs_json.specs.Places.{item_place, member_place}
use Rattle.gs_json.specs.Shapes.{IsFirst, entry_errors, first_error, is_named, members_errors, shape_errors, unknown_among, unknown_errors}
use Rattle.gs_json.specs.declared.error.JsonFault.{JsonFault}
use Rattle.gs_json.specs.declared.error.JsonFault.TheVariants.{Memory, Unknown}
use Rattle.gs_json.specs.declared.plan.Entry.{Entry}
use Rattle.gs_json.proofs.ArrayItems.{items_at, items_length}
use Rattle.gs_json.proofs.FirstErrors.{all_rows, first_in_front, nothing_in_front, one_more, split_at}
use Rattle.gs_json.proofs.LookUpLemmas.{names_are_keys}

module _ (place : List ℕ) (plan : List Entry) (entries : List (String Global × Tree)) (start left : List (String Global)) (all : start ≡ keys_of entries)
    (so_far : unknown_among plan (map string_bytes start) ≡ unknown_among plan (map string_bytes left)) where
  pub unknown_here : (key : String Global) (next : List (String Global)) → left ≡ key ∷ next → is_named plan (string_bytes key) ≡ false
      → Err (Unknown (member_place place (string_bytes key))) ≡ first_error (unknown_errors place plan (members_view entries))
  unknown_here key next e named = rw (names_are_keys entries, ← all, so_far, e, named) refl

  pub all_known : left ≡ [] → Ok tt ≡ first_error (unknown_errors place plan (members_view entries))
  all_known e = rw (names_are_keys entries, ← all, so_far, e) refl

-- the errors of the entries from one on
pub entries_from : (errors : Entry → List JsonFault) (plan : List Entry) (i : ℕ) (entry : Entry) → i < length plan → entry ≡ get_or plan i entry
    → flat_map errors (drop i plan) ≡ errors entry ++ flat_map errors (drop (i + 1) plan)
entries_from errors plan i entry within here =
    ap (flat_map errors) (drop_more plan i entry within) ∙ ap (λ e. errors e ++ flat_map errors (drop (i + 1) plan)) (sym here)

pub entries_end : (errors : Entry → List JsonFault) (plan : List Entry) (i : ℕ) → length plan ≤ i → flat_map errors (drop i plan) ≡ []
entries_end errors plan i h = ap (flat_map errors) (drop_all i plan h)

-- if no entry has an error, the first is that of the names
pub names_only : (place : List ℕ) (plan : List Entry) (own : Members) (o : Option Members) (result : Result Unit JsonFault) → Some own ≡ o
    → flat_map (entry_errors place own) plan ≡ []
    → IsFirst result (unknown_errors place plan own) → IsFirst result (members_errors place plan o)
names_only place plan own o result found none h = rw (← found, none) h

-- the first error of the first entry that has one is that of the object
pub entry_first : (place : List ℕ) (plan : List Entry) (own : Members) (o : Option Members) (i : ℕ) (entry : Entry) (error : JsonFault) (result : Result Unit JsonFault)
    → Some own ≡ o
    → flat_map (entry_errors place own) plan ≡ flat_map (entry_errors place own) (drop i plan) → i < length plan → entry ≡ get_or plan i entry
    → result ≡ Err error → IsFirst (Err error) (entry_errors place own entry) → IsFirst result (members_errors place plan o)
entry_first place plan own o i entry error result found so_far within here e h =
    let errors = entry_errors place own in
    let rest = flat_map errors (drop (i + 1) plan) in
    rw (e, ← found, so_far, entries_from errors plan i entry within here)
    (first_in_front Memory (errors entry ++ rest) (unknown_errors place plan own) (tt {0}) (tt {0}) error
    (first_in_front Memory (errors entry) rest (tt {0}) (tt {0}) error h))

-- the items of an array, one by one
module _ (place name : List ℕ) (plan : List Entry) (d : Data) (array : Part) (found : Some (view array.tree) ≡ get name d) (there : array.place ≡ member_place place name) where
  abbrev errors_at : ℕ × Data → List JsonFault
  errors_at row = members_errors (item_place array.place row.0) plan (as_object row.1)

  abbrev items : List Data
  items = items_of (view array.tree)

  whole : array_errors place name plan d ≡ flat_map errors_at (enumerate_from 0 items)
  whole = rw (← found, there) refl

  module _ (i : ℕ) (none : flat_map errors_at (enumerate_from 0 (take i items)) ≡ []) where
    module _ (row : Part) (read : Some (view row.tree) ≡ at i (view array.tree)) (here : row.place ≡ item_place array.place i) where
      pub item_first : (error : JsonFault) → IsFirst (Err error) (shape_errors row plan) → IsFirst (Err error) (array_errors place name plan d)
      item_first error h =
          let split = split_at errors_at items i (view row.tree) (items_at (view array.tree) i ∙ sym read) none in
          rw (whole, split.1) (first_in_front Memory (errors_at (i, view row.tree)) split.0 tt tt error (rw here at h))

      pub item_more : (z : Unit) → IsFirst (Ok z) (shape_errors row plan) → flat_map errors_at (enumerate_from 0 (take (i + 1) items)) ≡ []
      item_more z h =
          one_more errors_at items i (view row.tree) (items_at (view array.tree) i ∙ sym read) none
          (nothing_in_front Memory (errors_at (i, view row.tree)) tt z (rw here at h))

    pub items_end : (count : ℕ) → count ≡ items_count (view array.tree) → count ≤ i → IsFirst (Ok tt) (array_errors place name plan d)
    items_end count size end =
        let all : length items ≤ i = rw (items_length (view array.tree), ← size) end in
        rw (whole, all_rows errors_at items i all none) (inr refl)
