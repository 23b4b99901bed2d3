-- The findings of a look-up in a tree.
use Rattle.std.proofs.Common.{◌≡◌, ℕ, ◌<◌, List, [], ◌∷◌, ◌++◌, length, get_or, map, append-nil, Option, Some, None, option_map, Ok, String, Global, Equal, Less, string_bytes, string_cmp, nat_cmp, is_eq, refl, subst, sym, ap, ◌∙◌, inl, inr}
use Rattle.std.proofs.lemmas.Map.Text.{is_eq-slice_cmp}
use Rattle.std.proofs.lemmas.Slice.Eq.{bytes_eq-Decides}
use Rattle.std.proofs.lemmas.Str.{IsUtf8-from_is_utf8, IsUtf8-had, is_utf8-from_IsUtf8}
use Rattle.std.specs.Prelude.{IsUtf8}
use Rattle.std.specs.Str.{is_utf8}
use Rattle.std.specs.BTreeMap.{is_at}
use Rattle.std.specs.Cmp.Lexicographic.{slice_cmp}
use Rattle.std.specs.List.{AllByRecursion}
use Rattle.std.specs.List.Sorted.{IsStrictlySortedBy}
use Rattle.std.specs.Map.{keys_of, lookup}
use Rattle.serde_json.specs.Data.{Data, Items, Members, null, boolean, number, string, array, object}
use Rattle.serde_json.specs.Events.{items_len}
use Rattle.serde_json.specs.Find.{as_array, as_object, at, get, get_item, get_member}
use Rattle.serde_json.specs.Read.{read as read_text}
use Rattle.serde_json.specs.View.{view, items_view, members_view}
use Rattle.serde_json.specs.declared.value.Value.{Value as Tree}
use Rattle.serde_json.proofs.Views.{get_item_within, items_len-items_view, member_later, view-lookup}
use Rattle.gs_chars.proofs.TruthsAndLists.{true_or_false}
use Rattle.gs_json.specs.Members.{document_of}
use Rattle.gs_json.specs.Answers.{AscendByBytes, asked, items_count, names_of, names_of_members}

-- the items of an array
pub counted : (d : Data) (items : List Tree) → Some (items_view items) ≡ as_array d → option_map items_len (as_array d) ≡ Some (length items)
counted d items h = ap (option_map items_len) (sym h) ∙ ap Some (items_len-items_view items)

pub count_is : (d : Data) (items : List Tree) → Some (items_view items) ≡ as_array d → items_count d ≡ length items
count_is d items h = rw (counted d items h) refl

at_array : (d : Data) (i : ℕ) (items : Items) → Some items ≡ as_array d → at i d ≡ get_item i items
at_array null i items h = cc h
at_array (boolean b) i items h = cc h
at_array (number n) i items h = cc h
at_array (string s) i items h = cc h
at_array (array ds) i items h = let same : ds ≡ items = cc in ap (get_item i) same
at_array (object ms) i items h = cc h

pub item_found : (d : Data) (items : List Tree) (i : ℕ) (e : Tree) → Some (items_view items) ≡ as_array d → i < length items
    → Some (view (get_or items i e)) ≡ at i d
item_found d items i e h within = get_item_within items i e within ∙ sym (at_array d i (items_view items) h)

-- two texts that compare as equal are one
pub same_text : (a b : List ℕ) → slice_cmp nat_cmp a b ≡ Equal → a ≡ b
same_text a b h = (bytes_eq-Decides a b).0 (sym (is_eq-slice_cmp a b) ∙ ap is_eq h)

-- the member that a map has
pub member_found : (entries : List (String Global × Tree)) (name : List ℕ) (found : Option Tree)
    → found ≡ lookup (is_at (λ k. slice_cmp nat_cmp name (string_bytes k))) entries
    → get_member name (members_view entries) ≡ option_map view found
member_found entries name found h = sym (ap (option_map view) h ∙ view-lookup name entries)

get_of_members : (d : Data) (name : List ℕ) (own : Members) → Some own ≡ as_object d → get name d ≡ get_member name own
get_of_members null name own h = cc h
get_of_members (boolean b) name own h = cc h
get_of_members (number n) name own h = cc h
get_of_members (string s) name own h = cc h
get_of_members (array items) name own h = cc h
get_of_members (object ms) name own h = let same : ms ≡ own = cc in ap (get_member name) same

pub find_some : (d : Data) (name : List ℕ) (entries : List (String Global × Tree)) (v : Tree) → Some (members_view entries) ≡ as_object d
    → Some v ≡ lookup (is_at (λ k. slice_cmp nat_cmp name (string_bytes k))) entries
    → Some (view v) ≡ get name d
find_some d name entries v h found = sym (get_of_members d name (members_view entries) h ∙ member_found entries name (Some v) found)

pub find_none : (d : Data) (name : List ℕ) (entries : List (String Global × Tree)) → Some (members_view entries) ≡ as_object d
    → None ≡ lookup (is_at (λ k. slice_cmp nat_cmp name (string_bytes k))) entries
    → None ≡ get name d
find_none d name entries h found = sym (get_of_members d name (members_view entries) h ∙ member_found entries name None found)

-- the names of the members are the keys
pub names_are_keys : (entries : List (String Global × Tree)) → names_of_members (members_view entries) ≡ map string_bytes (keys_of entries)
names_are_keys [] = refl
names_are_keys (e ∷ entries) = ap (λ names. string_bytes e.0 ∷ names) (names_are_keys entries)

pub names_found : (d : Data) (place : List ℕ) (entries : List (String Global × Tree)) (names : List (List ℕ))
    → Some (members_view entries) ≡ as_object d → names ≡ map string_bytes (keys_of entries)
    → Ok names ≡ asked place (names_of d)
names_found d place entries names h e = rw (← h, names_are_keys entries, e) refl

-- each key is UTF-8, so there is no member of a name that is not
pub no_such_member : (entries : List (String Global × Tree)) (name : List ℕ) → (IsUtf8 name → ⊥) → None ≡ get_member name (members_view entries)
no_such_member [] name h = refl
no_such_member (e ∷ entries) name h =
    let P : List ℕ → Type 0 = λ text. IsUtf8 text in
    let other : name ≡ string_bytes e.0 → ⊥ = λ same. h (subst P (sym same) (IsUtf8-had (string_bytes e.0) e.0.ok)) in
    no_such_member entries name h ∙ sym (member_later name e entries other)

-- keys that ascend do so by their bytes
ascend_behind : (key : String Global) (keys : List (String Global)) → AllByRecursion (λ k. string_cmp key k ≡ Less) keys
    → AllByRecursion (λ name. slice_cmp nat_cmp (string_bytes key) name ≡ Less) (map string_bytes keys)
ascend_behind key [] h = tt
ascend_behind key (k ∷ keys) h = (h.0, ascend_behind key keys h.1)

pub ascending_keys : (keys : List (String Global)) → IsStrictlySortedBy string_cmp keys → AscendByBytes (map string_bytes keys)
unfolding IsStrictlySortedBy
ascending_keys [] h = tt
ascending_keys (key ∷ keys) h = (ascend_behind key keys h.0, ascending_keys keys h.1)

-- the names of all keys
pub ascending_names : (names : List (List ℕ)) (left start keys : List (String Global))
    → names ++ map string_bytes left ≡ map string_bytes start → left ≡ [] → start ≡ keys → IsStrictlySortedBy string_cmp keys
    → AscendByBytes names
ascending_names names left start keys so_far none from ordered =
    let whole : names ++ [] ≡ map string_bytes start = rw none at so_far in
    let all : names ≡ map string_bytes keys = sym (append-nil names) ∙ whole ∙ ap (map string_bytes) from in
    rw all (ascending_keys keys ordered)

-- the document that bytes are
pub is_document : (bytes : List ℕ) (d : Data) → IsUtf8 bytes × (read_text bytes ≡ Some d) → document_of bytes ≡ Some d
unfolding document_of
is_document bytes d h = rw (is_utf8-from_IsUtf8 bytes h.0, h.1) refl

pub no_document : (bytes : List ℕ) → (IsUtf8 bytes → read_text bytes ≡ None) → document_of bytes ≡ None
unfolding document_of
no_document bytes none = elim (true_or_false (is_utf8 bytes)) [
  | inl t ↦ rw (t, none (IsUtf8-from_is_utf8 bytes t)) refl
  | inr t ↦ rw t refl
]
