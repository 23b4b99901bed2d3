-- Facts of the rows of classes that no rule rejects.
use Rattle.std.proofs.Common.{◌≡◌, ℕ, ◌+◌, ◌-◌, ◌≤◌, ◌&&◌, nat_le, nat_lt, not, if◌then◌else◌, Bool, true, false, List, [], ◌∷◌, ◌++◌, take, position, Option, Some, None, bytes_eq, slice_get, refl, sym, arith, option_map}
use Rattle.std.specs.Prelude.{option_to_list}
use Rattle.std.specs.List.{enumerate_from, flat_map, find, list_all, list_any}
use Rattle.std.specs.Option.{option_and_then, option_map_or}
use Rattle.std.proofs.lemmas.Bool.{leb-true, and_parts, or_parts}
use Rattle.std.proofs.lemmas.Bool.Decides.{nat_tests}
use Rattle.gs_chars.proofs.TruthsAndLists.{nil_parts, some_passes}
use Rattle.gs_chars.specs.Answers.{error_if}
use Rattle.gs_chars.specs.Characters.{are_visible}
use Rattle.gs_ai.specs.declared.part.Part.{Part}
use Rattle.gs_ai.specs.declared.part.Part.TheVariants.{NumCheck}
use Rattle.gs_ai.specs.declared.row.AiRow.{AiRow}
use Rattle.gs_ai.specs.Tables.{is_empty, is_key}
use Rattle.gs_ai.specs.Values.{has_code}
use Rattle.gs_ai.proofs.RuleLemmas.{none_at}
use Rattle.gs_grammar.specs.Items.{is_bad, size_of_all}
use Rattle.gs_grammar.specs.Levels.{KeepBounds}
use Rattle.gs_grammar.specs.Limits.{most_symbols}
use Rattle.gs_tables_document.specs.declared.document.Field.TheVariants.{Gcp, Rest, Serial}
use Rattle.gs_tables_document.specs.Items.{FieldItem, alone, present}
use Rattle.gs_tables.specs.declared.form.Behind.TheVariants.{Nothing}
use Rattle.gs_tables.specs.declared.form.KeyForm.TheVariants.{Digits}
use Rattle.gs_tables.specs.declared.form.Room.TheVariants.{Characters}
use Rattle.gs_tables.specs.Forms.{characters_of}
use Rattle.gs_tables.specs.Rules.{items_of_field, keeps_gcp, keeps_rest, keeps_serial}
use Rattle.gs_tables.proofs.KeptRows.{gcp_kept, none_first, none_listed}
use Rattle.gs_class.specs.declared.error.ClassLoadFault.{ClassLoadFault}
use Rattle.gs_class.specs.declared.error.ClassLoadFault.TheVariants.{Limit, BadItem, Size, Mismatch, Duplicate}
use Rattle.gs_class.specs.declared.document.ClassRow.{ClassRow}
use Rattle.gs_class.specs.Rules.{agrees, are_many, class_rejections, digits_alone, element_room, fits_key, fits_parts, is_bad_item, is_class, is_class_item, is_same_row, keeps_items, row_rejections}
use Rattle.gs_chars.proofs.Searches.{cons_none}

-- ---- parts of rejections

not_rejected : (test : Bool) (error : ClassLoadFault) → error_if (not test) error ≡ [] → test ≡ true
not_rejected true error h = refl
not_rejected false error h = absurd (let g : error ∷ [] ≡ [] = h in cc)

within_limit : (size most : ℕ) (error : ClassLoadFault) → error_if (nat_lt most size) error ≡ [] → size ≤ most
within_limit size most error h = by (nat_lt most size) refl h
  where
    by : (b : Bool) → nat_lt most size ≡ b → error_if b error ≡ [] → size ≤ most
    by true e h = absurd (let g : error ∷ [] ≡ [] = h in cc)
    by false e h = grind (arith, nat_tests)

-- ---- items

pub none_bad : (xs : List (Option FieldItem)) → position is_bad_item xs ≡ None → position (is_bad false) (alone (present xs)) ≡ None
none_bad [] h = refl
none_bad (None ∷ xs) h = let g = cons_none is_bad_item None xs h in absurd (let k : true ≡ false = g.0 in cc)
none_bad (Some x ∷ xs) h =
    let g = cons_none is_bad_item (Some x) xs h in
    none_first (is_bad false) x.1 (alone (present xs)) (or_parts (is_bad false x.1) (not (is_class_item x)) g.0).0 (none_bad xs g.1)

-- ---- the key and the element

-- a key of only digits with their check digit
pub record IsAlone (parts : List Part) (digits : ℕ) : Type 0 where
  pub k : ℕ
  pub parts_are : parts ≡ NumCheck k ∷ []
  pub digits_are : digits ≡ k - 1

is_alone : (parts : List Part) (digits : ℕ) → digits_alone parts ≡ Some digits → IsAlone parts digits
is_alone (NumCheck k ∷ []) digits h = record { k = k; parts_are = refl; digits_are = let e : Some (k - 1) ≡ Some digits = h in let f : k - 1 ≡ digits = cc in sym f }
is_alone parts digits h = absurd (let e : None ≡ Some digits = h in cc)

-- an element of only characters, without a text that means none
pub record IsRoom (row : AiRow) (most : ℕ) : Type 0 where
  pub none : is_empty row.none ≡ true
  pub characters : characters_of row.parts ≡ Some most

is_room : (found : Option AiRow) (most : ℕ)
    → option_and_then (λ (row : AiRow). if is_empty row.none then characters_of row.parts else None) found ≡ Some most
    → (row : AiRow) × (found ≡ Some row) × IsRoom row most
is_room None most h = absurd (let e : None ≡ Some most = h in cc)
is_room (Some row) most h = (row, refl, by (is_empty row.none) refl h)
  where
    by : (b : Bool) → is_empty row.none ≡ b → (if b then characters_of row.parts else None) ≡ Some most → IsRoom row most
    by true e h = record { none = e; characters = h }
    by false e h = absurd (let f : None ≡ Some most = h in cc)

-- ---- the rules that a row satisfies

pub record KeptClass (ais : List AiRow) (row : ClassRow) : Type 0 where
  pub key : AiRow
  pub k : ℕ
  pub found : find (has_code row.key) ais ≡ Some key
  pub role : is_key key.role ≡ true
  pub lead : nat_le row.lead 1 ≡ true
  pub lists : list_any (bytes_eq row.element) key.qualifiers ≡ true
  pub parts : key.parts ≡ NumCheck k ∷ []
  pub element : AiRow
  pub most : ℕ
  pub element_found : find (has_code row.element) ais ≡ Some element
  pub room : IsRoom element most
  pub gcp : keeps_gcp (Digits (k - 1) Nothing) row.lead row.gcp (items_of_field Gcp (present row.items)) ≡ true
  pub rest : keeps_rest (Digits (k - 1) Nothing) row.gcp (items_of_field Rest (present row.items)) ≡ true
  pub serial : keeps_serial (Some (Characters most)) (items_of_field Serial (present row.items)) ≡ true
  pub bounds : KeepBounds false (alone (present row.items))
  pub none_bad : position is_bad_item row.items ≡ None

-- the items of a row fit
record KeptItems (row : ClassRow) (digits most : ℕ) : Type 0 where
  gcp : keeps_gcp (Digits digits Nothing) row.lead row.gcp (items_of_field Gcp (present row.items)) ≡ true
  rest : keeps_rest (Digits digits Nothing) row.gcp (items_of_field Rest (present row.items)) ≡ true
  serial : keeps_serial (Some (Characters most)) (items_of_field Serial (present row.items)) ≡ true

items_kept : (row : ClassRow) (digits most : ℕ) → keeps_items row digits most ≡ true → KeptItems row digits most
unfolding keeps_items
items_kept row digits most h =
    let gcp = keeps_gcp (Digits digits Nothing) row.lead row.gcp (items_of_field Gcp (present row.items)) in
    let rest = keeps_rest (Digits digits Nothing) row.gcp (items_of_field Rest (present row.items)) in
    let whole = and_parts (gcp && rest) (keeps_serial (Some (Characters most)) (items_of_field Serial (present row.items))) h in
    let both = and_parts gcp rest whole.0 in
    record { gcp = both.0; rest = both.1; serial = whole.1 }

-- the rules of the key
record KeptKey (ais : List AiRow) (row : ClassRow) (key : AiRow) : Type 0 where
  role : is_key key.role ≡ true
  lead : nat_le row.lead 1 ≡ true
  lists : list_any (bytes_eq row.element) key.qualifiers ≡ true
  fits : fits_parts ais row key.parts ≡ true

key_kept : (ais : List AiRow) (row : ClassRow) (key : AiRow) → fits_key ais row key ≡ true → KeptKey ais row key
unfolding fits_key
key_kept ais row key h =
    let first = is_key key.role in
    let second = nat_le row.lead 1 in
    let third = list_any (bytes_eq row.element) key.qualifiers in
    let whole = and_parts (first && second && third) (fits_parts ais row key.parts) h in
    let three = and_parts (first && second) third whole.0 in
    let two = and_parts first second three.0 in
    record { role = two.0; lead = two.1; lists = three.1; fits = whole.1 }

-- the rules apart from the key's
record KeptRules (ais : List AiRow) (earlier : List ClassRow) (row : ClassRow) : Type 0 where
  agree : list_all (agrees row) earlier ≡ true
  key : AiRow
  found : find (has_code row.key) ais ≡ Some key
  fits : fits_key ais row key ≡ true

rules_kept : (ais : List AiRow) (earlier : List ClassRow) (row : ClassRow) → is_class ais earlier row ≡ true → KeptRules ais earlier row
unfolding is_class
rules_kept ais earlier row h =
    let named = not (is_empty row.name) && are_visible row.name in
    let whole = and_parts (named && list_all (agrees row) earlier) (option_map_or (fits_key ais row) (find (has_code row.key) ais) false) h in
    let agree = and_parts named (list_all (agrees row) earlier) whole.0 in
    let key = some_passes (fits_key ais row) (find (has_code row.key) ais) whole.1 in
    record { agree = agree.1; key = key.0; found = key.1; fits = key.2 }

-- no rejection of a row
record NotRejected (ais : List AiRow) (earlier : List ClassRow) (row : ClassRow) : Type 0 where
  none_bad : position is_bad_item row.items ≡ None
  small : size_of_all (alone (present row.items)) ≤ most_symbols
  is : is_class ais earlier row ≡ true
  none_same : position (is_same_row row) earlier ≡ None

passed : (ais : List AiRow) (rows : List ClassRow) (i : ℕ) (row : ClassRow) → row_rejections ais rows (i, row) ≡ [] → NotRejected ais (take i rows) row
unfolding row_rejections
passed ais rows i row h =
    let bad = option_to_list (option_map (λ k. BadItem i k) (position is_bad_item row.items)) in
    let long = error_if (nat_lt most_symbols (size_of_all (alone (present row.items)))) (Size i) in
    let misfit = error_if (not (is_class ais (take i rows) row)) (Mismatch i) in
    let again = option_to_list (option_map (λ j. Duplicate j i) (position (is_same_row row) (take i rows))) in
    let first = nil_parts (bad ++ long ++ misfit) again h in
    let second = nil_parts (bad ++ long) misfit first.0 in
    let third = nil_parts bad long second.0 in
    record {
      none_bad = none_listed (λ k. BadItem i k) (position is_bad_item row.items) third.0;
      small = within_limit (size_of_all (alone (present row.items))) most_symbols (Size i) third.1;
      is = not_rejected (is_class ais (take i rows) row) (Mismatch i) second.1;
      none_same = none_listed (λ j. Duplicate j i) (position (is_same_row row) (take i rows)) first.1;
    }

not_rejected_at : (ais : List AiRow) (rows : List ClassRow) (i : ℕ) (row : ClassRow) → class_rejections ais rows ≡ []
    → slice_get rows i ≡ Some row → NotRejected ais (take i rows) row
unfolding class_rejections
not_rejected_at ais rows i row none at =
    let zero_plus : 0 + i ≡ i = omega arith in
    let behind = (nil_parts (error_if (are_many rows) Limit) (flat_map (row_rejections ais rows) (enumerate_from 0 rows)) none).1 in
    let here = none_at (row_rejections ais rows) 0 rows behind i row at in
    passed ais rows i row (rw zero_plus at here)

-- a row that no rule rejects
pub class_at : (ais : List AiRow) (rows : List ClassRow) (i : ℕ) (row : ClassRow) → class_rejections ais rows ≡ []
    → slice_get rows i ≡ Some row → KeptClass ais row
class_at ais rows i row none at =
    let its = not_rejected_at ais rows i row none at in
    let rules = rules_kept ais (take i rows) row its.is in
    let key = key_kept ais row rules.key rules.fits in
    let digits = some_passes (λ digits. option_map_or (λ most. keeps_items row digits most) (element_room ais row.element) false) (digits_alone rules.key.parts) key.fits in
    let most = some_passes (λ most. keeps_items row digits.0 most) (element_room ais row.element) digits.2 in
    let alone_is = is_alone rules.key.parts digits.0 digits.1 in
    let room = is_room (find (has_code row.element) ais) most.0 most.1 in
    let items = items_kept row digits.0 most.0 most.2 in
    let count = alone_is.digits_are in
    record {
      key = rules.key;
      k = alone_is.k;
      found = rules.found;
      role = key.role;
      lead = key.lead;
      lists = key.lists;
      parts = alone_is.parts_are;
      element = room.0;
      most = most.0;
      element_found = room.1;
      room = room.2;
      gcp = rw count at items.gcp;
      rest = rw count at items.rest;
      serial = items.serial;
      bounds = record { none_bad = none_bad row.items its.none_bad; small = its.small };
      none_bad = its.none_bad;
    }

-- the rows before a row agree with it
pub agree_at : (ais : List AiRow) (rows : List ClassRow) (i : ℕ) (row : ClassRow) → class_rejections ais rows ≡ []
    → slice_get rows i ≡ Some row → list_all (agrees row) (take i rows) ≡ true
agree_at ais rows i row none at = (rules_kept ais (take i rows) row (not_rejected_at ais rows i row none at).is).agree

-- no row before a row is the same
pub none_same_at : (ais : List AiRow) (rows : List ClassRow) (i : ℕ) (row : ClassRow) → class_rejections ais rows ≡ []
    → slice_get rows i ≡ Some row → position (is_same_row row) (take i rows) ≡ None
none_same_at ais rows i row none at = (not_rejected_at ais rows i row none at).none_same

-- the conditions for making a class of its row
pub record CanBeMade (row : ClassRow) : Type 0 where
  pub lead : row.lead ≤ 1
  pub gcp : row.gcp ≤ 12
  pub items : KeepBounds false (alone (present row.items))

pub can_be_made : (ais : List AiRow) (rows : List ClassRow) (i : ℕ) (row : ClassRow) → class_rejections ais rows ≡ []
    → slice_get rows i ≡ Some row → CanBeMade row
can_be_made ais rows i row none at =
    let kept = class_at ais rows i row none at in
    record { lead = leb-true row.lead 1 kept.lead; gcp = gcp_kept (Digits (kept.k - 1) Nothing) row.lead row.gcp (present row.items) kept.gcp; items = kept.bounds }
