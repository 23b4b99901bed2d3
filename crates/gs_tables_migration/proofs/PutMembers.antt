-- A member that is put into an object: the members found afterwards, and the errors of the object by a plan.
use Rattle.std.proofs.Common.{◌≡◌, ℕ, ◌+◌, true, false, Bool, ◌||◌, List, [], ◌∷◌, ◌++◌, map, Option, Some, None, Ordering, Less, Equal, Greater, is_eq, refl, ap, sym, ◌∙◌}
use Rattle.std.specs.Prelude.{if◌then◌else◌}
use Rattle.std.specs.Cmp.Lexicographic.{slice_cmp}
use Rattle.std.specs.List.{enumerate_from, flat_map}
use Rattle.std.specs.Ordering.{match_ordering, nat_cmp}
use Rattle.std.specs.Str.{bytes_eq}
use Rattle.std.proofs.lemmas.Map.Text.{is_eq-slice_cmp}
use Rattle.serde_json.specs.Data.{Data, Members, no_members, member, put}
use Rattle.serde_json.specs.Find.{get_member}
use Rattle.serde_json.proofs.Views.{get_member-put, get_member-put_other}
use Rattle.gs_chars.proofs.TruthsAndLists.{equal_bytes, nil_parts, none_of_both, same_bytes, map_none}
use Rattle.gs_json.specs.Answers.{names_of_members}
use Rattle.gs_json.specs.Places.{item_place, member_place}
use Rattle.gs_json.specs.Shapes.{entry_errors, is_named, members_errors, sort_errors, unknown_among, unknown_errors}
use Rattle.gs_json.specs.declared.error.JsonFault.{JsonFault}
use Rattle.gs_json.specs.declared.plan.Entry.{Entry}
use Rattle.std.proofs.lemmas.Bool.{or_parts}

-- ---- names

true_or : (b : Bool) → (b || true) ≡ true
true_or true = refl
true_or false = refl

some_name : (l : List ℕ) (names : List (List ℕ)) → l ∷ names ≡ [] → ⊥
some_name l names h = absurd (cc)

pub other_name : (a b : List ℕ) → bytes_eq a b ≡ false → a ≡ b → ⊥
other_name a b h same = absurd (let g = rw (same, same_bytes b) at h in let bad : true ≡ false = g in cc)

-- putting a member that the plan names leaves the names that it does not name unchanged
module _ (plan : List Entry) (k : List ℕ) (d : Data) (named : is_named plan k ≡ true) where
  unknown_by : (o : Ordering) (l : List ℕ) (e : Data) (ms : Members)
      → unknown_among plan (names_of_members (put k d ms)) ≡ unknown_among plan (names_of_members ms)
      → unknown_among plan (names_of_members (match_ordering o (member k d (member l e ms)) (member l d ms) (member l e (put k d ms)))) ≡ unknown_among plan (names_of_members (member l e ms))
  unknown_by Less l e ms more = rw named refl
  unknown_by Equal l e ms more = refl
  unknown_by Greater l e ms more = rw more refl

  pub unknown_put : (ms : Members) → unknown_among plan (names_of_members (put k d ms)) ≡ unknown_among plan (names_of_members ms)
  unknown_put no_members = rw named refl
  unknown_put (member l e ms) = unknown_by (slice_cmp nat_cmp k l) l e ms (unknown_put ms)

-- ---- a plan of one entry more

named_or : (b c d : Bool) → (b || c) ≡ true → (c ≡ true → d ≡ true) → (b || d) ≡ true
named_or true c d h more = refl
named_or false c d h more = more h

named_more : (plan : List Entry) (entry : Entry) (l : List ℕ) → is_named plan l ≡ true → is_named (plan ++ entry ∷ []) l ≡ true
named_more [] entry l h = absurd (let g : false ≡ true = h in cc)
named_more (e ∷ plan) entry l h = named_or (bytes_eq e.name l) (is_named plan l) (is_named (plan ++ entry ∷ []) l) h (named_more plan entry l)

pub named_last : (plan : List Entry) (entry : Entry) → is_named (plan ++ entry ∷ []) entry.name ≡ true
named_last [] entry = rw (same_bytes entry.name) refl
named_last (e ∷ plan) entry = named_or (bytes_eq e.name entry.name) true (is_named (plan ++ entry ∷ []) entry.name)
    (true_or (bytes_eq e.name entry.name)) (λ _. named_last plan entry)

-- a plan of one entry more names everything that a plan names
module _ (plan : List Entry) (entry : Entry) where
  none_unknown_by : (l : List ℕ) (names : List (List ℕ)) (b : Bool) → is_named plan l ≡ b
      → (unknown_among plan names ≡ [] → unknown_among (plan ++ entry ∷ []) names ≡ [])
      → unknown_among plan (l ∷ names) ≡ [] → unknown_among (plan ++ entry ∷ []) (l ∷ names) ≡ []
  none_unknown_by l names true is more none = rw (named_more plan entry l is) (more (rw is at none))
  none_unknown_by l names false is more none = absurd (some_name l (unknown_among plan names) (rw is at none))

  none_unknown : (names : List (List ℕ)) → unknown_among plan names ≡ [] → unknown_among (plan ++ entry ∷ []) names ≡ []
  none_unknown [] none = refl
  none_unknown (l ∷ names) none = none_unknown_by l names (is_named plan l) refl (none_unknown names) none

-- ---- errors

-- the errors of the value that is put at a name, by the entry of that name
abbrev pub put_errors : List ℕ → List ℕ → Data → Entry → List JsonFault
put_errors place k d entry = if bytes_eq entry.name k then sort_errors (member_place place entry.name) entry.sort d else []

flat_more : {X Y : Type 0} (f : X → List Y) (xs : List X) (x : X) → flat_map f xs ≡ [] → f x ≡ [] → flat_map f (xs ++ x ∷ []) ≡ []
flat_more f [] x none own = none_of_both (f x) [] own refl
flat_more f (y ∷ xs) x none own =
    let parts = nil_parts (f y) (flat_map f xs) none in
    none_of_both (f y) (flat_map f (xs ++ x ∷ [])) parts.0 (flat_more f xs x parts.1 own)

-- if the plan does not name it, the value has no errors
apart_errors : (place k : List ℕ) (d : Data) (plan : List Entry) → is_named plan k ≡ false → flat_map (put_errors place k d) plan ≡ []
apart_errors place k d [] apart = refl
apart_errors place k d (entry ∷ plan) apart =
    let parts = or_parts (bytes_eq entry.name k) (is_named plan k) apart in
    rw parts.0 (apart_errors place k d plan parts.1)

module _ (place k : List ℕ) (d : Data) (ms : Members) where
  entry_by : (entry : Entry) (b : Bool) → bytes_eq entry.name k ≡ b → entry_errors place ms entry ≡ [] → put_errors place k d entry ≡ []
      → entry_errors place (put k d ms) entry ≡ []
  entry_by entry true is none fits =
      let same = equal_bytes entry.name k is in
      let here : get_member entry.name (put k d ms) ≡ Some d = rw same (get_member-put k d ms) in
      rw here (rw is at fits)
  entry_by entry false is none fits = rw (get_member-put_other entry.name k d ms (other_name entry.name k is)) none

  -- an object without errors has none if a value without errors is put into it
  pub entries_put : (plan : List Entry) → flat_map (entry_errors place ms) plan ≡ [] → flat_map (put_errors place k d) plan ≡ []
      → flat_map (entry_errors place (put k d ms)) plan ≡ []
  entries_put [] none fits = refl
  entries_put (entry ∷ plan) none fits =
      let own = nil_parts (entry_errors place ms entry) (flat_map (entry_errors place ms) plan) none in
      let put = nil_parts (put_errors place k d entry) (flat_map (put_errors place k d) plan) fits in
      none_of_both _ _ (entry_by entry (bytes_eq entry.name k) refl own.0 put.0) (entries_put plan own.1 put.1)

  pub members_put : (plan : List Entry) → is_named plan k ≡ true → flat_map (put_errors place k d) plan ≡ []
      → members_errors place plan (Some ms) ≡ [] → members_errors place plan (Some (put k d ms)) ≡ []
  members_put plan named fits none =
      let parts = nil_parts (flat_map (entry_errors place ms) plan) (unknown_errors place plan ms) none in
      none_of_both _ _ (entries_put plan parts.0 fits) (rw (unknown_put plan k d named ms) parts.1)

  -- so by a plan of one entry more, at whose name the value is put
  pub members_more : (plan : List Entry) (entry : Entry) → entry.name ≡ k → is_named plan k ≡ false
      → sort_errors (member_place place entry.name) entry.sort d ≡ []
      → members_errors place plan (Some ms) ≡ [] → members_errors place (plan ++ entry ∷ []) (Some (put k d ms)) ≡ []
  members_more plan entry is apart fits none =
      let parts = nil_parts (flat_map (entry_errors place ms) plan) (unknown_errors place plan ms) none in
      let front = entries_put plan parts.0 (apart_errors place k d plan apart) in
      let here : get_member entry.name (put k d ms) ≡ Some d = rw is (get_member-put k d ms) in
      let own : entry_errors place (put k d ms) entry ≡ [] = rw here fits in
      let named : is_named (plan ++ entry ∷ []) k ≡ true = rw (← is) (named_last plan entry) in
      let known = none_unknown plan entry (names_of_members ms) (map_none _ (unknown_among plan (names_of_members ms)) parts.1) in
      none_of_both _ _ (flat_more (entry_errors place (put k d ms)) plan entry front own) (rw (unknown_put (plan ++ entry ∷ []) k d named ms, known) refl)

-- a name that a plan without errors does not name is not a member's
absent_by : (o : Ordering) (k l : List ℕ) (e : Data) (rest : Option Data) → slice_cmp nat_cmp k l ≡ o → (k ≡ l → ⊥) → rest ≡ None
    → match_ordering o rest (Some e) rest ≡ None
absent_by Less k l e rest is other none = none
absent_by Equal k l e rest is other none = absurd (other (equal_bytes k l (sym (is_eq-slice_cmp k l) ∙ ap is_eq is)))
absent_by Greater k l e rest is other none = none

not_named : (plan : List Entry) (l : List ℕ) (names : List (List ℕ)) (b : Bool) → is_named plan l ≡ b → unknown_among plan (l ∷ names) ≡ []
    → (is_named plan l ≡ true) × (unknown_among plan names ≡ [])
not_named plan l names true is none = (is, rw is at none)
not_named plan l names false is none = absurd (some_name l (unknown_among plan names) (rw is at none))

absent : (plan : List Entry) (k : List ℕ) (ms : Members) → is_named plan k ≡ false → unknown_among plan (names_of_members ms) ≡ [] → get_member k ms ≡ None
absent plan k no_members apart none = refl
absent plan k (member l e ms) apart none =
    let parts = not_named plan l (names_of_members ms) (is_named plan l) refl none in
    let other = λ (same : k ≡ l). let g : false ≡ true = sym apart ∙ ap (is_named plan) same ∙ parts.0 in absurd (let h : false ≡ true = g in cc) in
    absent_by (slice_cmp nat_cmp k l) k l e (get_member k ms) refl other (absent plan k ms apart parts.1)

pub absent_member : (place : List ℕ) (plan : List Entry) (k : List ℕ) (ms : Members) → is_named plan k ≡ false
    → members_errors place plan (Some ms) ≡ [] → get_member k ms ≡ None
absent_member place plan k ms apart none =
    let parts = nil_parts (flat_map (entry_errors place ms) plan) (unknown_errors place plan ms) none in
    absent plan k ms apart (map_none _ (unknown_among plan (names_of_members ms)) parts.1)

-- ---- rows

-- rows without errors, each changed
pub rows_put : (f g : List ℕ → Data → List JsonFault) (change : Data → Data) (place : List ℕ)
    → ((p : List ℕ) (d : Data) → f p d ≡ [] → g p (change d) ≡ []) → (n : ℕ) (rows : List Data)
    → flat_map (λ (row : ℕ × Data). f (item_place place row.0) row.1) (enumerate_from n rows) ≡ [] → flat_map
    (λ (row : ℕ × Data). g (item_place place row.0) row.1) (enumerate_from n (map change rows)) ≡ []
rows_put f g change place each n [] none = refl
rows_put f g change place each n (d ∷ rows) none =
    let parts = nil_parts (f (item_place place n) d) (flat_map (λ (row : ℕ × Data). f (item_place place row.0) row.1) (enumerate_from (n + 1) rows)) none in
    none_of_both (g (item_place place n) (change d)) (flat_map (λ (row : ℕ × Data). g (item_place place row.0) row.1) (enumerate_from (n + 1) (map change rows))) (each (item_place place n) d parts.0)
    (rows_put f g change place each (n + 1) rows parts.1)
