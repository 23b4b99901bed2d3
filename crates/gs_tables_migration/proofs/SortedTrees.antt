-- Trees whose objects have each name once, in ascending order. Each tree that is read from a text is one.
use Rattle.std.proofs.Common.{◌≡◌, ℕ, List, Option, Some, None, option_map, option_and_then, Ordering, Less, Equal, Greater, ap, ◌∙◌, refl, subst, ◌⊎◌, inl, inr}
use Rattle.std.specs.Prelude.{⊤}
use Rattle.std.specs.Cmp.Lexicographic.{slice_cmp}
use Rattle.std.specs.Ordering.{match_ordering, nat_cmp, ordering_reverse}
use Rattle.std.proofs.lemmas.Cmp.{nat_list_cmp_total, tied_itself}
use Rattle.json.specs.Json as json
use Rattle.json.specs.Lex.{tokens}
use Rattle.serde_json.specs.Data.{Num, Data, null, boolean, number, string, array, object, Items, no_items, item, Members, no_members, member, put}
use Rattle.serde_json.specs.Find.{get_member}
use Rattle.serde_json.specs.Read.{number_of, of_items, of_json, of_members, max_depth, read}
use Rattle.gs_json.specs.Answers.{names_of_members}
use Rattle.gs_json.proofs.PutMembers.{IsBelowAll, below_put, below_trans}

abbrev mutual
  pub IsSorted : Data → Type 0
  IsSorted null = ⊤
  IsSorted (boolean b) = ⊤
  IsSorted (number n) = ⊤
  IsSorted (string s) = ⊤
  IsSorted (array ds) = AreSorted ds
  IsSorted (object ms) = HaveSorted ms

  pub AreSorted : Items → Type 0
  AreSorted no_items = ⊤
  AreSorted (item d ds) = IsSorted d × AreSorted ds

  pub HaveSorted : Members → Type 0
  HaveSorted no_members = ⊤
  HaveSorted (member k d ms) = IsSorted d × IsBelowAll k ms × HaveSorted ms

-- ---- a member more

sorted_by : (o : Ordering) (k l : List ℕ) (d e : Data) (ms : Members) → slice_cmp nat_cmp k l ≡ o → IsSorted d → HaveSorted (member l e ms)
    → HaveSorted (put k d ms) → HaveSorted (match_ordering o (member k d (member l e ms)) (member l d ms) (member l e (put k d ms)))
sorted_by Less k l d e ms is own all more = (own, (is, below_trans k l (names_of_members ms) is all.1), all)
sorted_by Equal k l d e ms is own all more = (own, all.1, all.2)
sorted_by Greater k l d e ms is own all more =
    let below : slice_cmp nat_cmp l k ≡ Less = nat_list_cmp_total.antisymm l k ∙ ap ordering_reverse is in
    (all.0, below_put l k d ms below all.1, more)

pub sorted_put : (k : List ℕ) (d : Data) (ms : Members) → IsSorted d → HaveSorted ms → HaveSorted (put k d ms)
sorted_put k d no_members own all = (own, tt, tt)
sorted_put k d (member l e ms) own all = sorted_by (slice_cmp nat_cmp k l) k l d e ms refl own all (sorted_put k d ms own all.2)

-- ---- trees that are read from a text

abbrev Holds : {A : Type 0} → (A → Type 0) → Option A → Type 0
Holds P None = ⊤
Holds P (Some a) = P a

holds_map : {A B : Type 0} (P : A → Type 0) (Q : B → Type 0) (f : A → B) → ((a : A) → P a → Q (f a)) → (o : Option A) → Holds P o → Holds Q (option_map f o)
holds_map P Q f each None h = tt
holds_map P Q f each (Some a) h = each a h

holds_then : {A B : Type 0} (P : A → Type 0) (Q : B → Type 0) (f : A → Option B) → ((a : A) → P a → Holds Q (f a)) → (o : Option A)
    → Holds P o → Holds Q (option_and_then f o)
holds_then P Q f each None h = tt
holds_then P Q f each (Some a) h = each a h

sorted_number : (o : Option Num) → Holds IsSorted (option_map number o)
sorted_number None = tt
sorted_number (Some n) = tt

mutual
  sorted_json : (j : json.Json) → Holds IsSorted (of_json j)
  sorted_json json.null = tt
  sorted_json (json.boolean b) = tt
  sorted_json (json.number s) = sorted_number (number_of s)
  sorted_json (json.string s) = tt
  sorted_json (json.array js) = holds_map AreSorted IsSorted array (λ _ h. h) (of_items js) (sorted_items js)
  sorted_json (json.object ms) = holds_map HaveSorted IsSorted object (λ _ h. h) (of_members ms no_members) (sorted_members ms no_members tt)

  sorted_items : (js : json.Items) → Holds AreSorted (of_items js)
  sorted_items json.no_items = tt
  sorted_items (json.item j js) =
      holds_then IsSorted AreSorted _ (λ d own. holds_map AreSorted AreSorted (item d) (λ _ all. (own, all)) (of_items js) (sorted_items js)) (of_json j) (sorted_json j)

  sorted_members : (ms : json.Members) (found : Members) → HaveSorted found → Holds HaveSorted (of_members ms found)
  sorted_members json.no_members found all = all
  sorted_members (json.member k j ms) found all =
      holds_then IsSorted HaveSorted _ (λ d own. sorted_members ms (put k d found) (sorted_put k d found own all)) (of_json j) (sorted_json j)

sorted_value : (o : Option json.Json) → Holds IsSorted (option_and_then of_json o)
sorted_value None = tt
sorted_value (Some j) = sorted_json j

-- the value of a text's tokens
abbrev parsed : List ℕ → Option json.Json
parsed text = option_and_then (λ p. json.if_last p.0 p.1) (json.value max_depth (tokens text))

-- a tree that is read from a text has each name once, in ascending order
pub sorted_read : (text : List ℕ) (d : Data) → read text ≡ Some d → IsSorted d
sorted_read text d e = subst (Holds IsSorted) e (sorted_value (parsed text))

-- ---- members

-- a member of this name and value
abbrev pub HasMember : List ℕ → Data → Members → Type 0
HasMember k d no_members = ⊥
HasMember k d (member l e ms) = ((k ≡ l) × (d ≡ e)) ⊎ HasMember k d ms

below_has : (l k : List ℕ) (d : Data) (ms : Members) → IsBelowAll l ms → HasMember k d ms → slice_cmp nat_cmp l k ≡ Less
below_has l k d no_members all has = absurd has
below_has l k d (member m e ms) all (inl has) = rw has.0 all.0
below_has l k d (member m e ms) all (inr has) = below_has l k d ms all.1 has

-- each member is found by its name
pub found_member : (k : List ℕ) (d : Data) (ms : Members) → HaveSorted ms → HasMember k d ms → get_member k ms ≡ Some d
found_member k d no_members all has = absurd has
found_member k d (member l e ms) all (inl has) = rw (has.0, has.1, tied_itself nat_list_cmp_total l) refl
found_member k d (member l e ms) all (inr has) =
    let above : slice_cmp nat_cmp k l ≡ Greater = nat_list_cmp_total.antisymm k l ∙ ap ordering_reverse (below_has l k d ms all.1 has) in
    rw above (found_member k d ms all.2 has)

sorted_or : (o : Ordering) (d e : Data) (rest : Option Data) → IsSorted e → (rest ≡ Some d → IsSorted d)
    → match_ordering o rest (Some e) rest ≡ Some d → IsSorted d
sorted_or Less d e rest own more is = more is
sorted_or Equal d e rest own more is = let same : e ≡ d = cc in rw (← same) own
sorted_or Greater d e rest own more is = more is

-- the value of a name is sorted
pub sorted_member : (k : List ℕ) (d : Data) (ms : Members) → HaveSorted ms → get_member k ms ≡ Some d → IsSorted d
sorted_member k d no_members all found = absurd (let g : None ≡ Some d = found in cc)
sorted_member k d (member l e ms) all found = sorted_or (slice_cmp nat_cmp k l) d e (get_member k ms) all.0 (sorted_member k d ms all.2) found
