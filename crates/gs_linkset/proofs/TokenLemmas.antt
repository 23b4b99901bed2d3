-- The text is appended token by token: these are the tokens of the document's tree.
use Rattle.std.proofs.Common.{◌≡◌, ◌≤◌, ℕ, suc, ◌+◌, Bool, true, false, if◌then◌else◌, List, [], ◌∷◌, ◌++◌, length, map, take, drop, codes, refl, sym, ap, ◌∙◌, Ordering, Less, Equal, Greater, arith, append_assoc, append-nil}
use Rattle.std.specs.Prelude.{not}
use Rattle.std.specs.Cmp.Lexicographic.{slice_cmp}
use Rattle.std.specs.List.{list_all}
use Rattle.std.specs.Ordering.{is_eq, is_lt, match_ordering, nat_cmp, ordering_reverse}
use Rattle.std.specs.Str.{bytes_eq}
use Rattle.std.proofs.lemmas.Cmp.{nat_list_cmp_total}
use Rattle.std.proofs.lemmas.Map.Text.{is_eq-slice_cmp}
use Rattle.gs_chars.proofs.TruthsAndLists.{and_first, and_second, equal_bytes, same_bytes}
use Rattle.json.specs.Token.{Token, begin_array, begin_object, end_array, end_object}
use Rattle.json.specs.Tree as tree
use Rattle.json.specs.Print.{print}
use Rattle.json.specs.Written.{Written}
use Rattle.serde_json.specs.Data.{Data, string, object, member, put}
use Rattle.serde_json.specs.View.{items_of as listed}
use Rattle.serde_json.specs.Written.{compact_text, items_outline, members_outline}
use Rattle.serde_json.proofs.Texts.{print-outline}
use Rattle.gs_linkset.specs.declared.link_types.Attr.{Attr}
use Rattle.gs_linkset.specs.declared.link_types.Relation.{Relation}
use Rattle.gs_linkset.specs.LinkShapes.{is_attr, is_below, is_relation}
use Rattle.gs_linkset.specs.WrittenTrees.{array_by, members_by}
use Rattle.gs_linkset.specs.WrittenTokens.{Adds, count_below, is_other, item_tokens, member_tokens, members_tokens, text_tokens, tokens_of}
use Rattle.gs_linkset.proofs.WrittenLemmas.{attr_parts, relation_parts}
use Rattle.std.proofs.lemmas.Bool.{and_from}

-- ---- one after another

pub adds_none : (a : Written) → Adds a a []
adds_none a = record { before = refl; tokens = sym (append-nil a.tokens) }

pub adds : {a b c : Written} {s t u : List Token} → Adds a b s → Adds b c t → u ≡ s ++ t → Adds a c u
adds {a} {b} {c} {s} {t} {u} first next e = record {
  before = next.before ∙ first.before;
  tokens = next.tokens ∙ ap (λ ts. ts ++ t) first.tokens ∙ append_assoc a.tokens s t ∙ ap (λ ts. a.tokens ++ ts) (sym e);
}

pub adds_three : {a b c d : Written} {s t u v : List Token} → Adds a b s → Adds b c t → Adds c d u → v ≡ s ++ (t ++ u) → Adds a d v
adds_three first next last e = adds first (adds next last refl) e

pub adds_four : {a b c d e : Written} {s t u v w : List Token} → Adds a b s → Adds b c t → Adds c d u → Adds d e v → w ≡ s ++ (t ++ (u ++ v)) → Adds a e w
adds_four first second third last same = adds first (adds_three second third last refl) same

pub adds_five : {a b c d e f : Written} {s t u v w x : List Token} → Adds a b s → Adds b c t → Adds c d u → Adds d e v → Adds e f w
    → x ≡ s ++ (t ++ (u ++ (v ++ w))) → Adds a f x
adds_five first second third fourth last same = adds first (adds_four second third fourth last refl) same

-- ---- arrays

item_list : {X : Type 0} (see : X → Data) (xs : List X) → tree.items_tokens (items_outline (listed (map see xs))) ≡ item_tokens see xs ++ end_array ∷ []
item_list see [] = refl
item_list see (x ∷ xs) = ap (λ ts. tokens_of (see x) ++ ts) (item_list see xs) ∙ sym (append_assoc (tokens_of (see x)) (item_tokens see xs) (end_array ∷ []))

pub array_tokens : {X : Type 0} (see : X → Data) (xs : List X) → tokens_of (array_by see xs) ≡ begin_array ∷ (item_tokens see xs ++ end_array ∷ [])
array_tokens see xs = ap (λ ts. begin_array ∷ ts) (item_list see xs)

-- ---- objects

module _ {X : Type 0} (name : X → List ℕ) (see : X → Data) where
  member_list : (xs : List X) → tree.members_tokens (members_outline (members_by name see xs)) ≡ members_tokens name see xs ++ end_object ∷ []
  member_list [] = refl
  member_list (x ∷ xs) = ap (λ ts. member_tokens name see x ++ ts) (member_list xs) ∙ sym
      (append_assoc (member_tokens name see x) (members_tokens name see xs) (end_object ∷ []))

  -- the tokens with one more text after the first n
  abbrev split_tokens : List ℕ → List ℕ → ℕ → List X → List Token
  split_tokens k v n xs = members_tokens name see (take n xs) ++ (text_tokens k v ++ (members_tokens name see (drop n xs) ++ end_object ∷ []))

  placed_by : (o : Ordering) (k v : List ℕ) (x : X) (xs : List X) (n : ℕ) → slice_cmp nat_cmp k (name x) ≡ o → is_other k (name x) ≡ true
      → tree.members_tokens (members_outline (put k (string v) (members_by name see xs))) ≡ split_tokens k v n xs
      → tree.members_tokens (members_outline (match_ordering o (member k (string v) (members_by name see (x ∷ xs))) (member (name x) (string v) (members_by name see xs)) (member (name x) (see x) (put k (string v) (members_by name see xs)))))
      ≡ split_tokens k v (if is_lt (ordering_reverse o) then suc n else 0) (x ∷ xs)
  placed_by Less k v x xs n is other rest = ap (λ ts. text_tokens k v ++ ts) (member_list (x ∷ xs))
  placed_by Equal k v x xs n is other rest =
      let same = equal_bytes k (name x) (sym (is_eq-slice_cmp k (name x)) ∙ ap is_eq is) in
      let h : not (bytes_eq k k) ≡ true = rw (← same) at other in
      absurd (let g = rw (same_bytes k) at h in cc)
  placed_by Greater k v x xs n is other rest =
      ap (λ ts. member_tokens name see x ++ ts) rest ∙ sym (append_assoc (member_tokens name see x) (members_tokens name see (take n xs)) (text_tokens k v ++ (members_tokens name see (drop n xs) ++ end_object ∷ [])))

  placed : (k v : List ℕ) (xs : List X) → list_all (is_other k) (map name xs) ≡ true
      → tree.members_tokens (members_outline (put k (string v) (members_by name see xs))) ≡ split_tokens k v (count_below k (map name xs)) xs
  placed k v [] h = refl
  placed k v (x ∷ xs) h =
      let below : is_below (name x) k ≡ is_lt (ordering_reverse (slice_cmp nat_cmp k (name x))) = ap is_lt (nat_list_cmp_total.antisymm (name x) k) in
      let own = and_first (is_other k (name x)) (list_all (is_other k) (map name xs)) h in
      let rest = placed k v xs (and_second (is_other k (name x)) (list_all (is_other k) (map name xs)) h) in
      rw below (placed_by (slice_cmp nat_cmp k (name x)) k v x xs (count_below k (map name xs)) refl own rest)

  pub object_tokens : (k v : List ℕ) (xs below above : List X) (n : ℕ) → list_all (is_other k) (map name xs) ≡ true
      → n ≡ count_below k (map name xs) → below ≡ take n xs → above ≡ drop n xs
      → tokens_of (object (put k (string v) (members_by name see xs))) ≡ begin_object ∷ (members_tokens name see below ++ (text_tokens k v ++ (members_tokens name see above ++ end_object ∷ [])))
  object_tokens k v xs below above n h count front back = rw (front, back, count) (ap (λ ts. begin_object ∷ ts) (placed k v xs h))

  pub count_small : (k : List ℕ) (xs : List X) → count_below k (map name xs) ≤ length xs
  count_small k [] = omega arith
  count_small k (x ∷ xs) = by (is_below (name x) k) (count_small k xs)
    where
      by : (b : Bool) → count_below k (map name xs) ≤ length xs → (if b then suc (count_below k (map name xs)) else 0) ≤ suc (length xs)
      by true h = omega (arith, h)
      by false h = omega arith

  -- one name more is below
  pub count_next : (k : List ℕ) (xs : List X) (i : ℕ) (x : X) (all : ℕ) → drop i xs ≡ x ∷ drop (i + 1) xs → is_below (name x) k ≡ true
      → all ≡ i + count_below k (map name (drop i xs)) → all ≡ i + 1 + count_below k (map name (drop (i + 1) xs))
  count_next k xs i x all at below so_far =
      let step : count_below k (map name (drop i xs)) ≡ suc (count_below k (map name (drop (i + 1) xs))) = rw (at, below) refl in
      omega (arith, step, so_far)

  -- the next is not
  pub count_here : (k : List ℕ) (xs : List X) (i : ℕ) (x : X) (all : ℕ) → drop i xs ≡ x ∷ drop (i + 1) xs → is_below (name x) k ≡ false
      → all ≡ i + count_below k (map name (drop i xs)) → i ≡ all
  count_here k xs i x all at above so_far =
      let step : count_below k (map name (drop i xs)) ≡ 0 = rw (at, above) refl in
      omega (arith, step, so_far)

-- ---- the shape of the written text

pub attrs_other : (attrs : List Attr) → list_all is_attr attrs ≡ true → list_all (is_other (codes "href")) (map (λ attr. attr.name) attrs) ≡ true
attrs_other [] h = refl
attrs_other (attr ∷ attrs) h =
    and_from (is_other (codes "href") attr.name) _ (attr_parts attr (and_first (is_attr attr) (list_all is_attr attrs) h)).0
    (attrs_other attrs (and_second (is_attr attr) (list_all is_attr attrs) h))

pub relations_other : (relations : List Relation) → list_all is_relation relations ≡ true
    → list_all (is_other (codes "anchor")) (map (λ relation. relation.name) relations) ≡ true
relations_other [] h = refl
relations_other (relation ∷ relations) h =
    and_from (is_other (codes "anchor") relation.name) _ (relation_parts relation (and_first (is_relation relation) (list_all is_relation relations) h)).0 (relations_other relations (and_second (is_relation relation) (list_all is_relation relations) h))

-- ---- the text

pub printed : (start new : Written) (d : Data) (text : List ℕ) → start.before ≡ [] → start.tokens ≡ [] → Adds start new (tokens_of d)
    → text ≡ new.before ++ print new.tokens → text ≡ compact_text d
printed start new d text none empty added e =
    let before = added.before ∙ none in
    let tokens = added.tokens ∙ ap (λ ts. ts ++ tokens_of d) empty in
    e ∙ ap (λ b. b ++ print new.tokens) before ∙ ap print tokens ∙ print-outline d
