-- The attributes of the entries of a map are those of the parameters.
use Rattle.std.proofs.Common.{◌≡◌, ℕ, zero, suc, ◌+◌, Bool, true, false, List, [], ◌∷◌, ◌++◌, Option, Some, None, map, slice_get, bytes_eq, unwrap_or, refl, ap, sym, ◌∙◌, inl, inr, Less, append-nil, append_assoc, cond}
use Rattle.std.specs.BTreeMap as tree
use Rattle.std.specs.BTreeMap.{BTreeMap, is_at, IsOrdered, Updates}
use Rattle.std.specs.Cmp.Lexicographic.{nat_list_cmp_total, slice_cmp}
use Rattle.std.specs.List.{AllByRecursion, cons_option, filter_map}
use Rattle.std.specs.List.Sorted.{IsStrictlySortedBy}
use Rattle.std.specs.Option.{option_map}
use Rattle.std.specs.Ordering.{nat_cmp}
use Rattle.std.proofs.lemmas.Map.Entries.{btree_map_get_place, place_from_lookup}
use Rattle.std.proofs.lemmas.Map.Text.{is_eq-slice_cmp}
use Rattle.gs_linkset.specs.Attributes.{is_single, is_tagged}
use Rattle.gs_linkset.specs.LinkShapes.{ascend, is_below_first}
use Rattle.gs_linkset.specs.declared.link_types.Attr.{Attr}
use Rattle.gs_linkset.specs.declared.link_types.AttrValue.{AttrValue}
use Rattle.gs_linktext.specs.Groups.{attrs_of_entries, items_at, value_at}
use Rattle.gs_linktext.specs.Links.{attr_of, attr_value, attr_with, is_reserved, values_of, IsAttributes}
use Rattle.gs_linktext_grammar.specs.declared.written_link.Param.{Param}
use Rattle.gs_chars.proofs.TruthsAndLists.{equal_bytes, true_or_false}
use Rattle.gs_linktext_grammar.proofs.LexLemmas.{not_some, some_is}

-- ---- the values of a name, one parameter more

values_by : (q : List ℕ) (p : Param) (params : List Param) → values_of q (params ++ p ∷ []) ≡ values_of q params ++ value_at q p.name p.value
values_by q p [] = elim (true_or_false (bytes_eq p.name q)) [
  | inl t ↦ rw t refl
  | inr f ↦ rw f refl
]
values_by q p (x ∷ params) = elim (true_or_false (bytes_eq x.name q)) [
  | inl t ↦ rw t (ap (λ (vs : List (List ℕ)). x.value ∷ vs) (values_by q p params))
  | inr f ↦ rw f (values_by q p params)
]

-- ---- the values of entries

module _ {E X : Type 0} (h : E → Option X) where
  pub given_from : (es : List E) (i : ℕ) (x : X) → slice_get (filter_map h es) i ≡ Some x → (j : ℕ) × (e : E) × (slice_get es j ≡ Some e) × (h e ≡ Some x)
  given_from [] i x at = absurd (not_some x at)
  given_from (e ∷ es) i x at = by (h e) refl at (λ k found. given_from es k x found)
    where
      found_in : List E → Type 0
      found_in rows = (j : ℕ) × (f : E) × (slice_get rows j ≡ Some f) × (h f ≡ Some x)

      behind : found_in es → found_in (e ∷ es)
      behind (j, f, place, own) = (suc j, f, place, own)

      by_place : (k : ℕ) (y : X) → h e ≡ Some y → slice_get (y ∷ filter_map h es) k ≡ Some x
          → ((m : ℕ) → slice_get (filter_map h es) m ≡ Some x → found_in es) → found_in (e ∷ es)
      by_place zero y own found rest = (0, e, refl, own ∙ found)
      by_place (suc k) y own found rest = behind (rest k found)

      by : (o : Option X) → h e ≡ o → slice_get (cons_option o (filter_map h es)) i ≡ Some x
          → ((k : ℕ) → slice_get (filter_map h es) k ≡ Some x → found_in es) → found_in (e ∷ es)
      by None own found rest = behind (rest i found)
      by (Some y) own found rest = by_place i y own found rest

  pub given_at : (es : List E) (j : ℕ) (e : E) (x : X) → slice_get es j ≡ Some e → h e ≡ Some x → (i : ℕ) × (slice_get (filter_map h es) i ≡ Some x)
  given_at [] j e x at own = absurd (not_some e at)
  given_at (f ∷ es) zero e x at own =
      let same : h f ≡ Some x = ap h (some_is f e at) ∙ own in
      (0, rw same refl)
  given_at (f ∷ es) (suc j) e x at own = by (h f) (given_at es j e x at own)
    where
      by : (o : Option X) → (i : ℕ) × (slice_get (filter_map h es) i ≡ Some x) → (i : ℕ) × (slice_get (cons_option o (filter_map h es)) i ≡ Some x)
      by None found = found
      by (Some y) (i, found) = (suc i, found)

  module _ (name : X → List ℕ) (key : E → List ℕ) (own : (e : E) (x : X) → h e ≡ Some x → name x ≡ key e) where
    first_by : (n : List ℕ) (e : E) (es : List E) (o : Option X) → h e ≡ o → slice_cmp nat_cmp n (key e) ≡ Less
        → is_below_first n (map name (filter_map h es)) ≡ true → is_below_first n (map name (cons_option o (filter_map h es))) ≡ true
    first_by n e es None is less rest = rest
    first_by n e es (Some x) is less rest = rw (own e x is, less) refl

    first_given : (n : List ℕ) (es : List E) → AllByRecursion (λ m. slice_cmp nat_cmp n m ≡ Less) (map key es)
        → is_below_first n (map name (filter_map h es)) ≡ true
    first_given n [] all = refl
    first_given n (e ∷ es) all = first_by n e es (h e) refl all.0 (first_given n es all.1)

    given_by : (e : E) (es : List E) (o : Option X) → h e ≡ o → is_below_first (key e) (map name (filter_map h es)) ≡ true
        → ascend (map name (filter_map h es)) ≡ true → ascend (map name (cons_option o (filter_map h es))) ≡ true
    given_by e es None is first rest = rest
    given_by e es (Some x) is first rest = rw (own e x is, first, rest) refl

    pub given_ascends : (es : List E) → IsStrictlySortedBy (slice_cmp nat_cmp) (map key es) → ascend (map name (filter_map h es)) ≡ true
    unfolding IsStrictlySortedBy
    given_ascends [] s = refl
    given_ascends (e ∷ es) s = given_by e es (h e) refl (first_given (key e) es s.0) (given_ascends es s.1)

-- ---- an attribute has the given name, and no values give no attribute

pub attr_name : (name : List ℕ) (values : List (List ℕ)) (attr : Attr) → attr_with name values ≡ Some attr → attr.name ≡ name
attr_name name values attr h = by (is_reserved name) refl
  where
    by_value : (o : Option AttrValue) → option_map (λ value. record { name = name; value = value }) o ≡ Some attr → attr.name ≡ name
    by_value None e = absurd (not_some attr e)
    by_value (Some v) e = sym (ap (λ a. a.name) (some_is (record { name = name; value = v }) attr e))

    by : (b : Bool) → is_reserved name ≡ b → attr.name ≡ name
    by true t = absurd (not_some attr (rw t at h))
    by false f = by_value (attr_value name values) (rw f at h)

pub no_values : (name : List ℕ) (attr : Attr) → attr_with name [] ≡ Some attr → ⊥
no_values name attr h = by (is_reserved name) refl
  where
    by_single : (b : Bool) → is_single name ≡ b → is_reserved name ≡ false → is_tagged name ≡ false → ⊥
    by_single true s f t = not_some attr (rw (f, t, s) at h)
    by_single false s f t = not_some attr (rw (f, t, s) at h)

    by_tagged : (b : Bool) → is_tagged name ≡ b → is_reserved name ≡ false → ⊥
    by_tagged true t f = not_some attr (rw (f, t) at h)
    by_tagged false t f = by_single (is_single name) refl f t

    by : (b : Bool) → is_reserved name ≡ b → ⊥
    by true t = not_some attr (rw t at h)
    by false f = by_tagged (is_tagged name) refl f

-- ---- the attributes of a map that has the values of each name

-- an entry of the map: a name and its values
abbrev Entry : Type 0
Entry = List ℕ × List (List ℕ)

pub attributes : (params : List Param) (groups : BTreeMap (List ℕ) (List (List ℕ))) → IsOrdered (slice_cmp nat_cmp) groups
    → ((q : List ℕ) → items_at q groups ≡ values_of q params) → IsAttributes params (attrs_of_entries groups.entries)
attributes params groups ordered items = record { ascending = given_ascends given_of (λ attr. attr.name) (λ e. e.0) (λ e attr own. attr_name e.0 e.1 attr own) groups.entries ordered; each = by_place; every_name = by_name }
  where
    given_of : Entry → Option Attr
    given_of e = attr_with e.0 e.1

    by_place : (i : ℕ) (attr : Attr) → slice_get (filter_map given_of groups.entries) i ≡ Some attr → attr_of params attr.name ≡ Some attr
    by_place i attr at =
        let found = given_from given_of groups.entries i attr at in
        let e : Entry = found.1 in
        let here : tree.get (slice_cmp nat_cmp) groups e.0 ≡ Some e.1 = btree_map_get_place nat_list_cmp_total groups found.0 e.0 e.1 ordered found.2 in
        let values : values_of e.0 params ≡ e.1 = sym (items e.0) ∙ ap (λ o. unwrap_or o []) here in
        ap (λ n. attr_with n (values_of n params)) (attr_name e.0 e.1 attr found.3) ∙ ap (attr_with e.0) values ∙ found.3

    by_values : (name : List ℕ) (attr : Attr) (o : Option (List (List ℕ))) → tree.get (slice_cmp nat_cmp) groups name ≡ o
        → attr_with name (unwrap_or o []) ≡ Some attr → (i : ℕ) × (slice_get (filter_map given_of groups.entries) i ≡ Some attr)
    by_values name attr None is h = absurd (no_values name attr h)
    by_values name attr (Some values) is h =
        let place = place_from_lookup (is_at (slice_cmp nat_cmp name)) groups.entries values is in
        let same : name ≡ place.1 = equal_bytes name place.1 (sym (is_eq-slice_cmp name place.1) ∙ place.3) in
        given_at given_of groups.entries place.0 (place.1, values) attr place.2 (ap (λ n. attr_with n values) (sym same) ∙ h)

    by_name : (name : List ℕ) (attr : Attr) → attr_of params name ≡ Some attr → (i : ℕ) × (slice_get (filter_map given_of groups.entries) i ≡ Some attr)
    by_name name attr h = by_values name attr (tree.get (slice_cmp nat_cmp) groups name) refl (ap (attr_with name) (items name) ∙ h)

-- ---- a value more

pub put_items : (groups mid new : BTreeMap (List ℕ) (List (List ℕ))) (name value : List ℕ) (values pushed : List (List ℕ))
    → values ≡ items_at name groups → ((q : List ℕ) → bytes_eq name q ≡ false → items_at q mid ≡ items_at q groups)
    → Updates (slice_cmp nat_cmp) mid new name (Some pushed) → pushed ≡ values ++ value ∷ []
    → (q : List ℕ) → items_at q new ≡ items_at q groups ++ value_at q name value
put_items groups mid new name value values pushed own others updates push q = by (bytes_eq name q) refl
  where
    by : (b : Bool) → bytes_eq name q ≡ b → items_at q new ≡ items_at q groups ++ value_at q name value
    by true t =
        let at : is_at (slice_cmp nat_cmp name) q ≡ true = is_eq-slice_cmp name q ∙ t in
        let same : name ≡ q = equal_bytes name q t in
        let here : items_at q new ≡ pushed = ap (λ o. unwrap_or o []) (updates.0 q) ∙ ap (λ b. unwrap_or (cond b (Some pushed) (tree.get (slice_cmp nat_cmp) mid q)) []) at in
        rw t (here ∙ push ∙ ap (λ (vs : List (List ℕ)). vs ++ value ∷ []) (own ∙ ap (λ n. items_at n groups) same))
    by false f =
        let apart : is_at (slice_cmp nat_cmp name) q ≡ false = is_eq-slice_cmp name q ∙ f in
        rw f (ap (λ o. unwrap_or o []) (updates.2 q apart) ∙ others q f ∙ sym (append-nil (items_at q groups)))

-- ---- the attributes of a map, entry by entry

option_front : {X : Type 0} (o : Option X) (xs : List X) → cons_option o xs ≡ cons_option o [] ++ xs
option_front None xs = refl
option_front (Some x) xs = refl

pub entries_more : (entries rest : List Entry) (name : List ℕ) (values : List (List ℕ)) (old new whole : List Attr)
    → old ++ attrs_of_entries entries ≡ whole → entries ≡ (name, values) ∷ rest → new ≡ old ++ cons_option (attr_with name values) []
    → new ++ attrs_of_entries rest ≡ whole
entries_more entries rest name values old new whole h is e =
    ap (λ (xs : List Attr). xs ++ attrs_of_entries rest) e ∙ append_assoc old (cons_option (attr_with name values) []) (attrs_of_entries rest)
    ∙ ap (λ (xs : List Attr). old ++ xs) (sym (option_front (attr_with name values) (attrs_of_entries rest))) ∙ ap
    (λ xs. old ++ attrs_of_entries xs) (sym is) ∙ h
