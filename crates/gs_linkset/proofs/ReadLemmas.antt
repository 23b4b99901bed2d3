-- Readings item by item, and name by name.
use Rattle.std.proofs.Common.{◌≡◌, Bool, true, false, codes, ℕ, zero, suc, ◌+◌, ◌≤◌, List, [], ◌∷◌, ◌++◌, length, take, map, Option, Some, None, slice_get, refl, sym, ap, ◌∙◌, inl, inr, arith}
use Rattle.std.specs.Prelude.{IfSome, Result, Ok, Err, option_map, option_and_then}
use Rattle.std.specs.List.{cons_option, enumerate_from, filter_map, flat_map, list_all}
use Rattle.std.proofs.lemmas.List.{append-nil, length-map, map-append, take_all}
use Rattle.std.proofs.lemmas.List.Elements.{filter_map-append}
use Rattle.std.proofs.lemmas.List.Folds.{list_all-append}
use Rattle.std.proofs.lemmas.List.FromFn.{length-enumerate_from}
use Rattle.gs_chars.proofs.TruthsAndLists.{nil_parts, take_next}
use Rattle.gs_json.specs.declared.error.JsonFault.{JsonFault}
use Rattle.gs_json.specs.declared.error.JsonFault.TheVariants.{Memory}
use Rattle.gs_json.specs.declared.plan.Sort.TheVariants.{Text}
use Rattle.gs_json.specs.Members.{items_of, text_in}
use Rattle.gs_chars.specs.Answers.{first_or, OrError}
use Rattle.gs_linkset.specs.AnswersSupport.{ItemAnswer, member_answer, text_answer}
use Rattle.std.specs.Str.{bytes_eq, is_utf8}
use Rattle.serde_json.specs.Data.{Data}
use Rattle.serde_json.specs.Find.{get}
use Rattle.gs_linkset.specs.Attributes.{every}
use Rattle.gs_json.specs.Places.{item_place, member_place}
use Rattle.gs_linkset.specs.Documents.{member_errors, attr_of, item_errors, relation_errors, relation_of, names_in, target_errors, target_of, targets_at, attr_with}
use Rattle.gs_json.proofs.ArrayItems.{items_at}
use Rattle.gs_linkset.specs.LinkShapes.{ascend, is_attr, is_context, is_relation, is_target, is_value}
use Rattle.gs_linkset.specs.declared.link_types.Attr.{Attr}
use Rattle.gs_linkset.specs.declared.link_types.AttrValue.{AttrValue}
use Rattle.gs_linkset.specs.declared.link_types.Relation.{Relation}
use Rattle.gs_linkset.specs.declared.link_types.Target.{Target}

-- ---- the first error

pub error_in_front : {X Y : Type 0} (a b : List JsonFault) (x : X) (y : Y) (e : JsonFault) → OrError Memory (Err e) (first_or a x)
    → OrError Memory (Err e) (first_or (a ++ b) y)
error_in_front a b x y e (inl h) = inl (let same : e ≡ Memory = cc in ap Err same)
error_in_front [] b x y e (inr h) = absurd (let g : Err e ≡ Ok x = h in cc)
error_in_front (f ∷ a) b x y e (inr h) = inr (let same : e ≡ f = cc in ap Err same)

-- the facts that a reading without error gives
pub none_first : {X : Type 0} (a : List JsonFault) (x z : X) → OrError Memory (Ok z) (first_or a x) → (a ≡ []) × (z ≡ x)
none_first a x z (inl h) = absurd (let g : Ok z ≡ Err Memory = h in cc)
none_first [] x z (inr h) = (refl, let g : Ok z ≡ Ok x = h in cc)
none_first (f ∷ a) x z (inr h) = absurd (let g : Ok z ≡ Err f = h in cc)

-- the same error, whatever would be read
pub same_error : {X Y : Type 0} (a : List JsonFault) (x : X) (y : Y) (e : JsonFault) → OrError Memory (Err e) (first_or a x) → OrError Memory (Err e) (first_or a y)
same_error a x y e (inl h) = inl (let same : e ≡ Memory = cc in ap Err same)
same_error [] x y e (inr h) = absurd (let g : Err e ≡ Ok x = h in cc)
same_error (f ∷ a) x y e (inr h) = inr (let same : e ≡ f = cc in ap Err same)

pub all_read : {X : Type 0} (a : List JsonFault) (x z : X) → a ≡ [] → z ≡ x → OrError Memory (Ok z) (first_or a x)
all_read a x z none e = rw (none, e) (inr refl)

-- ---- the first items

-- ---- the reading of each item

pub mapped_more : {X Y : Type 0} (f : X → Y) (xs : List X) (i : ℕ) (x : X) (ys : List Y) (y : Y) (zs : List Y) → slice_get xs i ≡ Some x
    → ys ≡ map f (take i xs) → y ≡ f x → zs ≡ ys ++ y ∷ [] → zs ≡ map f (take (i + 1) xs)
mapped_more f xs i x ys y zs at so_far own e = rw (e, so_far, own, take_next xs i x at, map-append) refl

pub all_more : {X : Type 0} (t : X → Bool) (xs : List X) (x : X) → list_all t xs ≡ true → t x ≡ true → list_all t (xs ++ x ∷ []) ≡ true
all_more t xs x h own = rw (list_all-append t xs (x ∷ []), h, own) refl

pub all_by : {X : Type 0} (t : X → Bool) (xs : List X) (r : Option X) → list_all t xs ≡ true → IfSome r (λ x. t x ≡ true)
    → list_all t (xs ++ cons_option r []) ≡ true
all_by t xs None all own = rw append-nil all
all_by t xs (Some x) all own = all_more t xs x all own

module _ {X Y : Type 0} (f : X → Option Y) where
  append_by : (z : X) (xs : List X) (x : X) (ys : List Y) (y : Y) (a : Option Y) (b : Option (List Y)) → f z ≡ a → every f xs ≡ b
      → every f (z ∷ xs) ≡ Some ys → ((zs : List Y) → every f xs ≡ Some zs → every f (xs ++ x ∷ []) ≡ Some (zs ++ y ∷ []))
      → every f ((z ∷ xs) ++ x ∷ []) ≡ Some (ys ++ y ∷ [])
  append_by z xs x ys y None b e g h rest = absurd (let w = rw e at h in let bad : None ≡ Some ys = w in cc)
  append_by z xs x ys y (Some a) None e g h rest = absurd (let w = rw (e, g) at h in let bad : None ≡ Some ys = w in cc)
  append_by z xs x ys y (Some a) (Some b) e g h rest =
      let w = rw (e, g) at h in
      let same : a ∷ b ≡ ys = (let v : Some (a ∷ b) ≡ Some ys = w in cc) in
      rw (e, rest b g, ← same) refl

  every_append : (xs : List X) (x : X) (ys : List Y) (y : Y) → every f xs ≡ Some ys → f x ≡ Some y → every f (xs ++ x ∷ []) ≡ Some (ys ++ y ∷ [])
  every_append [] x ys y h own = let none : [] ≡ ys = (let g : Some [] ≡ Some ys = h in cc) in rw (own, ← none) refl
  every_append (z ∷ xs) x ys y h own = append_by z xs x ys y (f z) (every f xs) refl refl h (λ zs g. every_append xs x zs y g own)

  pub every_more : (xs : List X) (i : ℕ) (x : X) (ys : List Y) (y : Y) (zs : List Y) → slice_get xs i ≡ Some x
      → every f (take i xs) ≡ Some ys → Some y ≡ f x → zs ≡ ys ++ y ∷ [] → every f (take (i + 1) xs) ≡ Some zs
  every_more xs i x ys y zs at so_far own e = rw (e, take_next xs i x at) (every_append (take i xs) x ys y so_far (sym own))

  pub every_stops : (xs : List X) (i : ℕ) (x : X) → slice_get xs i ≡ Some x → None ≡ f x → every f xs ≡ None
  every_stops [] i x at own = absurd (let g : None ≡ Some x = at in cc)
  every_stops (z ∷ xs) zero x at own = let same : z ≡ x = cc in rw (same, ← own) refl
  every_stops (z ∷ xs) (suc i) x at own = rw (every_stops xs i x at own) (by (f z))
    where
      by : (o : Option Y) → option_and_then (λ y. option_map (λ ys. y ∷ ys) None) o ≡ None
      by None = refl
      by (Some y) = refl

  pub every_all : (xs : List X) (i : ℕ) (ys : List Y) → length xs ≤ i → every f (take i xs) ≡ Some ys → every f xs ≡ Some ys
  every_all xs i ys all h = rw (take_all i xs all) at h

-- ---- concatenated errors

module _ {A : Type 0} (errors : A → List JsonFault) where
  split : (list : List A) (i : ℕ) (a : A) → slice_get list i ≡ Some a → flat_map errors (take i list) ≡ []
      → (rest : List JsonFault) × (flat_map errors list ≡ errors a ++ rest)
  split [] i a at none = absurd (let g : None ≡ Some a = at in cc)
  split (b ∷ list) zero a at none = let same : b ≡ a = cc in rw same (flat_map errors list, refl)
  split (b ∷ list) (suc i) a at none =
      let parts = nil_parts (errors b) (flat_map errors (take i list)) none in
      let rest = split list i a at parts.1 in
      rw parts.0 (rest.0, rest.1)

  -- the first error is that of the item at a place
  pub error_at : {X Y : Type 0} (list : List A) (i : ℕ) (a : A) (x : X) (y : Y) (e : JsonFault) → slice_get list i ≡ Some a
      → flat_map errors (take i list) ≡ [] → OrError Memory (Err e) (first_or (errors a) x) → OrError Memory (Err e) (first_or (flat_map errors list) y)
  error_at list i a x y e at none h =
      let parts = split list i a at none in
      rw parts.1 (error_in_front (errors a) parts.0 x y e h)

  next_none : (list : List A) (i : ℕ) (a : A) → slice_get list i ≡ Some a → flat_map errors (take i list) ≡ [] → errors a ≡ []
      → flat_map errors (take (suc i) list) ≡ []
  next_none [] i a at none h = absurd (let g : None ≡ Some a = at in cc)
  next_none (b ∷ list) zero a at none h = let same : b ≡ a = cc in rw (same, h) refl
  next_none (b ∷ list) (suc i) a at none h =
      let parts = nil_parts (errors b) (flat_map errors (take i list)) none in
      rw parts.0 (next_none list i a at parts.1 h)

  pub none_more : (list : List A) (i : ℕ) (a : A) → slice_get list i ≡ Some a → flat_map errors (take i list) ≡ [] → errors a ≡ []
      → flat_map errors (take (i + 1) list) ≡ []
  none_more list i a at none h = let next : i + 1 ≡ suc i = omega arith in rw next (next_none list i a at none h)

  pub none_all : (list : List A) (i : ℕ) → length list ≤ i → flat_map errors (take i list) ≡ [] → flat_map errors list ≡ []
  none_all list i all h = rw (take_all i list all) at h

-- the rows of a list are its items with their numbers
row_from : {X : Type 0} (n : ℕ) (xs : List X) (i : ℕ) (x : X) → slice_get xs i ≡ Some x → slice_get (enumerate_from n xs) i ≡ Some (n + i, x)
row_from n [] i x at = absurd (let g : None ≡ Some x = at in cc)
row_from n (y ∷ ys) zero x at =
    let same : y ≡ x = cc in
    let here : n + 0 ≡ n = omega arith in
    rw (same, here) refl
row_from n (y ∷ ys) (suc i) x at =
    let here : n + suc i ≡ n + 1 + i = omega arith in
    rw here (row_from (n + 1) ys i x at)

pub row_at : {X : Type 0} (xs : List X) (i : ℕ) (x : X) → slice_get xs i ≡ Some x → slice_get (enumerate_from 0 xs) i ≡ Some (i, x)
row_at xs i x at = let own : 0 + i ≡ i = omega arith in rw own at (row_from 0 xs i x at)

-- ---- the reading of each name

module _ {A X : Type 0} (h : A → Option X) where
  pub kept_by : (list : List A) (i : ℕ) (a : A) (r : Option X) (done new : List X) → slice_get list i ≡ Some a
      → done ≡ filter_map h (take i list) → r ≡ h a → new ≡ done ++ cons_option r [] → new ≡ filter_map h (take (i + 1) list)
  kept_by list i a r done new at so_far own e = rw (e, so_far, own, take_next list i a at, filter_map-append h (take i list) (a ∷ [])) refl

  pub kept_all : {N : Type 0} (f : N → A) (ns : List N) (i : ℕ) (done : List X) → length ns ≤ i → done ≡ filter_map h (take i (map f ns))
      → done ≡ filter_map h (map f ns)
  kept_all f ns i done all so_far =
      let few : length (map f ns) ≤ i = rw (length-map ns f) all in
      rw (take_all i (map f ns) few) at so_far

-- ---- attributes and relations have their shape

pub attr_shaped : (name : List ℕ) (value : AttrValue) → bytes_eq name (codes "href") ≡ false → is_utf8 name ≡ true
    → is_value name value ≡ true → is_attr (attr_with name value) ≡ true
unfolding is_attr
attr_shaped name value a b c = rw (a, b, c) refl

pub relation_shaped : (name : List ℕ) (targets : List Target) → bytes_eq name (codes "anchor") ≡ false → is_utf8 name ≡ true
    → list_all is_target targets ≡ true → is_relation (record { name = name; targets = targets }) ≡ true
unfolding is_relation
relation_shaped name targets a b c = rw (a, b, c) refl

-- ---- items of an array, each with its errors and its reading

module _ {Y : Type 0} (errors : List ℕ → Data → List JsonFault) (made : Data → Y) (place : List ℕ) (items : List Data) where
  abbrev row_errors : ℕ × Data → List JsonFault
  row_errors row = errors (item_place place row.0) row.1

  -- the known facts about the items before a place
  pub record SoFar (read : List Y) (i : ℕ) : Type 0 where
    pub none : flat_map row_errors (take i (enumerate_from 0 items)) ≡ []
    pub read_as : read ≡ map made (take i items)

  pub item_error : (read : List Y) (i : ℕ) (d : Data) (e : JsonFault) → SoFar read i → slice_get items i ≡ Some d
      → OrError Memory (Err e) (first_or (errors (item_place place i) d) (made d))
      → OrError Memory (Err e) (first_or (item_errors errors place items) (map made items))
  item_error read i d e so_far at h = error_at row_errors (enumerate_from 0 items) i (i, d) (made d) (map made items) e (row_at items i d at) so_far.none h

  pub item_read : (read : List Y) (i : ℕ) (d : Data) (y : Y) (more : List Y) → SoFar read i → slice_get items i ≡ Some d
      → OrError Memory (Ok y) (first_or (errors (item_place place i) d) (made d)) → more ≡ read ++ y ∷ [] → SoFar more (i + 1)
  item_read read i d y more so_far at h e =
      let own = none_first (errors (item_place place i) d) (made d) y h in
      record { none = none_more row_errors (enumerate_from 0 items) i (i, d) (row_at items i d at) so_far.none own.0; read_as = mapped_more made items i d read y more at so_far.read_as own.1 e }

  pub items_read : (read : List Y) (i : ℕ) → SoFar read i → length items ≤ i → OrError Memory (Ok read) (first_or (item_errors errors place items) (map made items))
  items_read read i so_far all =
      let few : length (enumerate_from 0 items) ≤ i = rw (length-enumerate_from 0 items) all in
      all_read (item_errors errors place items) (map made items) read (none_all row_errors (enumerate_from 0 items) i few so_far.none)
      (rw (take_all i items all) at so_far.read_as)

-- the same for the items of an array
module _ {Y : Type 0} (errors : List ℕ → Data → List JsonFault) (made : Data → Y) (place : List ℕ) (whole : Data) where
  abbrev answer_at : List ℕ → Data → Result Y JsonFault
  answer_at at d = first_or (errors at d) (made d)

  pub array_error : (read : List Y) (i : ℕ) (e : JsonFault) → SoFar errors made place (items_of whole) read i
      → ItemAnswer answer_at place i whole (Err e)
      → OrError Memory (Err e) (first_or (item_errors errors place (items_of whole)) (map made (items_of whole)))
  array_error read i e so_far (inl h) = inl (let same : e ≡ Memory = cc in ap Err same)
  array_error read i e so_far (inr p) = item_error errors made place (items_of whole) read i p.0 e so_far (items_at whole i ∙ sym p.1) p.2

  pub array_read : (read : List Y) (i : ℕ) (y : Y) (more : List Y) → SoFar errors made place (items_of whole) read i
      → ItemAnswer answer_at place i whole (Ok y) → more ≡ read ++ y ∷ [] → SoFar errors made place (items_of whole) more (i + 1)
  array_read read i y more so_far (inl h) e = absurd (let g : Ok y ≡ Err Memory = h in cc)
  array_read read i y more so_far (inr p) e = item_read errors made place (items_of whole) read i p.0 y more so_far (items_at whole i ∙ sym p.1) p.2 e

-- ---- members of an object, each with its errors and its reading

module _ {X : Type 0} (errors : List ℕ → List JsonFault) (made : List ℕ → Option X) (shape : X → Bool) (names : List (List ℕ)) where
  pub record Found (read : List X) (i : ℕ) : Type 0 where
    pub none : flat_map errors (take i names) ≡ []
    pub kept : read ≡ filter_map made (take i names)
    pub shaped : list_all shape read ≡ true

  pub member_error : (read : List X) (i : ℕ) (name : List ℕ) (e : JsonFault) (all : List (List ℕ)) → names ≡ all → Found read i
      → slice_get names i ≡ Some name → OrError Memory (Err e) (first_or (errors name) (made name))
      → OrError Memory (Err e) (first_or (flat_map errors all) (filter_map made all))
  member_error read i name e all same so_far at h = rw (← same) (error_at errors names i name (made name) (filter_map made names) e at so_far.none h)

  pub member_kept : (read : List X) (i : ℕ) (name : List ℕ) (r : Option X) (more : List X) → Found read i → slice_get names i ≡ Some name
      → OrError Memory (Ok r) (first_or (errors name) (made name)) → IfSome r (λ x. shape x ≡ true) → more ≡ read ++ cons_option r []
      → Found more (i + 1)
  member_kept read i name r more so_far at h own_shape e =
      let own = none_first (errors name) (made name) r h in
      record {
        none = none_more errors names i name at so_far.none own.0;
        kept = kept_by made names i name r read more at so_far.kept own.1 e;
        shaped = rw e (all_by shape read r so_far.shaped own_shape);
      }

  pub members_read : (read : List X) (i : ℕ) (all : List (List ℕ)) → names ≡ all → Found read i → length names ≤ i
      → OrError Memory (Ok read) (first_or (flat_map errors all) (filter_map made all))
  members_read read i all same so_far few =
      rw (← same) (all_read (flat_map errors names) (filter_map made names) read (none_all errors names i few so_far.none) (rw (take_all i names few) at so_far.kept))

-- ---- the relation of a name

module _ (place : List ℕ) (d : Data) (name : List ℕ) where
  pub anchor_left_out : true ≡ bytes_eq name (codes "anchor") → OrError Memory (Ok None) (first_or (relation_errors place d name) (relation_of d name))
  unfolding relation_errors relation_of targets_at
  anchor_left_out h = rw (← h) (inr refl)

  pub no_member : bytes_eq name (codes "anchor") ≡ false → None ≡ get name d → OrError Memory (Ok None) (first_or (relation_errors place d name) (relation_of d name))
  unfolding relation_errors relation_of targets_at
  no_member other h = rw (other, ← h) (inr refl)

  pub by_member : (e : Data) (r : Result (Option Relation) JsonFault) → bytes_eq name (codes "anchor") ≡ false → Some e ≡ get name d
      → OrError Memory r (member_answer name (member_place place name) e)
      → OrError Memory r (first_or (relation_errors place d name) (relation_of d name))
  unfolding relation_errors relation_of targets_at
  by_member e r other h answer = rw (other, ← h) answer

-- ---- a target

abbrev none_of : List ℕ → List JsonFault
none_of n = []

no_errors : (ns : List (List ℕ)) → flat_map none_of ns ≡ []
no_errors [] = refl
no_errors (n ∷ ns) = no_errors ns

module _ (place : List ℕ) (d : Data) where
  abbrev target_known : Result Target JsonFault
  target_known = first_or (target_errors place d) (target_of d)

  pub no_href : (e : JsonFault) → OrError Memory (Err e) (text_answer (codes "href") place d) → OrError Memory (Err e) target_known
  unfolding target_errors
  no_href e h = same_error (member_errors Text (codes "href") place d) (text_in (codes "href") d) (target_of d) e h

  pub attrs_rejected : {X : Type 0} (x : X) (e : JsonFault) → OrError Memory (Err e) (first_or (flat_map none_of (names_in d)) x) → OrError Memory (Err e) target_known
  attrs_rejected x e (inl h) = inl (let same : e ≡ Memory = cc in ap Err same)
  attrs_rejected x e (inr h) = absurd (let g = rw (no_errors (names_in d)) at h in let bad : Err e ≡ Ok x = g in cc)

  pub target_read : (href : List ℕ) (attrs : List Attr) → OrError Memory (Ok href) (text_answer (codes "href") place d)
      → OrError Memory (Ok attrs) (first_or (flat_map none_of (names_in d)) (filter_map (attr_of d) (names_in d)))
      → OrError Memory (Ok (record { href = href; attrs = attrs })) target_known
  unfolding target_errors target_of
  target_read href attrs h g =
      let own = none_first (member_errors Text (codes "href") place d) (text_in (codes "href") d) href h in
      let all = none_first (flat_map none_of (names_in d)) (filter_map (attr_of d) (names_in d)) attrs g in
      rw (own.0, own.1, all.1) (inr refl)

-- ---- shapes

pub target_shaped : (href : List ℕ) (attrs : List Attr) → is_utf8 href ≡ true → ascend (map (λ attr. attr.name) attrs) ≡ true
    → list_all is_attr attrs ≡ true → is_target (record { href = href; attrs = attrs }) ≡ true
unfolding is_target
target_shaped href attrs a b c = rw (a, b, c) refl

pub context_shaped : (anchor : List ℕ) (relations : List Relation) → is_utf8 anchor ≡ true → ascend
    (map (λ relation. relation.name) relations) ≡ true → list_all is_relation relations ≡ true → is_context
    (record { anchor = anchor; relations = relations }) ≡ true
unfolding is_context
context_shaped anchor relations a b c = rw (a, b, c) refl
