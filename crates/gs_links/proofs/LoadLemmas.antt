-- The rejections of a store, and its links.
use Rattle.std.proofs.Common.{◌≡◌, ◌≤◌, ℕ, zero, suc, ◌+◌, Bool, true, false, List, [], ◌∷◌, ◌++◌, length, take, map, Some, None, slice_get, refl, sym, ap, ◌∙◌, inl, inr, arith}
use Rattle.std.specs.Prelude.{IfOk, Result, Ok, Err, nat_lt}
use Rattle.std.specs.List.{enumerate_from, flat_map}
use Rattle.std.proofs.lemmas.Bool.{cases_lt}
use Rattle.std.proofs.lemmas.Grind.{flat_map-append}
use Rattle.std.proofs.Common.{lt→ltb}
use Rattle.std.proofs.lemmas.List.{append-nil, append_assoc, length-append, map-append, take_all, length-map}
use Rattle.gs_ai.specs.Tables.{is_empty}
use Rattle.gs_ai.specs.declared.pair.Pair.{Pair}
use Rattle.gs_ai.specs.declared.row.AiRow.{AiRow}
use Rattle.gs_chars.proofs.TruthsAndLists.{nil_parts, take_next}
use Rattle.gs_chars.specs.Answers.{first_or, OrError}
use Rattle.gs_dlink.specs.declared.error.LinkFault.{LinkFault}
use Rattle.gs_ident.specs.Elements.{Elements}
use Rattle.gs_ident.specs.Identities.{IsMadeWith, identity_of_pairs}
use Rattle.gs_ident.specs.declared.errors.IdentFault.{IdentFault}
use Rattle.gs_linkset.specs.declared.link_types.Context.{Context}
use Rattle.gs_linkset.specs.declared.link_types.Relation.{Relation}
use Rattle.gs_links.specs.Loads.{anchor_answer, bad_target, by_identity, by_pairs, context_errors, context_links, expanded, link_with, links_by, links_of, load_answer, pairs_answer, relation_errors, relation_links, relations_errors, store_errors, targets_count, without_attributes}
use Rattle.gs_links.specs.LoadingSupport.{relations_count}
use Rattle.gs_links.specs.declared.error.AnchorWhy.{AnchorWhy}
use Rattle.gs_links.specs.declared.error.AnchorWhy.TheVariants.{Link as NoLink, Ident, Attributes}
use Rattle.gs_links.specs.declared.error.StoreFault.{StoreFault}
use Rattle.gs_links.specs.declared.error.StoreFault.TheVariants.{TooMany, BadAnchor, BadHref, Memory}
use Rattle.gs_links.specs.declared.link.Link.{Link}

-- ---- anchors

module _ (table : List AiRow) (text : List ℕ) where
  pub no_link : (error : LinkFault) → pairs_answer table text ≡ Err error → Err (NoLink error) ≡ anchor_answer table text
  unfolding anchor_answer
  no_link error h = rw h refl

  pub identity_is : (pairs : List Pair) (identity : Elements) → pairs_answer table text ≡ Ok pairs
      → identity_of_pairs table pairs ≡ Ok identity → without_attributes identity ≡ anchor_answer table text
  unfolding anchor_answer
  identity_is pairs identity h made = rw (h, made) refl

  pub no_identity : (pairs : List Pair) (error : IdentFault) → pairs_answer table text ≡ Ok pairs
      → identity_of_pairs table pairs ≡ Err error → Err (Ident error) ≡ anchor_answer table text
  unfolding anchor_answer
  no_identity pairs error h made = rw (h, made) refl

bare : (identity anchor : Elements) (b : Bool) → is_empty identity.attributes ≡ b → without_attributes identity ≡ Ok anchor → anchor.attributes ≡ []
bare identity anchor true e h =
    let g = rw e at h in
    let same : identity ≡ anchor = (let w : Ok identity ≡ Ok anchor = g in cc) in
    rw (← same) (nothing identity.attributes e)
  where
    nothing : (xs : List Pair) → is_empty xs ≡ true → xs ≡ []
    nothing [] t = refl
    nothing (x ∷ xs) t = absurd (cc)
bare identity anchor false e h = absurd (let g = rw e at h in let w : Err Attributes ≡ Ok anchor = g in cc)

bare_identity : (answer : Result Elements IdentFault) (anchor : Elements) → by_identity answer ≡ Ok anchor → anchor.attributes ≡ []
bare_identity (Ok identity) anchor h = bare identity anchor (is_empty identity.attributes) refl h
bare_identity (Err error) anchor h = absurd (let w : Err (Ident error) ≡ Ok anchor = h in cc)

bare_pairs : (table : List AiRow) (answer : Result (List Pair) LinkFault) (anchor : Elements) → by_pairs table answer ≡ Ok anchor → anchor.attributes ≡ []
bare_pairs table (Ok pairs) anchor h = bare_identity (identity_of_pairs table pairs) anchor h
bare_pairs table (Err error) anchor h = absurd (let w : Err (NoLink error) ≡ Ok anchor = h in cc)

-- an anchor has no attributes
pub no_attributes : (table : List AiRow) (text : List ℕ) (anchor : Elements) → Ok anchor ≡ anchor_answer table text → anchor.attributes ≡ []
unfolding anchor_answer
no_attributes table text anchor h = bare_pairs table (pairs_answer table text) anchor (sym h)

-- ---- the additions for each item of a list

pub mapped_more : {X Y : Type 0} (f : X → Y) (first : List Y) (xs : List X) (x : X) (old new : List Y) (y : Y) → old ≡ first ++ map f xs
    → y ≡ f x → new ≡ old ++ y ∷ [] → new ≡ first ++ map f (xs ++ x ∷ [])
mapped_more f first xs x old new y h own e = rw (e, h, own, map-append) (append_assoc first (map f xs) (f x ∷ []))

pub flat_more : {X Y : Type 0} (f : X → List Y) (first : List Y) (xs : List X) (x : X) (old new : List Y) → old ≡ first ++ flat_map f xs
    → new ≡ old ++ f x → new ≡ first ++ flat_map f (xs ++ x ∷ [])
flat_more f first xs x old new h e = rw (e, h, flat_map-append f xs (x ∷ []), append-nil (f x)) (append_assoc first (flat_map f xs) (f x))

-- ---- concatenated errors

-- the items before a place have no error
module _ {A : Type 0} (errors : ℕ → A → List StoreFault) where
  abbrev row_errors : ℕ × A → List StoreFault
  row_errors row = errors row.0 row.1

  abbrev pub NoneBefore : List A → ℕ → Type 0
  NoneBefore xs i = flat_map row_errors (enumerate_from 0 (take i xs)) ≡ []

  rows_end : (n : ℕ) (xs : List A) (i : ℕ) (x : A) → slice_get xs i ≡ Some x
      → flat_map row_errors (enumerate_from n (take (suc i) xs)) ≡ flat_map row_errors (enumerate_from n (take i xs)) ++ errors (n + i) x
  rows_end n [] i x at = absurd (let g : None ≡ Some x = at in cc)
  rows_end n (y ∷ xs) zero x at =
      let same : y ≡ x = cc in
      let here : n + 0 ≡ n = omega arith in
      rw (same, here) (append-nil (errors n x))
  rows_end n (y ∷ xs) (suc i) x at =
      let there : n + suc i ≡ n + 1 + i = omega arith in
      rw (there, rows_end (n + 1) xs i x at) (sym (append_assoc (errors n y) (flat_map row_errors (enumerate_from (n + 1) (take i xs))) (errors (n + 1 + i) x)))

  pub none_more : (xs : List A) (i : ℕ) (x : A) → slice_get xs i ≡ Some x → NoneBefore xs i → errors i x ≡ [] → NoneBefore xs (i + 1)
  none_more xs i x at before own =
      let next : i + 1 ≡ suc i = omega arith in
      let here : 0 + i ≡ i = omega arith in
      rw (next, rows_end 0 xs i x at, here, before) own

  pub none_all : (xs : List A) (i : ℕ) → length xs ≤ i → NoneBefore xs i → flat_map row_errors (enumerate_from 0 xs) ≡ []
  none_all xs i all h = rw (take_all i xs all) at h

  split : (n : ℕ) (xs : List A) (i : ℕ) (x : A) → slice_get xs i ≡ Some x → flat_map row_errors (enumerate_from n (take i xs)) ≡ []
      → (rest : List StoreFault) × (flat_map row_errors (enumerate_from n xs) ≡ errors (n + i) x ++ rest)
  split n [] i x at none = absurd (let g : None ≡ Some x = at in cc)
  split n (y ∷ xs) zero x at none =
      let same : y ≡ x = cc in
      let here : n + 0 ≡ n = omega arith in
      rw (same, here) (flat_map row_errors (enumerate_from (n + 1) xs), refl)
  split n (y ∷ xs) (suc i) x at none =
      let parts = nil_parts (errors n y) (flat_map row_errors (enumerate_from (n + 1) (take i xs))) none in
      let rest = split (n + 1) xs i x at parts.1 in
      let there : n + suc i ≡ n + 1 + i = omega arith in
      rw (parts.0, there) (rest.0, rest.1)

  -- the first error is that of an item
  pub error_at : {X Y : Type 0} (xs : List A) (i : ℕ) (x : A) (a : X) (b : Y) (e : StoreFault) → slice_get xs i ≡ Some x → NoneBefore xs i
      → OrError Memory (Err e) (first_or (errors i x) a) → OrError Memory (Err e) (first_or (flat_map row_errors (enumerate_from 0 xs)) b)
  error_at xs i x a b e at none h =
      let parts = split 0 xs i x at none in
      let here : 0 + i ≡ i = omega arith in
      let whole = rw here at parts.1 in
      rw whole (in_front (errors i x) parts.0 a b e h)
    where
      in_front : {X Y : Type 0} (own rest : List StoreFault) (a : X) (b : Y) (e : StoreFault) → OrError Memory (Err e) (first_or own a)
          → OrError Memory (Err e) (first_or (own ++ rest) b)
      in_front own rest a b e (inl m) = inl (let same : e ≡ Memory = cc in ap Err same)
      in_front [] rest a b e (inr h) = absurd (let g : Err e ≡ Ok a = h in cc)
      in_front (f ∷ own) rest a b e (inr h) = inr (let same : e ≡ f = cc in ap Err same)

  -- the rejection of an item is the first
  pub rejected_at : {X : Type 0} (xs : List A) (i : ℕ) (x : A) (f : StoreFault) (b : X) → slice_get xs i ≡ Some x → NoneBefore xs i
      → errors i x ≡ f ∷ [] → Err f ≡ first_or (flat_map row_errors (enumerate_from 0 xs)) b
  rejected_at xs i x f b at none own =
      let parts = split 0 xs i x at none in
      let here : 0 + i ≡ i = omega arith in
      let whole = rw (here, own) at parts.1 in
      rw whole refl

-- ---- the errors of relations

pub bad_relation : (i r t : ℕ) (relation : Relation) → Some t ≡ bad_target relation → relation_errors i r relation ≡ BadHref i r t ∷ []
bad_relation i r t relation h = rw (← h) refl

pub good_relation : (i r : ℕ) (relation : Relation) → None ≡ bad_target relation → relation_errors i r relation ≡ []
good_relation i r relation h = rw (← h) refl

pub first_is : {X : Type 0} (errors : List StoreFault) (f : StoreFault) (rest : List StoreFault) (x : X) → errors ≡ f ∷ rest → Err f ≡ first_or errors x
first_is errors f rest x e = rw e refl

-- the facts that a judgement without error gives
pub no_error : {X : Type 0} (errors : List StoreFault) (x y : X) → Ok y ≡ first_or errors x → errors ≡ []
no_error [] x y h = refl
no_error (f ∷ errors) x y h = absurd (let g : Ok y ≡ Err f = h in cc)

-- ---- a context

module _ (table : List AiRow) (i : ℕ) (context : Context) where
  pub bad_anchor : (why : AnchorWhy) → Err why ≡ anchor_answer table context.anchor → OrError {X = Unit {0}} Memory (Err (BadAnchor i why))
      (first_or (context_errors table i context) tt)
  unfolding context_errors
  bad_anchor why h = rw (← h) (inr refl)

  pub bad_relations : (anchor : Elements) (e : StoreFault) → Ok anchor ≡ anchor_answer table context.anchor
      → Err e ≡ first_or {X = Unit {0}} (relations_errors i context.relations) tt → OrError {X = Unit {0}} Memory (Err e)
      (first_or (context_errors table i context) tt)
  unfolding context_errors
  bad_relations anchor e h own = rw (← h) (inr own)

  pub good_context : (anchor : Elements) → Ok anchor ≡ anchor_answer table context.anchor → relations_errors i context.relations ≡ []
      → OrError {X = Unit {0}} Memory (Ok tt) (first_or (context_errors table i context) tt)
  unfolding context_errors
  good_context anchor h none = rw (← h, none) (inr refl)

pub links_are : (table : List AiRow) (voc : List ℕ) (context : Context) (anchor : Elements) → Ok anchor ≡ anchor_answer table context.anchor
    → context_links table voc context ≡ flat_map (relation_links voc anchor) context.relations
unfolding context_links
links_are table voc context anchor h = rw (← h) refl

-- ---- the store

pub too_many : (table : List AiRow) (voc : List ℕ) (contexts : List Context) → true ≡ nat_lt 65536 (targets_count contexts)
    → OrError {X = List Link} Memory (Err TooMany) (load_answer table voc contexts)
unfolding load_answer store_errors
too_many table voc contexts over = rw (← over) (inr refl)

relations_links : (voc : List ℕ) (anchor : Elements) (relations : List Relation)
    → length (flat_map (relation_links voc anchor) relations) ≡ relations_count relations
relations_links voc anchor [] = refl
relations_links voc anchor (relation ∷ relations) =
    let own = length-map relation.targets (link_with anchor (expanded voc relation.name)) in
    let rest = relations_links voc anchor relations in
    length-append (relation_links voc anchor relation) (flat_map (relation_links voc anchor) relations)
    ∙ ap (λ n. n + length (flat_map (relation_links voc anchor) relations)) own
    ∙ ap (λ n. length relation.targets + n) rest
    ∙ sym (length-append relation.targets (flat_map (λ (r : Relation). r.targets) relations))

links_by_few : (voc : List ℕ) (relations : List Relation) (answer : Result Elements AnchorWhy)
    → length (links_by voc relations answer) ≤ relations_count relations
links_by_few voc relations (Ok anchor) = let same = relations_links voc anchor relations in omega (arith, same)
links_by_few voc relations (Err why) = omega arith

context_few : (table : List AiRow) (voc : List ℕ) (context : Context) → length (context_links table voc context) ≤ relations_count context.relations
unfolding context_links
context_few table voc context = links_by_few voc context.relations (anchor_answer table context.anchor)

-- there are no more links than targets
links_few : (table : List AiRow) (voc : List ℕ) (contexts : List Context) → length (flat_map (context_links table voc) contexts) ≤ targets_count contexts
links_few table voc [] = omega arith
links_few table voc (context ∷ contexts) =
    let own = context_few table voc context in
    let rest = links_few table voc contexts in
    let size = length-append (context_links table voc context) (flat_map (context_links table voc) contexts) in
    let count = length-append (flat_map (λ (r : Relation). r.targets) context.relations) (flat_map (λ (c : Context). flat_map (λ (r : Relation). r.targets) c.relations) contexts) in
    omega (arith, own, rest, size, count)

not_over : (n : ℕ) → nat_lt 65536 n ≡ false → n ≤ 65536
not_over n h = elim (cases_lt 65536 n) [
  | inl over ↦ absurd (let t = lt→ltb 65536 n over in let g = rw h at t in g)
  | inr few ↦ few
]

-- the answer to contexts, whatever their number of targets
abbrev by_contexts : List AiRow → List ℕ → List Context → Result (List Link) StoreFault
by_contexts table voc contexts = first_or (flat_map (λ row. context_errors table row.0 row.1) (enumerate_from 0 contexts)) (links_of table voc contexts)

module _ (table : List AiRow) (voc : List ℕ) (contexts : List Context) (i : ℕ) where
  -- the known facts after the contexts before a place are loaded
  pub record Loaded (links : List Link) : Type 0 where
    pub none : NoneBefore (context_errors table) contexts i
    pub made : links ≡ flat_map (context_links table voc) (take i contexts)

  pub contexts_rejected : (links : List Link) (context : Context) (e : StoreFault) → Loaded links → slice_get contexts i ≡ Some context
      → OrError {X = Unit {0}} Memory (Err e) (first_or (context_errors table i context) tt) → OrError {X = List Link} Memory (Err e)
      (by_contexts table voc contexts)
  contexts_rejected links context e so_far at h = error_at (context_errors table) contexts i context tt (links_of table voc contexts) e at so_far.none h

  pub contexts_made : (links : List Link) → Loaded links → length contexts ≤ i → OrError {X = List Link} Memory (Ok links) (by_contexts table voc contexts)
  unfolding links_of
  contexts_made links so_far all =
      let none = none_all (context_errors table) contexts i all so_far.none in
      let made = rw (take_all i contexts all) at so_far.made in
      rw (none, made) (inr refl)

made_by : {X : Type 0} (errors : List StoreFault) (x z : X) → OrError Memory (Ok z) (first_or errors x) → z ≡ x
made_by errors x z (inl h) = absurd (let g : Ok z ≡ Err Memory = h in cc)
made_by [] x z (inr h) = let g : Ok z ≡ Ok x = h in cc
made_by (f ∷ errors) x z (inr h) = absurd (let g : Ok z ≡ Err f = h in cc)

-- the answer that is made of one that is not an error
pub stored : {X : Type 0} (r answer : Result X StoreFault) (x : X) → OrError Memory r (Ok x) → OrError Memory (Ok x) answer → OrError Memory r answer
stored r answer x (inl h) own = inl h
stored r answer x (inr h) own = rw h own

-- the contexts of a linkset that has not too many targets
module _ (table : List AiRow) (voc : List ℕ) (contexts : List Context) (few : nat_lt 65536 (targets_count contexts) ≡ false) where
  pub store_answer : (r : Result (List Link) StoreFault) → OrError Memory r (by_contexts table voc contexts) → OrError Memory r (load_answer table voc contexts)
  unfolding load_answer store_errors
  store_answer r h = rw few h

  pub few_links : (links : List Link) → OrError {X = List Link} Memory (Ok links) (by_contexts table voc contexts) → length links ≤ 65536
  unfolding links_of
  few_links links h =
      let made = made_by (flat_map (λ row. context_errors table row.0 row.1) (enumerate_from 0 contexts)) (links_of table voc contexts) links h in
      let low = links_few table voc contexts in
      let high = not_over (targets_count contexts) few in
      rw made (omega (arith, low, high))

pub loaded_more : (table : List AiRow) (voc : List ℕ) (contexts : List Context) (i : ℕ) (links more : List Link) (context : Context)
    → Loaded table voc contexts i links → slice_get contexts i ≡ Some context → OrError {X = Unit {0}} Memory (Ok tt)
    (first_or (context_errors table i context) tt) → more ≡ links ++ context_links table voc context → Loaded table voc contexts
    (i + 1) more
loaded_more table voc contexts i links more context so_far at own e = record {
  none = none_more (context_errors table) contexts i context at so_far.none (errorless (context_errors table i context) own);
  made = rw (e, so_far.made, take_next contexts i context at, flat_map-append (context_links table voc) (take i contexts) (context ∷ []), append-nil (context_links table voc context)) refl;
}
  where
    errorless : (errors : List StoreFault) → OrError {X = Unit {0}} Memory (Ok tt) (first_or errors tt) → errors ≡ []
    errorless [] h = refl
    errorless (f ∷ errors) (inl h) = absurd (let g : Ok tt ≡ Err Memory = h in cc)
    errorless (f ∷ errors) (inr h) = absurd (let g : Ok tt ≡ Err f = h in cc)

pub counted : (contexts : List Context) (context : Context) (i : ℕ) → i ≡ length contexts → i + 1 ≡ length (contexts ++ context ∷ [])
counted contexts context i e = rw (length-append contexts (context ∷ []), ← e) refl

pub made_kept : (table : List AiRow) (r : Result Elements AnchorWhy) (identity : Elements) → IfOk r (λ anchor. anchor ≡ identity)
    → IsMadeWith table identity → IfOk r (λ anchor. IsMadeWith table anchor)
made_kept table (Ok anchor) identity same made = rw same made
made_kept table (Err why) identity same made = tt
