-- The document of chosen links, and its shape.
use Rattle.std.proofs.Common.{◌≡◌, ◌<◌, ℕ, zero, suc, ◌+◌, ◌&&◌, not, Bool, true, false, All, if◌then◌else◌, List, [], ◌∷◌, ◌++◌, length, take, map, filter, get_or, codes, Option, Some, None, slice_get, Ordering, Less, Equal, Greater, refl, sym, subst, ap, ◌∙◌, arith}
use Rattle.std.specs.Prelude.{fold}
use Rattle.std.specs.Cmp.Lexicographic.{slice_cmp}
use Rattle.std.specs.List.{cons_option, list_all}
use Rattle.std.specs.Ordering.{is_lt, match_ordering, nat_cmp, ordering_reverse}
use Rattle.std.specs.Str.{bytes_eq, is_utf8}
use Rattle.std.proofs.lemmas.Cmp.{nat_list_cmp_total}
use Rattle.std.proofs.lemmas.List.Elements.{All-cons, All-head, All-tail, filter_map-append}
use Rattle.std.specs.Option.{option_map_or}
use Rattle.gs_chars.proofs.TruthsAndLists.{and_first, and_second, take_next}
use Rattle.gs_ident.specs.Elements.{Elements, first_qualifiers}
use Rattle.gs_ident.specs.Links.{canonical_link}
use Rattle.gs_linkset.specs.LinkShapes.{ascend, is_below, is_below_first, is_context, is_relation, is_target}
use Rattle.gs_linkset.specs.declared.link_types.Context.{Context}
use Rattle.gs_linkset.specs.declared.link_types.Relation.{Relation}
use Rattle.gs_links.specs.Choices.{IsAmong, chosen, chosen_depth, is_chosen, passing}
use Rattle.gs_links.specs.Documents.{document_of, linked, names_of, put_name, relation_of, relations_of, targets_of, with_name}
use Rattle.gs_links.specs.Languages.{matches, narrowed, some_or}
use Rattle.gs_links.specs.Shapes.{is_link}
use Rattle.gs_links.specs.declared.link.Link.{Link}
use Rattle.gs_links.specs.declared.link.Want.{Want}
use Rattle.gs_links.proofs.ChoiceLemmas.{chosen_anchor, found, get_at}
use Rattle.std.proofs.lemmas.Bool.{and_from}
use Rattle.std.proofs.lemmas.Option.{slice_get_within}

-- ---- the links of numbers

read_or : {X : Type 0} (xs : List X) (k : ℕ) (x : X) → k < length xs → x ≡ get_or xs k x → slice_get xs k ≡ Some x
read_or xs k x h e = get_at xs k x h ∙ ap Some (sym e)

pub linked_more : (links : List Link) (numbers : List ℕ) (k d : ℕ) (link : Link) → k < length numbers → All (λ i. i < length links) numbers
    → link ≡ get_or links (get_or numbers k d) link → linked links (take (k + 1) numbers) ≡ linked links (take k numbers) ++ link ∷ []
linked_more links numbers k d link h each e =
    let i = get_or numbers k d in
    let there = read_or links i link (each k d h) e in
    rw (take_next numbers k i (get_at numbers k d h), filter_map-append (slice_get links) (take k numbers) (i ∷ []), there) refl

pub linked_first : (links : List Link) (numbers : List ℕ) (d : ℕ) (link : Link) → 0 < length numbers → All (λ i. i < length links) numbers
    → link ≡ get_or links (get_or numbers 0 d) link → (rest : List Link) × (linked links numbers ≡ link ∷ rest)
linked_first links [] d link h each e = absurd (omega arith)
linked_first links (i ∷ numbers) d link h each e =
    let there = read_or links i link (each 0 d h) e in
    (linked links numbers, rw there refl)

-- chosen numbers are those of links
pub chosen_within : (links : List Link) (identity : Elements) (want : Want) (numbers : List ℕ) → numbers ≡ chosen links identity want
    → All (λ i. i < length links) numbers
chosen_within links identity want numbers e k d h =
    let at = ap (λ ns. slice_get ns k) (sym e) ∙ get_at numbers k d h in
    let row = found (is_chosen identity want (chosen_depth links identity want)) 0 links (get_or numbers k d) (k, at) in
    let place = row.2 in
    let low = slice_get_within links row.0 row.1 row.3 in
    omega (arith, place, low)

passing_within : (links : List Link) (test : Link → Bool) (bound : ℕ) (numbers : List ℕ) → All (λ i. i < bound) numbers
    → All (λ i. i < bound) (passing links test numbers)
passing_within links test bound [] each = each
passing_within links test bound (n ∷ numbers) each = by (option_map_or test (slice_get links n) false)
    (passing_within links test bound numbers (All-tail (λ i. i < bound) n numbers each))
  where
    by : (b : Bool) → All (λ i. i < bound) (passing links test numbers)
        → All (λ i. i < bound) (if b then n ∷ passing links test numbers else passing links test numbers)
    by true rest = All-cons (λ i. i < bound) n (passing links test numbers) (All-head (λ i. i < bound) n numbers each) rest
    by false rest = rest

some_within : (bound : ℕ) (numbers others : List ℕ) → All (λ i. i < bound) numbers → All (λ i. i < bound) others → All (λ i. i < bound) (some_or numbers others)
some_within bound [] others a b = b
some_within bound (n ∷ numbers) others a b = a

narrowed_within : (links : List Link) (bound : ℕ) (numbers : List ℕ) (ranges : List (List ℕ)) → All (λ i. i < bound) numbers
    → All (λ i. i < bound) (narrowed links numbers ranges)
narrowed_within links bound numbers [] each = each
narrowed_within links bound numbers (range ∷ ranges) each =
    some_within bound (passing links (matches range) numbers) (narrowed links numbers ranges)
    (passing_within links (matches range) bound numbers each) (narrowed_within links bound numbers ranges each)

-- so are those of them that are narrowed
pub document_within : (links : List Link) (identity : Elements) (numbers : List ℕ)
    → (want : Want) × (ranges : List (List ℕ)) × (numbers ≡ narrowed links (chosen links identity want) ranges)
    → All (λ i. i < length links) numbers
document_within links identity numbers (want, ranges, e) =
    rw e (narrowed_within links (length links) (chosen links identity want) ranges (chosen_within links identity want (chosen links identity want) refl))

-- the chosen numbers
pub narrow_within : (links : List Link) (numbers : List ℕ) → (identity : Elements) × (want : Want) × (numbers ≡ chosen links identity want)
    → All (λ i. i < length links) numbers
narrow_within links numbers (identity, want, e) = chosen_within links identity want numbers e

-- ---- the links of a relation, by an index

passing_filter : (links : List Link) (test : Link → Bool) (numbers : List ℕ) → linked links (passing links test numbers) ≡ filter test (linked links numbers)
passing_filter links test [] = refl
passing_filter links test (n ∷ numbers) = by (slice_get links n) refl (passing_filter links test numbers)
  where
    kept : (link : Link) (b : Bool) → test link ≡ b → slice_get links n ≡ Some link
        → linked links (passing links test numbers) ≡ filter test (linked links numbers)
        → linked links (if b then n ∷ passing links test numbers else passing links test numbers) ≡ (if b then link ∷ filter test (linked links numbers) else filter test (linked links numbers))
    kept link true own at rest = rw at (ap (λ ls. link ∷ ls) rest)
    kept link false own at rest = rest

    by : (o : Option Link) → slice_get links n ≡ o → linked links (passing links test numbers) ≡ filter test (linked links numbers)
        → linked links (if option_map_or test (slice_get links n) false then n ∷ passing links test numbers else passing links test numbers) ≡ filter test (cons_option o (linked links numbers))
    by None at rest = rw at rest
    by (Some link) at rest = rw at (kept link (test link) refl at rest)

linked_shaped : (links : List Link) (numbers : List ℕ) → list_all is_link links ≡ true → list_all is_link (linked links numbers) ≡ true
linked_shaped links [] h = refl
linked_shaped links (i ∷ numbers) h = by (slice_get links i) refl (linked_shaped links numbers h)
  where
    at : (xs : List Link) (i : ℕ) (x : Link) → list_all is_link xs ≡ true → slice_get xs i ≡ Some x → is_link x ≡ true
    at [] i x all e = absurd (let g : None ≡ Some x = e in cc)
    at (y ∷ xs) zero x all e = let same : y ≡ x = cc in rw (← same) (and_first (is_link y) (list_all is_link xs) all)
    at (y ∷ xs) (suc i) x all e = at xs i x (and_second (is_link y) (list_all is_link xs) all) e

    by : (o : Option Link) → slice_get links i ≡ o → list_all is_link (linked links numbers) ≡ true
        → list_all is_link (cons_option o (linked links numbers)) ≡ true
    by None e rest = rest
    by (Some x) e rest = and_from (is_link x) (list_all is_link (linked links numbers)) (at links i x h e) rest

-- ---- names ascend

below_first : (a n m : List ℕ) (names : List (List ℕ)) (o : Ordering) → is_below a n ≡ true → is_below a m ≡ true
    → is_below_first a (match_ordering o (n ∷ m ∷ names) (m ∷ names) (m ∷ put_name n names)) ≡ true
below_first a n m names Less h k = h
below_first a n m names Equal h k = k
below_first a n m names Greater h k = k

below_put : (a n : List ℕ) (names : List (List ℕ)) → is_below a n ≡ true → is_below_first a names ≡ true → is_below_first a (put_name n names) ≡ true
below_put a n [] h k = h
below_put a n (m ∷ names) h k = below_first a n m names (slice_cmp nat_cmp n m) h k

put_by : (o : Ordering) (n m : List ℕ) (names : List (List ℕ)) → slice_cmp nat_cmp n m ≡ o → ascend (m ∷ names) ≡ true
    → ascend (put_name n names) ≡ true → ascend (match_ordering o (n ∷ m ∷ names) (m ∷ names) (m ∷ put_name n names)) ≡ true
put_by Less n m names is h rest = rw (is, h) refl
put_by Equal n m names is h rest = h
put_by Greater n m names is h rest =
    let below : slice_cmp nat_cmp m n ≡ Less = nat_list_cmp_total.antisymm m n ∙ ap ordering_reverse is in
    and_from (is_below_first m (put_name n names)) (ascend (put_name n names))
    (below_put m n names (ap is_lt below) (and_first (is_below_first m names) (ascend names) h)) rest

pub put_ascends : (n : List ℕ) (names : List (List ℕ)) → ascend names ≡ true → ascend (put_name n names) ≡ true
put_ascends n [] h = refl
put_ascends n (m ∷ names) h = put_by (slice_cmp nat_cmp n m) n m names refl h (put_ascends n names (and_second (is_below_first m names) (ascend names) h))

-- ---- names are those of relations

abbrev is_name : List ℕ → Bool
is_name n = not (bytes_eq n (codes "anchor")) && is_utf8 n

all_by : (o : Ordering) (n m : List ℕ) (names : List (List ℕ)) → is_name n ≡ true → list_all is_name (m ∷ names) ≡ true
    → list_all is_name (put_name n names) ≡ true
    → list_all is_name (match_ordering o (n ∷ m ∷ names) (m ∷ names) (m ∷ put_name n names)) ≡ true
all_by Less n m names own h rest = and_from (is_name n) (list_all is_name (m ∷ names)) own h
all_by Equal n m names own h rest = h
all_by Greater n m names own h rest = and_from (is_name m) (list_all is_name (put_name n names)) (and_first (is_name m) (list_all is_name names) h) rest

all_put : (n : List ℕ) (names : List (List ℕ)) → is_name n ≡ true → list_all is_name names ≡ true → list_all is_name (put_name n names) ≡ true
all_put n [] own h = and_from (is_name n) true own refl
all_put n (m ∷ names) own h = all_by (slice_cmp nat_cmp n m) n m names own h (all_put n names own (and_second (is_name m) (list_all is_name names) h))

link_parts : (link : Link) → is_link link ≡ true
    → (is_utf8 (canonical_link link.anchor) ≡ true) × (is_utf8 link.relation ≡ true) × (is_target link.target ≡ true)
unfolding is_link
link_parts link h =
    let rest = and_second (is_utf8 (canonical_link link.anchor)) _ h in
    (and_first (is_utf8 (canonical_link link.anchor)) _ h, and_first (is_utf8 link.relation) _ rest, and_second (is_utf8 link.relation) _ rest)

abbrev Named : List (List ℕ) → Type 0
Named names = (ascend names ≡ true) × (list_all is_name names ≡ true)

with_named : (names : List (List ℕ)) (link : Link) → is_link link ≡ true → Named names → Named (with_name names link)
with_named names link own h = by (bytes_eq link.relation (codes "anchor")) refl
  where
    by : (b : Bool) → bytes_eq link.relation (codes "anchor") ≡ b → Named (if b then names else put_name link.relation names)
    by true e = h
    by false e =
        let named = and_from (not (bytes_eq link.relation (codes "anchor"))) (is_utf8 link.relation) (ap not e) (link_parts link own).1 in
        (put_ascends link.relation names h.0, all_put link.relation names named h.1)

fold_named : (links : List Link) (names : List (List ℕ)) → list_all is_link links ≡ true → Named names → Named (fold with_name names links)
fold_named [] names all h = h
fold_named (link ∷ links) names all h =
    fold_named links (with_name names link) (and_second (is_link link) (list_all is_link links) all)
    (with_named names link (and_first (is_link link) (list_all is_link links) all) h)

-- ---- the shape of the document

targets_shaped : (links : List Link) (name : List ℕ) → list_all is_link links ≡ true → list_all is_target (targets_of links name) ≡ true
targets_shaped [] name h = refl
targets_shaped (link ∷ links) name h = by (bytes_eq link.relation name) (targets_shaped links name (and_second (is_link link) (list_all is_link links) h))
  where
    own : is_target link.target ≡ true
    own = (link_parts link (and_first (is_link link) (list_all is_link links) h)).2

    by : (b : Bool) → list_all is_target (targets_of links name) ≡ true
        → list_all is_target (map (λ (l : Link). l.target) (if b then link ∷ filter (λ (l : Link). bytes_eq l.relation name) links else filter (λ (l : Link). bytes_eq l.relation name) links)) ≡ true
    by true rest = and_from (is_target link.target) (list_all is_target (targets_of links name)) own rest
    by false rest = rest

relation_shaped : (links : List Link) (name : List ℕ) → list_all is_link links ≡ true → is_name name ≡ true → is_relation (relation_of links name) ≡ true
unfolding is_relation
relation_shaped links name all h =
    and_from (not (bytes_eq name (codes "anchor"))) _ (and_first (not (bytes_eq name (codes "anchor"))) (is_utf8 name) h)
    (and_from (is_utf8 name) _ (and_second (not (bytes_eq name (codes "anchor"))) (is_utf8 name) h) (targets_shaped links name all))

relations_shaped : (links : List Link) (names : List (List ℕ)) → list_all is_link links ≡ true → list_all is_name names ≡ true
    → list_all is_relation (map (relation_of links) names) ≡ true
relations_shaped links [] all h = refl
relations_shaped links (n ∷ names) all h =
    and_from (is_relation (relation_of links n)) _ (relation_shaped links n all (and_first (is_name n) (list_all is_name names) h))
    (relations_shaped links names all (and_second (is_name n) (list_all is_name names) h))

pub own_names : (links : List Link) (names : List (List ℕ)) → map (λ relation. relation.name) (map (relation_of links) names) ≡ names
own_names links [] = refl
own_names links (n ∷ names) = ap (λ ns. n ∷ ns) (own_names links names)

context_shaped : (link : Link) (rest : List Link) → list_all is_link (link ∷ rest) ≡ true → is_context
    (record { anchor = canonical_link link.anchor; relations = relations_of (link ∷ rest) }) ≡ true
unfolding is_context
context_shaped link rest h =
    let named = fold_named (link ∷ rest) [] h (refl, refl) in
    let anchor = (link_parts link (and_first (is_link link) (list_all is_link rest) h)).0 in
    let up : ascend (map (λ relation. relation.name) (relations_of (link ∷ rest))) ≡ true = rw (own_names (link ∷ rest) (names_of (link ∷ rest))) named.0 in
    and_from (is_utf8 (canonical_link link.anchor)) _ anchor (and_from (ascend (map (λ relation. relation.name) (relations_of (link ∷ rest)))) _ up (relations_shaped (link ∷ rest) (names_of (link ∷ rest)) h named.1))

pub document_shaped : (links : List Link) (numbers : List ℕ) (link : Link) (rest : List Link) → list_all is_link links ≡ true
    → linked links numbers ≡ link ∷ rest → list_all is_context (document_of (linked links numbers)) ≡ true
document_shaped links numbers link rest h e =
    let all = rw e at (linked_shaped links numbers h) in
    rw (e, context_shaped link rest all) refl

-- the document by its first link
pub document_is : (links : List Link) (numbers : List ℕ) (link : Link) (rest : List Link) (anchor : List ℕ) (relations : List Relation)
    (contexts : List Context) → linked links numbers ≡ link ∷ rest → anchor ≡ canonical_link link.anchor → relations ≡ relations_of
    (linked links numbers) → contexts ≡ record { anchor = anchor; relations = relations } ∷ [] → contexts ≡ document_of
    (linked links numbers)
document_is links numbers link rest anchor relations contexts e a r made =
    let own = rw e at r in
    rw (made, a, own, e) refl

-- the one context of the document has its shape
pub one_context : (links : List Link) (numbers : List ℕ) (link : Link) (rest : List Link) (context : Context)
    → list_all is_link links ≡ true → linked links numbers ≡ link ∷ rest → context.anchor ≡ canonical_link link.anchor
    → context.relations ≡ relations_of (linked links numbers)
    → (is_context context ≡ true) × (context ∷ [] ≡ document_of (linked links numbers))
one_context links numbers link rest context h e a r =
    let same = document_is links numbers link rest context.anchor context.relations (context ∷ []) e a r refl in
    let shaped = subst (λ (contexts : List Context). list_all is_context contexts ≡ true) (sym same) (document_shaped links numbers link rest h e) in
    (and_first (is_context context) true shaped, same)

-- the chosen links have one anchor: the identity's key with its first qualifiers
pub one_anchor : (links : List Link) (identity : Elements) (want : Want) (i : ℕ) (link : Link) → IsAmong (chosen links identity want) i
    → slice_get links i ≡ Some link → link.anchor ≡ first_qualifiers (chosen_depth links identity want) identity
one_anchor links identity want i link h at =
    let depth = chosen_depth links identity want in
    let row = found (is_chosen identity want depth) 0 links i h in
    let place : row.0 ≡ i = (let e = row.2 in omega (arith, e)) in
    let own : row.1 ≡ link = (let there = rw place at row.3 in let g : Some row.1 ≡ Some link = sym there ∙ at in cc) in
    let passed = rw own at row.4 in
    chosen_anchor identity want depth link passed
