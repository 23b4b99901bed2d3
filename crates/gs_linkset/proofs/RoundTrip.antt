-- The text written of a document is read as that document.
use Rattle.std.proofs.Common.{◌≡◌, ◌≤◌, ℕ, zero, suc, ◌+◌, List, [], ◌∷◌, map, Bool, true, false, Option, Some, None, slice_get, codes, Ordering, Less, Equal, Greater, refl, sym, ap, ◌∙◌, arith}
use Rattle.std.specs.Prelude.{Ok, not}
use Rattle.std.specs.Cmp.Lexicographic.{slice_cmp}
use Rattle.std.specs.List.{enumerate_from, filter_map, flat_map, list_all}
use Rattle.std.specs.List.Sorted.{IsStrictlySortedBy}
use Rattle.std.specs.Ordering.{match_ordering, nat_cmp, ordering_reverse}
use Rattle.std.specs.Str.{bytes_eq, is_utf8}
use Rattle.std.proofs.lemmas.Cmp.{nat_list_cmp_total, tied_itself}
use Rattle.std.proofs.lemmas.Str.{IsUtf8-from_is_utf8, is_utf8-from_IsUtf8}
use Rattle.json.proofs.Printed.Utf8.{IsUtf8-are_ascii}
use Rattle.gs_chars.proofs.TruthsAndLists.{and_first, and_second, none_of_both, same_bytes}
use Rattle.gs_json.specs.Answers.{AscendByBytes, names_of_members}
use Rattle.gs_json.specs.Places.{item_place, member_place}
use Rattle.gs_json.specs.Shapes.{items_list}
use Rattle.gs_json.specs.declared.error.JsonFault.{JsonFault}
use Rattle.gs_json.specs.declared.plan.Sort.TheVariants as sort
use Rattle.serde_json.specs.Data.{Data, string, object, Members, no_members, member, put, depth, items_depth, members_depth}
use Rattle.serde_json.specs.Find.{as_str, get_member}
use Rattle.serde_json.specs.Read.{max_depth, read as read_text}
use Rattle.serde_json.specs.View.{items_of as listed}
use Rattle.serde_json.specs.Written.{compact_text}
use Rattle.serde_json.proofs.Views.{get_member-put, get_member-put_other}
use Rattle.gs_json.specs.Members.{array_in, document_of, text_in}
use Rattle.gs_linkset.specs.Answers.{document_answer, read_answer}
use Rattle.gs_linkset.specs.Attributes.{every, is_single, is_tagged, tagged_text, value_of}
use Rattle.gs_linkset.specs.Documents.{attr_of, context_errors, context_of, contexts_of, document_errors, member_errors, relation_errors, relation_of, target_errors, target_of, targets_at}
use Rattle.gs_linkset.specs.LinkShapes.{is_attr, is_context, is_relation, is_tagged_text, is_target, is_value}
use Rattle.gs_linkset.specs.WrittenTrees.{array_by, attr_members, context_tree, members_by, relation_members, tagged_tree, target_text, target_tree, tree_of, value_tree, written}
use Rattle.gs_linkset.specs.declared.link_types.Attr.{Attr}
use Rattle.gs_linkset.specs.declared.link_types.AttrValue.{AttrValue}
use Rattle.gs_linkset.specs.declared.link_types.AttrValue.TheVariants.{One, Many, Tagged}
use Rattle.gs_linkset.specs.declared.link_types.Context.{Context}
use Rattle.gs_linkset.specs.declared.link_types.Relation.{Relation}
use Rattle.gs_linkset.specs.declared.link_types.Target.{Target}
use Rattle.gs_linkset.proofs.PlainTrees.{ArePlain, HavePlain, IsPlain, plain_put, text_reads, text_utf8}
use Rattle.gs_linkset.proofs.WrittenLemmas.{attr_parts, below_at, context_parts, many_texts, one_text, relation_parts, sorted, tagged_texts, target_parts, true_at}
use Rattle.gs_json.proofs.PutMembers.{IsBelowAll, depth_put}
use Rattle.std.proofs.lemmas.Bool.{not-true}

-- ---- arrays

list_back : (ds : List Data) → items_list (listed ds) ≡ ds
list_back [] = refl
list_back (d ∷ ds) = ap (λ es. d ∷ es) (list_back ds)

array_back : {X : Type 0} (tree : X → Data) (xs : List X) → array_in (array_by tree xs) ≡ Some (map tree xs)
array_back tree xs = ap Some (list_back (map tree xs))

module _ {X : Type 0} (tree : X → Data) (t : X → Bool) where
  plain_items : ((x : X) → t x ≡ true → IsPlain (tree x)) → (xs : List X) → list_all t xs ≡ true → ArePlain (listed (map tree xs))
  plain_items each [] all = tt
  plain_items each (x ∷ xs) all = (each x (and_first (t x) (list_all t xs) all), plain_items each xs (and_second (t x) (list_all t xs) all))

  maps_back : (f : Data → X) → ((x : X) → t x ≡ true → f (tree x) ≡ x) → (xs : List X) → list_all t xs ≡ true → map f (map tree xs) ≡ xs
  maps_back f each [] all = refl
  maps_back f each (x ∷ xs) all = rw (each x (and_first (t x) (list_all t xs) all), maps_back f each xs (and_second (t x) (list_all t xs) all)) refl

  every_back : (f : Data → Option X) → ((x : X) → t x ≡ true → f (tree x) ≡ Some x) → (xs : List X) → list_all t xs ≡ true → every f (map tree xs) ≡ Some xs
  every_back f each [] all = refl
  every_back f each (x ∷ xs) all = rw (each x (and_first (t x) (list_all t xs) all), every_back f each xs (and_second (t x) (list_all t xs) all)) refl

  no_row_errors : (errors : List ℕ → Data → List JsonFault) (place : List ℕ) → ((p : List ℕ) (x : X) → t x ≡ true → errors p (tree x) ≡ [])
      → (n : ℕ) (xs : List X) → list_all t xs ≡ true
      → flat_map (λ row. errors (item_place place row.0) row.1) (enumerate_from n (map tree xs)) ≡ []
  no_row_errors errors place each n [] all = refl
  no_row_errors errors place each n (x ∷ xs) all =
      rw (each (item_place place n) x (and_first (t x) (list_all t xs) all)) (no_row_errors errors place each (n + 1) xs (and_second (t x) (list_all t xs) all))

module _ {X : Type 0} (tree : X → Data) (n : ℕ) (each : (x : X) → depth (tree x) ≤ n) where
  deep_items : (xs : List X) → items_depth (listed (map tree xs)) ≤ n
  deep_items [] = omega arith
  deep_items (x ∷ xs) = let first = each x in let rest = deep_items xs in omega arith

  deep_members : (name : X → List ℕ) (xs : List X) → members_depth (members_by name tree xs) ≤ n
  deep_members name [] = omega arith
  deep_members name (x ∷ xs) = let first = each x in let rest = deep_members name xs in omega arith

-- ---- members

module _ {X : Type 0} (name : X → List ℕ) (tree : X → Data) where
  names_by : (xs : List X) → names_of_members (members_by name tree xs) ≡ map name xs
  names_by [] = refl
  names_by (x ∷ xs) = ap (λ names. name x ∷ names) (names_by xs)

  plain_members : (t : X → Bool) → ((x : X) → t x ≡ true → (is_utf8 (name x) ≡ true) × IsPlain (tree x)) → (xs : List X)
      → list_all t xs ≡ true → AscendByBytes (map name xs) → HavePlain (members_by name tree xs)
  unfolding IsStrictlySortedBy
  plain_members t each [] all s = tt
  plain_members t each (x ∷ xs) all s =
      let own = each x (and_first (t x) (list_all t xs) all) in
      let below : IsBelowAll (name x) (members_by name tree xs) = rw (names_by xs) s.0 in
      (IsUtf8-from_is_utf8 (name x) own.0, own.1, below, plain_members t each xs (and_second (t x) (list_all t xs) all) s.1)

  found_by : (xs : List X) (i : ℕ) (x : X) → AscendByBytes (map name xs) → slice_get xs i ≡ Some x
      → get_member (name x) (members_by name tree xs) ≡ Some (tree x)
  unfolding IsStrictlySortedBy
  found_by [] i x s at = absurd (let g : None ≡ Some x = at in cc)
  found_by (y ∷ xs) zero x s at =
      let same : y ≡ x = cc in
      rw (same, tied_itself nat_list_cmp_total (name x)) refl
  found_by (y ∷ xs) (suc i) x s at =
      let above : slice_cmp nat_cmp (name x) (name y) ≡ Greater = nat_list_cmp_total.antisymm (name x) (name y) ∙ ap ordering_reverse (below_at name tree (name y) xs i x s.0 at) in
      rw above (found_by xs i x s.1 at)

  kept_by : (f : List ℕ → Option X) (xs : List X) → ((i : ℕ) (x : X) → slice_get xs i ≡ Some x → f (name x) ≡ Some x) → filter_map f (map name xs) ≡ xs
  kept_by f [] each = refl
  kept_by f (x ∷ xs) each = rw (each 0 x refl, kept_by f xs (λ i y at. each (suc i) y at)) refl

  none_by : (g : List ℕ → List JsonFault) (xs : List X) → ((i : ℕ) (x : X) → slice_get xs i ≡ Some x → g (name x) ≡ []) → flat_map g (map name xs) ≡ []
  none_by g [] each = refl
  none_by g (x ∷ xs) each = rw (each 0 x refl) (none_by g xs (λ i y at. each (suc i) y at))

-- a name that gives nothing, among the names of the members
module _ {Y : Type 0} (f : List ℕ → Option Y) (k : List ℕ) (d : Data) (none : f k ≡ None) where
  passed_by : (o : Ordering) (l : List ℕ) (e : Data) (ms : Members) → slice_cmp nat_cmp k l ≡ o
      → filter_map f (names_of_members (put k d ms)) ≡ filter_map f (names_of_members ms)
      → filter_map f (names_of_members (match_ordering o (member k d (member l e ms)) (member l d ms) (member l e (put k d ms)))) ≡ filter_map f (names_of_members (member l e ms))
  passed_by Less l e ms is more = rw none refl
  passed_by Equal l e ms is more = refl
  passed_by Greater l e ms is more = rw more refl

  passed : (ms : Members) → filter_map f (names_of_members (put k d ms)) ≡ filter_map f (names_of_members ms)
  passed no_members = rw none refl
  passed (member l e ms) = passed_by (slice_cmp nat_cmp k l) l e ms refl (passed ms)

module _ (g : List ℕ → List JsonFault) (k : List ℕ) (d : Data) (none : g k ≡ []) where
  errorless_by : (o : Ordering) (l : List ℕ) (e : Data) (ms : Members) → flat_map g (names_of_members (put k d ms)) ≡ flat_map g (names_of_members ms)
      → flat_map g (names_of_members (match_ordering o (member k d (member l e ms)) (member l d ms) (member l e (put k d ms)))) ≡ flat_map g
      (names_of_members (member l e ms))
  errorless_by Less l e ms more = rw none refl
  errorless_by Equal l e ms more = refl
  errorless_by Greater l e ms more = rw more refl

  errorless : (ms : Members) → flat_map g (names_of_members (put k d ms)) ≡ flat_map g (names_of_members ms)
  errorless no_members = rw none refl
  errorless (member l e ms) = errorless_by (slice_cmp nat_cmp k l) l e ms (errorless ms)

-- the text that was put at a name is found and has no error
module _ (k : List ℕ) (s : List ℕ) (ms : Members) where
  text_there : text_in k (object (put k (string s) ms)) ≡ s
  text_there = rw (get_member-put k (string s) ms) refl

  no_text_errors : (place : List ℕ) → member_errors sort.Text k place (object (put k (string s) ms)) ≡ []
  no_text_errors place = rw (get_member-put k (string s) ms) refl

other_name : (a b : List ℕ) → not (bytes_eq a b) ≡ true → a ≡ b → ⊥
other_name a b h same = absurd (let g = rw (same, same_bytes b) at h in let bad : false ≡ true = g in cc)

-- ---- attributes

pair_back : (pair : List ℕ × List ℕ) → tagged_text (tagged_tree pair) ≡ Some pair
pair_back (text, []) = refl
pair_back (text, c ∷ language) = refl

value_back : (name : List ℕ) (value : AttrValue) → is_value name value ≡ true → value_of name (value_tree value) ≡ Some value
unfolding value_of
value_back name (One text) h =
    let tagged = not-true (is_tagged name) (and_first (not (is_tagged name)) _ h) in
    let single = and_first (is_single name) _ (and_second (not (is_tagged name)) _ h) in
    rw (tagged, single) refl
value_back name (Many texts) h =
    let tagged = not-true (is_tagged name) (and_first (not (is_tagged name)) _ h) in
    let single = not-true (is_single name) (and_first (not (is_single name)) _ (and_second (not (is_tagged name)) _ h)) in
    rw (tagged, single, list_back (map string texts), every_back string is_utf8 as_str (λ text t. refl) texts (many_texts name texts h)) refl
value_back name (Tagged pairs) h =
    let tagged = and_first (is_tagged name) _ h in
    rw (tagged, list_back (map tagged_tree pairs), every_back tagged_tree is_tagged_text tagged_text (λ pair t. pair_back pair) pairs (tagged_texts name pairs h)) refl

module _ (target : Target) (h : is_target target ≡ true) where
  attr_back : (i : ℕ) (attr : Attr) → slice_get target.attrs i ≡ Some attr → attr_of (target_tree target) attr.name ≡ Some attr
  unfolding attr_of
  attr_back i attr at =
      let parts = target_parts target h in
      let own = attr_parts attr (true_at is_attr target.attrs i attr parts.2 at) in
      let there = get_member-put_other attr.name (codes "href") (string target.href) (attr_members target.attrs) (other_name attr.name (codes "href") own.0) in
      let found = found_by (λ attr. attr.name) (λ attr. value_tree attr.value) target.attrs i attr (sorted (map (λ attr. attr.name) target.attrs) parts.1) at in
      rw (not-true (bytes_eq attr.name (codes "href")) own.0, there, found, value_back attr.name attr.value own.2) refl

  no_href : attr_of (target_tree target) (codes "href") ≡ None
  unfolding attr_of
  no_href = refl

  pub target_back : target_of (target_tree target) ≡ target
  unfolding target_of
  target_back =
      let kept = kept_by (λ attr. attr.name) (λ attr. value_tree attr.value) (attr_of (target_tree target)) target.attrs attr_back in
      let names = names_by (λ attr. attr.name) (λ attr. value_tree attr.value) target.attrs in
      let all = passed (attr_of (target_tree target)) (codes "href") (string target.href) no_href (attr_members target.attrs) ∙ ap (filter_map (attr_of (target_tree target))) names ∙ kept in
      rw (text_there (codes "href") target.href (attr_members target.attrs), all) refl

  pub no_target_errors : (place : List ℕ) → target_errors place (target_tree target) ≡ []
  unfolding target_errors
  no_target_errors place = no_text_errors (codes "href") target.href (attr_members target.attrs) place

-- ---- relations

module _ (context : Context) (h : is_context context ≡ true) where
  targets_there : (i : ℕ) (relation : Relation) → slice_get context.relations i ≡ Some relation
      → targets_at (context_tree context) relation.name ≡ Some (map target_tree relation.targets)
  unfolding targets_at
  targets_there i relation at =
      let parts = context_parts context h in
      let own = relation_parts relation (true_at is_relation context.relations i relation parts.2 at) in
      let there = get_member-put_other relation.name (codes "anchor") (string context.anchor) (relation_members context.relations) (other_name relation.name (codes "anchor") own.0) in
      let found = found_by (λ relation. relation.name) (λ relation. array_by target_tree relation.targets) context.relations i relation (sorted (map (λ relation. relation.name) context.relations) parts.1) at in
      rw (not-true (bytes_eq relation.name (codes "anchor")) own.0, there, found) (array_back target_tree relation.targets)

  targets_shaped : (i : ℕ) (relation : Relation) → slice_get context.relations i ≡ Some relation → list_all is_target relation.targets ≡ true
  targets_shaped i relation at = (relation_parts relation (true_at is_relation context.relations i relation (context_parts context h).2 at)).2

  relation_back : (i : ℕ) (relation : Relation) → slice_get context.relations i ≡ Some relation
      → relation_of (context_tree context) relation.name ≡ Some relation
  unfolding relation_of
  relation_back i relation at =
      let targets = maps_back target_tree is_target target_of target_back relation.targets (targets_shaped i relation at) in
      rw (targets_there i relation at, targets) refl

  no_relation_errors : (place : List ℕ) (i : ℕ) (relation : Relation) → slice_get context.relations i ≡ Some relation
      → relation_errors place (context_tree context) relation.name ≡ []
  unfolding relation_errors
  no_relation_errors place i relation at =
      rw (targets_there i relation at) (no_row_errors target_tree is_target target_errors (member_place place relation.name) (λ p target t. no_target_errors target t p) 0 relation.targets (targets_shaped i relation at))

  no_anchor : relation_of (context_tree context) (codes "anchor") ≡ None
  unfolding relation_of targets_at
  no_anchor = refl

  no_anchor_errors : (place : List ℕ) → relation_errors place (context_tree context) (codes "anchor") ≡ []
  unfolding relation_errors targets_at
  no_anchor_errors place = refl

  pub context_back : context_of (context_tree context) ≡ context
  unfolding context_of
  context_back =
      let kept = kept_by (λ relation. relation.name) (λ relation. array_by target_tree relation.targets) (relation_of (context_tree context)) context.relations relation_back in
      let names = names_by (λ relation. relation.name) (λ relation. array_by target_tree relation.targets) context.relations in
      let all = passed (relation_of (context_tree context)) (codes "anchor") (string context.anchor) no_anchor (relation_members context.relations) ∙ ap (filter_map (relation_of (context_tree context))) names ∙ kept in
      rw (text_there (codes "anchor") context.anchor (relation_members context.relations), all) refl

  pub no_context_errors : (place : List ℕ) → context_errors place (context_tree context) ≡ []
  unfolding context_errors
  no_context_errors place =
      let none = none_by (λ relation. relation.name) (λ relation. array_by target_tree relation.targets) (relation_errors place (context_tree context)) context.relations (no_relation_errors place) in
      let names = names_by (λ relation. relation.name) (λ relation. array_by target_tree relation.targets) context.relations in
      let all = errorless (relation_errors place (context_tree context)) (codes "anchor") (string context.anchor) (no_anchor_errors place) (relation_members context.relations) ∙ ap (flat_map (relation_errors place (context_tree context))) names ∙ none in
      none_of_both _ _ (no_text_errors (codes "anchor") context.anchor (relation_members context.relations) place) all

-- ---- the document

document_back : (contexts : List Context) → list_all is_context contexts ≡ true → document_answer (tree_of contexts) ≡ Ok contexts
unfolding document_answer document_errors contexts_of
document_back contexts h =
    let none = no_row_errors context_tree is_context context_errors (member_place [] (codes "linkset")) (λ p context t. no_context_errors context t p) 0 contexts h in
    let back = maps_back context_tree is_context context_of context_back contexts h in
    rw (list_back (map context_tree contexts), none, back) refl

-- ---- the trees are plain, and not deep

plain_texts : (texts : List (List ℕ)) → list_all is_utf8 texts ≡ true → IsPlain (array_by string texts)
plain_texts texts h = plain_items string is_utf8 (λ text t. IsUtf8-from_is_utf8 text t) texts h

plain_pair : (pair : List ℕ × List ℕ) → is_tagged_text pair ≡ true → IsPlain (tagged_tree pair)
plain_pair (text, []) h = (IsUtf8-are_ascii (codes "value") refl, IsUtf8-from_is_utf8 text (and_first (is_utf8 text) _ h), tt, tt)
plain_pair (text, c ∷ language) h =
    let value : HavePlain (member (codes "value") (string text) no_members) = (IsUtf8-are_ascii (codes "value") refl, IsUtf8-from_is_utf8 text (and_first (is_utf8 text) _ h), tt, tt) in
    plain_put (codes "language") (string (c ∷ language)) (member (codes "value") (string text) no_members)
    (IsUtf8-are_ascii (codes "language") refl) (IsUtf8-from_is_utf8 (c ∷ language) (and_second (is_utf8 text) _ h)) value

plain_value : (name : List ℕ) (value : AttrValue) → is_value name value ≡ true → IsPlain (value_tree value)
plain_value name (One text) h = IsUtf8-from_is_utf8 text (one_text name text h)
plain_value name (Many texts) h = plain_texts texts (many_texts name texts h)
plain_value name (Tagged pairs) h = plain_items tagged_tree is_tagged_text plain_pair pairs (tagged_texts name pairs h)

plain_attr : (attr : Attr) → is_attr attr ≡ true → (is_utf8 attr.name ≡ true) × IsPlain (value_tree attr.value)
plain_attr attr h = let parts = attr_parts attr h in (parts.1, plain_value attr.name attr.value parts.2)

plain_target : (target : Target) → is_target target ≡ true → IsPlain (target_tree target)
plain_target target h =
    let parts = target_parts target h in
    plain_put (codes "href") (string target.href) (attr_members target.attrs) (IsUtf8-are_ascii (codes "href") refl) (IsUtf8-from_is_utf8 target.href parts.0)
    (plain_members (λ attr. attr.name) (λ attr. value_tree attr.value) is_attr plain_attr target.attrs parts.2 (sorted (map (λ attr. attr.name) target.attrs) parts.1))

plain_relation : (relation : Relation) → is_relation relation ≡ true → (is_utf8 relation.name ≡ true) × IsPlain (array_by target_tree relation.targets)
plain_relation relation h = let parts = relation_parts relation h in (parts.1, plain_items target_tree is_target plain_target relation.targets parts.2)

plain_context : (context : Context) → is_context context ≡ true → IsPlain (context_tree context)
plain_context context h =
    let parts = context_parts context h in
    plain_put (codes "anchor") (string context.anchor) (relation_members context.relations) (IsUtf8-are_ascii (codes "anchor") refl)
    (IsUtf8-from_is_utf8 context.anchor parts.0)
    (plain_members (λ relation. relation.name) (λ relation. array_by target_tree relation.targets) is_relation plain_relation context.relations parts.2 (sorted (map (λ relation. relation.name) context.relations) parts.1))

plain_tree : (contexts : List Context) → list_all is_context contexts ≡ true → IsPlain (tree_of contexts)
plain_tree contexts h = (IsUtf8-are_ascii (codes "linkset") refl, plain_items context_tree is_context plain_context contexts h, tt, tt)

deep_text : (text : List ℕ) → depth (string text) ≤ 1
deep_text text = omega arith

deep_pair : (pair : List ℕ × List ℕ) → depth (tagged_tree pair) ≤ 1
deep_pair (text, []) = omega arith
deep_pair (text, c ∷ language) = omega arith

deep_value : (value : AttrValue) → depth (value_tree value) ≤ 2
deep_value (One text) = omega arith
deep_value (Many texts) = let items = deep_items string 1 deep_text texts in omega arith
deep_value (Tagged pairs) = let items = deep_items tagged_tree 1 deep_pair pairs in omega arith

deep_target : (target : Target) → depth (target_tree target) ≤ 3
deep_target target =
    let attrs = deep_members (λ attr. value_tree attr.value) 2 (λ attr. deep_value attr.value) (λ attr. attr.name) target.attrs in
    let all = depth_put 2 (codes "href") (string target.href) (attr_members target.attrs) (omega arith) attrs in
    omega arith

deep_relation : (relation : Relation) → depth (array_by target_tree relation.targets) ≤ 4
deep_relation relation = let items = deep_items target_tree 3 deep_target relation.targets in omega arith

deep_context : (context : Context) → depth (context_tree context) ≤ 5
deep_context context =
    let relations = deep_members (λ relation. array_by target_tree relation.targets) 4 deep_relation (λ relation. relation.name) context.relations in
    let all = depth_put 4 (codes "anchor") (string context.anchor) (relation_members context.relations) (omega arith) relations in
    omega arith

deep_tree : (contexts : List Context) → depth (tree_of contexts) ≤ max_depth
deep_tree contexts = let items = deep_items context_tree 5 deep_context contexts in omega arith

-- ---- the laws

shallow_target : (target : Target) → depth (target_tree target) ≤ max_depth
shallow_target target = let deep = deep_target target in omega arith

-- two targets with one text are one
pub same_by_text : (a b : Target) → is_target a ≡ true → is_target b ≡ true → target_text a ≡ target_text b → a ≡ b
unfolding target_text
same_by_text a b ha hb same =
    let reads_a = text_reads (target_tree a) (plain_target a ha) (shallow_target a) in
    let reads_b = text_reads (target_tree b) (plain_target b hb) (shallow_target b) in
    let one : Some (target_tree a) ≡ Some (target_tree b) = sym reads_a ∙ ap read_text same ∙ reads_b in
    let tree : target_tree a ≡ target_tree b = cc in
    sym (target_back a ha) ∙ ap target_of tree ∙ target_back b hb

pub written_back : (contexts : List Context) → list_all is_context contexts ≡ true → read_answer (written contexts) ≡ Ok contexts
unfolding read_answer document_of written
written_back contexts h =
    let plain = plain_tree contexts h in
    let utf8 = is_utf8-from_IsUtf8 (compact_text (tree_of contexts)) (text_utf8 (tree_of contexts) plain) in
    rw (utf8, text_reads (tree_of contexts) plain (deep_tree contexts)) (document_back contexts h)
