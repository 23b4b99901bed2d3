-- Links in groups, and the maps that hold them.
use Rattle.std.proofs.Common.{◌≡◌, ◌||◌, ◌+◌, not, ℕ, Bool, true, false, cond, List, [], ◌∷◌, ◌++◌, codes, filter, map, take, Option, Some, None, slice_get, refl, sym, ap, ◌∙◌}
use Rattle.std.specs.Prelude.{if◌then◌else◌, option_map, unwrap_or}
use Rattle.std.specs.BTreeMap.{is_at}
use Rattle.std.specs.Cmp.Lexicographic.{slice_cmp}
use Rattle.std.specs.List.{list_all, list_any}
use Rattle.std.specs.List.Sorted.{IsStrictlySortedBy}
use Rattle.std.specs.Map.{keys_of}
use Rattle.std.specs.Option.{is_some}
use Rattle.std.specs.Ordering.{nat_cmp}
use Rattle.std.specs.Str.{bytes_eq}
use Rattle.std.proofs.lemmas.List.{append-nil, append_assoc, map-append}
use Rattle.std.proofs.lemmas.List.Elements.{filter-append}
use Rattle.std.proofs.lemmas.List.Folds.{list_all-append}
use Rattle.gs_chars.proofs.TruthsAndLists.{equal_bytes, same_bytes, take_next}
use Rattle.gs_linkset.specs.LinkShapes.{is_target}
use Rattle.gs_linkset.specs.WrittenTrees.{target_text}
use Rattle.gs_linkset.specs.declared.link_types.Relation.{Relation}
use Rattle.gs_linkset.specs.declared.link_types.Context.{Context}
use Rattle.gs_linkset.specs.declared.link_types.Target.{Target}
use Rattle.gs_links.specs.Shapes.{is_link}
use Rattle.gs_links.specs.declared.link.Link.{Link}
use Rattle.gs_links.proofs.RunLemmas.{equal_swapped}
use Rattle.gs_merge.specs.Distinct.{distinct, is_same_target}
use Rattle.gs_merge.specs.Groups.{AreGroups, AreTextsOf, entry_seen, found_at, group_at, grouped, groups_of, key_of, some_group, with_target}
use Rattle.gs_merge.specs.MergedDocuments.{ascending, contexts_of, relations_of, targets_of, with_relation}
use Rattle.gs_merge.specs.declared.groups.Grouping.{Grouping}
use Rattle.gs_merge.specs.declared.groups.Grouping.TheVariants.{ByAnchor, ByRelation}
use Rattle.gs_merge.proofs.DistinctLemmas.{distinct_more, has_some}
use Rattle.gs_linkset.proofs.NameSets.{Ascend, has}
use Rattle.gs_merge.proofs.NameSets.{ascending_ascends, at_is_same, below_is_none, has_ascending, one_list}
use Rattle.gs_merge.proofs.SameTargets.{same_texts, target_itself, target_one}

-- ---- the results of each name

pub named_more : {E N R : Type 0} (f : N → R) (name : E → N) (xs : List E) (x : E) (old new : List R) (r : R) → old ≡ map f (map name xs)
    → r ≡ f (name x) → new ≡ old ++ r ∷ [] → new ≡ map f (map name (xs ++ x ∷ []))
named_more f name xs x old new r h own e = rw (e, h, own, map-append, map-append) refl

-- ---- the links of a store

abbrev is_relation_link : Link → Bool
is_relation_link link = not (bytes_eq link.relation (codes "anchor"))

pub links_kept : (first xs : List Link) (i : ℕ) (link : Link) (old new : List Link) → slice_get xs i ≡ Some link
    → bytes_eq link.relation (codes "anchor") ≡ false
    → old ≡ first ++ with_relation (take i xs) → new ≡ old ++ link ∷ [] → new ≡ first ++ with_relation (take (i + 1) xs)
links_kept first xs i link old new at own so_far e =
    rw (e, so_far, take_next xs i link at, filter-append is_relation_link (take i xs) (link ∷ []), own)
    (append_assoc first (with_relation (take i xs)) (link ∷ []))

pub links_passed : (first xs : List Link) (i : ℕ) (link : Link) (old : List Link) → slice_get xs i ≡ Some link → bytes_eq link.relation (codes "anchor") ≡ true
    → old ≡ first ++ with_relation (take i xs) → old ≡ first ++ with_relation (take (i + 1) xs)
links_passed first xs i link old at own so_far =
    rw (so_far, take_next xs i link at, filter-append is_relation_link (take i xs) (link ∷ []), own, append-nil (with_relation (take i xs))) refl

pub shape_more : (xs new : List Link) (link : Link) → list_all is_link xs ≡ true → is_link link ≡ true → new ≡ xs ++ link ∷ [] → list_all is_link new ≡ true
shape_more xs new link all own e = rw (e, list_all-append is_link xs (link ∷ []), all, own) refl

-- ---- groups

module _ {G : Type 0} (seen : G → List Link) where
  -- a link more in the group of a text
  pub put_seen : (text q : List ℕ) (old mid new : List (List ℕ × G)) (g : G) (first : List Link) (link : Link)
      → found_at new q ≡ cond (is_at (slice_cmp nat_cmp text) q) (Some g) (found_at mid q)
      → found_at mid q ≡ (if bytes_eq text q then None else found_at old q)
      → seen g ≡ first ++ link ∷ []
      → option_map seen (found_at new q) ≡ (if bytes_eq text q then Some (first ++ link ∷ []) else option_map seen (found_at old q))
  put_seen text q old mid new g first link put taken own = rw (put, taken, at_is_same text q) (by (bytes_eq text q))
    where
      by : (b : Bool)
          → option_map seen (cond b (Some g) (if b then None else found_at old q)) ≡ (if b then Some (first ++ link ∷ []) else option_map seen (found_at old q))
      by true = ap Some own
      by false = refl

  -- the keys are those that are found
  keys_found : (t : List ℕ) (es : List (List ℕ × G)) → has t (keys_of es) ≡ is_some (found_at es t)
  keys_found t [] = refl
  keys_found t (e ∷ es) = rw (at_is_same t e.0, keys_found t es) (by (bytes_eq t e.0))
    where
      by : (b : Bool) → (b || is_some (found_at es t)) ≡ is_some (cond b (Some e.1) (found_at es t))
      by true = refl
      by false = refl

  -- each entry is the entry that is found at its key
  entries_by : (f : List ℕ → List Link) (es : List (List ℕ × G)) → Ascend (keys_of es)
      → ((t : List ℕ) → has t (keys_of es) ≡ true → option_map seen (found_at es t) ≡ Some (f t))
      → map (entry_seen seen) es ≡ map (group_at f) (keys_of es)
  unfolding IsStrictlySortedBy
  entries_by f [] s each = refl
  entries_by f (e ∷ es) s each =
      let here : is_at (slice_cmp nat_cmp e.0) e.0 ≡ true = at_is_same e.0 e.0 ∙ same_bytes e.0 in
      let in_it : has e.0 (keys_of (e ∷ es)) ≡ true = (rw (same_bytes e.0) refl) in
      let found : Some (seen e.1) ≡ Some (f e.0) = rw here at (each e.0 in_it) in
      let own : seen e.1 ≡ f e.0 = cc in
      let rest = entries_by f es s.1 (λ t h. later t (bytes_eq t e.0) refl h (each t)) in
      rw (own, rest) refl
    where
      later : (t : List ℕ) (b : Bool) → bytes_eq t e.0 ≡ b → has t (keys_of es) ≡ true
          → (has t (keys_of (e ∷ es)) ≡ true → option_map seen (found_at (e ∷ es) t) ≡ Some (f t))
          → option_map seen (found_at es t) ≡ Some (f t)
      later t true is h own =
          let same = equal_bytes t e.0 is in
          let none = below_is_none e.0 (keys_of es) s.0 in
          absurd (let g = rw (same, none) at h in let bad : false ≡ true = g in cc)
      later t false is h own =
          let all : has t (keys_of (e ∷ es)) ≡ true = rw (is, h) refl in
          let away : is_at (slice_cmp nat_cmp t) e.0 ≡ false = at_is_same t e.0 ∙ is in
          rw away at (own all)

-- a text is the key of a link if its group is not empty
pub has_key : (key : Link → List ℕ) (t : List ℕ) (links : List Link) → has t (map key links) ≡ has_some (filter (λ link. bytes_eq (key link) t) links)
has_key key t [] = refl
has_key key t (link ∷ links) = rw (equal_swapped t (key link), has_key key t links) (by (bytes_eq (key link) t))
  where
    by : (b : Bool)
        → (b || has_some (filter (λ l. bytes_eq (key l) t) links)) ≡ has_some (if b then link ∷ filter (λ l. bytes_eq (key l) t) links else filter (λ l. bytes_eq (key l) t) links)
    by true = refl
    by false = refl

some_is : (links : List Link) → is_some (some_group links) ≡ has_some links
some_is [] = refl
some_is (link ∷ links) = refl

seen_is_some : {G : Type 0} (seen : G → List Link) (o : Option G) → is_some (option_map seen o) ≡ is_some o
seen_is_some seen None = refl
seen_is_some seen (Some g) = refl

group_from : (links : List Link) → has_some links ≡ true → some_group links ≡ Some links
group_from [] h = absurd (cc)
group_from (link ∷ links) h = refl

pub groups_are : {G : Type 0} (seen : G → List Link) (by : Grouping) (links : List Link) (es : List (List ℕ × G)) → Ascend (keys_of es)
    → AreGroups by links (λ q. option_map seen (found_at es q))
    → map (entry_seen seen) es ≡ groups_of by links
groups_are seen by links es s each =
    let found : (t : List ℕ) → has t (keys_of es) ≡ has_some (grouped by links t) = (λ t. keys_found seen t es ∙ sym (seen_is_some seen (found_at es t)) ∙ ap is_some (each t) ∙ some_is (grouped by links t)) in
    let names = one_list (keys_of es) (ascending (map (key_of by) links)) s (ascending_ascends (map (key_of by) links)) (λ t. found t ∙ sym (has_key (key_of by) t links) ∙ sym (has_ascending t (map (key_of by) links))) in
    entries_by seen (grouped by links) es s (λ t h. each t ∙ group_from (grouped by links t) (sym (found t) ∙ h)) ∙ ap (map (group_at (grouped by links))) names

group_more : (links : List Link) (link : Link) (b : Bool)
    → (if b then Some (unwrap_or (some_group links) [] ++ link ∷ []) else some_group links) ≡ some_group (links ++ (if b then link ∷ [] else []))
group_more [] link true = refl
group_more (x ∷ links) link true = refl
group_more [] link false = refl
group_more (x ∷ links) link false = rw (append-nil links) refl

-- the groups of the links, with one more
pub groups_more : (by : Grouping) (links : List Link) (i : ℕ) (link : Link) (text : List ℕ) (old new : List ℕ → Option (List Link))
    → slice_get links i ≡ Some link → text ≡ key_of by link
    → AreGroups by (take i links) old → ((q : List ℕ) → new q ≡ (if bytes_eq text q then Some (unwrap_or (old text) [] ++ link ∷ []) else old q)) → AreGroups by (take (i + 1) links) new
groups_more by links i link text old new at own so_far put q =
    let more : grouped by (take (i + 1) links) q ≡ grouped by (take i links) q ++ (if bytes_eq text q then link ∷ [] else []) =
    rw (take_next links i link at, filter-append (λ l. bytes_eq (key_of by l) q) (take i links) (link ∷ []), own) refl in
    put q ∙ at_text (bytes_eq text q) refl ∙ group_more (grouped by (take i links) q) link (bytes_eq text q) ∙ ap some_group (sym more)
  where
    at_text : (b : Bool) → bytes_eq text q ≡ b
        → (if b then Some (unwrap_or (old text) [] ++ link ∷ []) else old q) ≡ (if b then Some (unwrap_or (some_group (grouped by (take i links) q)) [] ++ link ∷ []) else some_group (grouped by (take i links) q))
    at_text true e = let same = equal_bytes text q e in rw (same, so_far q) refl
    at_text false e = so_far q

-- ---- the targets of a group

pub no_texts : AreTextsOf [] []
no_texts q = refl

-- a text more
pub texts_more : (old new : List (List ℕ × Unit {0})) (targets : List Target) (target : Target) (text : List ℕ) → text ≡ target_text target
    → ((q : List ℕ) → found_at new q ≡ cond (is_at (slice_cmp nat_cmp text) q) (Some tt) (found_at old q))
    → AreTextsOf old targets → AreTextsOf new (targets ++ target ∷ [])
texts_more old new targets target text own put so_far q =
    rw (put q, at_is_same text q, all_any, ← so_far q, ← own) (by (bytes_eq text q) (is_some (found_at old q)) refl)
  where
    all_any : list_any (λ (t : Target). bytes_eq (target_text t) q) (targets ++ target ∷ []) ≡ (list_any (λ (t : Target). bytes_eq (target_text t) q) targets || bytes_eq (target_text target) q)
    all_any = any_end targets
      where
        or_none : (b : Bool) → (b || false) ≡ b
        or_none true = refl
        or_none false = refl

        or_shift : (a b c : Bool) → (a || (b || c)) ≡ ((a || b) || c)
        or_shift true b c = refl
        or_shift false b c = refl

        any_end : (ts : List Target)
            → list_any (λ (t : Target). bytes_eq (target_text t) q) (ts ++ target ∷ []) ≡ (list_any (λ (t : Target). bytes_eq (target_text t) q) ts || bytes_eq (target_text target) q)
        any_end [] = or_none (bytes_eq (target_text target) q)
        any_end (t ∷ ts) = rw (any_end ts) (or_shift (bytes_eq (target_text t) q) (list_any (λ (u : Target). bytes_eq (target_text u) q) ts) (bytes_eq (target_text target) q))

    by : (b c : Bool) → is_some (found_at old q) ≡ c → is_some (cond b (Some tt) (found_at old q)) ≡ (c || b)
    by true true e = refl
    by true false e = refl
    by false true e = e
    by false false e = e

-- a text that is in the map
pub texts_same : (old new : List (List ℕ × Unit {0})) (targets : List Target) (text : List ℕ)
    → ((q : List ℕ) → found_at new q ≡ cond (is_at (slice_cmp nat_cmp text) q) (Some tt) (found_at old q))
    → is_some (found_at old text) ≡ true → AreTextsOf old targets → AreTextsOf new targets
texts_same old new targets text put there so_far q = rw (put q, at_is_same text q) (by (bytes_eq text q) refl)
  where
    by : (b : Bool) → bytes_eq text q ≡ b → is_some (cond b (Some tt) (found_at old q)) ≡ list_any (λ (t : Target). bytes_eq (target_text t) q) targets
    by true e = let same = equal_bytes text q e in sym (sym (so_far q) ∙ (rw same at there))
    by false e = so_far q

-- whether the same target is in the map, by its text
pub text_there : (entries : List (List ℕ × Unit {0})) (targets : List Target) (target : Target) (text : List ℕ) → text ≡ target_text target
    → AreTextsOf entries targets
    → list_all is_target targets ≡ true → is_target target ≡ true → is_some (found_at entries text) ≡ list_any (λ other. is_same_target other target) targets
text_there entries targets target text own so_far all shape = ap (λ t. is_some (found_at entries t)) own ∙ so_far
    (target_text target) ∙ same_texts targets target all shape

pub target_kept : (targets : List Target) (target : Target) → list_any (λ other. is_same_target other target) targets ≡ true
    → targets ≡ with_target targets target
target_kept targets target h = rw h refl

pub target_added : (targets : List Target) (target : Target) → list_any (λ other. is_same_target other target) targets ≡ false
    → targets ++ target ∷ [] ≡ with_target targets target
target_added targets target h = rw h refl

-- the targets of links, with one more
pub targets_more : (links : List Link) (i : ℕ) (link : Link) (old new : List Target) → slice_get links i ≡ Some link
    → old ≡ distinct (targets_of (take i links)) → new ≡ with_target old link.target
    → new ≡ distinct (targets_of (take (i + 1) links))
unfolding distinct
targets_more links i link old new at so_far e =
    rw (e, so_far, take_next links i link at, map-append (λ (l : Link). l.target) (take i links) (link ∷ []))
    (sym (distinct_more is_same_target target_itself target_one (targets_of (take i links)) link.target))

with_shape_by : (targets : List Target) (target : Target) (b : Bool) → list_all is_target targets ≡ true → is_target target ≡ true
    → list_all is_target (if b then targets else targets ++ target ∷ []) ≡ true
with_shape_by targets target true all own = all
with_shape_by targets target false all own = rw (list_all-append is_target targets (target ∷ []), all, own) refl

pub targets_shape : (old new : List Target) (target : Target) → list_all is_target old ≡ true → is_target target ≡ true
    → new ≡ with_target old target → list_all is_target new ≡ true
targets_shape old new target all own e = rw e (with_shape_by old target (list_any (λ other. is_same_target other target) old) all own)

-- ---- values that are mapped from groups

map_twice : {X Y Z : Type 0} (f : Y → Z) (g : X → Y) (xs : List X) → map f (map g xs) ≡ map (λ x. f (g x)) xs
map_twice f g [] = refl
map_twice f g (x ∷ xs) = ap (λ zs. f (g x) ∷ zs) (map_twice f g xs)

map_same : {X : Type 0} (xs : List X) → map (λ x. x) xs ≡ xs
map_same [] = refl
map_same (x ∷ xs) = ap (λ ys. x ∷ ys) (map_same xs)

-- all entries were yielded
pub all_yielded : {X : Type 0} (xs ys : List X) → map (λ x. x) xs ≡ ys → xs ≡ ys
all_yielded xs ys h = sym (map_same xs) ∙ h

abbrev pub made_relation : List ℕ × List Link → Relation
made_relation group = record { name = group.0; targets = distinct (targets_of group.1) }

abbrev pub made_context : List ℕ × List Link → Context
made_context group = record { anchor = group.0; relations = relations_of group.1 }

pub relations_made : (links : List Link) (groups : List (List ℕ × List Link)) (relations : List Relation)
    → groups ≡ groups_of ByRelation links → relations ≡ map made_relation groups → relations ≡ relations_of links
relations_made links groups relations own e = rw (e, own) (map_twice made_relation (group_at (grouped ByRelation links)) (ascending (map (key_of ByRelation) links)))

pub contexts_made : (links : List Link) (groups : List (List ℕ × List Link)) (contexts : List Context) → groups ≡ groups_of ByAnchor links
    → contexts ≡ map made_context groups → contexts ≡ contexts_of links
unfolding contexts_of
contexts_made links groups contexts own e = rw (e, own) (map_twice made_context (group_at (grouped ByAnchor links)) (ascending (map (key_of ByAnchor) links)))
