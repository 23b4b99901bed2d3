-- The targets of the merged document at an anchor and a relation, and that these are all of it.
use Rattle.std.proofs.Common.{◌≡◌, ◌||◌, not, ℕ, Bool, true, false, List, [], ◌∷◌, ◌++◌, codes, filter, map, refl, sym, ap, ◌∙◌}
use Rattle.std.specs.Prelude.{if◌then◌else◌}
use Rattle.std.specs.List.{flat_map, list_any}
use Rattle.std.specs.Str.{bytes_eq}
use Rattle.std.proofs.lemmas.List.{append-nil, map-append}
use Rattle.std.proofs.lemmas.List.Elements.{filter-append}
use Rattle.std.proofs.lemmas.List.Folds.{list_any-append}
use Rattle.gs_chars.proofs.TruthsAndLists.{equal_bytes, same_bytes}
use Rattle.gs_linkset.specs.declared.link_types.Context.{Context}
use Rattle.gs_linkset.specs.declared.link_types.Relation.{Relation}
use Rattle.gs_linkset.specs.declared.link_types.Target.{Target}
use Rattle.gs_links.specs.declared.link.Link.{Link}
use Rattle.gs_merge.specs.Distinct.{distinct, is_same_target}
use Rattle.gs_merge.specs.MergedDocuments.{anchor_text, ascending, context_with, contexts_of, links_at, links_by, merged, relation_with, relations_of, targets_of, with_relation}
use Rattle.gs_merge.specs.Stores.{has_target, targets_at, targets_in}
use Rattle.gs_merge.proofs.DistinctLemmas.{any_distinct, distinct_first, distinct_last, distinct_twice, filter_swap, has_some, some_distinct}
use Rattle.gs_merge.proofs.GroupLemmas.{has_key}
use Rattle.gs_linkset.proofs.NameSets.{has}
use Rattle.gs_merge.proofs.NameSets.{ascending_ascends, has_ascending, one_list, only_one}
use Rattle.gs_merge.proofs.SameTargets.{target_itself, target_one}

-- ---- lists

filter_mapped_at : {X Y : Type 0} (p : Y → Bool) (f : X → Y) (x : X) (xs : List X) (b : Bool) → filter p (map f xs) ≡ map f (filter (λ z. p (f z)) xs)
    → (if b then f x ∷ filter p (map f xs) else filter p (map f xs)) ≡ map f (if b then x ∷ filter (λ z. p (f z)) xs else filter (λ z. p (f z)) xs)
filter_mapped_at p f x xs true h = ap (λ ys. f x ∷ ys) h
filter_mapped_at p f x xs false h = h

filter_mapped : {X Y : Type 0} (p : Y → Bool) (f : X → Y) (xs : List X) → filter p (map f xs) ≡ map f (filter (λ x. p (f x)) xs)
filter_mapped p f [] = refl
filter_mapped p f (x ∷ xs) = filter_mapped_at p f x xs (p (f x)) (filter_mapped p f xs)

map_agree : {X Y : Type 0} (f g : X → Y) → ((x : X) → f x ≡ g x) → (xs : List X) → map f xs ≡ map g xs
map_agree f g each [] = refl
map_agree f g each (x ∷ xs) = rw (each x, map_agree f g each xs) refl

nothing : {X : Type 0} (xs : List X) → has_some xs ≡ false → xs ≡ []
nothing [] h = refl
nothing (x ∷ xs) h = absurd (let bad : true ≡ false = h in cc)

some_mapped : {X Y : Type 0} (f : X → Y) (xs : List X) → has_some (map f xs) ≡ has_some xs
some_mapped f [] = refl
some_mapped f (x ∷ xs) = refl

-- ---- the targets of a document

relation_targets_by : (links : List Link) (name : List ℕ) (b : Bool) → has_some (links_by name links) ≡ b
    → flat_map (λ (r : Relation). r.targets) (map (relation_with links) (if b then name ∷ [] else [])) ≡ distinct (targets_of (links_by name links))
unfolding distinct
relation_targets_by links name true e = append-nil (distinct (targets_of (links_by name links)))
relation_targets_by links name false e = rw (nothing (links_by name links) e) refl

relation_targets : (links : List Link) (name : List ℕ)
    → flat_map (λ (r : Relation). r.targets) (filter (λ (r : Relation). bytes_eq r.name name) (relations_of links)) ≡ distinct (targets_of (links_by name links))
relation_targets links name =
    let names = map (λ (l : Link). l.relation) links in
    let here = has_ascending name names ∙ has_key (λ l. l.relation) name links in
    ap (flat_map (λ (r : Relation). r.targets)) (filter_mapped (λ (r : Relation). bytes_eq r.name name) (relation_with links) (ascending names))
    ∙ ap (λ ns. flat_map (λ (r : Relation). r.targets) (map (relation_with links) ns)) (only_one name (ascending names) (ascending_ascends names))
    ∙ ap (λ b. flat_map (λ (r : Relation). r.targets) (map (relation_with links) (if b then name ∷ [] else []))) here
    ∙ relation_targets_by links name (has_some (links_by name links)) refl

context_targets_by : (links : List Link) (text name : List ℕ) (b : Bool) → has_some (links_at text links) ≡ b
    → flat_map (λ (r : Relation). r.targets) (filter (λ (r : Relation). bytes_eq r.name name) (flat_map (λ (c : Context). c.relations) (map (context_with links) (if b then text ∷ [] else [])))) ≡ distinct (targets_at links text name)
unfolding distinct
context_targets_by links text name true e =
    ap (λ rs. flat_map (λ (r : Relation). r.targets) (filter (λ (r : Relation). bytes_eq r.name name) rs))
    (append-nil (relations_of (links_at text links))) ∙ relation_targets (links_at text links) name
context_targets_by links text name false e = rw (nothing (links_at text links) e) refl

pub document_targets : (links : List Link) (text name : List ℕ) → targets_in (contexts_of links) text name ≡ distinct (targets_at links text name)
unfolding contexts_of
document_targets links text name =
    let texts = map anchor_text links in
    let here = has_ascending text texts ∙ has_key anchor_text text links in
    ap (λ cs. flat_map (λ (r : Relation). r.targets) (filter (λ (r : Relation). bytes_eq r.name name) (flat_map (λ (c : Context). c.relations) cs)))
    (filter_mapped (λ (c : Context). bytes_eq c.anchor text) (context_with links) (ascending texts)
    ∙ ap (map (context_with links)) (only_one text (ascending texts) (ascending_ascends texts))
    ∙ ap (λ b. map (context_with links) (if b then text ∷ [] else [])) here)
    ∙ context_targets_by links text name (has_some (links_at text links)) refl

-- ---- a document is known by its targets

has_name : (links : List Link) (name : List ℕ)
    → has name (ascending (map (λ (l : Link). l.relation) links)) ≡ has_some (distinct (targets_of (links_by name links)))
unfolding distinct
has_name links name =
    has_ascending name (map (λ (l : Link). l.relation) links) ∙ has_key (λ l. l.relation) name links
    ∙ sym (some_mapped (λ (l : Link). l.target) (links_by name links))
    ∙ sym (some_distinct is_same_target target_itself target_one (targets_of (links_by name links)))

same_relations : (xs ys : List Link)
    → ((name : List ℕ) → distinct (targets_of (links_by name xs)) ≡ distinct (targets_of (links_by name ys)))
    → relations_of xs ≡ relations_of ys
same_relations xs ys each =
    let names_x = map (λ (l : Link). l.relation) xs in
    let names_y = map (λ (l : Link). l.relation) ys in
    let names = one_list (ascending names_x) (ascending names_y) (ascending_ascends names_x) (ascending_ascends names_y) (λ t. has_name xs t ∙ ap has_some (each t) ∙ sym (has_name ys t)) in
    map_agree (relation_with xs) (relation_with ys) (λ n. ap (λ ts. record { name = n; targets = ts }) (each n)) (ascending names_x) ∙ ap
    (map (relation_with ys)) names

some_has : (t : List ℕ) (names : List (List ℕ)) → has t names ≡ true → has_some names ≡ true
some_has t [] h = absurd (let bad : false ≡ true = h in cc)
some_has t (n ∷ names) h = refl

some_ascending : (texts : List (List ℕ)) → has_some (ascending texts) ≡ has_some texts
some_ascending [] = refl
some_ascending (t ∷ texts) = some_has t (ascending (t ∷ texts)) (has_ascending t (t ∷ texts) ∙ (rw (same_bytes t) refl))

some_relations : (links : List Link) → has_some (relations_of links) ≡ has_some links
some_relations links =
    some_mapped (relation_with links) (ascending (map (λ (l : Link). l.relation) links)) ∙ some_ascending
    (map (λ (l : Link). l.relation) links) ∙ some_mapped (λ (l : Link). l.relation) links

has_text : (links : List Link) (text : List ℕ) → has text (ascending (map anchor_text links)) ≡ has_some (relations_of (links_at text links))
has_text links text = has_ascending text (map anchor_text links) ∙ has_key anchor_text text links ∙ sym (some_relations (links_at text links))

pub same_contexts : (xs ys : List Link) → ((text name : List ℕ) → distinct (targets_at xs text name) ≡ distinct (targets_at ys text name))
    → contexts_of xs ≡ contexts_of ys
unfolding contexts_of
same_contexts xs ys each =
    let texts_x = map anchor_text xs in
    let texts_y = map anchor_text ys in
    let relations : (t : List ℕ) → relations_of (links_at t xs) ≡ relations_of (links_at t ys) = (λ t. same_relations (links_at t xs) (links_at t ys) (each t)) in
    let texts = one_list (ascending texts_x) (ascending texts_y) (ascending_ascends texts_x) (ascending_ascends texts_y) (λ t. has_text xs t ∙ ap has_some (relations t) ∙ sym (has_text ys t)) in
    map_agree (context_with xs) (context_with ys) (λ t. ap (λ rs. record { anchor = t; relations = rs }) (relations t))
    (ascending texts_x) ∙ ap (map (context_with ys)) texts

-- ---- concatenated links, and links of a relation

pub targets_append : (xs ys : List Link) (text name : List ℕ) → targets_at (xs ++ ys) text name ≡ targets_at xs text name ++ targets_at ys text name
targets_append xs ys text name =
    ap (λ ls. targets_of (links_by name ls)) (filter-append (λ l. bytes_eq (anchor_text l) text) xs ys)
    ∙ ap targets_of (filter-append (λ l. bytes_eq l.relation name) (links_at text xs) (links_at text ys))
    ∙ map-append (λ (l : Link). l.target) (links_by name (links_at text xs)) (links_by name (links_at text ys))

named_at : (name : List ℕ) (link : Link) (links : List Link) (b : Bool) → bytes_eq link.relation name ≡ b
    → bytes_eq name (codes "anchor") ≡ false → with_relation (links_by name links) ≡ links_by name links
    → with_relation (if b then link ∷ links_by name links else links_by name links) ≡ (if b then link ∷ links_by name links else links_by name links)
named_at name link links true e other h = let same = equal_bytes link.relation name e in rw (same, other, h) refl
named_at name link links false e other h = h

named_kept : (name : List ℕ) (links : List Link) → bytes_eq name (codes "anchor") ≡ false → with_relation (links_by name links) ≡ links_by name links
named_kept name [] other = refl
named_kept name (link ∷ links) other = named_at name link links (bytes_eq link.relation name) refl other (named_kept name links other)

-- the links of other relations than `anchor` have the targets of each of these
pub targets_with_relation : (links : List Link) (text name : List ℕ) → bytes_eq name (codes "anchor") ≡ false
    → targets_at (with_relation links) text name ≡ targets_at links text name
targets_with_relation links text name other =
    ap (λ ls. targets_of (links_by name ls)) (filter_swap (λ l. bytes_eq (anchor_text l) text) (λ l. not (bytes_eq l.relation (codes "anchor"))) links)
    ∙ ap targets_of (filter_swap (λ l. bytes_eq l.relation name) (λ l. not (bytes_eq l.relation (codes "anchor"))) (links_at text links) ∙ named_kept name (links_at text links) other)

merged_at : (a b : List Link) (text name : List ℕ)
    → targets_at (with_relation (a ++ b)) text name ≡ targets_at (with_relation a) text name ++ targets_at (with_relation b) text name
merged_at a b text name =
    ap (λ ls. targets_at ls text name) (filter-append (λ l. not (bytes_eq l.relation (codes "anchor"))) a b) ∙ targets_append
    (with_relation a) (with_relation b) text name

-- ---- the laws

pub targets_are : (a b : List Link) (text name : List ℕ) → bytes_eq name (codes "anchor") ≡ false
    → targets_in (merged a b) text name ≡ distinct (targets_at a text name ++ targets_at b text name)
unfolding merged
targets_are a b text name other =
    document_targets (with_relation (a ++ b)) text name
    ∙ ap distinct (merged_at a b text name
    ∙ ap (λ ts. ts ++ targets_at (with_relation b) text name) (targets_with_relation a text name other)
    ∙ ap (λ ts. targets_at a text name ++ ts) (targets_with_relation b text name other))

pub merged_twice : (a : List Link) → merged a a ≡ merged a []
unfolding merged distinct
merged_twice a =
    same_contexts (with_relation (a ++ a)) (with_relation a) (λ text name.
    ap distinct (merged_at a a text name) ∙ distinct_twice is_same_target target_itself target_one (targets_at (with_relation a) text name))
    ∙ ap (λ ls. contexts_of (with_relation ls)) (sym (append-nil a))

or_turned : (a b : Bool) → (a || b) ≡ (b || a)
or_turned true true = refl
or_turned true false = refl
or_turned false true = refl
or_turned false false = refl

any_merged : (a b : List Link) (text name : List ℕ) (t : Target)
    → has_target (targets_in (merged a b) text name) t ≡ (has_target (targets_at (with_relation a) text name) t || has_target (targets_at (with_relation b) text name) t)
unfolding merged distinct
any_merged a b text name t =
    ap (list_any (is_same_target t)) (document_targets (with_relation (a ++ b)) text name)
    ∙ any_distinct is_same_target target_itself target_one (is_same_target t) (targets_at (with_relation (a ++ b)) text name)
    ∙ ap (list_any (is_same_target t)) (merged_at a b text name)
    ∙ list_any-append (is_same_target t) (targets_at (with_relation a) text name) (targets_at (with_relation b) text name)

pub either_order : (a b : List Link) (text name : List ℕ) (t : Target)
    → has_target (targets_in (merged a b) text name) t ≡ has_target (targets_in (merged b a) text name) t
either_order a b text name t =
    any_merged a b text name t
    ∙ or_turned (has_target (targets_at (with_relation a) text name) t) (has_target (targets_at (with_relation b) text name) t)
    ∙ sym (any_merged b a text name t)

-- of links that have, at each anchor and relation but `anchor`, the targets of the merged document of others
pub merged_first : (a b ab c : List Link)
    → ((text name : List ℕ) → bytes_eq name (codes "anchor") ≡ false → targets_at ab text name ≡ targets_in (merged a b) text name)
    → (text name : List ℕ) → bytes_eq name (codes "anchor") ≡ false → distinct
    (targets_at ab text name ++ targets_at c text name) ≡ distinct
    ((targets_at a text name ++ targets_at b text name) ++ targets_at c text name)
unfolding distinct
merged_first a b ab c is text name other =
    ap (λ ts. distinct (ts ++ targets_at c text name)) (is text name other ∙ targets_are a b text name other)
    ∙ distinct_first is_same_target target_itself target_one (targets_at a text name ++ targets_at b text name) (targets_at c text name)

pub merged_last : (a b c bc : List Link)
    → ((text name : List ℕ) → bytes_eq name (codes "anchor") ≡ false → targets_at bc text name ≡ targets_in (merged b c) text name)
    → (text name : List ℕ) → bytes_eq name (codes "anchor") ≡ false → distinct
    (targets_at a text name ++ targets_at bc text name) ≡ distinct
    (targets_at a text name ++ (targets_at b text name ++ targets_at c text name))
unfolding distinct
merged_last a b c bc is text name other =
    ap (λ ts. distinct (targets_at a text name ++ ts)) (is text name other ∙ targets_are b c text name other)
    ∙ distinct_last is_same_target target_itself target_one (targets_at a text name) (targets_at b text name ++ targets_at c text name)

no_anchor_at : (link : Link) (links : List Link) (b : Bool) → bytes_eq link.relation (codes "anchor") ≡ b → links_by (codes "anchor") (with_relation links) ≡ []
    → links_by (codes "anchor") (if not b then link ∷ with_relation links else with_relation links) ≡ []
no_anchor_at link links true e h = h
no_anchor_at link links false e h = rw (e, h) refl

no_anchor : (links : List Link) → links_by (codes "anchor") (with_relation links) ≡ []
no_anchor [] = refl
no_anchor (link ∷ links) = no_anchor_at link links (bytes_eq link.relation (codes "anchor")) refl (no_anchor links)

-- two merged documents are equal if they have the same targets at each anchor and each relation except `anchor`
pub one_merged : (a b c d : List Link)
    → ((text name : List ℕ) → bytes_eq name (codes "anchor") ≡ false → distinct (targets_at a text name ++ targets_at b text name) ≡ distinct (targets_at c text name ++ targets_at d text name))
    → merged a b ≡ merged c d
unfolding merged
one_merged a b c d each = same_contexts (with_relation (a ++ b)) (with_relation (c ++ d)) (λ text name. by text name (bytes_eq name (codes "anchor")) refl)
  where
    known : (x y : List Link) (text name : List ℕ) → bytes_eq name (codes "anchor") ≡ false
        → targets_at (with_relation (x ++ y)) text name ≡ targets_at x text name ++ targets_at y text name
    known x y text name other =
        merged_at x y text name
        ∙ ap (λ ts. ts ++ targets_at (with_relation y) text name) (targets_with_relation x text name other)
        ∙ ap (λ ts. targets_at x text name ++ ts) (targets_with_relation y text name other)

    none : (x : List Link) (text : List ℕ) → targets_at (with_relation x) text (codes "anchor") ≡ []
    none x text =
        ap targets_of (filter_swap (λ l. bytes_eq l.relation (codes "anchor")) (λ l. bytes_eq (anchor_text l) text) (with_relation x) ∙ ap (links_at text) (no_anchor x))

    by : (text name : List ℕ) (t : Bool) → bytes_eq name (codes "anchor") ≡ t
        → distinct (targets_at (with_relation (a ++ b)) text name) ≡ distinct (targets_at (with_relation (c ++ d)) text name)
    by text name false other = ap distinct (known a b text name other) ∙ each text name other ∙ ap distinct (sym (known c d text name other))
    by text name true e =
        let same = equal_bytes name (codes "anchor") e in
        rw same (ap distinct (none (a ++ b) text ∙ sym (none (c ++ d) text)))
