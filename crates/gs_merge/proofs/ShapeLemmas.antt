-- The shape of the merged document.
use Rattle.std.proofs.Common.{◌≡◌, ◌&&◌, not, ℕ, Bool, true, false, List, [], ◌∷◌, ◌++◌, codes, map, Ordering, Less, Equal, Greater, refl, ap, ◌∙◌, inr}
use Rattle.std.specs.Prelude.{IfOk, Result, Ok, Err, fold, nat_lt, if◌then◌else◌}
use Rattle.std.specs.BTreeSet.{insert_key}
use Rattle.std.specs.Cmp.Lexicographic.{slice_cmp}
use Rattle.std.specs.List.{list_all}
use Rattle.std.specs.Ordering.{match_ordering, nat_cmp}
use Rattle.std.specs.Str.{bytes_eq, is_utf8}
use Rattle.gs_chars.proofs.TruthsAndLists.{and_first, and_second}
use Rattle.gs_chars.specs.declared.memory.Memory.{Memory}
use Rattle.gs_ident.specs.Links.{canonical_link}
use Rattle.gs_linkset.specs.LinkShapes.{ascend, is_context, is_relation, is_target, relation_names}
use Rattle.gs_linkset.specs.declared.link_types.Context.{Context}
use Rattle.gs_links.specs.Loads.{targets_count}
use Rattle.gs_links.specs.Shapes.{is_link, most_links}
use Rattle.gs_links.specs.declared.link.Link.{Link}
use Rattle.gs_merge.specs.Distinct.{distinct, is_same_target}
use Rattle.gs_merge.specs.MergedDocuments.{anchor_text, ascending, context_with, contexts_of, links_at, links_by, merge_answer, merged, relation_with, relations_of, targets_of, with_relation}
use Rattle.gs_merge.specs.declared.error.MergeFault.TheVariants.{TooMany}
use Rattle.gs_merge.proofs.DistinctLemmas.{all_distinct, filter_holds}
use Rattle.gs_merge.proofs.NameSets.{ascend_test, ascending_ascends}
use Rattle.gs_merge.proofs.SameTargets.{target_itself, target_one}
use Rattle.std.proofs.lemmas.Bool.{and_from}
use Rattle.gs_chars.specs.Answers.{OrError}
use Rattle.gs_merge.specs.declared.error.MergeFault.TheVariants as merge

pub link_target : (link : Link) → is_link link ≡ true → is_target link.target ≡ true
unfolding is_link
link_target link h = and_second (is_utf8 link.relation) (is_target link.target) (and_second (is_utf8 (canonical_link link.anchor)) _ h)

link_relation : (link : Link) → is_link link ≡ true → is_utf8 link.relation ≡ true
unfolding is_link
link_relation link h = and_first (is_utf8 link.relation) (is_target link.target) (and_second (is_utf8 (canonical_link link.anchor)) _ h)

link_anchor : (link : Link) → is_link link ≡ true → is_utf8 (anchor_text link) ≡ true
unfolding is_link
link_anchor link h = and_first (is_utf8 (canonical_link link.anchor)) _ h

-- a fact of the texts holds for them in order
module _ (t : List ℕ → Bool) where
  all_put_by : (o : Ordering) (n m : List ℕ) (names : List (List ℕ)) → t n ≡ true → list_all t (m ∷ names) ≡ true
      → list_all t (insert_key (slice_cmp nat_cmp) names n) ≡ true
      → list_all t (match_ordering o (n ∷ m ∷ names) (m ∷ names) (m ∷ insert_key (slice_cmp nat_cmp) names n)) ≡ true
  all_put_by Less n m names own h rest = and_from (t n) (list_all t (m ∷ names)) own h
  all_put_by Equal n m names own h rest = h
  all_put_by Greater n m names own h rest = and_from (t m) (list_all t (insert_key (slice_cmp nat_cmp) names n)) (and_first (t m) (list_all t names) h) rest

  all_put : (n : List ℕ) (names : List (List ℕ)) → t n ≡ true → list_all t names ≡ true → list_all t (insert_key (slice_cmp nat_cmp) names n) ≡ true
  all_put n [] own h = and_from (t n) true own refl
  all_put n (m ∷ names) own h = all_put_by (slice_cmp nat_cmp n m) n m names own h (all_put n names own (and_second (t m) (list_all t names) h))

  all_fold : (names texts : List (List ℕ)) → list_all t names ≡ true → list_all t texts ≡ true
      → list_all t (fold (insert_key (slice_cmp nat_cmp)) names texts) ≡ true
  all_fold names [] h k = h
  all_fold names (x ∷ texts) h k =
      all_fold (insert_key (slice_cmp nat_cmp) names x) texts (all_put x names (and_first (t x) (list_all t texts) k) h) (and_second (t x) (list_all t texts) k)

  pub all_ascending : (texts : List (List ℕ)) → list_all t texts ≡ true → list_all t (ascending texts) ≡ true
  all_ascending texts h = all_fold [] texts refl h

module _ {X Y : Type 0} (p : X → Bool) (q : Y → Bool) (f : X → Y) (each : (x : X) → p x ≡ true → q (f x) ≡ true) where
  pub all_mapped : (xs : List X) → list_all p xs ≡ true → list_all q (map f xs) ≡ true
  all_mapped [] h = refl
  all_mapped (x ∷ xs) h = and_from (q (f x)) (list_all q (map f xs)) (each x (and_first (p x) (list_all p xs) h))
      (all_mapped xs (and_second (p x) (list_all p xs) h))

-- a link of a relation, in its shape
abbrev is_named : Link → Bool
is_named link = not (bytes_eq link.relation (codes "anchor")) && is_link link

abbrev is_name : List ℕ → Bool
is_name name = not (bytes_eq name (codes "anchor")) && is_utf8 name

link_name : (link : Link) → is_named link ≡ true → is_name link.relation ≡ true
link_name link h =
    and_from (not (bytes_eq link.relation (codes "anchor"))) (is_utf8 link.relation)
    (and_first (not (bytes_eq link.relation (codes "anchor"))) (is_link link) h)
    (link_relation link (and_second (not (bytes_eq link.relation (codes "anchor"))) (is_link link) h))

named_link : (link : Link) → is_named link ≡ true → is_link link ≡ true
named_link link h = and_second (not (bytes_eq link.relation (codes "anchor"))) (is_link link) h

relation_shaped : (links : List Link) → list_all is_named links ≡ true → (name : List ℕ) → is_name name ≡ true → is_relation (relation_with links name) ≡ true
unfolding is_relation distinct
relation_shaped links all name h =
    let own = filter_holds is_named (λ l. bytes_eq l.relation name) links all in
    let targets = all_mapped is_named is_target (λ l. l.target) (λ l k. link_target l (named_link l k)) (links_by name links) own in
    let each = all_distinct is_same_target target_itself target_one is_target (targets_of (links_by name links)) targets in
    and_from (not (bytes_eq name (codes "anchor"))) _ (and_first (not (bytes_eq name (codes "anchor"))) (is_utf8 name) h)
    (and_from (is_utf8 name) _ (and_second (not (bytes_eq name (codes "anchor"))) (is_utf8 name) h) each)

own_names : (links : List Link) (names : List (List ℕ)) → relation_names (map (relation_with links) names) ≡ names
own_names links [] = refl
own_names links (n ∷ names) = ap (λ ns. n ∷ ns) (own_names links names)

context_shaped : (links : List Link) → list_all is_named links ≡ true → (text : List ℕ) → is_utf8 text ≡ true → is_context (context_with links text) ≡ true
unfolding is_context
context_shaped links all text h =
    let own = filter_holds is_named (λ l. bytes_eq (anchor_text l) text) links all in
    let names = ascending (map (λ (l : Link). l.relation) (links_at text links)) in
    let named = all_ascending is_name (map (λ (l : Link). l.relation) (links_at text links)) (all_mapped is_named is_name (λ l. l.relation) link_name (links_at text links) own) in
    let up : ascend (relation_names (relations_of (links_at text links))) ≡ true = rw (own_names (links_at text links) names) (ascend_test names (ascending_ascends (map (λ (l : Link). l.relation) (links_at text links)))) in
    and_from (is_utf8 text) _ h (and_from (ascend (relation_names (relations_of (links_at text links)))) _ up (all_mapped is_name is_relation (relation_with (links_at text links)) (relation_shaped (links_at text links) own) names named))

contexts_shaped : (links : List Link) → list_all is_named links ≡ true → list_all is_context (contexts_of links) ≡ true
unfolding contexts_of
contexts_shaped links all =
    let texts = all_ascending is_utf8 (map anchor_text links) (all_mapped is_named is_utf8 anchor_text (λ l k. link_anchor l (named_link l k)) links all) in
    all_mapped is_utf8 is_context (context_with links) (context_shaped links all) (ascending (map anchor_text links)) texts

named_at : (link : Link) (links : List Link) (b : Bool) → not (bytes_eq link.relation (codes "anchor")) ≡ b
    → list_all is_link (if b then link ∷ with_relation links else with_relation links) ≡ true
    → (list_all is_link (with_relation links) ≡ true → list_all is_named (with_relation links) ≡ true) → list_all is_named
    (if b then link ∷ with_relation links else with_relation links) ≡ true
named_at link links true e h rest =
    let own = and_from (not (bytes_eq link.relation (codes "anchor"))) (is_link link) e (and_first (is_link link) (list_all is_link (with_relation links)) h) in
    and_from (is_named link) (list_all is_named (with_relation links)) own (rest (and_second (is_link link) (list_all is_link (with_relation links)) h))
named_at link links false e h rest = rest h

all_named : (links : List Link) → list_all is_link (with_relation links) ≡ true → list_all is_named (with_relation links) ≡ true
all_named [] h = refl
all_named (link ∷ links) h = named_at link links (not (bytes_eq link.relation (codes "anchor"))) refl h (all_named links)

-- the merged document has the shape of one
pub merged_shaped : (a b : List Link) → list_all is_link (with_relation (a ++ b)) ≡ true → list_all is_context (merged a b) ≡ true
unfolding merged
merged_shaped a b h = contexts_shaped (with_relation (a ++ b)) (all_named (a ++ b) h)

pub merged_made : (a b links : List Link) (r : Result (List Context) Memory) → links ≡ with_relation (a ++ b)
    → IfOk r (λ contexts. contexts ≡ contexts_of links) → IfOk r (λ contexts. contexts ≡ merged a b)
unfolding merged
merged_made a b links (Ok contexts) own h = h ∙ ap contexts_of own
merged_made a b links (Err e) own h = h

pub made_shaped : (a b links : List Link) (r : Result (List Context) Memory) → links ≡ with_relation (a ++ b)
    → list_all is_link links ≡ true → IfOk r (λ contexts. contexts ≡ contexts_of links)
    → IfOk r (λ contexts. list_all is_context contexts ≡ true)
unfolding merged
made_shaped a b links (Ok contexts) own shape h = rw (h ∙ ap contexts_of own) (merged_shaped a b (rw own at shape))
made_shaped a b links (Err e) own shape h = h

-- ---- the answer

pub too_many_targets : (a b : List Link) (contexts : List Context) → contexts ≡ merged a b
    → true ≡ nat_lt most_links (targets_count contexts) → OrError merge.Memory (Err TooMany) (merge_answer a b)
unfolding merge_answer
too_many_targets a b contexts own over = let h = rw own at over in rw (← h) (inr refl)

pub few_targets : (a b : List Link) (contexts doc : List Context) → contexts ≡ merged a b → doc ≡ contexts
    → false ≡ nat_lt most_links (targets_count contexts) → OrError merge.Memory (Ok doc) (merge_answer a b)
unfolding merge_answer
few_targets a b contexts doc own made few = let h = rw own at few in rw (← h, made, own) (inr refl)
