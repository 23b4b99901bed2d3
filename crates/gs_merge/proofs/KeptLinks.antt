-- The links of a store, and those that are loaded again from them.
use Rattle.std.proofs.Common.{◌≡◌, ◌+◌, not, ℕ, Bool, true, false, All, List, [], ◌∷◌, ◌++◌, codes, filter, map, Option, Some, None, refl, sym, ap, ◌∙◌}
use Rattle.std.specs.Prelude.{Result, Ok, Err, if◌then◌else◌, fold, position}
use Rattle.std.specs.BTreeSet.{insert_key}
use Rattle.std.specs.Cmp.Lexicographic.{slice_cmp}
use Rattle.std.specs.List.{enumerate_from, flat_map, list_all}
use Rattle.std.specs.Ordering.{nat_cmp}
use Rattle.std.specs.Str.{bytes_eq}
use Rattle.std.proofs.lemmas.List.{append_assoc}
use Rattle.std.proofs.lemmas.List.Elements.{All-append, All-cons, All-filter, All-head, All-map, All-nil, All-tail, All-weaker}
use Rattle.std.proofs.lemmas.Map.Views.{All-insert_key}
use Rattle.gs_ai.specs.Tables.{KeepsRules, is_empty}
use Rattle.gs_ai.specs.declared.pair.Pair.{Pair}
use Rattle.gs_ai.specs.declared.row.AiRow.{AiRow}
use Rattle.gs_chars.proofs.TruthsAndLists.{and_first, and_second, nil_parts, none_of_both}
use Rattle.gs_dlink.specs.Answers.{by_authority, link_answer, target_answer}
use Rattle.gs_dlink.specs.Uris.{authority_end}
use Rattle.gs_dlink.specs.declared.error.LinkFault.{LinkFault}
use Rattle.gs_dlink.specs.declared.error.LinkFault.TheVariants.{NotHttp}
use Rattle.gs_dlink.proofs.Targets.{target_in_order}
use Rattle.gs_dlink.proofs.WrittenLinks.{canonical_stem_ok, link_read}
use Rattle.gs_ident.specs.Elements.{Elements, pairs_of}
use Rattle.gs_ident.specs.Identities.{IsInOrder, IsMadeWith, identity_of_pairs}
use Rattle.gs_ident.specs.Links.{canonical_link}
use Rattle.gs_ident.specs.declared.errors.IdentFault.{IdentFault}
use Rattle.gs_ident.proofs.IdentityLemmas.{made_with}
use Rattle.gs_linkset.specs.declared.link_types.Context.{Context}
use Rattle.gs_linkset.specs.declared.link_types.Relation.{Relation}
use Rattle.gs_linkset.specs.declared.link_types.Target.{Target}
use Rattle.gs_linkset.proofs.WrittenLemmas.{true_at}
use Rattle.gs_chars.specs.Answers.{first_or}
use Rattle.gs_links.specs.Loads.{anchor_answer, anchor_errors, bad_target, by_identity, by_pairs, context_errors, context_links, count_errors, expanded, is_path, is_reference, keeps_names, link_with, links_of, load_answer, pairs_answer, relation_errors, relation_links, relations_errors, store_errors}
use Rattle.gs_links.specs.declared.error.AnchorWhy.{AnchorWhy}
use Rattle.gs_links.specs.declared.error.AnchorWhy.TheVariants.{Link as NoLink, Ident, Attributes}
use Rattle.gs_links.specs.declared.error.StoreFault.{StoreFault}
use Rattle.gs_links.specs.declared.link.Link.{Link}
use Rattle.gs_links.proofs.LoadLemmas.{links_are}
use Rattle.gs_links.proofs.VocabularyLemmas.{expanded_once}
use Rattle.gs_merge.specs.Distinct.{distinct, is_same_target}
use Rattle.gs_merge.specs.MergedDocuments.{anchor_text, ascending, context_with, contexts_of, is_too_many, links_at, links_by, relation_with, relations_of, targets_of}
use Rattle.gs_merge.specs.Stores.{targets_at, targets_in}
use Rattle.gs_merge.proofs.DistinctLemmas.{all_distinct}
use Rattle.gs_merge.proofs.SameTargets.{target_itself, target_one}
use Rattle.gs_merge.proofs.TargetsAt.{targets_append}
use Rattle.gs_chars.proofs.Searches.{cons_none, position_none}
use Rattle.std.proofs.lemmas.Bool.{and_from, not_from_true, not-false}

-- ---- anchors are read again

pair_list_in_order : (table : List AiRow) (text : List ℕ) (o : Option ℕ) (pairs : List Pair) → by_authority table text o ≡ Ok pairs
    → All (IsInOrder table) pairs
pair_list_in_order table text None pairs h = absurd (let bad : Err NotHttp ≡ Ok pairs = h in cc)
pair_list_in_order table text (Some at) pairs h = target_in_order table at _ pairs h

anchor_pairs_by : (table : List AiRow) (text : List ℕ) (pairs : List Pair) (b : Bool)
    → (if b then target_answer table 0 text else link_answer table text) ≡ Ok pairs → All (IsInOrder table) pairs
unfolding link_answer
anchor_pairs_by table text pairs true h = target_in_order table 0 text pairs h
anchor_pairs_by table text pairs false h = pair_list_in_order table text (authority_end text) pairs h

anchor_pairs : (table : List AiRow) (text : List ℕ) (pairs : List Pair) → pairs_answer table text ≡ Ok pairs → All (IsInOrder table) pairs
unfolding pairs_answer
anchor_pairs table text pairs h = anchor_pairs_by table text pairs (is_path text) h

bare_is : (identity x : Elements) (b : Bool) → is_empty identity.attributes ≡ b → (if b then Ok identity else Err Attributes) ≡ Ok x
    → (identity ≡ x) × (is_empty identity.attributes ≡ true)
bare_is identity x true e h = (let g : Ok identity ≡ Ok x = h in cc, e)
bare_is identity x false e h = absurd (let bad : Err Attributes ≡ Ok x = h in cc)

made_by_identity : (r : Result Elements IdentFault) (x : Elements) → by_identity r ≡ Ok x → (r ≡ Ok x) × (is_empty x.attributes ≡ true)
made_by_identity (Ok identity) x h =
    let parts = bare_is identity x (is_empty identity.attributes) refl h in
    (ap (λ (e : Elements). Ok e) parts.0, (ap (λ (e : Elements). is_empty e.attributes) (sym parts.0)) ∙ parts.1)
made_by_identity (Err error) x h = absurd (let bad : Err (Ident error) ≡ Ok x = h in cc)

made_anchor_by : (table : List AiRow) (r : Result (List Pair) LinkFault) (x : Elements) → by_pairs table r ≡ Ok x
    → ((pairs : List Pair) → r ≡ Ok pairs → All (IsInOrder table) pairs) → IsMadeWith table x × (is_empty x.attributes ≡ true)
made_anchor_by table (Ok pairs) x h in_order =
    let parts = made_by_identity (identity_of_pairs table pairs) x h in
    (made_with table pairs x (in_order pairs refl) parts.0, parts.1)
made_anchor_by table (Err error) x h in_order = absurd (let bad : Err (NoLink error) ≡ Ok x = h in cc)

made_anchor : (table : List AiRow) (text : List ℕ) (x : Elements) → anchor_answer table text ≡ Ok x → IsMadeWith table x × (is_empty x.attributes ≡ true)
unfolding anchor_answer
made_anchor table text x h = made_anchor_by table (pairs_answer table text) x h (anchor_pairs table text)

canonical_pairs : (table : List AiRow) → KeepsRules table → (x : Elements) → IsMadeWith table x → pairs_answer table (canonical_link x) ≡ Ok (pairs_of x)
unfolding pairs_answer
canonical_pairs table rules x made = link_read table rules x made (codes "https://id.gs1.org") canonical_stem_ok

-- an anchor's canonical link is an anchor, and the same
pub anchor_again : (table : List AiRow) → KeepsRules table → (text : List ℕ) (x : Elements) → anchor_answer table text ≡ Ok x
    → anchor_answer table (canonical_link x) ≡ Ok x
unfolding anchor_answer
anchor_again table rules text x h =
    let parts = made_anchor table text x h in
    rw (canonical_pairs table rules x parts.0, parts.0.given_back, parts.1) refl

-- ---- kept links

-- a link's anchor is read from its canonical link, its relation is expanded, and its target has a reference
pub record IsKept (table : List AiRow) (voc : List ℕ) (link : Link) : Type 0 where
  pub answer : anchor_answer table (anchor_text link) ≡ Ok link.anchor
  pub settled : expanded voc link.relation ≡ link.relation
  pub reference : is_reference link.target.href ≡ true

no_target : (targets : List Target) → position (λ target. not (is_reference target.href)) targets ≡ None
    → list_all (λ target. is_reference target.href) targets ≡ true
no_target [] h = refl
no_target (t ∷ targets) h =
    let parts = cons_none (λ (target : Target). not (is_reference target.href)) t targets h in
    and_from (is_reference t.href) _ (not-false (is_reference t.href) parts.0) (no_target targets parts.1)

all_targets : (targets : List Target) → list_all (λ target. is_reference target.href) targets ≡ true
    → position (λ target. not (is_reference target.href)) targets ≡ None
all_targets targets h =
    position_none (λ (target : Target). not (is_reference target.href)) targets
    (λ j t at. not_from_true (is_reference t.href) (true_at (λ (target : Target). is_reference target.href) targets j t h at))

relation_good : (i r : ℕ) (relation : Relation) (o : Option ℕ) → bad_target relation ≡ o → relation_errors i r relation ≡ [] → bad_target relation ≡ None
relation_good i r relation None e h = e
relation_good i r relation (Some t) e h = absurd (let g = rw e at h in cc)

-- the references of relations without errors
good_relations : (i n : ℕ) (relations : List Relation) → flat_map (λ row. relation_errors i row.0 row.1) (enumerate_from n relations) ≡ []
    → list_all (λ relation. list_all (λ target. is_reference target.href) relation.targets) relations ≡ true
good_relations i n [] h = refl
good_relations i n (relation ∷ relations) h =
    let parts = nil_parts (relation_errors i n relation) (flat_map (λ row. relation_errors i row.0 row.1) (enumerate_from (n + 1) relations)) h in
    and_from (list_all (λ (target : Target). is_reference target.href) relation.targets) _
    (no_target relation.targets (relation_good i n relation (bad_target relation) refl parts.0))
    (good_relations i (n + 1) relations parts.1)

relations_good : (i n : ℕ) (relations : List Relation)
    → list_all (λ relation. list_all (λ target. is_reference target.href) relation.targets) relations ≡ true
    → flat_map (λ row. relation_errors i row.0 row.1) (enumerate_from n relations) ≡ []
relations_good i n [] h = refl
relations_good i n (relation ∷ relations) h =
    let none = all_targets relation.targets (and_first (list_all (λ (target : Target). is_reference target.href) relation.targets) _ h) in
    rw none (relations_good i (n + 1) relations (and_second (list_all (λ (target : Target). is_reference target.href) relation.targets) _ h))

good_anchor : (i : ℕ) (r : Result Elements AnchorWhy) → anchor_errors i r ≡ [] → (x : Elements) × (r ≡ Ok x)
good_anchor i (Ok x) h = (x, refl)
good_anchor i (Err why) h = absurd (cc)

module _ (table : List AiRow) (rules : KeepsRules table) (voc : List ℕ) (keeps : keeps_names voc ≡ true) where
  target_links_kept : (x : Elements) (name : List ℕ) (targets : List Target) → anchor_answer table (canonical_link x) ≡ Ok x
      → list_all (λ target. is_reference target.href) targets ≡ true
      → All (IsKept table voc) (map (link_with x (expanded voc name)) targets)
  target_links_kept x name [] own h = All-nil (IsKept table voc)
  target_links_kept x name (t ∷ targets) own h =
      let kept : IsKept table voc (link_with x (expanded voc name) t) = record {
        answer = own;
        settled = expanded_once voc name keeps;
        reference = and_first (is_reference t.href) _ h;
      } in
      All-cons (IsKept table voc) (link_with x (expanded voc name) t) (map (link_with x (expanded voc name)) targets) kept
      (target_links_kept x name targets own (and_second (is_reference t.href) _ h))

  relation_links_kept : (x : Elements) (relations : List Relation) → anchor_answer table (canonical_link x) ≡ Ok x
      → list_all (λ relation. list_all (λ target. is_reference target.href) relation.targets) relations ≡ true
      → All (IsKept table voc) (flat_map (relation_links voc x) relations)
  relation_links_kept x [] own h = All-nil (IsKept table voc)
  relation_links_kept x (relation ∷ relations) own h =
      All-append (IsKept table voc) (relation_links voc x relation) (flat_map (relation_links voc x) relations)
      (target_links_kept x relation.name relation.targets own (and_first (list_all (λ (target : Target). is_reference target.href) relation.targets) _ h))
      (relation_links_kept x relations own (and_second (list_all (λ (target : Target). is_reference target.href) relation.targets) _ h))

  context_links_kept : (i : ℕ) (context : Context) → context_errors table i context ≡ [] → All (IsKept table voc) (context_links table voc context)
  unfolding context_errors
  context_links_kept i context h =
      let parts = nil_parts (anchor_errors i (anchor_answer table context.anchor)) (relations_errors i context.relations) h in
      let anchor = good_anchor i (anchor_answer table context.anchor) parts.0 in
      let again = anchor_again table rules context.anchor anchor.0 anchor.1 in
      let kept = relation_links_kept anchor.0 context.relations again (good_relations i 0 context.relations parts.1) in
      rw (links_are table voc context anchor.0 (sym anchor.1)) kept

  all_links_kept : (n : ℕ) (contexts : List Context) → flat_map (λ row. context_errors table row.0 row.1) (enumerate_from n contexts) ≡ []
      → All (IsKept table voc) (flat_map (context_links table voc) contexts)
  all_links_kept n [] h = All-nil (IsKept table voc)
  all_links_kept n (context ∷ contexts) h =
      let parts = nil_parts (context_errors table n context) (flat_map (λ row. context_errors table row.0 row.1) (enumerate_from (n + 1) contexts)) h in
      All-append (IsKept table voc) (context_links table voc context) (flat_map (context_links table voc) contexts)
      (context_links_kept n context parts.0) (all_links_kept (n + 1) contexts parts.1)

  loaded_by : (errors : List StoreFault) (made links : List Link) → first_or errors made ≡ Ok links → (errors ≡ []) × (made ≡ links)
  loaded_by [] made links h = (refl, let g : Ok made ≡ Ok links = h in cc)
  loaded_by (f ∷ errors) made links h = absurd (let bad : Err f ≡ Ok links = h in cc)

  -- the links of a store are kept
  pub store_kept : (contexts : List Context) (links : List Link) → load_answer table voc contexts ≡ Ok links → All (IsKept table voc) links
  unfolding load_answer store_errors links_of
  store_kept contexts links h =
      let parts = loaded_by (store_errors table contexts) (flat_map (context_links table voc) contexts) links h in
      let none = nil_parts (count_errors contexts) (flat_map (λ row. context_errors table row.0 row.1) (enumerate_from 0 contexts)) parts.0 in
      rw (← parts.1) (all_links_kept 0 contexts none.1)

  pub links_are_those : (contexts : List Context) (links : List Link) → load_answer table voc contexts ≡ Ok links → links_of table voc contexts ≡ links
  unfolding load_answer
  links_are_those contexts links h = (loaded_by (store_errors table contexts) (links_of table voc contexts) links h).1

-- ---- contexts that load unchanged

-- a relation that is expanded, and whose targets have references
pub record IsSettledRelation (voc : List ℕ) (relation : Relation) : Type 0 where
  pub settled : expanded voc relation.name ≡ relation.name
  pub references : list_all (λ target. is_reference target.href) relation.targets ≡ true

-- a context whose anchor is the canonical link of its identity, and whose relations load unchanged
pub record IsSettled (table : List AiRow) (voc : List ℕ) (context : Context) : Type 0 where
  pub identity : Elements
  pub answer : anchor_answer table context.anchor ≡ Ok identity
  pub own : canonical_link identity ≡ context.anchor
  pub relations : All (IsSettledRelation voc) context.relations

module _ (P : List ℕ → Type 0) where
  all_fold : (names texts : List (List ℕ)) → All P names → All P texts → All P (fold (insert_key (slice_cmp nat_cmp)) names texts)
  all_fold names [] h k = h
  all_fold names (t ∷ texts) h k =
      all_fold (insert_key (slice_cmp nat_cmp) names t) texts (All-insert_key (slice_cmp nat_cmp) t P names h (All-head P t texts k)) (All-tail P t texts k)

  all_ascending : (texts : List (List ℕ)) → All P texts → All P (ascending texts)
  all_ascending texts h = all_fold [] texts (All-nil P) h

module _ (table : List AiRow) (voc : List ℕ) where
  kept_references : (links : List Link) → All (IsKept table voc) links → list_all (λ target. is_reference target.href) (targets_of links) ≡ true
  kept_references [] h = refl
  kept_references (link ∷ links) h =
      and_from (is_reference link.target.href) _ (All-head (IsKept table voc) link links h).reference
      (kept_references links (All-tail (IsKept table voc) link links h))

  relation_settled : (links : List Link) → All (IsKept table voc) links → (name : List ℕ) → expanded voc name ≡ name
      → IsSettledRelation voc (relation_with links name)
  unfolding distinct
  relation_settled links h name e = record {
    settled = e;
    references = all_distinct is_same_target target_itself target_one (λ target. is_reference target.href)
        (targets_of (links_by name links)) (kept_references (links_by name links) (All-filter (λ l. bytes_eq l.relation name) (IsKept table voc) links h));
  }

  relations_settled : (links : List Link) → All (IsKept table voc) links → All (IsSettledRelation voc) (relations_of links)
  relations_settled links h =
      let names = all_ascending (λ n. expanded voc n ≡ n) (map (λ (l : Link). l.relation) links) (All-map (λ n. expanded voc n ≡ n) (λ (l : Link). l.relation) links (All-weaker (IsKept table voc) (λ l. expanded voc l.relation ≡ l.relation) (λ l k. k.settled) links h)) in
      All-map (IsSettledRelation voc) (relation_with links) (ascending (map (λ (l : Link). l.relation) links))
      (All-weaker (λ n. expanded voc n ≡ n) (λ n. IsSettledRelation voc (relation_with links n)) (relation_settled links h) (ascending (map (λ (l : Link). l.relation) links)) names)

  -- a text that is the canonical link of its identity
  record IsAnchorText (text : List ℕ) : Type 0 where
    identity : Elements
    answer : anchor_answer table text ≡ Ok identity
    own : canonical_link identity ≡ text

  context_settled : (links : List Link) → All (IsKept table voc) links → (text : List ℕ) → IsAnchorText text → IsSettled table voc (context_with links text)
  context_settled links h text t = record {
    identity = t.identity;
    answer = t.answer;
    own = t.own;
    relations = relations_settled (links_at text links) (All-filter (λ l. bytes_eq (anchor_text l) text) (IsKept table voc) links h);
  }

  pub contexts_settled : (links : List Link) → All (IsKept table voc) links → All (IsSettled table voc) (contexts_of links)
  unfolding contexts_of
  contexts_settled links h =
      let texts = all_ascending IsAnchorText (map anchor_text links) (All-map IsAnchorText anchor_text links (All-weaker (IsKept table voc) (λ l. IsAnchorText (anchor_text l)) (λ l k. record { identity = l.anchor; answer = k.answer; own = refl }) links h)) in
      All-map (IsSettled table voc) (context_with links) (ascending (map anchor_text links))
      (All-weaker IsAnchorText (λ t. IsSettled table voc (context_with links t)) (context_settled links h) (ascending (map anchor_text links)) texts)

  -- ---- they load

  settled_references : (relations : List Relation) → All (IsSettledRelation voc) relations
      → list_all (λ relation. list_all (λ target. is_reference target.href) relation.targets) relations ≡ true
  settled_references [] h = refl
  settled_references (relation ∷ relations) h =
      and_from (list_all (λ (target : Target). is_reference target.href) relation.targets) _
      (All-head (IsSettledRelation voc) relation relations h).references
      (settled_references relations (All-tail (IsSettledRelation voc) relation relations h))

  no_context_error : (i : ℕ) (context : Context) → IsSettled table voc context → context_errors table i context ≡ []
  unfolding context_errors
  no_context_error i context h = rw (h.answer) (relations_good i 0 context.relations (settled_references context.relations h.relations))

  no_errors : (n : ℕ) (contexts : List Context) → All (IsSettled table voc) contexts
      → flat_map (λ row. context_errors table row.0 row.1) (enumerate_from n contexts) ≡ []
  no_errors n [] h = refl
  no_errors n (context ∷ contexts) h =
      none_of_both (context_errors table n context) (flat_map (λ row. context_errors table row.0 row.1) (enumerate_from (n + 1) contexts))
      (no_context_error n context (All-head (IsSettled table voc) context contexts h))
      (no_errors (n + 1) contexts (All-tail (IsSettled table voc) context contexts h))

  pub settled_load : (contexts : List Context) → All (IsSettled table voc) contexts → is_too_many contexts ≡ false
      → load_answer table voc contexts ≡ Ok (links_of table voc contexts)
  unfolding load_answer store_errors
  settled_load contexts h few = rw (few, no_errors 0 contexts h) refl

  -- ---- with the targets that they have

  module _ (text name : List ℕ) where
    target_links_by : (x : Elements) (own : List ℕ) (a b : Bool) → bytes_eq (canonical_link x) text ≡ a → bytes_eq own name ≡ b → (targets : List Target)
        → targets_at (map (link_with x own) targets) text name ≡ (if a then (if b then targets else []) else [])
    target_links_by x own true true e f [] = refl
    target_links_by x own true false e f [] = refl
    target_links_by x own false b e f [] = refl
    target_links_by x own true true e f (t ∷ targets) = rw (e, f) (ap (λ ts. t ∷ ts) (target_links_by x own true true e f targets))
    target_links_by x own true false e f (t ∷ targets) = rw (e, f) (target_links_by x own true false e f targets)
    target_links_by x own false b e f (t ∷ targets) = rw e (target_links_by x own false b e f targets)

    abbrev named_targets : List Relation → List Target
    named_targets relations = flat_map (λ (r : Relation). r.targets) (filter (λ (r : Relation). bytes_eq r.name name) relations)

    more_by : (relation : Relation) (relations : List Relation) (a b : Bool) → bytes_eq relation.name name ≡ b
        → (if a then (if b then relation.targets else []) else []) ++ (if a then named_targets relations else []) ≡ (if a then named_targets (relation ∷ relations) else [])
    more_by relation relations true true e = rw e refl
    more_by relation relations true false e = rw e refl
    more_by relation relations false b e = refl

    relation_links_at : (x : Elements) (a : Bool) → bytes_eq (canonical_link x) text ≡ a → (relations : List Relation) → All (IsSettledRelation voc) relations
        → targets_at (flat_map (relation_links voc x) relations) text name ≡ (if a then named_targets relations else [])
    relation_links_at x true e [] h = refl
    relation_links_at x false e [] h = refl
    relation_links_at x a e (relation ∷ relations) h =
        let settled = (All-head (IsSettledRelation voc) relation relations h).settled in
        targets_append (relation_links voc x relation) (flat_map (relation_links voc x) relations) text name
        ∙ ap (λ ts. ts ++ targets_at (flat_map (relation_links voc x) relations) text name)
        (ap (λ n. targets_at (map (link_with x n) relation.targets) text name) settled ∙ target_links_by x relation.name a (bytes_eq relation.name name) e refl relation.targets)
        ∙ ap (λ ts. (if a then (if bytes_eq relation.name name then relation.targets else []) else []) ++ ts)
        (relation_links_at x a e relations (All-tail (IsSettledRelation voc) relation relations h))
        ∙ more_by relation relations a (bytes_eq relation.name name) refl

    context_links_at : (context : Context) → IsSettled table voc context
        → targets_at (context_links table voc context) text name ≡ (if bytes_eq context.anchor text then named_targets context.relations else [])
    context_links_at context h =
        ap (λ ls. targets_at ls text name) (links_are table voc context h.identity (sym h.answer))
        ∙ relation_links_at h.identity (bytes_eq (canonical_link h.identity) text) refl context.relations h.relations
        ∙ ap (λ t. if bytes_eq t text then named_targets context.relations else []) h.own

    contexts_by : (context : Context) (contexts : List Context) (a : Bool) → bytes_eq context.anchor text ≡ a
        → (if a then named_targets context.relations else []) ++ targets_in contexts text name ≡ targets_in (context ∷ contexts) text name
    contexts_by context contexts true e = rw e (sym (named_append context.relations (flat_map (λ (c : Context). c.relations) (filter (λ (c : Context). bytes_eq c.anchor text) contexts))))
      where
        named_append : (xs ys : List Relation) → named_targets (xs ++ ys) ≡ named_targets xs ++ named_targets ys
        named_append [] ys = refl
        named_append (r ∷ xs) ys = named_by r xs ys (bytes_eq r.name name) (named_append xs ys)
          where
            named_by : (r : Relation) (xs ys : List Relation) (b : Bool) → named_targets (xs ++ ys) ≡ named_targets xs ++ named_targets ys
                → flat_map (λ (r : Relation). r.targets) (if b then r ∷ filter (λ (r : Relation). bytes_eq r.name name) (xs ++ ys) else filter (λ (r : Relation). bytes_eq r.name name) (xs ++ ys))
                ≡ flat_map (λ (r : Relation). r.targets) (if b then r ∷ filter (λ (r : Relation). bytes_eq r.name name) xs else filter (λ (r : Relation). bytes_eq r.name name) xs) ++ named_targets ys
            named_by r xs ys true h = ap (λ ts. r.targets ++ ts) h ∙ sym (append_assoc r.targets (named_targets xs) (named_targets ys))
            named_by r xs ys false h = h
    contexts_by context contexts false e = rw e refl

    settled_targets : (contexts : List Context) → All (IsSettled table voc) contexts
        → targets_at (flat_map (context_links table voc) contexts) text name ≡ targets_in contexts text name
    settled_targets [] h = refl
    settled_targets (context ∷ contexts) h =
        targets_append (context_links table voc context) (flat_map (context_links table voc) contexts) text name
        ∙ ap (λ ts. ts ++ targets_at (flat_map (context_links table voc) contexts) text name)
        (context_links_at context (All-head (IsSettled table voc) context contexts h))
        ∙ ap (λ ts. (if bytes_eq context.anchor text then named_targets context.relations else []) ++ ts)
        (settled_targets contexts (All-tail (IsSettled table voc) context contexts h))
        ∙ contexts_by context contexts (bytes_eq context.anchor text) refl

    -- the links of the contexts have the targets that the contexts have
    pub loaded_targets : (contexts : List Context) → All (IsSettled table voc) contexts
        → targets_at (links_of table voc contexts) text name ≡ targets_in contexts text name
    unfolding links_of
    loaded_targets contexts h = settled_targets contexts h
