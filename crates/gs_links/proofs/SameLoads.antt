-- A document with the links of one that loads loads too, if each of its contexts has a link.
use Rattle.std.proofs.Common.{◌≡◌, ℕ, ◌+◌, ◌&&◌, not, Bool, true, false, List, [], ◌∷◌, ◌++◌, length, map, position, Option, Some, None, refl, sym, ap, ◌∙◌}
use Rattle.std.specs.Prelude.{Result, Ok, Err, if◌then◌else◌, nat_lt}
use Rattle.std.specs.List.{enumerate_from, flat_map, list_all}
use Rattle.std.proofs.lemmas.List.Folds.{list_all-append}
use Rattle.gs_chars.proofs.TruthsAndLists.{and_first, and_second, nil_parts, none_of_both}
use Rattle.gs_chars.specs.Answers.{first_or}
use Rattle.gs_ai.specs.Tables.{is_empty}
use Rattle.gs_ai.specs.declared.row.AiRow.{AiRow}
use Rattle.gs_ident.specs.Elements.{Elements}
use Rattle.gs_linkset.specs.LinkShapes.{links_of_context, links_of_document, links_of_relation}
use Rattle.gs_linkset.specs.declared.link_types.Context.{Context}
use Rattle.gs_linkset.specs.declared.link_types.Relation.{Relation}
use Rattle.gs_linkset.specs.declared.link_types.Target.{Target}
use Rattle.gs_links.specs.Loads.{anchor_answer, anchor_errors, bad_target, context_errors, count_errors, has_link, is_reference, links_of, load_answer, relation_errors, relations_errors, store_errors}
use Rattle.gs_links.specs.Shapes.{most_links}
use Rattle.gs_links.specs.declared.error.AnchorWhy.{AnchorWhy}
use Rattle.gs_links.specs.declared.error.StoreFault.{StoreFault}
use Rattle.gs_links.specs.declared.error.StoreFault.TheVariants.{BadAnchor, BadHref, TooMany}
use Rattle.gs_links.specs.declared.link.Link.{Link as Loaded}
use Rattle.gs_links.proofs.SameLinks.{all_links, link_by}
use Rattle.gs_chars.proofs.Searches.{cons_none, position-cons}
use Rattle.std.proofs.lemmas.Bool.{and_from, not_from_true, not-false}

-- a link of a document
abbrev Triple : Type 0
Triple = List ℕ × List ℕ × Target

-- there is an anchor
abbrev is_anchor : Result Elements AnchorWhy → Bool
is_anchor (Ok identity) = true
is_anchor (Err why) = false

-- a target has a reference
abbrev has_reference : Target → Bool
has_reference target = is_reference target.href

-- the targets of a relation have references
abbrev have_references : Relation → Bool
have_references relation = list_all has_reference relation.targets

-- a link has an anchor and a reference
abbrev is_good : List AiRow → Triple → Bool
is_good table link = is_anchor (anchor_answer table link.0) && has_reference link.2

-- the link of a target
abbrev triple : List ℕ → List ℕ → Target → Triple
triple anchor name target = (anchor, name, target)

-- ---- what the errors of a document say of its links

no_bad : (targets : List Target) → position (λ target. not (is_reference target.href)) targets ≡ None → list_all has_reference targets ≡ true
no_bad [] h = refl
no_bad (t ∷ targets) h =
    let parts = cons_none (λ (target : Target). not (is_reference target.href)) t targets h in
    and_from (has_reference t) (list_all has_reference targets) (not-false (has_reference t) parts.0) (no_bad targets parts.1)

bad_none : (targets : List Target) → list_all has_reference targets ≡ true → position (λ target. not (is_reference target.href)) targets ≡ None
bad_none [] h = refl
bad_none (t ∷ targets) h =
    let own : not (is_reference t.href) ≡ false = not_from_true (has_reference t) (and_first (has_reference t) (list_all has_reference targets) h) in
    rw (position-cons (λ (target : Target). not (is_reference target.href)) t targets, own, bad_none targets (and_second (has_reference t) (list_all has_reference targets) h)) refl

none_bad : (i r : ℕ) (relation : Relation) → relation_errors i r relation ≡ [] → bad_target relation ≡ None
none_bad i r relation h = by (bad_target relation) refl
  where
    by : (o : Option ℕ) → bad_target relation ≡ o → bad_target relation ≡ None
    by None e = e
    by (Some t) e = absurd (let g : BadHref i r t ∷ [] ≡ [] = rw e at h in cc)

good_relations : (i n : ℕ) (relations : List Relation) → flat_map (λ row. relation_errors i row.0 row.1) (enumerate_from n relations) ≡ []
    → list_all have_references relations ≡ true
good_relations i n [] h = refl
good_relations i n (relation ∷ relations) h =
    let parts = nil_parts (relation_errors i n relation) (flat_map (λ row. relation_errors i row.0 row.1) (enumerate_from (n + 1) relations)) h in
    and_from (have_references relation) (list_all have_references relations) (no_bad relation.targets (none_bad i n relation parts.0))
    (good_relations i (n + 1) relations parts.1)

relations_good : (i n : ℕ) (relations : List Relation) → list_all have_references relations ≡ true
    → flat_map (λ row. relation_errors i row.0 row.1) (enumerate_from n relations) ≡ []
relations_good i n [] h = refl
relations_good i n (relation ∷ relations) h =
    let none = bad_none relation.targets (and_first (have_references relation) (list_all have_references relations) h) in
    rw none (relations_good i (n + 1) relations (and_second (have_references relation) (list_all have_references relations) h))

good_anchor : (i : ℕ) (r : Result Elements AnchorWhy) → anchor_errors i r ≡ [] → is_anchor r ≡ true
good_anchor i (Ok x) h = refl
good_anchor i (Err why) h = absurd (let g : BadAnchor i why ∷ [] ≡ [] = h in cc)

anchor_good : (i : ℕ) (r : Result Elements AnchorWhy) → is_anchor r ≡ true → anchor_errors i r ≡ []
anchor_good i (Ok x) h = refl
anchor_good i (Err why) h = absurd (let g : false ≡ true = h in cc)

module _ (table : List AiRow) where
  targets_good : (anchor name : List ℕ) (targets : List Target) → is_anchor (anchor_answer table anchor) ≡ true
      → list_all has_reference targets ≡ true → list_all (is_good table) (map (triple anchor name) targets) ≡ true
  targets_good anchor name [] a h = refl
  targets_good anchor name (t ∷ targets) a h =
      let own = and_from (is_anchor (anchor_answer table anchor)) (has_reference t) a (and_first (has_reference t) (list_all has_reference targets) h) in
      and_from (is_good table (triple anchor name t)) (list_all (is_good table) (map (triple anchor name) targets)) own
      (targets_good anchor name targets a (and_second (has_reference t) (list_all has_reference targets) h))

  links_good : (anchor : List ℕ) (relations : List Relation) → is_anchor (anchor_answer table anchor) ≡ true
      → list_all have_references relations ≡ true → list_all (is_good table) (flat_map (links_of_relation anchor) relations) ≡ true
  links_good anchor [] a h = refl
  links_good anchor (relation ∷ relations) a h =
      let own = targets_good anchor relation.name relation.targets a (and_first (have_references relation) (list_all have_references relations) h) in
      let rest = links_good anchor relations a (and_second (have_references relation) (list_all have_references relations) h) in
      list_all-append (is_good table) (links_of_relation anchor relation) (flat_map (links_of_relation anchor) relations)
      ∙ and_from (list_all (is_good table) (links_of_relation anchor relation))
      (list_all (is_good table) (flat_map (links_of_relation anchor) relations)) own rest

  context_good : (i : ℕ) (context : Context) → context_errors table i context ≡ [] → list_all (is_good table) (links_of_context context) ≡ true
  unfolding context_errors
  context_good i context h =
      let parts = nil_parts (anchor_errors i (anchor_answer table context.anchor)) (relations_errors i context.relations) h in
      links_good context.anchor context.relations (good_anchor i (anchor_answer table context.anchor) parts.0) (good_relations i 0 context.relations parts.1)

  contexts_good : (n : ℕ) (contexts : List Context) → flat_map (λ row. context_errors table row.0 row.1) (enumerate_from n contexts) ≡ []
      → list_all (is_good table) (links_of_document contexts) ≡ true
  contexts_good n [] h = refl
  contexts_good n (context ∷ contexts) h =
      let parts = nil_parts (context_errors table n context) (flat_map (λ row. context_errors table row.0 row.1) (enumerate_from (n + 1) contexts)) h in
      list_all-append (is_good table) (links_of_context context) (links_of_document contexts)
      ∙ and_from (list_all (is_good table) (links_of_context context)) (list_all (is_good table) (links_of_document contexts))
      (context_good n context parts.0) (contexts_good (n + 1) contexts parts.1)

  -- ---- what its links say of the errors of a document

  both_good : (xs ys : List Triple) → list_all (is_good table) (xs ++ ys) ≡ true → (list_all (is_good table) xs ≡ true) × (list_all (is_good table) ys ≡ true)
  both_good xs ys h =
      let both = sym (list_all-append (is_good table) xs ys) ∙ h in
      (and_first (list_all (is_good table) xs) (list_all (is_good table) ys) both, and_second (list_all (is_good table) xs) (list_all (is_good table) ys) both)

  targets_from : (anchor name : List ℕ) (targets : List Target) → list_all (is_good table) (map (triple anchor name) targets) ≡ true
      → list_all has_reference targets ≡ true
  targets_from anchor name [] h = refl
  targets_from anchor name (t ∷ targets) h =
      let own = and_second (is_anchor (anchor_answer table anchor)) (has_reference t) (and_first (is_good table (triple anchor name t)) (list_all (is_good table) (map (triple anchor name) targets)) h) in
      and_from (has_reference t) (list_all has_reference targets) own
      (targets_from anchor name targets (and_second (is_good table (triple anchor name t)) (list_all (is_good table) (map (triple anchor name) targets)) h))

  relations_from : (anchor : List ℕ) (relations : List Relation)
      → list_all (is_good table) (flat_map (links_of_relation anchor) relations) ≡ true → list_all have_references relations ≡ true
  relations_from anchor [] h = refl
  relations_from anchor (relation ∷ relations) h =
      let both = both_good (links_of_relation anchor relation) (flat_map (links_of_relation anchor) relations) h in
      and_from (have_references relation) (list_all have_references relations) (targets_from anchor relation.name relation.targets both.0)
      (relations_from anchor relations both.1)

  anchor_by : (anchor name : List ℕ) (targets : List Target) (rest : List Triple)
      → not (is_empty (map (triple anchor name) targets ++ rest)) ≡ true
      → list_all (is_good table) (map (triple anchor name) targets ++ rest) ≡ true
      → (not (is_empty rest) ≡ true → list_all (is_good table) rest ≡ true → is_anchor (anchor_answer table anchor) ≡ true) → is_anchor
      (anchor_answer table anchor) ≡ true
  anchor_by anchor name [] rest some h next = next some h
  anchor_by anchor name (t ∷ targets) rest some h next =
      and_first (is_anchor (anchor_answer table anchor)) (has_reference t)
      (and_first (is_good table (triple anchor name t)) (list_all (is_good table) (map (triple anchor name) targets ++ rest)) h)

  anchor_from : (anchor : List ℕ) (relations : List Relation) → not (is_empty (flat_map (links_of_relation anchor) relations)) ≡ true
      → list_all (is_good table) (flat_map (links_of_relation anchor) relations) ≡ true → is_anchor (anchor_answer table anchor) ≡ true
  anchor_from anchor [] some h = absurd (let f : false ≡ true = some in cc)
  anchor_from anchor (relation ∷ relations) some h =
      anchor_by anchor relation.name relation.targets (flat_map (links_of_relation anchor) relations) some h
      (λ more good. anchor_from anchor relations more good)

  context_none : (i : ℕ) (context : Context) → has_link context ≡ true → list_all (is_good table) (links_of_context context) ≡ true
      → context_errors table i context ≡ []
  unfolding context_errors
  context_none i context some h =
      none_of_both (anchor_errors i (anchor_answer table context.anchor)) (relations_errors i context.relations)
      (anchor_good i (anchor_answer table context.anchor) (anchor_from context.anchor context.relations some h))
      (relations_good i 0 context.relations (relations_from context.anchor context.relations h))

  contexts_none : (n : ℕ) (contexts : List Context) → list_all has_link contexts ≡ true
      → list_all (is_good table) (links_of_document contexts) ≡ true
      → flat_map (λ row. context_errors table row.0 row.1) (enumerate_from n contexts) ≡ []
  contexts_none n [] some h = refl
  contexts_none n (context ∷ contexts) some h =
      let both = both_good (links_of_context context) (links_of_document contexts) h in
      none_of_both (context_errors table n context) (flat_map (λ row. context_errors table row.0 row.1) (enumerate_from (n + 1) contexts))
      (context_none n context (and_first (has_link context) (list_all has_link contexts) some) both.0)
      (contexts_none (n + 1) contexts (and_second (has_link context) (list_all has_link contexts) some) both.1)

-- ---- the number of targets is that of links

abbrev target_in : Triple → Target
target_in link = link.2

abbrev targets_in : Context → List Target
targets_in context = flat_map (λ relation. relation.targets) context.relations

both_targets : (xs ys : List Triple) → map target_in (xs ++ ys) ≡ map target_in xs ++ map target_in ys
both_targets [] ys = refl
both_targets (x ∷ xs) ys = ap (λ (ts : List Target). target_in x ∷ ts) (both_targets xs ys)

same_targets : (anchor name : List ℕ) (targets : List Target) → map target_in (map (triple anchor name) targets) ≡ targets
same_targets anchor name [] = refl
same_targets anchor name (t ∷ targets) = ap (λ (ts : List Target). t ∷ ts) (same_targets anchor name targets)

relation_targets : (anchor : List ℕ) (relations : List Relation)
    → map target_in (flat_map (links_of_relation anchor) relations) ≡ flat_map (λ relation. relation.targets) relations
relation_targets anchor [] = refl
relation_targets anchor (relation ∷ relations) =
    both_targets (links_of_relation anchor relation) (flat_map (links_of_relation anchor) relations)
    ∙ ap (λ (ts : List Target). ts ++ map target_in (flat_map (links_of_relation anchor) relations)) (same_targets anchor relation.name relation.targets)
    ∙ ap (λ (ts : List Target). relation.targets ++ ts) (relation_targets anchor relations)

all_targets : (contexts : List Context) → map target_in (links_of_document contexts) ≡ flat_map targets_in contexts
all_targets [] = refl
all_targets (context ∷ contexts) =
    both_targets (links_of_context context) (links_of_document contexts)
    ∙ ap (λ (ts : List Target). ts ++ map target_in (links_of_document contexts)) (relation_targets context.anchor context.relations)
    ∙ ap (λ (ts : List Target). targets_in context ++ ts) (all_targets contexts)

same_count : (a b : List Context) → links_of_document a ≡ links_of_document b → count_errors a ≡ count_errors b
same_count a b same =
    let targets : flat_map targets_in a ≡ flat_map targets_in b = sym (all_targets a) ∙ ap (map target_in) same ∙ all_targets b in
    ap (λ (ts : List Target). if nat_lt most_links (length ts) then TooMany ∷ [] else []) targets

-- ---- the answer

loaded_by : (errors : List StoreFault) (made links : List Loaded) → first_or errors made ≡ Ok links → (errors ≡ []) × (made ≡ links)
loaded_by [] made links h = (refl, let g : Ok made ≡ Ok links = h in cc)
loaded_by (error ∷ errors) made links h = absurd (let bad : Err error ≡ Ok links = h in cc)

pub same_load : (table : List AiRow) (voc : List ℕ) (a b : List Context) (links : List Loaded) → links_of_document a ≡ links_of_document b
    → list_all has_link b ≡ true → load_answer table voc a ≡ Ok links → load_answer table voc b ≡ Ok links
unfolding load_answer store_errors links_of
same_load table voc a b links same some h =
    let parts = loaded_by (store_errors table a) (links_of table voc a) links h in
    let none = nil_parts (count_errors a) (flat_map (λ row. context_errors table row.0 row.1) (enumerate_from 0 a)) parts.0 in
    let good : list_all (is_good table) (links_of_document b) ≡ true = ap (list_all (is_good table)) (sym same) ∙ contexts_good table 0 a none.1 in
    let errors : store_errors table b ≡ [] = none_of_both (count_errors b) (flat_map (λ row. context_errors table row.0 row.1) (enumerate_from 0 b)) (sym (same_count a b same) ∙ none.0) (contexts_none table 0 b some good) in
    let made : links_of table voc b ≡ links = sym (all_links table voc b) ∙ ap (flat_map (link_by table voc)) (sym same) ∙ all_links table voc a ∙ parts.1 in
    ap (λ (es : List StoreFault). first_or es (links_of table voc b)) errors ∙ ap (λ (ls : List Loaded). Ok ls) made
