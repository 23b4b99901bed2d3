-- Contexts, one link more.
use Rattle.std.proofs.Common.{◌≡◌, ℕ, ◌==◌, ◌&&◌, ◌||◌, not, Bool, true, false, List, [], ◌∷◌, ◌++◌, length, map, bytes_eq, refl, ap, sym, ◌∙◌, append_assoc, append-nil, arith, Ordering, Less, Equal, Greater}
use Rattle.std.specs.List.{flat_map, list_all}
use Rattle.std.specs.Cmp.Lexicographic.{nat_list_cmp_total, slice_cmp}
use Rattle.std.specs.Ordering.{is_eq, nat_cmp, ordering_reverse}
use Rattle.std.proofs.lemmas.Map.Text.{is_eq-slice_cmp}
use Rattle.std.proofs.lemmas.Grind.{flat_map-append}
use Rattle.std.proofs.lemmas.Bool.Decides.{nat_tests}
use Rattle.gs_linkset.specs.LinkShapes.{ascend, is_below, links_of_context, links_of_document, links_of_relation, relation_names}
use Rattle.gs_linkset.specs.declared.link_types.Context.{Context}
use Rattle.gs_linkset.specs.declared.link_types.Relation.{Relation}
use Rattle.gs_linkset.specs.declared.link_types.Target.{Target}
use Rattle.gs_linktext.specs.Contexts.{are_apart, ascends, first_name, has_target, is_apart, is_full, last_name, IsCut}
use Rattle.gs_linktext.specs.Cuts.{context_with, relation_with, takes, IsMore}
use Rattle.gs_linktext_grammar.specs.Grammar.{is_some_part}
use Rattle.gs_chars.proofs.TruthsAndLists.{and_first, and_second, equal_bytes}
use Rattle.gs_linkset.proofs.ReadLemmas.{all_more}
use Rattle.std.proofs.lemmas.Bool.{and_from, not_from_false}

-- a link: its anchor, its relation type and its target
abbrev Link : Type 0
Link = List ℕ × List ℕ × Target

pub last_of : (xs : List Relation) (x : Relation) → last_name (xs ++ x ∷ []) ≡ x.name
last_of [] x = refl
last_of (y ∷ []) x = refl
last_of (y ∷ z ∷ xs) x = last_of (z ∷ xs) x

some_snoc : {X : Type 0} (xs : List X) (x : X) → is_some_part (xs ++ x ∷ []) ≡ true
some_snoc [] x = refl
some_snoc (y ∷ xs) x = let f : (length (y ∷ (xs ++ x ∷ [])) == 0) ≡ false = grind (arith, nat_tests) in not_from_false (length (y ∷ (xs ++ x ∷ [])) == 0) f

all_prefix : {X : Type 0} (t : X → Bool) (xs : List X) (x : X) → list_all t (xs ++ x ∷ []) ≡ true → (list_all t xs ≡ true) × (t x ≡ true)
all_prefix t [] x h = (refl, and_first (t x) true h)
all_prefix t (y ∷ xs) x h =
    let rest = all_prefix t xs x (and_second (t y) (list_all t (xs ++ x ∷ [])) h) in
    (and_from (t y) (list_all t xs) (and_first (t y) (list_all t (xs ++ x ∷ [])) h) rest.0, rest.1)

flat_snoc : {X : Type 0} (f : X → List Link) (xs : List X) (x : X) → flat_map f (xs ++ x ∷ []) ≡ flat_map f xs ++ f x
flat_snoc f xs x = flat_map-append f xs (x ∷ []) ∙ ap (λ (ys : List Link). flat_map f xs ++ ys) (append-nil (f x))

map_snoc : {X : Type 0} (f : X → Link) (xs : List X) (x : X) → map f (xs ++ x ∷ []) ≡ map f xs ++ f x ∷ []
map_snoc f [] x = refl
map_snoc f (y ∷ xs) x = ap (λ (ys : List Link). f y ∷ ys) (map_snoc f xs x)

-- ---- names that ascend

some_cons : {X : Type 0} (x : X) (xs : List X) → is_some_part (x ∷ xs) ≡ true
some_cons x xs = let f : (length (x ∷ xs) == 0) ≡ false = grind (arith, nat_tests) in not_from_false (length (x ∷ xs) == 0) f

ascend_more : (relations : List Relation) (more : Relation) → ascend (relation_names relations) ≡ true
    → (is_some_part relations ≡ true → is_below (last_name relations) more.name ≡ true)
    → ascend (relation_names (relations ++ more ∷ [])) ≡ true
ascend_more [] more h above = refl
ascend_more (x ∷ []) more h above = and_from (is_below x.name more.name) true (above refl) refl
ascend_more (x ∷ y ∷ relations) more h above =
    and_from (is_below x.name y.name) (ascend (relation_names ((y ∷ relations) ++ more ∷ [])))
    (and_first (is_below x.name y.name) (ascend (relation_names (y ∷ relations))) h)
    (ascend_more (y ∷ relations) more (and_second (is_below x.name y.name) (ascend (relation_names (y ∷ relations))) h) (λ some. above (some_cons x (y ∷ relations))))

-- a name that is neither below another nor equal to it is above it
above_by : (last name : List ℕ) (o : Ordering) → slice_cmp nat_cmp last name ≡ o → bytes_eq last name ≡ false
    → not (is_below name last) ≡ true → is_below last name ≡ true
above_by last name Less e apart not_below = rw e refl
above_by last name Equal e apart not_below = absurd (let f : true ≡ false = sym (ap is_eq e) ∙ is_eq-slice_cmp last name ∙ apart in cc)
above_by last name Greater e apart not_below =
    let less : slice_cmp nat_cmp name last ≡ Less = nat_list_cmp_total.antisymm name last ∙ ap ordering_reverse e in
    absurd (let f : false ≡ true = (rw less at not_below) in cc)

same_names : (qs : List Relation) (r s : Relation) → s.name ≡ r.name → relation_names (qs ++ s ∷ []) ≡ relation_names (qs ++ r ∷ [])
same_names [] r s h = ap (λ (n : List ℕ). n ∷ []) h
same_names (q ∷ qs) r s h = ap (λ (ns : List (List ℕ)). q.name ∷ ns) (same_names qs r s h)

-- ---- a context with one link more

pub more_relation : (old new : Context) (name : List ℕ) (target : Target) → new.anchor ≡ old.anchor
    → new.relations ≡ old.relations ++ relation_with name target ∷ []
    → (is_some_part old.relations ≡ true → bytes_eq (last_name old.relations) name ≡ false) → IsMore old new name target
more_relation old new name target a r apart = record { links = links; anchor = a; full = full; first = first; ascending = ascending }
  where
    links : links_of_context new ≡ links_of_context old ++ (old.anchor, name, target) ∷ []
    links = ap (λ b. flat_map (links_of_relation b) new.relations) a ∙ ap (flat_map (links_of_relation old.anchor)) r ∙ flat_snoc
        (links_of_relation old.anchor) old.relations (relation_with name target)

    full : is_full old ≡ true → is_full new ≡ true
    full h = rw r (and_from (is_some_part (old.relations ++ relation_with name target ∷ [])) (list_all has_target (old.relations ++ relation_with name target ∷ [])) (some_snoc old.relations (relation_with name target))
        (all_more has_target old.relations (relation_with name target) (and_second (is_some_part old.relations) (list_all has_target old.relations) h) refl))

    ascending : not (is_below name (last_name old.relations)) ≡ true → ascends old ≡ true → ascends new ≡ true
    ascending not_below h = rw r (ascend_more old.relations (relation_with name target) h (λ some. above_by (last_name old.relations) name (slice_cmp nat_cmp (last_name old.relations) name) refl (apart some) not_below))

    first_by : (rs : List Relation) (x : Relation) → is_some_part rs ≡ true → first_name (rs ++ x ∷ []) ≡ first_name rs
    first_by [] x h = absurd (let f : false ≡ true = h in cc)
    first_by (q ∷ rs) x h = refl

    first : is_full old ≡ true → first_name new.relations ≡ first_name old.relations
    first h = ap first_name r ∙ first_by old.relations (relation_with name target)
        (and_first (is_some_part old.relations) (list_all has_target old.relations) h)

pub more_target : (old new : Context) (name : List ℕ) (target : Target) (qs : List Relation) (r s : Relation) → new.anchor ≡ old.anchor
    → old.relations ≡ qs ++ r ∷ [] → r.name ≡ name → s.name ≡ r.name → s.targets ≡ r.targets ++ target ∷ [] → new.relations ≡ qs ++ s ∷ []
    → IsMore old new name target
more_target old new name target qs r s a before own same more after = record { links = links; anchor = a; full = full; first = first; ascending = ascending }
  where
    with_name : List ℕ → Target → Link
    with_name n t = (old.anchor, n, t)

    of_relation : links_of_relation old.anchor s ≡ links_of_relation old.anchor r ++ (old.anchor, name, target) ∷ []
    of_relation = ap (λ n. map (with_name n) s.targets) same ∙ ap (map (with_name r.name)) more ∙ map_snoc
        (with_name r.name) r.targets target ∙ ap (λ n. map (with_name r.name) r.targets ++ with_name n target ∷ []) own

    links : links_of_context new ≡ links_of_context old ++ (old.anchor, name, target) ∷ []
    links =
        ap (λ b. flat_map (links_of_relation b) new.relations) a ∙ ap (flat_map (links_of_relation old.anchor)) after ∙ flat_snoc
        (links_of_relation old.anchor) qs s ∙ ap (λ (ls : List Link). flat_map (links_of_relation old.anchor) qs ++ ls) of_relation
        ∙ sym (append_assoc (flat_map (links_of_relation old.anchor) qs) (links_of_relation old.anchor r) ((old.anchor, name, target) ∷ []))
        ∙ ap (λ (ls : List Link). ls ++ (old.anchor, name, target) ∷ [])
        (sym (flat_snoc (links_of_relation old.anchor) qs r) ∙ sym (ap (flat_map (links_of_relation old.anchor)) before))

    full : is_full old ≡ true → is_full new ≡ true
    full h =
        let all : list_all has_target (qs ++ r ∷ []) ≡ true = (rw before at (and_second (is_some_part old.relations) (list_all has_target old.relations) h)) in
        let some : has_target s ≡ true = ap is_some_part more ∙ some_snoc r.targets target in
        rw after (and_from (is_some_part (qs ++ s ∷ [])) (list_all has_target (qs ++ s ∷ [])) (some_snoc qs s) (all_more has_target qs s (all_prefix has_target qs r all).0 some))

    ascending : not (is_below name (last_name old.relations)) ≡ true → ascends old ≡ true → ascends new ≡ true
    ascending not_below h = ap (λ rs. ascend (relation_names rs)) after ∙ ap ascend (same_names qs r s same) ∙ sym
        (ap (λ rs. ascend (relation_names rs)) before) ∙ h

    first_by : (rs : List Relation) → first_name (rs ++ s ∷ []) ≡ first_name (rs ++ r ∷ [])
    first_by [] = same
    first_by (q ∷ rs) = refl

    first : is_full old ≡ true → first_name new.relations ≡ first_name old.relations
    first h = ap first_name after ∙ first_by qs ∙ ap first_name (sym before)

-- ---- contexts with one link more

apart_same : (cs : List Context) (c d : Context) → c.anchor ≡ d.anchor → first_name c.relations ≡ first_name d.relations
    → are_apart (cs ++ c ∷ []) ≡ true → are_apart (cs ++ d ∷ []) ≡ true
apart_same [] c d a n h = refl
apart_same (x ∷ []) c d a n h = rw (← a, ← n) h
apart_same (x ∷ y ∷ cs) c d a n h =
    and_from (is_apart x y) (are_apart ((y ∷ cs) ++ d ∷ [])) (and_first (is_apart x y) (are_apart ((y ∷ cs) ++ c ∷ [])) h)
    (apart_same (y ∷ cs) c d a n (and_second (is_apart x y) (are_apart ((y ∷ cs) ++ c ∷ [])) h))

apart_more : (cs : List Context) (c d : Context) → are_apart (cs ++ c ∷ []) ≡ true → is_apart c d ≡ true → are_apart ((cs ++ c ∷ []) ++ d ∷ []) ≡ true
apart_more [] c d h own = and_from (is_apart c d) true own refl
apart_more (x ∷ []) c d h own = and_from (is_apart x c) (is_apart c d && true) (and_first (is_apart x c) true h) (and_from (is_apart c d) true own refl)
apart_more (x ∷ y ∷ cs) c d h own =
    and_from (is_apart x y) (are_apart (((y ∷ cs) ++ c ∷ []) ++ d ∷ [])) (and_first (is_apart x y) (are_apart ((y ∷ cs) ++ c ∷ [])) h)
    (apart_more (y ∷ cs) c d (and_second (is_apart x y) (are_apart ((y ∷ cs) ++ c ∷ [])) h) own)

pub cut_first : (links : List Link) (old new : List Context) (anchor name : List ℕ) (target : Target) → old ≡ []
    → new ≡ old ++ context_with anchor name target ∷ [] → IsCut links old → IsCut (links ++ (anchor, name, target) ∷ []) new
cut_first links old new anchor name target none is cut =
    let nothing : [] ≡ links = ap links_of_document (sym none) ∙ cut.same in
    rw (is, none, ← nothing) (record { same = refl; ascending = refl; full = refl; apart = refl })

pub cut_more : (links : List Link) (old new cs : List Context) (c d : Context) (anchor name : List ℕ) (target : Target) → old ≡ cs ++ c ∷ []
    → new ≡ cs ++ d ∷ [] → IsMore c d name target → bytes_eq c.anchor anchor ≡ true → not (is_below name (last_name c.relations)) ≡ true
    → IsCut links old → IsCut (links ++ (anchor, name, target) ∷ []) new
cut_more links old new cs c d anchor name target before after more same_anchor not_below cut = record { same = same; ascending = ascending; full = full; apart = apart }
  where
    same_text : c.anchor ≡ anchor
    same_text = equal_bytes c.anchor anchor same_anchor

    all : (list_all is_full cs ≡ true) × (is_full c ≡ true)
    all = all_prefix is_full cs c (rw before at cut.full)

    same : links_of_document new ≡ links ++ (anchor, name, target) ∷ []
    same =
        ap links_of_document after ∙ flat_snoc links_of_context cs d ∙ ap (λ (ls : List Link). links_of_document cs ++ ls)
        (more.links ∙ ap (λ a. links_of_context c ++ (a, name, target) ∷ []) same_text)
        ∙ sym (append_assoc (links_of_document cs) (links_of_context c) ((anchor, name, target) ∷ [])) ∙ ap
        (λ (ls : List Link). ls ++ (anchor, name, target) ∷ []) (sym (flat_snoc links_of_context cs c) ∙ sym (ap links_of_document before) ∙ cut.same)

    ascending : list_all ascends new ≡ true
    ascending =
        let old_ones = all_prefix ascends cs c (rw before at cut.ascending) in
        rw after (all_more ascends cs d old_ones.0 (more.ascending not_below old_ones.1))

    full : list_all is_full new ≡ true
    full = rw after (all_more is_full cs d all.0 (more.full all.1))

    apart : are_apart new ≡ true
    apart = rw after (apart_same cs c d (sym more.anchor) (sym (more.first all.1)) (rw before at cut.apart))

not_taken : (a b : Bool) → (a && not b) ≡ false → (not a || b) ≡ true
not_taken true true h = refl
not_taken true false h = absurd (let f : true ≡ false = h in cc)
not_taken false b h = refl

pub cut_next : (links : List Link) (old new cs : List Context) (c : Context) (anchor name : List ℕ) (target : Target) → old ≡ cs ++ c ∷ []
    → new ≡ old ++ context_with anchor name target ∷ [] → takes c anchor name ≡ false → IsCut links old
    → IsCut (links ++ (anchor, name, target) ∷ []) new
cut_next links old new cs c anchor name target before after not_taking cut = record { same = same; ascending = ascending; full = full; apart = apart }
  where
    same : links_of_document new ≡ links ++ (anchor, name, target) ∷ []
    same = ap links_of_document after ∙ flat_snoc links_of_context old (context_with anchor name target) ∙ ap
        (λ (ls : List Link). ls ++ (anchor, name, target) ∷ []) cut.same

    ascending : list_all ascends new ≡ true
    ascending = rw after (all_more ascends old (context_with anchor name target) cut.ascending refl)

    full : list_all is_full new ≡ true
    full = rw after (all_more is_full old (context_with anchor name target) cut.full refl)

    apart : are_apart new ≡ true
    apart = rw (after, before) (apart_more cs c (context_with anchor name target) (rw before at cut.apart) (not_taken (bytes_eq c.anchor anchor) (is_below name (last_name c.relations)) not_taking))

pub equal_name : (seen name other : List ℕ) → true ≡ bytes_eq seen other → seen ≡ name → name ≡ other
equal_name seen name other h e = sym e ∙ equal_bytes seen other (sym h)
