-- Links have one cut into contexts: the one that puts each link before the contexts of those after it.
use Rattle.std.proofs.Common.{◌≡◌, ℕ, ◌||◌, ◌&&◌, not, Bool, true, false, List, [], ◌∷◌, ◌++◌, if◌then◌else◌, map, bytes_eq, refl, ap, sym, ◌∙◌, Ordering, Less, Equal, Greater}
use Rattle.std.specs.Cmp.Lexicographic.{nat_list_cmp_total, slice_cmp}
use Rattle.std.specs.List.{flat_map, list_all}
use Rattle.std.specs.Ordering.{nat_cmp, ordering_reverse}
use Rattle.gs_linkset.specs.LinkShapes.{ascend, is_below, links_of_context, links_of_document, links_of_relation, relation_names}
use Rattle.gs_linkset.specs.declared.link_types.Context.{Context}
use Rattle.gs_linkset.specs.declared.link_types.Relation.{Relation}
use Rattle.gs_linkset.specs.declared.link_types.Target.{Target}
use Rattle.gs_linktext_grammar.specs.Grammar.{is_some_part}
use Rattle.gs_linktext.specs.Contexts.{are_apart, ascends, first_name, has_target, is_apart, is_full, last_name, IsCut}
use Rattle.gs_linktext.proofs.SpelledAttrs.{below_apart}
use Rattle.gs_linktext.proofs.SpelledLexemes.{Link}
use Rattle.gs_chars.proofs.TruthsAndLists.{and_first, and_second, same_bytes}
use Rattle.std.proofs.lemmas.Bool.{false_from_ne_true}

-- relations with a target of a name before them
abbrev put_target : List ℕ → Target → List Relation → List Relation
put_target name target [] = record { name = name; targets = target ∷ [] } ∷ []
put_target name target (r ∷ rs) =
    if bytes_eq r.name name then record { name = name; targets = target ∷ r.targets } ∷ rs
    else record { name = name; targets = target ∷ [] } ∷ r ∷ rs

-- a context of one link
abbrev alone : List ℕ → List ℕ → Target → Context
alone anchor name target = record { anchor = anchor; relations = record { name = name; targets = target ∷ [] } ∷ [] }

-- the link after a link belongs to the same context
abbrev is_on : List ℕ → List ℕ → Context → Bool
is_on anchor name c = bytes_eq anchor c.anchor && not (is_below (first_name c.relations) name)

-- contexts with a link before them
abbrev put : Link → List Context → List Context
put link [] = alone link.0 link.1 link.2 ∷ []
put link (c ∷ cs) =
    if is_on link.0 link.1 c then record { anchor = link.0; relations = put_target link.1 link.2 c.relations } ∷ cs
    else alone link.0 link.1 link.2 ∷ c ∷ cs

-- contexts with links before them
abbrev puts : List Link → List Context → List Context
puts [] cs = cs
puts (link ∷ links) cs = put link (puts links cs)

puts_both : (xs ys : List Link) (cs : List Context) → puts (xs ++ ys) cs ≡ puts xs (puts ys cs)
puts_both [] ys cs = refl
puts_both (x ∷ xs) ys cs = ap (put x) (puts_both xs ys cs)

-- a name is not below itself, and one that is above another is not below it
not_below_by : (a b : List ℕ) (o : Ordering) → slice_cmp nat_cmp a b ≡ o → is_below b a ≡ true → is_below a b ≡ false
not_below_by a b Less e h =
    let other : slice_cmp nat_cmp b a ≡ Greater = nat_list_cmp_total.antisymm b a ∙ ap ordering_reverse e in
    absurd (let f : false ≡ true = (rw other at h) in cc)
not_below_by a b Equal e h = rw e refl
not_below_by a b Greater e h = rw e refl

not_below : (a b : List ℕ) → is_below b a ≡ true → is_below a b ≡ false
not_below a b h = not_below_by a b (slice_cmp nat_cmp a b) refl h

less_by : (a b : List ℕ) (o : Ordering) → slice_cmp nat_cmp a b ≡ o → is_below a b ≡ true → slice_cmp nat_cmp a b ≡ Less
less_by a b Less e h = e
less_by a b Equal e h = absurd (let f : false ≡ true = (rw e at h) in cc)
less_by a b Greater e h = absurd (let f : false ≡ true = (rw e at h) in cc)

not_below_itself : (a : List ℕ) → is_below a a ≡ false
not_below_itself a = false_from_ne_true (is_below a a) (λ t. let f : false ≡ true = sym (not_below a a t) ∙ t in cc)

-- ---- the targets of a relation, the relations of a context, the contexts

targets_on : (anchor name : List ℕ) (t : Target) (ts : List Target) (rs : List Relation) (base cs : List Context)
    → ((u : Target) → put (anchor, name, u) base ≡ record { anchor = anchor; relations = record { name = name; targets = u ∷ [] } ∷ rs } ∷ cs)
    → puts (map (λ target. (anchor, name, target)) (t ∷ ts)) base ≡ record { anchor = anchor; relations = record { name = name; targets = t ∷ ts } ∷ rs } ∷ cs
targets_on anchor name t [] rs base cs h = h t
targets_on anchor name t (u ∷ us) rs base cs h =
    ap (put (anchor, name, t)) (targets_on anchor name u us rs base cs h) ∙ rw (same_bytes anchor, not_below_itself name, same_bytes name) refl

relation_on : (anchor : List ℕ) (r : Relation) (rs : List Relation) (base cs : List Context) → has_target r ≡ true
    → ((u : Target) → put (anchor, r.name, u) base ≡ record { anchor = anchor; relations = record { name = r.name; targets = u ∷ [] } ∷ rs } ∷ cs)
    → puts (links_of_relation anchor r) base ≡ record { anchor = anchor; relations = r ∷ rs } ∷ cs
relation_on anchor r rs base cs some h = by r.targets some
  where
    by : (ts : List Target) → is_some_part ts ≡ true → puts (map (λ target. (anchor, r.name, target)) ts) base ≡ record { anchor = anchor; relations = record { name = r.name; targets = ts } ∷ rs } ∷ cs
    by [] e = absurd (let f : false ≡ true = e in cc)
    by (t ∷ ts) e = targets_on anchor r.name t ts rs base cs h

relations_on : (anchor : List ℕ) (r : Relation) (rs : List Relation) (cs : List Context) → list_all has_target (r ∷ rs) ≡ true
    → ascend (relation_names (r ∷ rs)) ≡ true
    → ((u : Target) → put (anchor, last_name (r ∷ rs), u) cs ≡ alone anchor (last_name (r ∷ rs)) u ∷ cs)
    → puts (flat_map (links_of_relation anchor) (r ∷ rs)) cs ≡ record { anchor = anchor; relations = r ∷ rs } ∷ cs
relations_on anchor r [] cs full up h =
    puts_both (links_of_relation anchor r) [] cs ∙ relation_on anchor r [] cs cs (and_first (has_target r) true full) h
relations_on anchor r (s ∷ ss) cs full up h =
    let below = and_first (is_below r.name s.name) (ascend (relation_names (s ∷ ss))) up in
    let less = less_by r.name s.name (slice_cmp nat_cmp r.name s.name) refl below in
    let rest = relations_on anchor s ss cs (and_second (has_target r) (list_all has_target (s ∷ ss)) full) (and_second (is_below r.name s.name) (ascend (relation_names (s ∷ ss))) up) h in
    puts_both (links_of_relation anchor r) (flat_map (links_of_relation anchor) (s ∷ ss)) cs ∙ ap (puts (links_of_relation anchor r)) rest
    ∙ relation_on anchor r (s ∷ ss) (record { anchor = anchor; relations = s ∷ ss } ∷ cs) cs (and_first (has_target r) (list_all has_target (s ∷ ss)) full)
    (λ u. rw (same_bytes anchor, not_below s.name r.name below, below_apart r.name s.name less) refl)

-- a context cannot go on with the first of others
abbrev is_end : Context → List Context → Type 0
is_end c cs = (u : Target) → put (c.anchor, last_name c.relations, u) cs ≡ alone c.anchor (last_name c.relations) u ∷ cs

apart_ends : (a b : Bool) → (not a || b) ≡ true → (a && not b) ≡ false
apart_ends true true h = refl
apart_ends true false h = absurd (let f : false ≡ true = h in cc)
apart_ends false b h = refl

ends : (c : Context) (cs : List Context) → are_apart (c ∷ cs) ≡ true → is_end c cs
ends c [] h = λ u. refl
ends c (d ∷ cs) h =
    let own = and_first (is_apart c d) (are_apart (d ∷ cs)) h in
    let none : is_on c.anchor (last_name c.relations) d ≡ false = apart_ends (bytes_eq c.anchor d.anchor) (is_below (first_name d.relations) (last_name c.relations)) own in
    λ u. rw none refl

rest_apart : (c : Context) (cs : List Context) → are_apart (c ∷ cs) ≡ true → are_apart cs ≡ true
rest_apart c [] h = refl
rest_apart c (d ∷ cs) h = and_second (is_apart c d) (are_apart (d ∷ cs)) h

context_on : (c : Context) (cs : List Context) → is_full c ≡ true → ascends c ≡ true → is_end c cs → puts (links_of_context c) cs ≡ c ∷ cs
context_on c cs full up h = by c.relations (and_first (is_some_part c.relations) (list_all has_target c.relations) full)
    (and_second (is_some_part c.relations) (list_all has_target c.relations) full) up h
  where
    by : (rs : List Relation) → is_some_part rs ≡ true → list_all has_target rs ≡ true → ascend (relation_names rs) ≡ true
        → ((u : Target) → put (c.anchor, last_name rs, u) cs ≡ alone c.anchor (last_name rs) u ∷ cs) → puts
        (flat_map (links_of_relation c.anchor) rs) cs ≡ record { anchor = c.anchor; relations = rs } ∷ cs
    by [] some all order end = absurd (let f : false ≡ true = some in cc)
    by (r ∷ rs) some all order end = relations_on c.anchor r rs cs all order end

cut_is : (cs : List Context) → list_all is_full cs ≡ true → list_all ascends cs ≡ true → are_apart cs ≡ true → puts (links_of_document cs) [] ≡ cs
cut_is [] full up apart = refl
cut_is (c ∷ cs) full up apart =
    let rest = cut_is cs (and_second (is_full c) (list_all is_full cs) full) (and_second (ascends c) (list_all ascends cs) up) (rest_apart c cs apart) in
    puts_both (links_of_context c) (links_of_document cs) [] ∙ ap (puts (links_of_context c)) rest ∙ context_on c cs
    (and_first (is_full c) (list_all is_full cs) full) (and_first (ascends c) (list_all ascends cs) up) (ends c cs apart)

pub one_cut : (links : List Link) (c d : List Context) → IsCut links c → IsCut links d → c ≡ d
one_cut links c d p q =
    sym (cut_is c p.full p.ascending p.apart) ∙ ap (λ ls. puts ls []) (p.same ∙ sym q.same) ∙ cut_is d q.full q.ascending q.apart
