-- The attributes of parameters: there are some, one for each name that has one, in ascending order.
use Rattle.std.proofs.Common.{◌≡◌, ℕ, suc, Bool, true, false, List, [], ◌∷◌, Some, map, slice_get, bytes_eq, refl, sym, ap, ◌∙◌, subst}
use Rattle.std.specs.BTreeSet.{insert_key}
use Rattle.std.specs.Cmp.Lexicographic.{slice_cmp}
use Rattle.std.specs.List.{filter_map}
use Rattle.std.specs.List.Sorted.{IsStrictlySortedBy}
use Rattle.std.specs.Ordering.{nat_cmp}
use Rattle.gs_linkset.specs.declared.link_types.Attr.{Attr}
use Rattle.gs_linkset.proofs.NameSets.{Ascend, ascend_put, has, has_put}
use Rattle.gs_linktext.specs.Links.{attr_of, values_of, IsAttributes}
use Rattle.gs_linktext_grammar.specs.declared.written_link.Param.{Param}
use Rattle.gs_chars.proofs.TruthsAndLists.{equal_bytes, or_true, same_bytes}
use Rattle.gs_linktext.proofs.AttrLemmas.{attr_name, given_ascends, given_at, given_from, no_values}

-- ---- names in ascending order, each once

-- the names of parameters, in ascending order
names_of : List Param → List (List ℕ)
names_of [] = []
names_of (param ∷ params) = insert_key (slice_cmp nat_cmp) (names_of params) param.name

names_ascend : (params : List Param) → Ascend (names_of params)
unfolding names_of IsStrictlySortedBy
names_ascend [] = tt
names_ascend (param ∷ params) = ascend_put param.name (names_of params) (names_ascend params)

-- a name that is not one of them has no value
no_value : (params : List Param) (name : List ℕ) → has name (names_of params) ≡ false → values_of name params ≡ []
unfolding names_of
no_value [] name h = refl
no_value (param ∷ params) name h = by (no_value params name) (bytes_eq param.name name) refl (has name (names_of params)) refl
  where
    absurd_if : has name (param.name ∷ names_of params) ≡ true → ⊥
    absurd_if t = let e : true ≡ false = sym (has_put name param.name (names_of params) ∙ t) ∙ h in cc

    by : (has name (names_of params) ≡ false → values_of name params ≡ []) → (b : Bool) → bytes_eq param.name name ≡ b → (c : Bool)
        → has name (names_of params) ≡ c → values_of name (param ∷ params) ≡ []
    by more true is c e = let same = equal_bytes param.name name is in absurd (absurd_if (rw same (rw (same_bytes name) refl)))
    by more false not true e = absurd (absurd_if (or_true (bytes_eq name param.name) (has name (names_of params)) e))
    by more false not false e = rw not (more e)

-- ---- the place of a name

place_of : (name : List ℕ) (names : List (List ℕ)) → has name names ≡ true → (j : ℕ) × (slice_get names j ≡ Some name)
place_of name [] h = absurd (let e : false ≡ true = h in cc)
place_of name (n ∷ names) h = by (place_of name names) (bytes_eq name n) refl
  where
    by : (has name names ≡ true → (j : ℕ) × (slice_get names j ≡ Some name)) → (b : Bool) → bytes_eq name n ≡ b
        → (j : ℕ) × (slice_get (n ∷ names) j ≡ Some name)
    by more true is = (0, ap (λ (x : List ℕ). Some x) (sym (equal_bytes name n is)))
    by more false not = let found = more (rw not at h) in (suc found.0, found.1)

same_list : (names : List (List ℕ)) → map (λ (n : List ℕ). n) names ≡ names
same_list [] = refl
same_list (n ∷ names) = ap (λ (ns : List (List ℕ)). n ∷ ns) (same_list names)

-- ---- the attributes

pub some_attributes : (params : List Param) → (attrs : List Attr) × IsAttributes params attrs
some_attributes params = (filter_map (attr_of params) (names_of params), record { ascending = given_ascends (attr_of params) (λ (attr : Attr). attr.name) (λ (n : List ℕ). n) own (names_of params) (subst Ascend (sym (same_list (names_of params))) (names_ascend params)); each = each; every_name = every_name })
  where
    own : (n : List ℕ) (attr : Attr) → attr_of params n ≡ Some attr → attr.name ≡ n
    own n attr is = attr_name n (values_of n params) attr is

    each : (i : ℕ) (attr : Attr) → slice_get (filter_map (attr_of params) (names_of params)) i ≡ Some attr → attr_of params attr.name ≡ Some attr
    each i attr at = let found = given_from (attr_of params) (names_of params) i attr at in subst
        (λ (n : List ℕ). attr_of params n ≡ Some attr) (sym (own found.1 attr found.3)) found.3

    by_name : (name : List ℕ) (attr : Attr) → attr_of params name ≡ Some attr → (b : Bool) → has name (names_of params) ≡ b
        → (i : ℕ) × (slice_get (filter_map (attr_of params) (names_of params)) i ≡ Some attr)
    by_name name attr is true h = let at = place_of name (names_of params) h in given_at (attr_of params) (names_of params) at.0 name attr at.1 is
    by_name name attr is false h = absurd (no_values name attr (rw (no_value params name h) at is))

    every_name : (name : List ℕ) (attr : Attr) → attr_of params name ≡ Some attr
        → (i : ℕ) × (slice_get (filter_map (attr_of params) (names_of params)) i ≡ Some attr)
    every_name name attr is = by_name name attr is (has name (names_of params)) refl
