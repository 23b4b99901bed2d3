-- The text written of a document: members in ascending order of name, and texts that are UTF-8.
use Rattle.std.proofs.Common.{◌≡◌, ℕ, zero, suc, Bool, true, List, [], ◌∷◌, map, Some, None, slice_get, refl, Ordering, Less, Equal, Greater}
use Rattle.std.specs.Prelude.{Result, Ok, Err, IsOk, MatchResult, codes, not}
use Rattle.std.specs.Cmp.Lexicographic.{slice_cmp}
use Rattle.std.specs.List.{AllByRecursion, list_all}
use Rattle.std.specs.List.Sorted.{IsStrictlySortedBy}
use Rattle.std.specs.Ordering.{is_lt, nat_cmp}
use Rattle.std.specs.Str.{IsUtf8, bytes_eq, is_utf8}
use Rattle.std.proofs.lemmas.Cmp.{nat_list_cmp_total}
use Rattle.std.proofs.lemmas.Str.{IsUtf8-from_is_utf8}
use Rattle.gs_chars.proofs.TruthsAndLists.{and_first, and_second}
use Rattle.gs_json.specs.Answers.{AscendByBytes}
use Rattle.serde_json.specs.Data.{Data}
use Rattle.gs_linkset.specs.Attributes.{is_single, is_tagged}
use Rattle.gs_linkset.specs.declared.link_types.Attr.{Attr}
use Rattle.gs_linkset.specs.declared.link_types.AttrValue.TheVariants.{One, Many, Tagged}
use Rattle.gs_linkset.specs.declared.link_types.Context.{Context}
use Rattle.gs_linkset.specs.declared.link_types.Relation.{Relation}
use Rattle.gs_linkset.specs.declared.link_types.Target.{Target}
use Rattle.gs_linkset.specs.LinkShapes.{ascend, is_attr, is_below_first, is_context, is_relation, is_tagged_text, is_target, is_value}

pub valid : {S E : Type 0} (text : List ℕ) (same : S → Type 0) (other : E → Type 0) (r : Result S E) → is_utf8 text ≡ true
    → MatchResult r (λ s. same s × IsUtf8 text) (λ e. (IsUtf8 text → ⊥) × other e) → IsOk r
valid text same other (Ok s) t h = refl
valid text same other (Err e) t h = absurd (h.0 (IsUtf8-from_is_utf8 text t))

-- ---- names that ascend

less_from : (o : Ordering) → is_lt o ≡ true → o ≡ Less
less_from Less h = refl
less_from Equal h = absurd (cc)
less_from Greater h = absurd (cc)

below_all : (a b : List ℕ) (names : List (List ℕ)) → slice_cmp nat_cmp a b ≡ Less → AllByRecursion (λ c. slice_cmp nat_cmp b c ≡ Less) names
    → AllByRecursion (λ c. slice_cmp nat_cmp a c ≡ Less) names
below_all a b [] less all = tt
below_all a b (c ∷ names) less all = (nat_list_cmp_total.trans a b c less all.0, below_all a b names less all.1)

first_below : (a : List ℕ) (names : List (List ℕ)) → is_below_first a names ≡ true → AscendByBytes names
    → AllByRecursion (λ c. slice_cmp nat_cmp a c ≡ Less) names
unfolding IsStrictlySortedBy
first_below a [] first s = tt
first_below a (b ∷ names) first s = let less = less_from (slice_cmp nat_cmp a b) first in (less, below_all a b names less s.0)

pub sorted : (names : List (List ℕ)) → ascend names ≡ true → AscendByBytes names
unfolding IsStrictlySortedBy
sorted [] h = tt
sorted (a ∷ names) h =
    let rest = sorted names (and_second (is_below_first a names) (ascend names) h) in
    (first_below a names (and_first (is_below_first a names) (ascend names) h) rest, rest)

module _ {X : Type 0} (name : X → List ℕ) (tree : X → Data) where
  pub below_at : (a : List ℕ) (xs : List X) (i : ℕ) (x : X) → AllByRecursion (λ c. slice_cmp nat_cmp a c ≡ Less) (map name xs)
      → slice_get xs i ≡ Some x → slice_cmp nat_cmp a (name x) ≡ Less
  below_at a [] i x all at = absurd (let g : None ≡ Some x = at in cc)
  below_at a (y ∷ xs) zero x all at = let same : y ≡ x = cc in rw (← same) all.0
  below_at a (y ∷ xs) (suc i) x all at = below_at a xs i x all.1 at

-- ---- the shape of the written text

pub true_at : {X : Type 0} (t : X → Bool) (xs : List X) (i : ℕ) (x : X) → list_all t xs ≡ true → slice_get xs i ≡ Some x → t x ≡ true
true_at t [] i x all at = absurd (let g : None ≡ Some x = at in cc)
true_at t (y ∷ xs) zero x all at = let same : y ≡ x = cc in rw (← same) (and_first (t y) (list_all t xs) all)
true_at t (y ∷ xs) (suc i) x all at = true_at t xs i x (and_second (t y) (list_all t xs) all) at

pub attr_parts : (attr : Attr) → is_attr attr ≡ true
    → (not (bytes_eq attr.name (codes "href")) ≡ true) × (is_utf8 attr.name ≡ true) × (is_value attr.name attr.value ≡ true)
unfolding is_attr
attr_parts attr h =
    let rest = and_second (not (bytes_eq attr.name (codes "href"))) _ h in (
      and_first (not (bytes_eq attr.name (codes "href"))) _ h,
      and_first (is_utf8 attr.name) _ rest,
      and_second (is_utf8 attr.name) _ rest,
    )

pub target_parts : (target : Target) → is_target target ≡ true
    → (is_utf8 target.href ≡ true) × (ascend (map (λ attr. attr.name) target.attrs) ≡ true) × (list_all is_attr target.attrs ≡ true)
unfolding is_target
target_parts target h =
    let rest = and_second (is_utf8 target.href) _ h in (
      and_first (is_utf8 target.href) _ h,
      and_first (ascend (map (λ attr. attr.name) target.attrs)) _ rest,
      and_second (ascend (map (λ attr. attr.name) target.attrs)) _ rest,
    )

pub relation_parts : (relation : Relation) → is_relation relation ≡ true
    → (not (bytes_eq relation.name (codes "anchor")) ≡ true) × (is_utf8 relation.name ≡ true) × (list_all is_target relation.targets ≡ true)
unfolding is_relation
relation_parts relation h =
    let rest = and_second (not (bytes_eq relation.name (codes "anchor"))) _ h in (
      and_first (not (bytes_eq relation.name (codes "anchor"))) _ h,
      and_first (is_utf8 relation.name) _ rest,
      and_second (is_utf8 relation.name) _ rest,
    )

pub context_parts : (context : Context) → is_context context ≡ true
    → (is_utf8 context.anchor ≡ true) × (ascend (map (λ relation. relation.name) context.relations) ≡ true) × (list_all is_relation context.relations ≡ true)
unfolding is_context
context_parts context h =
    let rest = and_second (is_utf8 context.anchor) _ h in (
      and_first (is_utf8 context.anchor) _ h,
      and_first (ascend (map (λ relation. relation.name) context.relations)) _ rest,
      and_second (ascend (map (λ relation. relation.name) context.relations)) _ rest,
    )

-- the texts of a value of its kind are UTF-8
pub one_text : (name text : List ℕ) → is_value name (One text) ≡ true → is_utf8 text ≡ true
one_text name text h = and_second (is_single name) _ (and_second (not (is_tagged name)) _ h)

pub many_texts : (name : List ℕ) (texts : List (List ℕ)) → is_value name (Many texts) ≡ true → list_all is_utf8 texts ≡ true
many_texts name texts h = and_second (not (is_single name)) _ (and_second (not (is_tagged name)) _ h)

pub tagged_texts : (name : List ℕ) (pairs : List (List ℕ × List ℕ)) → is_value name (Tagged pairs) ≡ true → list_all is_tagged_text pairs ≡ true
tagged_texts name pairs h = and_second (is_tagged name) _ h
