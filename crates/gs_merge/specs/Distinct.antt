-- Lists without duplicates. Two targets are equal if a linkset has the same facts about both (RFC 9264, section 4.2.3).
use Rattle.std.specs.Prelude.{ℕ, Bool, false, not, ◌&&◌, List, [], ◌∷◌, filter}
use Rattle.std.specs.Cmp.Lexicographic.{pointwise}
use Rattle.std.specs.Str.{bytes_eq}
use Rattle.gs_linkset.specs.declared.link_types.Attr.{Attr}
use Rattle.gs_linkset.specs.declared.link_types.AttrValue.{AttrValue}
use Rattle.gs_linkset.specs.declared.link_types.AttrValue.TheVariants.{One, Many, Tagged}
use Rattle.gs_linkset.specs.declared.link_types.Target.{Target}

-- trusted, own: holds if the texts and the languages of `a` and `b` are the same
abbrev pub is_same_pair : List ℕ × List ℕ → List ℕ × List ℕ → Bool
is_same_pair a b = bytes_eq a.0 b.0 && bytes_eq a.1 b.1

-- trusted, own: holds if the values of attributes are of one kind, with the same texts in the same order
abbrev pub is_same_value : AttrValue → AttrValue → Bool
is_same_value (One a) (One b) = bytes_eq a b
is_same_value (Many a) (Many b) = pointwise bytes_eq a b
is_same_value (Tagged a) (Tagged b) = pointwise is_same_pair a b
is_same_value (One a) (Many b) = false
is_same_value (One a) (Tagged b) = false
is_same_value (Many a) (One b) = false
is_same_value (Many a) (Tagged b) = false
is_same_value (Tagged a) (One b) = false
is_same_value (Tagged a) (Many b) = false

-- trusted, own: holds if the attributes `a` and `b` have the same name and the same value
abbrev pub is_same_attr : Attr → Attr → Bool
is_same_attr a b = bytes_eq a.name b.name && is_same_value a.value b.value

-- trusted, own: holds if the targets `a` and `b` have the same URI and the same attributes in the same order
unfoldable pub is_same_target : Target → Target → Bool
is_same_target a b = bytes_eq a.href b.href && pointwise is_same_attr a.attrs b.attrs

-- trusted, own: the items that differ from one
abbrev pub without : {X : Type 0} → (X → X → Bool) → X → List X → List X
without same x xs = filter (λ y. not (same x y)) xs

-- trusted, own: the list of each item once, at its first place
abbrev pub distinct_by : {X : Type 0} → (X → X → Bool) → List X → List X
distinct_by same [] = []
distinct_by same (x ∷ xs) = x ∷ without same x (distinct_by same xs)

-- trusted, own: the list of each equal target once, at its first place
unfoldable pub distinct : List Target → List Target
distinct targets = distinct_by is_same_target targets
