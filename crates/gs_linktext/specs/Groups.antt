-- The values of each name: the definitions of the private steps of reading.
use Rattle.std.specs.Prelude.{ℕ, Bool, false, if◌then◌else◌, List, [], ◌∷◌, unwrap_or}
use Rattle.std.specs.BTreeMap as tree
use Rattle.std.specs.BTreeMap.{BTreeMap}
use Rattle.std.specs.Cmp.Lexicographic.{slice_cmp}
use Rattle.std.specs.List.{filter_map}
use Rattle.std.specs.Ordering.{nat_cmp}
use Rattle.std.specs.Str.{bytes_eq, is_utf8}
use Rattle.gs_linkset.specs.declared.link_types.Attr.{Attr}
use Rattle.gs_linkset.specs.declared.link_types.AttrValue.{AttrValue}
use Rattle.gs_linkset.specs.declared.link_types.AttrValue.TheVariants.{One, Many, Tagged}
use Rattle.gs_linktext.specs.Links.{attr_with}

-- the values that a map has for a name
abbrev pub items_at : List ℕ → BTreeMap (List ℕ) (List (List ℕ)) → List (List ℕ)
items_at name groups = unwrap_or (tree.get (slice_cmp nat_cmp) groups name) []

-- the value, if its name is this one
abbrev pub value_at : List ℕ → List ℕ → List ℕ → List (List ℕ)
value_at q name value = if bytes_eq name q then value ∷ [] else []

-- the attributes of names and their values, in their order
abbrev pub attrs_of_entries : List (List ℕ × List (List ℕ)) → List Attr
attrs_of_entries entries = filter_map (λ e. attr_with e.0 e.1) entries

-- holds if a value is one text, which is UTF-8
abbrev pub is_one : AttrValue → Bool
is_one (One text) = is_utf8 text
is_one (Many texts) = false
is_one (Tagged pairs) = false
