-- The text of a linkset (RFC 9264, section 4.2): JSON (RFC 8259) with no space. The members of each object are in ascending
-- order of name, which is this project's own rule.
use Rattle.std.specs.Prelude.{ℕ, List, [], ◌∷◌, map, codes}
use Rattle.serde_json.specs.Data.{Data, string, array, object, Members, no_members, member, put}
use Rattle.serde_json.specs.View.{items_of as listed}
use Rattle.serde_json.specs.Written.{compact_text}
use Rattle.gs_linkset.specs.declared.link_types.Attr.{Attr}
use Rattle.gs_linkset.specs.declared.link_types.AttrValue.{AttrValue}
use Rattle.gs_linkset.specs.declared.link_types.AttrValue.TheVariants.{One, Many, Tagged}
use Rattle.gs_linkset.specs.declared.link_types.Context.{Context}
use Rattle.gs_linkset.specs.declared.link_types.Relation.{Relation}
use Rattle.gs_linkset.specs.declared.link_types.Target.{Target}

-- trusted, own: the array of the trees of the items
abbrev pub array_by : {X : Type 0} → (X → Data) → List X → Data
array_by tree things = array (listed (map tree things))

-- trusted, own: the members of things whose names ascend
abbrev pub members_by : {X : Type 0} → (X → List ℕ) → (X → Data) → List X → Members
members_by name tree [] = no_members
members_by name tree (x ∷ things) = member (name x) (tree x) (members_by name tree things)

-- trusted, own: the members with the language, unless it is empty (section 4.2.4.2)
abbrev pub with_language : List ℕ → Members → Members
with_language [] members = members
with_language (c ∷ language) members = put (codes "language") (string (c ∷ language)) members

-- trusted, own: the object of a text and its language
abbrev pub tagged_tree : List ℕ × List ℕ → Data
tagged_tree pair = object (with_language pair.1 (member (codes "value") (string pair.0) no_members))

-- trusted, RFC 9264, sections 4.2.1 to 4.2.4: the value of an attribute (sections 4.2.4.1 to 4.2.4.3)
abbrev pub value_tree : AttrValue → Data
value_tree (One text) = string text
value_tree (Many texts) = array_by string texts
value_tree (Tagged pairs) = array_by tagged_tree pairs

-- trusted, own: the members of a target's attributes
abbrev pub attr_members : List Attr → Members
attr_members attrs = members_by (λ attr. attr.name) (λ attr. value_tree attr.value) attrs

-- trusted, RFC 9264, sections 4.2.1 to 4.2.4: the tree of a target (section 4.2.3)
abbrev pub target_tree : Target → Data
target_tree target = object (put (codes "href") (string target.href) (attr_members target.attrs))

-- trusted, RFC 9264, section 4.2.3: the text of a target: its object in JSON with no space, its members in ascending order of
-- name
unfoldable pub target_text : Target → List ℕ
target_text target = compact_text (target_tree target)

-- trusted, own: the members of a context's relations
abbrev pub relation_members : List Relation → Members
relation_members relations =
    members_by (λ relation. relation.name) (λ relation. array_by target_tree relation.targets) relations

-- trusted, RFC 9264, sections 4.2.1 to 4.2.4: the tree of a context (section 4.2.2)
abbrev pub context_tree : Context → Data
context_tree context = object (put (codes "anchor") (string context.anchor) (relation_members context.relations))

-- trusted, own: the document of contexts whose trees are given
abbrev pub document_by : {X : Type 0} → (X → Data) → List X → Data
document_by tree contexts = object (member (codes "linkset") (array_by tree contexts) no_members)

-- trusted, RFC 9264, sections 4.2.1 to 4.2.4: the document (section 4.2.1)
abbrev pub tree_of : List Context → Data
tree_of contexts = document_by context_tree contexts

-- trusted, RFC 9264, section 4.2; RFC 8259; the order of the members is own: the document of the contexts as compact text
unfoldable pub written : List Context → List ℕ
written contexts = compact_text (tree_of contexts)
