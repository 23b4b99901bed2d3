-- The attributes of a target in JSON: RFC 9264, sections 4.2.4.1 to 4.2.4.3. Ignoring an attribute of another kind is this
-- project's own rule.
use Rattle.std.specs.Prelude.{ℕ, Bool, ◌==◌, ◌||◌, if◌then◌else◌, List, [], ◌∷◌, codes, Option, Some, option_map, option_and_then}
use Rattle.std.specs.List.{ends_with}
use Rattle.std.specs.Option.{option_map_or}
use Rattle.std.specs.Str.{bytes_eq}
use Rattle.serde_json.specs.Data.{Data}
use Rattle.serde_json.specs.Find.{as_str, get}
use Rattle.gs_json.specs.Members.{array_in}
use Rattle.gs_linkset.specs.declared.link_types.AttrValue.{AttrValue}
use Rattle.gs_linkset.specs.declared.link_types.AttrValue.TheVariants.{One, Many, Tagged}

-- trusted, own: the list of what `f` gives of each item, if it gives something for each
abbrev pub every : {X Y : Type 0} → (X → Option Y) → List X → Option (List Y)
every f [] = Some []
every f (x ∷ xs) = option_and_then (λ y. option_map (λ ys. y ∷ ys) (every f xs)) (f x)

-- trusted, RFC 9264, section 4.2.4.2: holds if `name` ends in `*`, like those of internationalized attributes
abbrev pub is_tagged : List ℕ → Bool
is_tagged name = ends_with (λ a b. a == b) name (codes "*")

-- trusted, RFC 9264, section 4.2.4.1: holds if `name` is that of an attribute of RFC 8288 with one value
abbrev pub is_single : List ℕ → Bool
is_single name = bytes_eq name (codes "type") || (bytes_eq name (codes "title") || bytes_eq name (codes "media"))

-- trusted, own: the language of `d`, or the empty text if it has none
abbrev pub language_of : Data → Option (List ℕ)
language_of d = option_map_or as_str (get (codes "language") d) (Some [])

-- trusted, own: the text and language of the object `d`, if it has them
abbrev pub tagged_text : Data → Option (List ℕ × List ℕ)
tagged_text d =
    option_and_then (λ text. option_map (λ language. (text, language)) (language_of d))
    (option_and_then as_str (get (codes "value") d))

-- trusted, own: the texts and languages of `d`, if it is an array of only such objects
abbrev pub tagged_texts : Data → Option (List (List ℕ × List ℕ))
tagged_texts d = option_and_then (every tagged_text) (array_in d)

-- trusted, RFC 9264, sections 4.2.4.1 to 4.2.4.3: the value `d` of an attribute, if it is of the kind of `name`
unfoldable pub value_of : List ℕ → Data → Option AttrValue
value_of name d =
    if is_tagged name then option_map Tagged (tagged_texts d)
    else if is_single name then option_map One (as_str d)
    else option_map Many (option_and_then (every as_str) (array_in d))
