-- The spelling of a linkset as text: RFC 9264, section 4.1; RFC 8288, section 3; RFC 8187, section 3.2.1. The order of the parts,
-- and the line break after each comma, are this project's own.
use Rattle.std.specs.Prelude.{ℕ, Bool, ◌==◌, ◌&&◌, ◌||◌, nat_le, not, if◌then◌else◌, List, [], ◌∷◌, ◌++◌, codes, length}
use Rattle.std.specs.List.{flat_map, list_any}
use Rattle.std.specs.Str.{bytes_eq}
use Rattle.gs_ident.specs.Links.{percent_encoded}
use Rattle.gs_linkset.specs.LinkShapes.{links_of_document}
use Rattle.gs_linkset.specs.declared.link_types.Attr.{Attr}
use Rattle.gs_linkset.specs.declared.link_types.AttrValue.{AttrValue}
use Rattle.gs_linkset.specs.declared.link_types.AttrValue.TheVariants.{One, Many, Tagged}
use Rattle.gs_linkset.specs.declared.link_types.Context.{Context}
use Rattle.gs_linkset.specs.declared.link_types.Target.{Target}
use Rattle.gs_linktext_grammar.specs.Bytes.{is_blank, is_quotable, is_target_byte, is_token}
use Rattle.gs_linktext_grammar.specs.Lexemes.{are_some}
use Rattle.gs_linktext.specs.Links.{is_language_byte}

-- trusted, RFC 9110, section 5.6.4: the byte `c` in a quoted string, with a backslash before a quotation mark or a backslash
abbrev pub quoted_byte : ℕ → List ℕ
quoted_byte c = if c == 34 || c == 92 then 92 ∷ c ∷ [] else c ∷ []

-- trusted, RFC 9110, section 5.6.4: the quoted string of `text`
abbrev pub quoted : List ℕ → List ℕ
quoted text = 34 ∷ (flat_map quoted_byte text ++ 34 ∷ [])

-- trusted, RFC 8288, section 3: the parameter `name` with a quoted value
abbrev pub spelled_text : List ℕ → List ℕ → List ℕ
spelled_text name text = codes "; " ++ (name ++ 61 ∷ quoted text)

-- trusted, RFC 8187, section 3.2.1: the parameter `name` with a text and its language
abbrev pub spelled_pair : List ℕ → List ℕ × List ℕ → List ℕ
spelled_pair name pair = codes "; " ++ (name ++ (codes "=UTF-8'" ++ (pair.1 ++ 39 ∷ percent_encoded pair.0)))

-- trusted, own: the parameters of a value
abbrev pub spelled_value : List ℕ → AttrValue → List ℕ
spelled_value name (One text) = spelled_text name text
spelled_value name (Many texts) = flat_map (spelled_text name) texts
spelled_value name (Tagged pairs) = flat_map (spelled_pair name) pairs

-- trusted, own: the parameters of an attribute
abbrev pub spelled_attr : Attr → List ℕ
spelled_attr attr = spelled_value attr.name attr.value

-- trusted, RFC 8288, sections 3.2 and 3.3: the relation type and the anchor of a link
abbrev pub spelled_types : List ℕ → List ℕ → List ℕ
spelled_types type anchor = codes ">; rel=" ++ (quoted type ++ (codes "; anchor=" ++ quoted anchor))

-- trusted, own: the text of a link: its reference, its relation type, its anchor and its attributes
abbrev pub spelled_link : List ℕ × List ℕ × Target → List ℕ
spelled_link link =
    60 ∷ (link.2.href ++ (spelled_types link.1 link.0 ++ flat_map spelled_attr link.2.attrs))

-- trusted, own: the text of a link after another: a comma and a line break are between them
abbrev pub spelled_behind : List ℕ × List ℕ × Target → List ℕ
spelled_behind link = 44 ∷ 10 ∷ spelled_link link

-- trusted, own: the text of links
abbrev pub spelled_links : List (List ℕ × List ℕ × Target) → List ℕ
spelled_links [] = []
spelled_links (link ∷ links) = spelled_link link ++ flat_map spelled_behind links

-- trusted, own: the text of a document
abbrev pub spelled : List Context → List ℕ
spelled contexts = spelled_links (links_of_document contexts)

-- ---- texts that cannot be spelled

-- trusted, own: holds if a target URI is empty, or has a byte that is not allowed between `<` and `>`
abbrev pub is_unspellable_href : List ℕ → Bool
is_unspellable_href href = not (are_some is_target_byte href)

-- trusted, own: holds if the relation type `type` is empty, or has a blank
abbrev pub is_unspellable_type : List ℕ → Bool
is_unspellable_type type = length type == 0 || list_any is_blank type

-- trusted, own: holds if `text` has a byte that cannot be in a quoted string
abbrev pub is_unspellable_text : List ℕ → Bool
is_unspellable_text text = list_any (λ c. not (is_quotable c)) text

-- trusted, own: holds if `c` is an upper-case letter
abbrev pub is_upper : ℕ → Bool
is_upper c = nat_le 65 c && nat_le c 90

-- trusted, own: holds if a name is not a name of the grammar, has an upper-case letter, or is `rel` or `anchor`
abbrev pub is_unspellable_name : List ℕ → Bool
is_unspellable_name name =
    not (are_some is_token name) || (list_any is_upper name || (bytes_eq name (codes "rel") || bytes_eq name (codes "anchor")))

-- trusted, own: holds if the language of `pair` has a byte that no language has
abbrev pub has_unspellable_language : List ℕ × List ℕ → Bool
has_unspellable_language pair = list_any (λ c. not (is_language_byte c)) pair.1

-- trusted, own: holds if the value has a text that cannot be quoted, an empty list, or a language that cannot be spelled
abbrev pub is_unspellable_value : AttrValue → Bool
is_unspellable_value (One text) = is_unspellable_text text
is_unspellable_value (Many texts) = length texts == 0 || list_any is_unspellable_text texts
is_unspellable_value (Tagged pairs) = length pairs == 0 || list_any has_unspellable_language pairs

-- trusted, own: holds if the name or the value of `attr` cannot be spelled
abbrev pub is_unspellable_attr : Attr → Bool
is_unspellable_attr attr = is_unspellable_name attr.name || is_unspellable_value attr.value

-- trusted, own: holds if the target URI, the relation type, the anchor or an attribute of `link` cannot be spelled
abbrev pub cannot_spell : List ℕ × List ℕ × Target → Bool
cannot_spell link =
    is_unspellable_href link.2.href
    || (is_unspellable_type link.1
    || (is_unspellable_text link.1 || (is_unspellable_text link.0 || list_any is_unspellable_attr link.2.attrs)))
