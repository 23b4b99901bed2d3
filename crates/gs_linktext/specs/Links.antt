-- The links of a document: RFC 8288, sections 3.2 to 3.4, and RFC 9264, sections 4.1 and 4.2.
use Rattle.std.specs.Prelude.{◌≡◌, ℕ, ◌+◌, Bool, true, ◌==◌, ◌&&◌, ◌||◌, if◌then◌else◌, List, [], ◌∷◌, ◌++◌, codes, drop, filter, find, map, slice_get, take, Option, Some, None, option_map, unwrap_or}
use Rattle.std.specs.Char.{to_ascii_lowercase}
use Rattle.std.specs.List.{filter_map, list_any, slice_split}
use Rattle.std.specs.Option.{option_map_or, option_or}
use Rattle.std.specs.Str.{bytes_eq, is_utf8}
use Rattle.percent_encoding.specs.Percent.{percent_decode}
use Rattle.gs_linkset.specs.Attributes.{is_single, is_tagged}
use Rattle.gs_linkset.specs.LinkShapes.{ascend}
use Rattle.gs_linkset.specs.declared.link_types.Attr.{Attr}
use Rattle.gs_linkset.specs.declared.link_types.AttrValue.{AttrValue}
use Rattle.gs_linkset.specs.declared.link_types.AttrValue.TheVariants.{One, Many, Tagged}
use Rattle.gs_linkset.specs.declared.link_types.Target.{Target}
use Rattle.gs_linktext_grammar.specs.Bytes.{after_prefix, prefix_of, is_blank}
use Rattle.gs_linktext_grammar.specs.Grammar.{is_some_part}
use Rattle.gs_linktext_grammar.specs.declared.error.LinkTextFault.{LinkTextFault}
use Rattle.gs_linktext_grammar.specs.declared.error.LinkTextFault.TheVariants.{Anchor, Rel}
use Rattle.gs_linktext_grammar.specs.declared.written_link.Param.{Param}
use Rattle.gs_linktext_grammar.specs.declared.written_link.WrittenLink.{WrittenLink}

-- trusted, RFC 8288, sections 3.2 and 3.3: the value of the first parameter of a name
abbrev pub first_value : List ℕ → List Param → Option (List ℕ)
first_value name params = option_map (λ param. param.value) (find (λ param. bytes_eq param.name name) params)

-- trusted, RFC 8288, section 3.3: the relation types between the blanks of a text
abbrev pub types_in : List ℕ → List (List ℕ)
types_in text = filter is_some_part (slice_split is_blank text)

-- trusted, RFC 8288, section 3.3: the relation types of a link, those of its first `rel`
abbrev pub types_of : List Param → List (List ℕ)
types_of params = types_in (unwrap_or (first_value (codes "rel") params) [])

-- trusted, RFC 8288, section 3.4: the values of the parameters of a name, in their order
abbrev pub values_of : List ℕ → List Param → List (List ℕ)
values_of name params = map (λ param. param.value) (filter (λ param. bytes_eq param.name name) params)

-- trusted, RFC 8187, section 3.2.1: holds if `c` is a byte of a language: a letter, a digit or a hyphen
unfoldable pub is_language_byte : ℕ → Bool
is_language_byte c =
    list_any (λ x. x == c) (codes "-0123456789ABCDEFGHIJKLMNOPQRSTUVWXYZabcdefghijklmnopqrstuvwxyz")

-- trusted, RFC 8187, section 3.2.1: The text and its language, after the name of the character set. Both are valid UTF-8, the
-- text once its escapes are read.
abbrev pub tagged_by : List ℕ → List ℕ → Option (List ℕ × List ℕ)
tagged_by language [] = None
tagged_by language (c ∷ text) =
    if c == 39 && (is_utf8 (percent_decode text) && is_utf8 language) then Some (percent_decode text, language) else None

-- trusted, RFC 8187, section 3.2.1: the text and its language of a value `UTF-8'LANG'TEXT`, with UTF-8 in either case
abbrev pub tagged_text : List ℕ → Option (List ℕ × List ℕ)
tagged_text value =
    if bytes_eq (map to_ascii_lowercase (take 6 value)) (codes "utf-8'")
    then tagged_by (prefix_of is_language_byte (drop 6 value)) (after_prefix is_language_byte (drop 6 value))
    else None

-- trusted, RFC 9264, section 4.2.4: the texts with their languages, if there are any
abbrev pub tagged_value : List (List ℕ × List ℕ) → Option AttrValue
tagged_value [] = None
tagged_value (pair ∷ pairs) = Some (Tagged (pair ∷ pairs))

-- trusted, RFC 9264, section 4.2.4: the texts, if there are any
abbrev pub many_value : List (List ℕ) → Option AttrValue
many_value [] = None
many_value (text ∷ texts) = Some (Many (text ∷ texts))

-- trusted, RFC 9264, section 4.2.4: the value of an attribute, from the values of its name. Of `type`, `title` and `media` the
-- first counts.
abbrev pub attr_value : List ℕ → List (List ℕ) → Option AttrValue
attr_value name values =
    if is_tagged name then tagged_value (filter_map tagged_text values)
    else if is_single name then option_map One (slice_get values 0)
    else many_value values

-- trusted, RFC 9264, section 4.2: holds if `name` is not that of an attribute: it is `rel`, `anchor` or `href`
abbrev pub is_reserved : List ℕ → Bool
is_reserved name = bytes_eq name (codes "rel") || (bytes_eq name (codes "anchor") || bytes_eq name (codes "href"))

-- trusted, own: the attribute of a name and the values of its name, if there is one
abbrev pub attr_with : List ℕ → List (List ℕ) → Option Attr
attr_with name values =
    if is_reserved name then None else option_map (λ value. record { name = name; value = value }) (attr_value name values)

-- trusted, own: the attribute of a name
abbrev pub attr_of : List Param → List ℕ → Option Attr
attr_of params name = attr_with name (values_of name params)

-- trusted, own: holds if `attrs` are the attributes of `params`, in ascending order of their names, one for each name that has
-- one
pub record IsAttributes (params : List Param) (attrs : List Attr) : Type 0 where
  pub ascending : ascend (map (λ attr. attr.name) attrs) ≡ true
  pub each : (i : ℕ) (attr : Attr) → slice_get attrs i ≡ Some attr → attr_of params attr.name ≡ Some attr
  pub every_name : (name : List ℕ) (attr : Attr) → attr_of params name ≡ Some attr → (i : ℕ) × (slice_get attrs i ≡ Some attr)

-- trusted, own: holds if `links` are those of `link`: one for each of its relation types
pub record IsLinksOfLink (link : WrittenLink) (links : List (List ℕ × List ℕ × Target)) : Type 0 where
  pub attrs : List Attr
  pub attributes : IsAttributes link.params attrs
  pub is : links ≡ map (λ type. (unwrap_or (first_value (codes "anchor") link.params) [], type, record { href = link.href; attrs = attrs })) (types_of link.params)

-- trusted, own: holds if `links` are those of the written links, in their order
abbrev pub IsLinksOf : List WrittenLink → List (List ℕ × List ℕ × Target) → Type 0
IsLinksOf [] links = links ≡ []
IsLinksOf (link ∷ others) links =
    (own : List (List ℕ × List ℕ × Target)) × (more : List (List ℕ × List ℕ × Target))
    × IsLinksOfLink link own × IsLinksOf others more × (links ≡ own ++ more)

-- trusted, own: holds if a link has no relation type, or one that is `anchor`
abbrev pub is_rel_error : List (List ℕ) → Bool
is_rel_error [] = true
is_rel_error (type ∷ types) = list_any (λ t. bytes_eq t (codes "anchor")) (type ∷ types)

-- trusted, own: the error of the link at a place
abbrev pub link_error : ℕ → WrittenLink → Option LinkTextFault
link_error i link =
    option_map_or (λ _. if is_rel_error (types_of link.params) then Some (Rel i) else None) (first_value (codes "anchor") link.params) (Some (Anchor i))

-- trusted, own: the first error of the links; the first link has this index
abbrev pub first_error : ℕ → List WrittenLink → Option LinkTextFault
first_error i [] = None
first_error i (link ∷ links) = option_or (link_error i link) (first_error (i + 1) links)
