-- Which links a request asks for: GS1-Conformant Resolver, `linkType` and linksets. The exact conditions are this project's own.
use Rattle.std.specs.Prelude.{ℕ, ◌||◌, if◌then◌else◌, Bool, List, codes, Option, Some, None, option_map, unwrap_or, bytes_eq}
use Rattle.std.specs.List.{after_first, before_first, find, slice_split}
use Rattle.percent_encoding.specs.Percent.{percent_decode}
use Rattle.gs_chars.specs.Characters.{is_byte}
use Rattle.gs_dlink.specs.Uris.{query_of, separates_parts}
use Rattle.gs_http.specs.declared.documents.LinksetForm.{LinksetForm}
use Rattle.gs_http.specs.declared.documents.LinksetForm.TheVariants.{Json}
use Rattle.gs_links.specs.Loads.{expanded}
use Rattle.gs_http.specs.AcceptedForms.{accepted_form}
use Rattle.gs_http.specs.Heads.{Asked}

-- trusted, GS1-Conformant Resolver: the wish of a request: the links of a relation, or a linkset, which has those of all
-- relations, in a form.
pub data Wish : Type 0 where
  for_relation : List ℕ → Wish
  for_linkset : LinksetForm → Wish

-- trusted, GS1-Conformant Resolver: holds if the name of the query parameter is `linkType`
abbrev pub is_link_type : List ℕ → Bool
is_link_type part = bytes_eq (before_first (is_byte 61) part) (codes "linkType")

-- trusted, own: the link type of a target is the value of the first part of its query that is named `linkType`
abbrev pub link_type : List ℕ → Option (List ℕ)
link_type target = option_map (after_first (is_byte 61)) (find is_link_type (slice_split separates_parts (query_of target)))

-- trusted, GS1-Conformant Resolver: The wish of a link type. The types `linkset` and `all` ask for a linkset in the accepted
-- form, JSON if none is accepted, and any other for the relation of its name.
abbrev pub wish_named : List ℕ → Option LinksetForm → List ℕ → Wish
wish_named voc accepted value =
    if bytes_eq value (codes "linkset") || bytes_eq value (codes "all") then for_linkset (unwrap_or accepted Json)
    else for_relation (expanded voc value)

-- trusted, GS1-Conformant Resolver: the relation of a request that names none: `gs1:defaultLink`
abbrev pub default_relation : List ℕ → List ℕ
default_relation voc = expanded voc (codes "gs1:defaultLink")

-- trusted, own: the wish without a link type: a linkset if a form of one is accepted, otherwise the default relation
abbrev pub wish_unnamed : List ℕ → Option LinksetForm → Wish
wish_unnamed voc None = for_relation (default_relation voc)
wish_unnamed voc (Some form) = for_linkset form

-- trusted, own: the wish by the link type, or by the accepted form if there is no link type
abbrev pub wish_by : List ℕ → Option LinksetForm → Option (List ℕ) → Wish
wish_by voc accepted None = wish_unnamed voc accepted
wish_by voc accepted (Some value) = wish_named voc accepted (percent_decode value)

-- trusted, own: the wish of a request
unfoldable pub wish_of : List ℕ → Asked → Wish
wish_of voc asked = wish_by voc (accepted_form asked.fields) (link_type asked.target)
