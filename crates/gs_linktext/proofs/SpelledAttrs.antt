-- The links of spelled links are these links.
use Rattle.std.proofs.Common.{◌≡◌, ℕ, zero, suc, ◌+◌, ◌==◌, ◌&&◌, not, Bool, true, false, List, [], ◌∷◌, ◌++◌, Some, None, codes, filter, length, map, slice_get, bytes_eq, refl, ap, sym, ◌∙◌, inl, inr, append-nil, Less}
use Rattle.std.specs.Cmp.Lexicographic.{slice_cmp}
use Rattle.std.specs.List.{flat_map, filter_map, list_all, list_any, AllByRecursion}
use Rattle.std.specs.List.Sorted.{IsStrictlySortedBy}
use Rattle.std.specs.Ordering.{is_eq, nat_cmp}
use Rattle.std.specs.Str.{is_utf8}
use Rattle.std.proofs.lemmas.Map.Text.{is_eq-slice_cmp}
use Rattle.std.proofs.lemmas.List.{map-append}
use Rattle.gs_linkset.specs.Attributes.{is_single, is_tagged}
use Rattle.gs_linkset.specs.LinkShapes.{is_tagged_text, is_value}
use Rattle.gs_linkset.specs.declared.link_types.Attr.{Attr}
use Rattle.gs_linkset.specs.declared.link_types.AttrValue.{AttrValue}
use Rattle.gs_linkset.specs.declared.link_types.AttrValue.TheVariants.{One, Many, Tagged}
use Rattle.gs_linkset.proofs.WrittenLemmas.{sorted}
use Rattle.gs_linktext_grammar.specs.Bytes.{is_blank}
use Rattle.gs_linktext_grammar.specs.Grammar.{is_some_part}
use Rattle.gs_linktext_grammar.specs.Lexemes.{stops}
use Rattle.gs_linktext_grammar.specs.declared.lexeme.Lexeme.{Lexeme}
use Rattle.gs_linktext_grammar.specs.declared.lexeme.Lexeme.TheVariants.{Word, Quoted}
use Rattle.gs_linktext_grammar.specs.declared.written_link.Param.{Param}
use Rattle.gs_linktext_grammar.proofs.LexLemmas.{prefix_whole, not_some, some_is}
use Rattle.gs_linktext_grammar.proofs.PartLemmas.{split_none}
use Rattle.gs_linktext.specs.Links.{attr_of, attr_value, attr_with, first_error, is_language_byte, is_reserved, link_error, many_value, tagged_text, tagged_value, types_in, values_of, IsAttributes, IsLinksOf, IsLinksOfLink}
use Rattle.gs_dlink.proofs.FreeBytes.{decoded_again}
use Rattle.gs_ident.specs.Links.{percent_encoded}
use Rattle.gs_ident.proofs.MovedPairs.{differs}
use Rattle.gs_linktext.specs.Spelling.{has_unspellable_language, is_unspellable_value}
use Rattle.gs_linktext.proofs.AttrLemmas.{no_values}
use Rattle.gs_linktext.proofs.SpelledBytes.{all_from_none, language_utf8, mark_ends}
use Rattle.gs_linktext.proofs.SpelledGrammar.{read_link, read_param, said}
use Rattle.gs_linktext.proofs.SpelledLexemes.{attr_params, link_params, named, tagged_word, value_lexemes, Link}
use Rattle.gs_linktext.proofs.SpelledLinks.{AreGoodAttrs, AreGoodLinks, IsGoodAttr, IsGoodLink}
use Rattle.gs_linktext.proofs.Utf8Bytes.{utf8_bytes}
use Rattle.gs_chars.proofs.TruthsAndLists.{and_first, and_second, equal_bytes, or_first, or_second, same_bytes, true_or_false}
use Rattle.std.proofs.lemmas.Bool.{not_from_false, not-true, false_from_ne_true}

-- ---- a text with its language is read back

pub tagged_back : (pair : List ℕ × List ℕ) → is_utf8 pair.0 ≡ true → list_all is_language_byte pair.1 ≡ true → tagged_text (tagged_word pair) ≡ Some pair
tagged_back pair u h =
    let ends : stops is_language_byte (39 ∷ percent_encoded pair.0) ≡ true = not_from_false (is_language_byte 39) mark_ends in
    let whole = prefix_whole is_language_byte pair.1 (39 ∷ percent_encoded pair.0) h ends in
    rw (whole.0, whole.1, decoded_again pair.0 (utf8_bytes pair.0 u), u, language_utf8 pair.1 h) refl

pairs_back : (pairs : List (List ℕ × List ℕ)) → list_all is_tagged_text pairs ≡ true → list_any has_unspellable_language pairs ≡ false
    → filter_map tagged_text (map said (map (λ p. Word (tagged_word p)) pairs)) ≡ pairs
pairs_back [] shape h = refl
pairs_back (pair ∷ pairs) shape h =
    let text = and_first (is_utf8 pair.0) (is_utf8 pair.1) (and_first (is_tagged_text pair) (list_all is_tagged_text pairs) shape) in
    let language = all_from_none is_language_byte pair.1 (or_first (has_unspellable_language pair) (list_any has_unspellable_language pairs) h) in
    rw (tagged_back pair text language, pairs_back pairs (and_second (is_tagged_text pair) (list_all is_tagged_text pairs) shape) (or_second (has_unspellable_language pair) (list_any has_unspellable_language pairs) h)) refl

texts_back : (texts : List (List ℕ)) → map said (map (λ t. Quoted t) texts) ≡ texts
texts_back [] = refl
texts_back (text ∷ texts) = ap (λ (xs : List (List ℕ)). text ∷ xs) (texts_back texts)

many_back : (texts : List (List ℕ)) → (length texts == 0) ≡ false → many_value texts ≡ Some (Many texts)
many_back [] h = absurd (let f : true ≡ false = h in cc)
many_back (text ∷ texts) h = refl

tagged_list_back : (pairs : List (List ℕ × List ℕ)) → (length pairs == 0) ≡ false → tagged_value pairs ≡ Some (Tagged pairs)
tagged_list_back [] h = absurd (let f : true ≡ false = h in cc)
tagged_list_back (pair ∷ pairs) h = refl

value_back : (name : List ℕ) (value : AttrValue) → is_value name value ≡ true → is_unspellable_value value ≡ false
    → attr_value name (map said (value_lexemes value)) ≡ Some value
value_back name (One text) shape h =
    let tagged = not-true (is_tagged name) (and_first (not (is_tagged name)) (is_single name && is_utf8 text) shape) in
    let single = and_first (is_single name) (is_utf8 text) (and_second (not (is_tagged name)) (is_single name && is_utf8 text) shape) in
    rw (tagged, single) refl
value_back name (Many texts) shape h =
    let tagged = not-true (is_tagged name) (and_first (not (is_tagged name)) (not (is_single name) && list_all is_utf8 texts) shape) in
    let single = not-true (is_single name) (and_first (not (is_single name)) (list_all is_utf8 texts) (and_second (not (is_tagged name)) (not (is_single name) && list_all is_utf8 texts) shape)) in
    rw (tagged, single, texts_back texts) (many_back texts (or_first (length texts == 0) _ h))
value_back name (Tagged pairs) shape h =
    let tagged = and_first (is_tagged name) (list_all is_tagged_text pairs) shape in
    rw (tagged, pairs_back pairs (and_second (is_tagged name) (list_all is_tagged_text pairs) shape) (or_second (length pairs == 0) (list_any has_unspellable_language pairs) h)) (tagged_list_back pairs (or_first (length pairs == 0) _ h))

attr_back : (attr : Attr) → IsGoodAttr attr → attr_with attr.name (map said (value_lexemes attr.value)) ≡ Some attr
attr_back attr good = rw (good.reserved, value_back attr.name attr.value good.value good.spelt) refl

-- ---- the values of a name

values_both : (name : List ℕ) (xs ys : List Param) → values_of name (xs ++ ys) ≡ values_of name xs ++ values_of name ys
values_both name [] ys = refl
values_both name (x ∷ xs) ys = elim (true_or_false (bytes_eq x.name name)) [
  | inl t ↦ rw t (ap (λ (vs : List (List ℕ)). x.value ∷ vs) (values_both name xs ys))
  | inr f ↦ rw f (values_both name xs ys)
]

own_values : (n name : List ℕ) (xs : List Lexeme) → bytes_eq n name ≡ true → values_of name (map read_param (named n xs)) ≡ map said xs
own_values n name [] h = refl
own_values n name (x ∷ xs) h = rw h (ap (λ (vs : List (List ℕ)). said x ∷ vs) (own_values n name xs h))

no_values_of : (n name : List ℕ) (xs : List Lexeme) → bytes_eq n name ≡ false → values_of name (map read_param (named n xs)) ≡ []
no_values_of n name [] h = refl
no_values_of n name (x ∷ xs) h = rw h (no_values_of n name xs h)

-- the parameters of attributes, in the form in which they are read
abbrev read_attrs : List Attr → List Param
read_attrs attrs = map read_param (flat_map attr_params attrs)

values_split : (name : List ℕ) (attr : Attr) (attrs : List Attr)
    → values_of name (read_attrs (attr ∷ attrs)) ≡ values_of name (map read_param (attr_params attr)) ++ values_of name (read_attrs attrs)
values_split name attr attrs = ap (values_of name) (map-append read_param (attr_params attr) (flat_map attr_params attrs)) ∙ values_both name (map read_param (attr_params attr)) (read_attrs attrs)

-- a name is below the names of attributes
abbrev pub IsBelowAll : List ℕ → List Attr → Type 0
IsBelowAll name attrs = AllByRecursion (λ m. slice_cmp nat_cmp name m ≡ Less) (map (λ attr. attr.name) attrs)

pub below_apart : (a b : List ℕ) → slice_cmp nat_cmp a b ≡ Less → bytes_eq b a ≡ false
below_apart a b h =
    let f : is_eq (slice_cmp nat_cmp a b) ≡ false = rw h refl in
    differs a b (sym (is_eq-slice_cmp a b) ∙ f)

none_above : (name : List ℕ) (attrs : List Attr) → IsBelowAll name attrs → values_of name (read_attrs attrs) ≡ []
none_above name [] below = refl
none_above name (attr ∷ attrs) below =
    values_split name attr attrs ∙ ap (λ (vs : List (List ℕ)). vs ++ values_of name (read_attrs attrs))
    (no_values_of attr.name name (value_lexemes attr.value) (below_apart name attr.name below.0)) ∙ none_above name attrs below.1

pub below_at : (name : List ℕ) (attrs : List Attr) (i : ℕ) (attr : Attr) → IsBelowAll name attrs → slice_get attrs i ≡ Some attr
    → slice_cmp nat_cmp name attr.name ≡ Less
below_at name [] i attr below at = absurd (not_some attr at)
below_at name (a ∷ attrs) zero attr below at = rw (← some_is a attr at) below.0
below_at name (a ∷ attrs) (suc i) attr below at = below_at name attrs i attr below.1 at

-- the names of attributes ascend, each below those after it
abbrev pub AreSorted : List Attr → Type 0
AreSorted [] = Unit {0}
AreSorted (attr ∷ attrs) = IsBelowAll attr.name attrs × AreSorted attrs

pub sorted_attrs : (attrs : List Attr) → IsStrictlySortedBy (slice_cmp nat_cmp) (map (λ attr. attr.name) attrs) → AreSorted attrs
unfolding IsStrictlySortedBy
sorted_attrs [] s = tt
sorted_attrs (attr ∷ attrs) s = (s.0, sorted_attrs attrs s.1)

first_values : (attr : Attr) (attrs : List Attr) → IsBelowAll attr.name attrs
    → values_of attr.name (read_attrs (attr ∷ attrs)) ≡ map said (value_lexemes attr.value)
first_values attr attrs below =
    values_split attr.name attr attrs ∙ ap (λ (vs : List (List ℕ)). vs ++ values_of attr.name (read_attrs attrs))
    (own_values attr.name attr.name (value_lexemes attr.value) (same_bytes attr.name))
    ∙ ap (λ (vs : List (List ℕ)). map said (value_lexemes attr.value) ++ vs) (none_above attr.name attrs below) ∙ append-nil
    (map said (value_lexemes attr.value))

each_values : (attrs : List Attr) (i : ℕ) (attr : Attr) → AreSorted attrs → slice_get attrs i ≡ Some attr
    → values_of attr.name (read_attrs attrs) ≡ map said (value_lexemes attr.value)
each_values [] i attr s at = absurd (not_some attr at)
each_values (a ∷ attrs) zero attr s at = rw (← some_is a attr at) (first_values a attrs s.0)
each_values (a ∷ attrs) (suc i) attr s at =
    values_split attr.name a attrs ∙ ap (λ (vs : List (List ℕ)). vs ++ values_of attr.name (read_attrs attrs))
    (no_values_of a.name attr.name (value_lexemes a.value) (differs attr.name a.name (below_apart a.name attr.name (below_at a.name attrs i attr s.0 at)))) ∙ each_values attrs i attr s.1 at

good_at : (attrs : List Attr) (i : ℕ) (attr : Attr) → AreGoodAttrs attrs → slice_get attrs i ≡ Some attr → IsGoodAttr attr
good_at [] i attr good at = absurd (not_some attr at)
good_at (a ∷ attrs) zero attr good at = rw (← some_is a attr at) good.0
good_at (a ∷ attrs) (suc i) attr good at = good_at attrs i attr good.1 at

found_at : (name : List ℕ) (attrs : List Attr) (attr : Attr) → AreSorted attrs → AreGoodAttrs attrs
    → attr_with name (values_of name (read_attrs attrs)) ≡ Some attr → (i : ℕ) × (slice_get attrs i ≡ Some attr)
found_at name [] attr s good h = absurd (no_values name attr h)
found_at name (a ∷ attrs) attr s good h = by (bytes_eq a.name name) refl (λ g. found_at name attrs attr s.1 good.1 g)
  where
    by : (b : Bool) → bytes_eq a.name name ≡ b
        → (attr_with name (values_of name (read_attrs attrs)) ≡ Some attr → (i : ℕ) × (slice_get attrs i ≡ Some attr))
        → (i : ℕ) × (slice_get (a ∷ attrs) i ≡ Some attr)
    by true e rest =
        let same = equal_bytes a.name name e in
        let is : attr_with name (values_of name (read_attrs (a ∷ attrs))) ≡ Some a = rw (← same) (ap (attr_with a.name) (first_values a attrs s.0) ∙ attr_back a good.0) in
        (0, sym is ∙ h)
    by false e rest =
        let is : values_of name (read_attrs (a ∷ attrs)) ≡ values_of name (read_attrs attrs) = values_split name a attrs ∙ ap (λ (vs : List (List ℕ)). vs ++ values_of name (read_attrs attrs)) (no_values_of a.name name (value_lexemes a.value) e) in
        let found = rest (ap (attr_with name) (sym is) ∙ h) in
        (suc found.0, found.1)

-- ---- the attributes of a link

-- of a name that is not reserved, the values are those of the attributes
link_values : (name : List ℕ) (link : Link) → is_reserved name ≡ false
    → values_of name (map read_param (link_params link)) ≡ values_of name (read_attrs link.2.attrs)
link_values name link h =
    let rel : bytes_eq (codes "rel") name ≡ false = differs name (codes "rel") (or_first (bytes_eq name (codes "rel")) _ h) in
    let anchor : bytes_eq (codes "anchor") name ≡ false = differs name (codes "anchor") (or_first (bytes_eq name (codes "anchor")) (bytes_eq name (codes "href")) (or_second (bytes_eq name (codes "rel")) _ h)) in
    rw (rel, anchor) refl

pub not_reserved : (name : List ℕ) (values : List (List ℕ)) (attr : Attr) → attr_with name values ≡ Some attr → is_reserved name ≡ false
not_reserved name values attr h = false_from_ne_true (is_reserved name) (λ t. not_some attr (rw t at h))

pub link_attributes : (link : Link) → IsGoodLink link → IsAttributes (map read_param (link_params link)) link.2.attrs
link_attributes link good = record { ascending = good.ascending; each = each; every_name = named_so }
  where
    in_order : AreSorted link.2.attrs
    in_order = sorted_attrs link.2.attrs (sorted (map (λ attr. attr.name) link.2.attrs) good.ascending)

    each : (i : ℕ) (attr : Attr) → slice_get link.2.attrs i ≡ Some attr → attr_of (map read_param (link_params link)) attr.name ≡ Some attr
    each i attr at =
        let own = good_at link.2.attrs i attr good.attrs at in
        ap (attr_with attr.name) (link_values attr.name link own.reserved ∙ each_values link.2.attrs i attr in_order at) ∙ attr_back attr own

    named_so : (name : List ℕ) (attr : Attr) → attr_of (map read_param (link_params link)) name ≡ Some attr → (i : ℕ) × (slice_get link.2.attrs i ≡ Some attr)
    named_so name attr h =
        let apart_from = not_reserved name (values_of name (map read_param (link_params link))) attr h in
        found_at name link.2.attrs attr in_order good.attrs (ap (attr_with name) (sym (link_values name link apart_from)) ∙ h)

-- ---- the links of a link

one_type : (link : Link) → IsGoodLink link → types_in link.1 ≡ link.1 ∷ []
one_type link good = ap (filter is_some_part) (split_none is_blank link.1 good.type_whole) ∙ rw good.type_some refl

pub link_links : (link : Link) → IsGoodLink link → IsLinksOfLink (read_link link) (link ∷ [])
link_links link good = record { attrs = link.2.attrs; attributes = link_attributes link good; is = is }
  where
    with_type : List ℕ → Link
    with_type type = (link.0, type, record { href = link.2.href; attrs = link.2.attrs })

    is : link ∷ [] ≡ map with_type (types_in link.1)
    is = sym (ap (map with_type) (one_type link good))

no_error : (i : ℕ) (link : Link) → IsGoodLink link → link_error i (read_link link) ≡ None
no_error i link good = rw (one_type link good, good.type_apart) refl

pub links_given : (links : List Link) → AreGoodLinks links → IsLinksOf (map read_link links) links
links_given [] good = refl
links_given (link ∷ links) good = (link ∷ [], links, link_links link good.0, links_given links good.1, refl)

pub links_error_free : (i : ℕ) (links : List Link) → AreGoodLinks links → first_error i (map read_link links) ≡ None
links_error_free i [] good = refl
links_error_free i (link ∷ links) good = rw (no_error i link good.0) (links_error_free (i + 1) links good.1)
