-- A spelled link is valid: the facts about its parts.
use Rattle.std.proofs.Common.{◌≡◌, ℕ, ◌+◌, ◌==◌, ◌||◌, ◌&&◌, not, Bool, true, false, List, [], ◌∷◌, Some, None, codes, length, map, position, bytes_eq, refl, sym, ◌∙◌}
use Rattle.std.specs.List.{flat_map, list_all, list_any, position_from}
use Rattle.std.specs.Str.{is_utf8}
use Rattle.std.proofs.lemmas.Iterator.Adapters.{position_from-zero}
use Rattle.std.proofs.lemmas.List.Folds.{list_all-append}
use Rattle.gs_linkset.specs.LinkShapes.{ascend, is_attr, is_context, is_relation, is_tagged_text, is_target, is_value, links_of_context, links_of_document, links_of_relation, relation_names}
use Rattle.gs_linkset.specs.declared.link_types.Attr.{Attr}
use Rattle.gs_linkset.specs.declared.link_types.AttrValue.{AttrValue}
use Rattle.gs_linkset.specs.declared.link_types.AttrValue.TheVariants.{One, Many, Tagged}
use Rattle.gs_linkset.specs.declared.link_types.Context.{Context}
use Rattle.gs_linkset.specs.declared.link_types.Relation.{Relation}
use Rattle.gs_linkset.specs.declared.link_types.Target.{Target}
use Rattle.gs_linktext_grammar.specs.Bytes.{is_blank, is_quotable, is_target_byte, is_token}
use Rattle.gs_linktext_grammar.specs.Lexemes.{are_some}
use Rattle.gs_linktext_grammar.specs.declared.lexeme.Lexeme.{Lexeme}
use Rattle.gs_linktext_grammar.specs.declared.lexeme.Lexeme.TheVariants.{Word, Quoted}
use Rattle.gs_linktext.specs.Links.{is_language_byte, is_reserved}
use Rattle.gs_linktext.specs.Spelling.{cannot_spell, has_unspellable_language, is_unspellable_attr, is_unspellable_href, is_unspellable_name, is_unspellable_text, is_unspellable_type, is_unspellable_value, is_upper}
use Rattle.gs_linktext.proofs.SpelledBytes.{all_from_none, none_all, word_tokens}
use Rattle.gs_linktext.proofs.SpelledLexemes.{attr_params, is_spelt, is_spelt_link, is_spelt_value, link_params, named, tagged_word, value_lexemes, Link}
use Rattle.gs_linktext.proofs.Utf8Bytes.{utf8_bytes}
use Rattle.gs_chars.proofs.TruthsAndLists.{and_first, and_second, or_first, or_second}
use Rattle.std.proofs.lemmas.Bool.{and_from, not_from_false, not-false, not-true}

-- ---- the facts about an attribute and a link that can be spelled

pub record IsGoodAttr (attr : Attr) : Type 0 where
  pub token : are_some is_token attr.name ≡ true
  pub lower : list_any is_upper attr.name ≡ false
  pub reserved : is_reserved attr.name ≡ false
  pub value : is_value attr.name attr.value ≡ true
  pub spelt : is_unspellable_value attr.value ≡ false

abbrev pub AreGoodAttrs : List Attr → Type 0
AreGoodAttrs [] = Unit {0}
AreGoodAttrs (attr ∷ attrs) = IsGoodAttr attr × AreGoodAttrs attrs

pub record IsGoodLink (link : Link) : Type 0 where
  pub href : are_some is_target_byte link.2.href ≡ true
  pub href_utf8 : is_utf8 link.2.href ≡ true
  pub type_some : not (length link.1 == 0) ≡ true
  pub type_whole : list_all (λ c. not (is_blank c)) link.1 ≡ true
  pub type_quotable : list_all is_quotable link.1 ≡ true
  pub type_utf8 : is_utf8 link.1 ≡ true
  pub type_apart : bytes_eq link.1 (codes "anchor") ≡ false
  pub anchor_quotable : list_all is_quotable link.0 ≡ true
  pub anchor_utf8 : is_utf8 link.0 ≡ true
  pub ascending : ascend (map (λ attr. attr.name) link.2.attrs) ≡ true
  pub attrs : AreGoodAttrs link.2.attrs

abbrev pub AreGoodLinks : List Link → Type 0
AreGoodLinks [] = Unit {0}
AreGoodLinks (link ∷ links) = IsGoodLink link × AreGoodLinks links

good_attr : (attr : Attr) → is_attr attr ≡ true → is_unspellable_attr attr ≡ false → IsGoodAttr attr
unfolding is_attr
good_attr attr shape h = record { token = token; lower = lower; reserved = reserved; value = value; spelt = or_second (is_unspellable_name attr.name) (is_unspellable_value attr.value) h }
  where
    token_by : Bool
    token_by = are_some is_token attr.name

    names : (list_any is_upper attr.name || (bytes_eq attr.name (codes "rel") || bytes_eq attr.name (codes "anchor"))) ≡ false
    names = or_second (not token_by) _ (or_first (is_unspellable_name attr.name) (is_unspellable_value attr.value) h)

    token : token_by ≡ true
    token = not-false token_by (or_first (not token_by) _ (or_first (is_unspellable_name attr.name) (is_unspellable_value attr.value) h))

    lower : list_any is_upper attr.name ≡ false
    lower = or_first (list_any is_upper attr.name) _ names

    reserved : is_reserved attr.name ≡ false
    reserved =
        let both = or_second (list_any is_upper attr.name) _ names in
        let rel : bytes_eq attr.name (codes "rel") ≡ false = or_first (bytes_eq attr.name (codes "rel")) (bytes_eq attr.name (codes "anchor")) both in
        let anchor : bytes_eq attr.name (codes "anchor") ≡ false = or_second (bytes_eq attr.name (codes "rel")) (bytes_eq attr.name (codes "anchor")) both in
        let href : bytes_eq attr.name (codes "href") ≡ false = not-true (bytes_eq attr.name (codes "href")) (and_first (not (bytes_eq attr.name (codes "href"))) _ shape) in
        rw (rel, anchor, href) refl

    value : is_value attr.name attr.value ≡ true
    value = and_second (is_utf8 attr.name) (is_value attr.name attr.value) (and_second (not (bytes_eq attr.name (codes "href"))) _ shape)

good_attrs : (attrs : List Attr) → list_all is_attr attrs ≡ true → list_any is_unspellable_attr attrs ≡ false → AreGoodAttrs attrs
good_attrs [] all none = tt
good_attrs (attr ∷ attrs) all none =
    (good_attr attr (and_first (is_attr attr) (list_all is_attr attrs) all) (or_first (is_unspellable_attr attr) (list_any is_unspellable_attr attrs) none), good_attrs attrs (and_second (is_attr attr) (list_all is_attr attrs) all) (or_second (is_unspellable_attr attr) (list_any is_unspellable_attr attrs) none))

-- ---- the links of a document that has the shape

abbrev pub is_shaped : Link → Bool
is_shaped link = is_utf8 link.0 && (not (bytes_eq link.1 (codes "anchor")) && (is_utf8 link.1 && is_target link.2))

shaped_targets : (anchor name : List ℕ) (targets : List Target) → is_utf8 anchor ≡ true → not (bytes_eq name (codes "anchor")) ≡ true
    → is_utf8 name ≡ true → list_all is_target targets ≡ true → list_all is_shaped (map (λ target. (anchor, name, target)) targets) ≡ true
shaped_targets anchor name [] a n u all = refl
shaped_targets anchor name (target ∷ targets) a n u all =
    let own = and_first (is_target target) (list_all is_target targets) all in
    let rest = shaped_targets anchor name targets a n u (and_second (is_target target) (list_all is_target targets) all) in
    and_from (is_shaped (anchor, name, target)) _ (and_from (is_utf8 anchor) _ a (and_from (not (bytes_eq name (codes "anchor"))) _ n (and_from (is_utf8 name) (is_target target) u own))) rest

shaped_relations : (anchor : List ℕ) (relations : List Relation) → is_utf8 anchor ≡ true → list_all is_relation relations ≡ true
    → list_all is_shaped (flat_map (links_of_relation anchor) relations) ≡ true
unfolding is_relation
shaped_relations anchor [] a all = refl
shaped_relations anchor (relation ∷ relations) a all =
    let own = and_first (is_relation relation) (list_all is_relation relations) all in
    let rest = shaped_relations anchor relations a (and_second (is_relation relation) (list_all is_relation relations) all) in
    let parts = and_second (not (bytes_eq relation.name (codes "anchor"))) (is_utf8 relation.name && list_all is_target relation.targets) own in
    let first = shaped_targets anchor relation.name relation.targets a (and_first (not (bytes_eq relation.name (codes "anchor"))) (is_utf8 relation.name && list_all is_target relation.targets) own) (and_first (is_utf8 relation.name) (list_all is_target relation.targets) parts) (and_second (is_utf8 relation.name) (list_all is_target relation.targets) parts) in
    list_all-append is_shaped (links_of_relation anchor relation) (flat_map (links_of_relation anchor) relations) ∙ and_from
    (list_all is_shaped (links_of_relation anchor relation)) (list_all is_shaped (flat_map (links_of_relation anchor) relations)) first rest

shaped_context : (context : Context) → is_context context ≡ true → list_all is_shaped (links_of_context context) ≡ true
unfolding is_context
shaped_context context h =
    let rest = and_second (is_utf8 context.anchor) (ascend (relation_names context.relations) && list_all is_relation context.relations) h in
    shaped_relations context.anchor context.relations (and_first (is_utf8 context.anchor) (ascend (relation_names context.relations) && list_all is_relation context.relations) h) (and_second (ascend (relation_names context.relations)) (list_all is_relation context.relations) rest)

shaped_links : (contexts : List Context) → list_all is_context contexts ≡ true → list_all is_shaped (links_of_document contexts) ≡ true
shaped_links [] h = refl
shaped_links (context ∷ contexts) h =
    let first = shaped_context context (and_first (is_context context) (list_all is_context contexts) h) in
    let rest = shaped_links contexts (and_second (is_context context) (list_all is_context contexts) h) in
    list_all-append is_shaped (links_of_context context) (links_of_document contexts) ∙ and_from
    (list_all is_shaped (links_of_context context)) (list_all is_shaped (links_of_document contexts)) first rest

none_from : (links : List Link) (i : ℕ) → position_from cannot_spell i links ≡ None → list_any cannot_spell links ≡ false
none_from [] i h = refl
none_from (link ∷ links) i h = by (cannot_spell link) refl (λ g. none_from links (i + 1) g)
  where
    by : (b : Bool) → cannot_spell link ≡ b → (position_from cannot_spell (i + 1) links ≡ None → list_any cannot_spell links ≡ false)
        → list_any cannot_spell (link ∷ links) ≡ false
    by true e rest = absurd (let g = rw e at h in let bad : Some i ≡ None = g in cc)
    by false e rest = rw e (rest (rw e at h))

good_link : (link : Link) → is_shaped link ≡ true → cannot_spell link ≡ false → IsGoodLink link
unfolding is_target
good_link link shape h = record {
  href = not-false (are_some is_target_byte link.2.href) (or_first (is_unspellable_href link.2.href) _ h);
  href_utf8 = and_first (is_utf8 link.2.href) _ target;
  type_some = not_from_false (length link.1 == 0) (or_first (length link.1 == 0) (list_any is_blank link.1) type);
  type_whole = none_all is_blank link.1 (or_second (length link.1 == 0) (list_any is_blank link.1) type);
  type_quotable = all_from_none is_quotable link.1 (or_first (is_unspellable_text link.1) _ texts);
  type_utf8 = and_first (is_utf8 link.1) (is_target link.2) (and_second (not (bytes_eq link.1 (codes "anchor"))) _ behind);
  type_apart = not-true (bytes_eq link.1 (codes "anchor")) (and_first (not (bytes_eq link.1 (codes "anchor"))) _ behind);
  anchor_quotable = all_from_none is_quotable link.0 (or_first (is_unspellable_text link.0) _ (or_second (is_unspellable_text link.1) _ texts));
  anchor_utf8 = and_first (is_utf8 link.0) _ shape;
  ascending = and_first (ascend (map (λ attr. attr.name) link.2.attrs)) _ (and_second (is_utf8 link.2.href) _ target);
  attrs = good_attrs link.2.attrs (and_second (ascend (map (λ attr. attr.name) link.2.attrs)) _ (and_second (is_utf8 link.2.href) _ target))
      (or_second (is_unspellable_text link.0) _ (or_second (is_unspellable_text link.1) _ texts));
}
  where
    behind : (not (bytes_eq link.1 (codes "anchor")) && (is_utf8 link.1 && is_target link.2)) ≡ true
    behind = and_second (is_utf8 link.0) _ shape

    target : is_target link.2 ≡ true
    target = and_second (is_utf8 link.1) (is_target link.2) (and_second (not (bytes_eq link.1 (codes "anchor"))) _ behind)

    type : is_unspellable_type link.1 ≡ false
    type = or_first (is_unspellable_type link.1) _ (or_second (is_unspellable_href link.2.href) _ h)

    texts : (is_unspellable_text link.1 || (is_unspellable_text link.0 || list_any is_unspellable_attr link.2.attrs)) ≡ false
    texts = or_second (is_unspellable_type link.1) _ (or_second (is_unspellable_href link.2.href) _ h)

good_each : (links : List Link) → list_all is_shaped links ≡ true → list_any cannot_spell links ≡ false → AreGoodLinks links
good_each [] all none = tt
good_each (link ∷ links) all none =
    (good_link link (and_first (is_shaped link) (list_all is_shaped links) all) (or_first (cannot_spell link) (list_any cannot_spell links) none), good_each links (and_second (is_shaped link) (list_all is_shaped links) all) (or_second (cannot_spell link) (list_any cannot_spell links) none))

pub good_links : (contexts : List Context) → list_all is_context contexts ≡ true → position cannot_spell (links_of_document contexts) ≡ None
    → AreGoodLinks (links_of_document contexts)
good_links contexts shaped none =
    good_each (links_of_document contexts) (shaped_links contexts shaped)
    (none_from (links_of_document contexts) 0 (sym (position_from-zero cannot_spell (links_of_document contexts)) ∙ none))

-- ---- the lexemes of a good link are valid

texts_spelt : (texts : List (List ℕ)) → list_any is_unspellable_text texts ≡ false → list_all is_spelt_value (map (λ t. Quoted t) texts) ≡ true
texts_spelt [] h = refl
texts_spelt (text ∷ texts) h =
    and_from (list_all is_quotable text) _ (all_from_none is_quotable text (or_first (is_unspellable_text text) (list_any is_unspellable_text texts) h)) (texts_spelt texts (or_second (is_unspellable_text text) (list_any is_unspellable_text texts) h))

pairs_spelt : (pairs : List (List ℕ × List ℕ)) → list_all is_tagged_text pairs ≡ true → list_any has_unspellable_language pairs ≡ false
    → list_all is_spelt_value (map (λ p. Word (tagged_word p)) pairs) ≡ true
pairs_spelt [] shape h = refl
pairs_spelt (pair ∷ pairs) shape h =
    let language = all_from_none is_language_byte pair.1 (or_first (has_unspellable_language pair) (list_any has_unspellable_language pairs) h) in
    let text = and_first (is_utf8 pair.0) (is_utf8 pair.1) (and_first (is_tagged_text pair) (list_all is_tagged_text pairs) shape) in
    and_from (are_some is_token (tagged_word pair)) _ (word_tokens pair language (utf8_bytes pair.0 text))
    (pairs_spelt pairs (and_second (is_tagged_text pair) (list_all is_tagged_text pairs) shape) (or_second (has_unspellable_language pair) (list_any has_unspellable_language pairs) h))

value_spelt : (name : List ℕ) (value : AttrValue) → is_value name value ≡ true → is_unspellable_value value ≡ false
    → list_all is_spelt_value (value_lexemes value) ≡ true
value_spelt name (One text) shape h = and_from (list_all is_quotable text) true (all_from_none is_quotable text h) refl
value_spelt name (Many texts) shape h = texts_spelt texts (or_second (length texts == 0) (list_any is_unspellable_text texts) h)
value_spelt name (Tagged pairs) shape h = pairs_spelt pairs (and_second _ (list_all is_tagged_text pairs) shape)
    (or_second (length pairs == 0) (list_any has_unspellable_language pairs) h)

named_spelt : (name : List ℕ) (xs : List Lexeme) → are_some is_token name ≡ true → list_all is_spelt_value xs ≡ true → list_all is_spelt (named name xs) ≡ true
named_spelt name [] h all = refl
named_spelt name (x ∷ xs) h all =
    and_from (is_spelt (name, x)) _ (and_from (are_some is_token name) (is_spelt_value x) h (and_first (is_spelt_value x) (list_all is_spelt_value xs) all)) (named_spelt name xs h (and_second (is_spelt_value x) (list_all is_spelt_value xs) all))

attrs_spelt : (attrs : List Attr) → AreGoodAttrs attrs → list_all is_spelt (flat_map attr_params attrs) ≡ true
attrs_spelt [] good = refl
attrs_spelt (attr ∷ attrs) good =
    let own = named_spelt attr.name (value_lexemes attr.value) good.0.token (value_spelt attr.name attr.value good.0.value good.0.spelt) in
    list_all-append is_spelt (attr_params attr) (flat_map attr_params attrs) ∙ and_from (list_all is_spelt (attr_params attr))
    (list_all is_spelt (flat_map attr_params attrs)) own (attrs_spelt attrs good.1)

rel_token : are_some is_token (codes "rel") ≡ true
unfolding is_token
rel_token = refl

anchor_token : are_some is_token (codes "anchor") ≡ true
unfolding is_token
anchor_token = refl

pub link_spelt : (link : Link) → IsGoodLink link → is_spelt_link link ≡ true
link_spelt link good =
    let rel : is_spelt (codes "rel", Quoted link.1) ≡ true = and_from (are_some is_token (codes "rel")) (list_all is_quotable link.1) rel_token good.type_quotable in
    let anchor : is_spelt (codes "anchor", Quoted link.0) ≡ true = and_from (are_some is_token (codes "anchor")) (list_all is_quotable link.0) anchor_token good.anchor_quotable in
    let rest = attrs_spelt link.2.attrs good.attrs in
    and_from (are_some is_target_byte link.2.href) (list_all is_spelt (link_params link)) good.href
    (and_from (is_spelt (codes "rel", Quoted link.1)) _ rel (and_from (is_spelt (codes "anchor", Quoted link.0)) _ anchor rest))

pub links_spelt : (links : List Link) → AreGoodLinks links → list_all is_spelt_link links ≡ true
links_spelt [] good = refl
links_spelt (link ∷ links) good = and_from (is_spelt_link link) (list_all is_spelt_link links) (link_spelt link good.0) (links_spelt links good.1)
