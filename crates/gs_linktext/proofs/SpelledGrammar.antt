-- The links of the grammar that the lexemes of spelled links are.
use Rattle.std.proofs.Common.{◌≡◌, ℕ, ◌==◌, ◌&&◌, not, Bool, true, false, List, [], ◌∷◌, ◌++◌, Some, codes, filter, length, map, refl, ap, sym, ◌∙◌, append-nil}
use Rattle.std.specs.List.{flat_map, list_all, list_any, slice_split}
use Rattle.std.specs.Str.{is_utf8}
use Rattle.std.proofs.lemmas.List.Folds.{list_all-append}
use Rattle.gs_linkset.specs.Attributes.{every}
use Rattle.gs_linkset.specs.LinkShapes.{is_value}
use Rattle.gs_linkset.specs.declared.link_types.Attr.{Attr}
use Rattle.gs_linkset.specs.declared.link_types.AttrValue.{AttrValue}
use Rattle.gs_linkset.specs.declared.link_types.AttrValue.TheVariants.{One, Many, Tagged}
use Rattle.gs_linktext_grammar.specs.Bytes.{is_target_byte, is_token}
use Rattle.gs_linktext_grammar.specs.Lexemes.{are_some}
use Rattle.gs_linktext_grammar.specs.Grammar.{href_in, is_comma, is_semicolon, is_some_part, link_of, param_of, params_of, value_in, written_link, written_links}
use Rattle.gs_linktext_grammar.specs.declared.lexeme.Lexeme.{Lexeme}
use Rattle.gs_linktext_grammar.specs.declared.lexeme.Lexeme.TheVariants.{Comma, Semicolon, Equals, Word, Target as Angled, Quoted}
use Rattle.gs_linktext_grammar.specs.declared.written_link.Param.{Param}
use Rattle.gs_linktext_grammar.specs.declared.written_link.WrittenLink.{WrittenLink}
use Rattle.gs_linktext_grammar.proofs.PartLemmas.{split_at, split_none}
use Rattle.gs_linktext.specs.Spelling.{is_upper}
use Rattle.gs_linktext.proofs.SpelledBytes.{lower_same, some_cons, tokens_utf8}
use Rattle.gs_linktext.proofs.SpelledLexemes.{attr_params, behind_lexemes, is_spelt, is_spelt_link, is_spelt_value, lexemes_of, link_lexemes, link_params, links_lexemes, named, tagged_word, value_lexemes, Link, Spelt}
use Rattle.gs_linktext.proofs.SpelledLinks.{link_spelt, links_spelt, AreGoodAttrs, AreGoodLinks, IsGoodLink}
use Rattle.gs_chars.proofs.TruthsAndLists.{and_first, and_second}
use Rattle.std.proofs.lemmas.Bool.{and_from, not_from_false, not-true}

-- the value of a lexeme
abbrev pub said : Lexeme → List ℕ
said Comma = []
said Semicolon = []
said Equals = []
said (Word w) = w
said (Angled h) = []
said (Quoted v) = v

-- a parameter, in the form in which it is read
abbrev pub read_param : Spelt → Param
read_param p = record { name = p.0; value = said p.1 }

-- a link, in the form in which it is read
abbrev pub read_link : Link → WrittenLink
read_link link = record { href = link.2.href; params = map read_param (link_params link) }

-- ---- the value of a parameter is UTF-8, and its name in lower case

abbrev is_read : Spelt → Bool
is_read p = not (list_any is_upper p.0) && is_utf8 (said p.1)

named_read : (name : List ℕ) (xs : List Lexeme) → not (list_any is_upper name) ≡ true → list_all (λ x. is_utf8 (said x)) xs ≡ true
    → list_all is_read (named name xs) ≡ true
named_read name [] h all = refl
named_read name (x ∷ xs) h all =
    and_from (is_read (name, x)) _ (and_from (not (list_any is_upper name)) (is_utf8 (said x)) h (and_first (is_utf8 (said x)) (list_all (λ y. is_utf8 (said y)) xs) all)) (named_read name xs h (and_second (is_utf8 (said x)) (list_all (λ y. is_utf8 (said y)) xs) all))

abbrev is_said : Lexeme → Bool
is_said x = is_utf8 (said x)

texts_said : (texts : List (List ℕ)) → list_all is_utf8 texts ≡ true → list_all is_said (map (λ t. Quoted t) texts) ≡ true
texts_said [] h = refl
texts_said (text ∷ texts) h = and_from (is_utf8 text) _ (and_first (is_utf8 text) (list_all is_utf8 texts) h)
    (texts_said texts (and_second (is_utf8 text) (list_all is_utf8 texts) h))

pairs_said : (pairs : List (List ℕ × List ℕ)) → list_all is_spelt_value (map (λ p. Word (tagged_word p)) pairs) ≡ true
    → list_all is_said (map (λ p. Word (tagged_word p)) pairs) ≡ true
pairs_said [] h = refl
pairs_said (pair ∷ pairs) h =
    let own = and_first (are_some is_token (tagged_word pair)) _ h in
    and_from (is_utf8 (tagged_word pair)) _ (tokens_utf8 (tagged_word pair) (and_second _ (list_all is_token (tagged_word pair)) own))
    (pairs_said pairs (and_second (are_some is_token (tagged_word pair)) _ h))

value_said : (name : List ℕ) (value : AttrValue) → is_value name value ≡ true → list_all is_spelt_value (value_lexemes value) ≡ true
    → list_all is_said (value_lexemes value) ≡ true
value_said name (One text) shape h = and_from (is_utf8 text) true (and_second _ (is_utf8 text) (and_second _ _ shape)) refl
value_said name (Many texts) shape h = texts_said texts (and_second _ (list_all is_utf8 texts) (and_second _ _ shape))
value_said name (Tagged pairs) shape h = pairs_said pairs h

values_spelt : (name : List ℕ) (xs : List Lexeme) → list_all is_spelt (named name xs) ≡ true → list_all is_spelt_value xs ≡ true
values_spelt name [] h = refl
values_spelt name (x ∷ xs) h =
    and_from (is_spelt_value x) _ (and_second (are_some is_token name) (is_spelt_value x) (and_first (is_spelt (name, x)) (list_all is_spelt (named name xs)) h)) (values_spelt name xs (and_second (is_spelt (name, x)) (list_all is_spelt (named name xs)) h))

attrs_read : (attrs : List Attr) → AreGoodAttrs attrs → list_all is_spelt (flat_map attr_params attrs) ≡ true
    → list_all is_read (flat_map attr_params attrs) ≡ true
attrs_read [] good h = refl
attrs_read (attr ∷ attrs) good h =
    let parts : (list_all is_spelt (attr_params attr) && list_all is_spelt (flat_map attr_params attrs)) ≡ true = sym (list_all-append is_spelt (attr_params attr) (flat_map attr_params attrs)) ∙ h in
    let own = value_said attr.name attr.value good.0.value (values_spelt attr.name (value_lexemes attr.value) (and_first (list_all is_spelt (attr_params attr)) (list_all is_spelt (flat_map attr_params attrs)) parts)) in
    list_all-append is_read (attr_params attr) (flat_map attr_params attrs)
    ∙ and_from (list_all is_read (attr_params attr)) (list_all is_read (flat_map attr_params attrs))
    (named_read attr.name (value_lexemes attr.value) (not_from_false (list_any is_upper attr.name) good.0.lower) own)
    (attrs_read attrs good.1 (and_second (list_all is_spelt (attr_params attr)) (list_all is_spelt (flat_map attr_params attrs)) parts))

params_read : (link : Link) → IsGoodLink link → list_all is_read (link_params link) ≡ true
params_read link good =
    let spelt = link_spelt link good in
    let all = and_second (are_some is_target_byte link.2.href) (list_all is_spelt (link_params link)) spelt in
    let behind = and_second (is_spelt (codes "rel", Quoted link.1)) _ all in
    let attrs = attrs_read link.2.attrs good.attrs (and_second (is_spelt (codes "anchor", Quoted link.0)) _ behind) in
    and_from (is_read (codes "rel", Quoted link.1)) _ good.type_utf8 (and_from (is_read (codes "anchor", Quoted link.0)) _ good.anchor_utf8 attrs)

-- ---- a parameter is read as itself

-- the lexemes of a parameter after its semicolon
abbrev part_of : Spelt → List Lexeme
part_of p = Word p.0 ∷ Equals ∷ p.1 ∷ []

value_is : (v : Lexeme) → is_spelt_value v ≡ true → value_in v ≡ Some (said v)
value_is Comma h = absurd (let f : false ≡ true = h in cc)
value_is Semicolon h = absurd (let f : false ≡ true = h in cc)
value_is Equals h = absurd (let f : false ≡ true = h in cc)
value_is (Word w) h = refl
value_is (Angled w) h = absurd (let f : false ≡ true = h in cc)
value_is (Quoted v) h = refl

param_is : (p : Spelt) → is_spelt p ≡ true → is_read p ≡ true → param_of (part_of p) ≡ Some (read_param p)
param_is p h g =
    let value = value_is p.1 (and_second (are_some is_token p.0) (is_spelt_value p.1) h) in
    let lower = lower_same p.0 (not-true (list_any is_upper p.0) (and_first (not (list_any is_upper p.0)) (is_utf8 (said p.1)) g)) in
    let name : is_utf8 p.0 ≡ true = tokens_utf8 p.0 (and_second (not (length p.0 == 0)) (list_all is_token p.0) (and_first (are_some is_token p.0) (is_spelt_value p.1) h)) in
    rw (value, lower, name, and_second (not (list_any is_upper p.0)) (is_utf8 (said p.1)) g) refl

every_param : (ps : List Spelt) → list_all is_spelt ps ≡ true → list_all is_read ps ≡ true → every param_of (map part_of ps) ≡ Some (map read_param ps)
every_param [] h g = refl
every_param (p ∷ ps) h g =
    let own = param_is p (and_first (is_spelt p) (list_all is_spelt ps) h) (and_first (is_read p) (list_all is_read ps) g) in
    let rest = every_param ps (and_second (is_spelt p) (list_all is_spelt ps) h) (and_second (is_read p) (list_all is_read ps) g) in
    rw (own, rest) refl

some_parts : (ps : List Spelt) → filter is_some_part (map part_of ps) ≡ map part_of ps
some_parts [] = refl
some_parts (p ∷ ps) = ap (λ (xs : List (List Lexeme)). part_of p ∷ xs) (some_parts ps)

-- ---- the lexemes between signs

value_no_sign : (v : Lexeme) → is_spelt_value v ≡ true → (is_comma v ≡ false) × (is_semicolon v ≡ false)
value_no_sign Comma h = absurd (let f : false ≡ true = h in cc)
value_no_sign Semicolon h = absurd (let f : false ≡ true = h in cc)
value_no_sign Equals h = absurd (let f : false ≡ true = h in cc)
value_no_sign (Word w) h = (refl, refl)
value_no_sign (Angled w) h = absurd (let f : false ≡ true = h in cc)
value_no_sign (Quoted v) h = (refl, refl)

abbrev no_semicolon : List Lexeme → Type 0
no_semicolon xs = list_all (λ x. not (is_semicolon x)) xs ≡ true

params_split : (piece : List Lexeme) (ps : List Spelt) → no_semicolon piece → list_all is_spelt ps ≡ true
    → slice_split is_semicolon (piece ++ flat_map lexemes_of ps) ≡ piece ∷ map part_of ps
params_split piece [] none h = ap (slice_split is_semicolon) (append-nil piece) ∙ split_none is_semicolon piece none
params_split piece (p ∷ ps) none h =
    let signs = value_no_sign p.1 (and_second (are_some is_token p.0) (is_spelt_value p.1) (and_first (is_spelt p) (list_all is_spelt ps) h)) in
    let own : no_semicolon (part_of p) = rw signs.1 refl in
    split_at is_semicolon piece Semicolon (part_of p ++ flat_map lexemes_of ps) none refl ∙ ap (λ (xs : List (List Lexeme)). piece ∷ xs)
    (params_split (part_of p) ps own (and_second (is_spelt p) (list_all is_spelt ps) h))

link_of_text : (link : Link) → IsGoodLink link → written_link (link_lexemes link) ≡ Some (read_link link)
link_of_text link good =
    let all = and_second (are_some is_target_byte link.2.href) (list_all is_spelt (link_params link)) (link_spelt link good) in
    let params : params_of (map part_of (link_params link)) ≡ Some (map read_param (link_params link)) = ap (every param_of) (some_parts (link_params link)) ∙ every_param (link_params link) all (params_read link good) in
    let href : href_in (Angled link.2.href) ≡ Some link.2.href = rw good.href_utf8 refl in
    ap link_of (params_split (Angled link.2.href ∷ []) (link_params link) refl all) ∙ rw (good.href_utf8, params) refl

abbrev no_comma : List Lexeme → Type 0
no_comma xs = list_all (λ x. not (is_comma x)) xs ≡ true

params_no_comma : (ps : List Spelt) → list_all is_spelt ps ≡ true → no_comma (flat_map lexemes_of ps)
params_no_comma [] h = refl
params_no_comma (p ∷ ps) h =
    let signs = value_no_sign p.1 (and_second (are_some is_token p.0) (is_spelt_value p.1) (and_first (is_spelt p) (list_all is_spelt ps) h)) in
    rw (signs.0, params_no_comma ps (and_second (is_spelt p) (list_all is_spelt ps) h)) refl

link_no_comma : (link : Link) → is_spelt_link link ≡ true → no_comma (link_lexemes link)
link_no_comma link h = params_no_comma (link_params link) (and_second (are_some is_target_byte link.2.href) (list_all is_spelt (link_params link)) h)

links_split : (piece : List Lexeme) (links : List Link) → no_comma piece → list_all is_spelt_link links ≡ true
    → slice_split is_comma (piece ++ flat_map behind_lexemes links) ≡ piece ∷ map link_lexemes links
links_split piece [] none h = ap (slice_split is_comma) (append-nil piece) ∙ split_none is_comma piece none
links_split piece (link ∷ links) none h =
    split_at is_comma piece Comma (link_lexemes link ++ flat_map behind_lexemes links) none refl
    ∙ ap (λ (xs : List (List Lexeme)). piece ∷ xs) (links_split (link_lexemes link) links (link_no_comma link (and_first (is_spelt_link link) (list_all is_spelt_link links) h)) (and_second (is_spelt_link link) (list_all is_spelt_link links) h))

some_links : (links : List Link) → filter is_some_part (map link_lexemes links) ≡ map link_lexemes links
some_links [] = refl
some_links (link ∷ links) = rw (some_cons (Angled link.2.href) (flat_map lexemes_of (link_params link)), some_links links) refl

every_link : (links : List Link) → AreGoodLinks links → every written_link (map link_lexemes links) ≡ Some (map read_link links)
every_link [] good = refl
every_link (link ∷ links) good = rw (link_of_text link good.0, every_link links good.1) refl

pub links_written : (links : List Link) → AreGoodLinks links → written_links (links_lexemes links) ≡ Some (map read_link links)
links_written [] good = refl
links_written (link ∷ links) good =
    let spelt = links_spelt (link ∷ links) good in
    ap (λ xs. every written_link (filter is_some_part xs)) (links_split (link_lexemes link) links (link_no_comma link (link_spelt link good.0)) (and_second (is_spelt_link link) (list_all is_spelt_link links) spelt))
    ∙ ap (every written_link) (some_links (link ∷ links)) ∙ every_link (link ∷ links) good
