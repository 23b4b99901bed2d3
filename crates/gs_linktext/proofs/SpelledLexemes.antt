-- The lexemes of a spelled document.
use Rattle.std.proofs.Common.{◌≡◌, ℕ, ◌==◌, ◌||◌, ◌&&◌, not, Bool, true, false, List, [], ◌∷◌, ◌++◌, Option, Some, None, codes, map, refl, ap, sym, ◌∙◌, append_assoc, append-nil}
use Rattle.std.specs.List.{flat_map, list_all}
use Rattle.std.proofs.lemmas.Grind.{flat_map-append}
use Rattle.std.proofs.lemmas.List.Folds.{flat_map-map}
use Rattle.gs_linkset.specs.declared.link_types.Attr.{Attr}
use Rattle.gs_linkset.specs.declared.link_types.AttrValue.{AttrValue}
use Rattle.gs_linkset.specs.declared.link_types.AttrValue.TheVariants.{One, Many, Tagged}
use Rattle.gs_linkset.specs.declared.link_types.Target.{Target}
use Rattle.gs_linktext_grammar.specs.Bytes.{is_blank, is_quotable, is_quoted_byte, is_target_byte, is_token}
use Rattle.gs_linktext_grammar.specs.Lexemes.{are_some, Chain, IsLexeme, Lexed, stops, unquoted}
use Rattle.gs_linktext_grammar.specs.declared.lexeme.Lexeme.{Lexeme}
use Rattle.gs_linktext_grammar.specs.declared.lexeme.Lexeme.TheVariants.{Comma, Semicolon, Equals, Word, Target as Angled, Quoted}
use Rattle.gs_linktext_grammar.proofs.ChainLemmas.{chain_append}
use Rattle.gs_ident.specs.Links.{percent_encoded}
use Rattle.gs_linktext.specs.Spelling.{quoted, quoted_byte, spelled_attr, spelled_behind, spelled_link, spelled_links}
use Rattle.gs_chars.proofs.TruthsAndLists.{and_first, and_second, or_first, or_second}
use Rattle.std.proofs.lemmas.Bool.{and_from, not_from_false}

-- a link: its anchor, its relation type and its target
abbrev pub Link : Type 0
Link = List ℕ × List ℕ × Target

-- a spelled parameter: its name, and the lexeme of its value
abbrev pub Spelt : Type 0
Spelt = List ℕ × Lexeme

-- the lexemes of a parameter
abbrev pub lexemes_of : Spelt → List Lexeme
lexemes_of p = Semicolon ∷ Word p.0 ∷ Equals ∷ p.1 ∷ []

-- the text of a lexeme
abbrev pub lexeme_text : Lexeme → List ℕ
lexeme_text Comma = 44 ∷ []
lexeme_text Semicolon = 59 ∷ []
lexeme_text Equals = 61 ∷ []
lexeme_text (Word w) = w
lexeme_text (Angled h) = 60 ∷ (h ++ 62 ∷ [])
lexeme_text (Quoted v) = quoted v

-- the text of a parameter
abbrev pub text_of : Spelt → List ℕ
text_of p = codes "; " ++ (p.0 ++ 61 ∷ lexeme_text p.1)

-- a lexeme is a word, or a quoted string of bytes that may be in one
abbrev pub is_spelt_value : Lexeme → Bool
is_spelt_value Comma = false
is_spelt_value Semicolon = false
is_spelt_value Equals = false
is_spelt_value (Word w) = are_some is_token w
is_spelt_value (Angled h) = false
is_spelt_value (Quoted v) = list_all is_quotable v

-- a parameter has a name and a value of the grammar
abbrev pub is_spelt : Spelt → Bool
is_spelt p = are_some is_token p.0 && is_spelt_value p.1

-- the word of a text with its language
abbrev pub tagged_word : List ℕ × List ℕ → List ℕ
tagged_word pair = codes "UTF-8'" ++ (pair.1 ++ 39 ∷ percent_encoded pair.0)

-- the lexemes of the parameters of a value
abbrev pub value_lexemes : AttrValue → List Lexeme
value_lexemes (One text) = Quoted text ∷ []
value_lexemes (Many texts) = map (λ t. Quoted t) texts
value_lexemes (Tagged pairs) = map (λ p. Word (tagged_word p)) pairs

-- parameters of one name
abbrev pub named : List ℕ → List Lexeme → List Spelt
named name xs = map (λ x. (name, x)) xs

-- the parameters of an attribute
abbrev pub attr_params : Attr → List Spelt
attr_params attr = named attr.name (value_lexemes attr.value)

-- the parameters of a link
abbrev pub link_params : Link → List Spelt
link_params link = (codes "rel", Quoted link.1) ∷ (codes "anchor", Quoted link.0) ∷ flat_map attr_params link.2.attrs

-- the lexemes of a link
abbrev pub link_lexemes : Link → List Lexeme
link_lexemes link = Angled link.2.href ∷ flat_map lexemes_of (link_params link)

-- the text of a link
abbrev pub link_text : Link → List ℕ
link_text link = 60 ∷ (link.2.href ++ 62 ∷ flat_map text_of (link_params link))

-- the lexemes of a link after another
abbrev pub behind_lexemes : Link → List Lexeme
behind_lexemes link = Comma ∷ link_lexemes link

-- the lexemes of links
abbrev pub links_lexemes : List Link → List Lexeme
links_lexemes [] = []
links_lexemes (link ∷ links) = link_lexemes link ++ flat_map behind_lexemes links

-- ---- the text of a link is its spelling

attr_text : (attr : Attr) → spelled_attr attr ≡ flat_map text_of (attr_params attr)
attr_text attr = by attr.value
  where
    by : (v : AttrValue) → spelled_attr (record { name = attr.name; value = v }) ≡ flat_map text_of (named attr.name (value_lexemes v))
    by (One text) = sym (append-nil (text_of (attr.name, Quoted text)))
    by (Many texts) = sym (ap (flat_map text_of) (twice (λ t. Quoted t) texts) ∙ flat_map-map text_of (λ t. (attr.name, Quoted t)) texts)
      where
        twice : {X : Type 0} (f : X → Lexeme) (xs : List X) → named attr.name (map f xs) ≡ map (λ x. (attr.name, f x)) xs
        twice f [] = refl
        twice f (x ∷ xs) = ap (λ (ps : List Spelt). (attr.name, f x) ∷ ps) (twice f xs)
    by (Tagged pairs) = sym (ap (flat_map text_of) (twice (λ p. Word (tagged_word p)) pairs) ∙ flat_map-map text_of (λ p. (attr.name, Word (tagged_word p))) pairs)
      where
        twice : {X : Type 0} (f : X → Lexeme) (xs : List X) → named attr.name (map f xs) ≡ map (λ x. (attr.name, f x)) xs
        twice f [] = refl
        twice f (x ∷ xs) = ap (λ (ps : List Spelt). (attr.name, f x) ∷ ps) (twice f xs)

attrs_text : (attrs : List Attr) → flat_map spelled_attr attrs ≡ flat_map text_of (flat_map attr_params attrs)
attrs_text [] = refl
attrs_text (attr ∷ attrs) =
    ap (λ (xs : List ℕ). xs ++ flat_map spelled_attr attrs) (attr_text attr) ∙ ap
    (λ (xs : List ℕ). flat_map text_of (attr_params attr) ++ xs) (attrs_text attrs)
    ∙ sym (flat_map-append text_of (attr_params attr) (flat_map attr_params attrs))

link_is : (link : Link) → spelled_link link ≡ link_text link
link_is link =
    let types : List ℕ = quoted link.1 in
    let anchor : List ℕ = codes "; anchor=" ++ quoted link.0 in
    ap (λ (xs : List ℕ). 60 ∷ (link.2.href ++ (codes ">; rel=" ++ xs)))
    (append_assoc types anchor (flat_map spelled_attr link.2.attrs) ∙ ap (λ (xs : List ℕ). types ++ (anchor ++ xs)) (attrs_text link.2.attrs))

-- the text of a link after another
abbrev behind_text : Link → List ℕ
behind_text link = 44 ∷ 10 ∷ link_text link

behinds_are : (links : List Link) → flat_map spelled_behind links ≡ flat_map behind_text links
behinds_are [] = refl
behinds_are (link ∷ links) =
    ap (λ (xs : List ℕ). 44 ∷ 10 ∷ (xs ++ flat_map spelled_behind links)) (link_is link) ∙ ap (λ (xs : List ℕ). behind_text link ++ xs) (behinds_are links)

-- ---- a spelled lexeme

quoted_on : (c : ℕ) (xs value rest : List ℕ) → (c == 34) ≡ false → (c == 92) ≡ false → is_quoted_byte c ≡ true
    → ◌≡◌ {A = Option (List ℕ × List ℕ)} (unquoted xs) (Some (value, rest)) → ◌≡◌ {A = Option (List ℕ × List ℕ)} (unquoted (c ∷ xs))
    (Some (c ∷ value, rest))
quoted_on c [] value rest f g t h = absurd (let e : ◌≡◌ {A = Option (List ℕ × List ℕ)} None (Some (value, rest)) = h in cc)
quoted_on c (d ∷ xs) value rest f g t h = rw (t, f, g, h) refl

quoted_back : (text rest : List ℕ) → list_all is_quotable text ≡ true → ◌≡◌ {A = Option (List ℕ × List ℕ)}
    (unquoted (flat_map quoted_byte text ++ 34 ∷ rest)) (Some (text, rest))
quoted_back [] [] h = refl
quoted_back [] (c ∷ rest) h = refl
quoted_back (c ∷ text) rest h = by (c == 34 || c == 92) refl (quoted_back text rest (and_second (is_quotable c) (list_all is_quotable text) h))
  where
    own : is_quotable c ≡ true
    own = and_first (is_quotable c) (list_all is_quotable text) h

    by : (b : Bool) → (c == 34 || c == 92) ≡ b → ◌≡◌ {A = Option (List ℕ × List ℕ)} (unquoted (flat_map quoted_byte text ++ 34 ∷ rest))
        (Some (text, rest)) → ◌≡◌ {A = Option (List ℕ × List ℕ)} (unquoted (flat_map quoted_byte (c ∷ text) ++ 34 ∷ rest))
        (Some (c ∷ text, rest))
    by true e more = rw (e, own, more) refl
    by false e more =
        let mark = or_first (c == 34) (c == 92) e in
        let slash = or_second (c == 34) (c == 92) e in
        let stands : is_quoted_byte c ≡ true = and_from (is_quotable c) (not (c == 34 || c == 92)) own (not_from_false (c == 34 || c == 92) e) in
        rw e (quoted_on c (flat_map quoted_byte text ++ 34 ∷ rest) text rest mark slash stands more)

value_stands : (v : Lexeme) (rest : List ℕ) → is_spelt_value v ≡ true → stops is_token rest ≡ true → IsLexeme v (lexeme_text v ++ rest) rest
value_stands Comma rest h s = absurd (let f : false ≡ true = h in cc)
value_stands Semicolon rest h s = absurd (let f : false ≡ true = h in cc)
value_stands Equals rest h s = absurd (let f : false ≡ true = h in cc)
value_stands (Word w) rest h s = (refl, h, s)
value_stands (Angled w) rest h s = absurd (let f : false ≡ true = h in cc)
value_stands (Quoted v) rest h s =
    (flat_map quoted_byte v ++ 34 ∷ rest, ap (λ (xs : List ℕ). 34 ∷ xs) (append_assoc (flat_map quoted_byte v) (34 ∷ []) rest), quoted_back v rest h)

-- ---- the lexemes of parameters, links and documents

stops_at : (c : ℕ) (rest : List ℕ) → is_token c ≡ false → stops is_token (c ∷ rest) ≡ true
stops_at c rest f = not_from_false (is_token c) f

semicolon_ends : (rest : List ℕ) → stops is_token (59 ∷ rest) ≡ true
unfolding is_token
semicolon_ends rest = refl

equals_ends : (rest : List ℕ) → stops is_token (61 ∷ rest) ≡ true
unfolding is_token
equals_ends rest = refl

comma_ends : (rest : List ℕ) → stops is_token (44 ∷ rest) ≡ true
unfolding is_token
comma_ends rest = refl

params_end : (ps : List Spelt) (rest : List ℕ) → stops is_token rest ≡ true → stops is_token (flat_map text_of ps ++ rest) ≡ true
params_end [] rest s = s
params_end (p ∷ ps) rest s = semicolon_ends (32 ∷ (((p.0 ++ 61 ∷ lexeme_text p.1) ++ flat_map text_of ps) ++ rest))

param_chain : (p : Spelt) (rest : List ℕ) → is_spelt p ≡ true → stops is_token rest ≡ true → Chain (lexemes_of p) (text_of p ++ rest) rest
param_chain p rest h s = (
  32 ∷ ((p.0 ++ 61 ∷ lexeme_text p.1) ++ rest),
  ([], text_of p ++ rest, refl, refl, refl),
  (
    61 ∷ (lexeme_text p.1 ++ rest),
    (32 ∷ [], (p.0 ++ 61 ∷ lexeme_text p.1) ++ rest, refl, refl, (append_assoc p.0 (61 ∷ lexeme_text p.1) rest, and_first (are_some is_token p.0) (is_spelt_value p.1) h, equals_ends (lexeme_text p.1 ++ rest))),
    (
      lexeme_text p.1 ++ rest,
      ([], 61 ∷ (lexeme_text p.1 ++ rest), refl, refl, refl),
      (rest, ([], lexeme_text p.1 ++ rest, refl, refl, value_stands p.1 rest (and_second (are_some is_token p.0) (is_spelt_value p.1) h) s), refl),
    ),
  ),
)

params_chain : (ps : List Spelt) (rest : List ℕ) → list_all is_spelt ps ≡ true → stops is_token rest ≡ true
    → Chain (flat_map lexemes_of ps) (flat_map text_of ps ++ rest) rest
params_chain [] rest h s = refl
params_chain (p ∷ ps) rest h s =
    let more = params_chain ps rest (and_second (is_spelt p) (list_all is_spelt ps) h) s in
    let own = param_chain p (flat_map text_of ps ++ rest) (and_first (is_spelt p) (list_all is_spelt ps) h) (params_end ps rest s) in
    rw (append_assoc (text_of p) (flat_map text_of ps) rest) (chain_append (lexemes_of p) (flat_map lexemes_of ps) (text_of p ++ (flat_map text_of ps ++ rest)) (flat_map text_of ps ++ rest) rest own more)

-- a link has a reference and parameters of the grammar
abbrev pub is_spelt_link : Link → Bool
is_spelt_link link = are_some is_target_byte link.2.href && list_all is_spelt (link_params link)

link_chain : (blanks : List ℕ) (link : Link) (rest : List ℕ) → list_all is_blank blanks ≡ true → is_spelt_link link ≡ true
    → stops is_token rest ≡ true → Chain (link_lexemes link) (blanks ++ (link_text link ++ rest)) rest
link_chain blanks link rest b h s =
    let ps : List Spelt = link_params link in
    let split : (link.2.href ++ 62 ∷ flat_map text_of ps) ++ rest ≡ link.2.href ++ 62 ∷ (flat_map text_of ps ++ rest) = append_assoc link.2.href (62 ∷ flat_map text_of ps) rest in
    (flat_map text_of ps ++ rest, (blanks, link_text link ++ rest, refl, b, (ap (λ (xs : List ℕ). 60 ∷ xs) split, and_first (are_some is_target_byte link.2.href) (list_all is_spelt ps) h)), params_chain ps rest (and_second (are_some is_target_byte link.2.href) (list_all is_spelt ps) h) s)

behinds_end : (links : List Link) → stops is_token (flat_map behind_text links) ≡ true
behinds_end [] = refl
behinds_end (link ∷ links) = comma_ends (10 ∷ (link_text link ++ flat_map behind_text links))

behinds_chain : (links : List Link) → list_all is_spelt_link links ≡ true → Chain (flat_map behind_lexemes links) (flat_map behind_text links) []
behinds_chain [] h = refl
behinds_chain (link ∷ links) h =
    let more = behinds_chain links (and_second (is_spelt_link link) (list_all is_spelt_link links) h) in
    let own = link_chain (10 ∷ []) link (flat_map behind_text links) refl (and_first (is_spelt_link link) (list_all is_spelt_link links) h) (behinds_end links) in
    (10 ∷ (link_text link ++ flat_map behind_text links), ([], 44 ∷ 10 ∷ (link_text link ++ flat_map behind_text links), refl, refl, refl), chain_append (link_lexemes link) (flat_map behind_lexemes links) (10 ∷ (link_text link ++ flat_map behind_text links)) (flat_map behind_text links) [] own more)

pub links_lexed : (links : List Link) → list_all is_spelt_link links ≡ true → Lexed (links_lexemes links) (spelled_links links)
links_lexed [] h = ([], refl, refl)
links_lexed (link ∷ links) h =
    let more = behinds_chain links (and_second (is_spelt_link link) (list_all is_spelt_link links) h) in
    let own = link_chain [] link (flat_map behind_text links) refl (and_first (is_spelt_link link) (list_all is_spelt_link links) h) (behinds_end links) in
    let is : spelled_link link ++ flat_map spelled_behind links ≡ link_text link ++ flat_map behind_text links = ap (λ (xs : List ℕ). xs ++ flat_map spelled_behind links) (link_is link) ∙ ap (λ (xs : List ℕ). link_text link ++ xs) (behinds_are links) in
    rw is ([], chain_append (link_lexemes link) (flat_map behind_lexemes links) (link_text link ++ flat_map behind_text links) (flat_map behind_text links) [] own more, refl)
