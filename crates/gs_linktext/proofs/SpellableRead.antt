-- Each link of a text that is read can be spelled.
use Rattle.std.proofs.Common.{◌≡◌, ℕ, suc, ◌+◌, ◌==◌, ◌||◌, ◌&&◌, not, if◌then◌else◌, Bool, true, false, List, [], ◌∷◌, Option, Some, None, codes, cond, drop, filter, length, map, position, slice_get, take, bytes_eq, refl, ap, ◌∙◌, unwrap_or}
use Rattle.std.specs.Char.{to_ascii_lowercase}
use Rattle.std.specs.List.{filter_map, list_all, list_any, onto_first, position_from, slice_split}
use Rattle.std.specs.Option.{option_map}
use Rattle.std.specs.Prelude.{option_and_then}
use Rattle.std.specs.Str.{is_utf8}
use Rattle.std.proofs.lemmas.Iterator.Adapters.{position_from-zero}
use Rattle.std.proofs.lemmas.List.Folds.{list_all-append}
use Rattle.percent_encoding.specs.Percent.{percent_decode}
use Rattle.gs_linkset.specs.Attributes.{every, is_single, is_tagged}
use Rattle.gs_linkset.specs.LinkShapes.{links_of_document}
use Rattle.gs_linkset.specs.declared.link_types.Attr.{Attr}
use Rattle.gs_linkset.specs.declared.link_types.AttrValue.{AttrValue}
use Rattle.gs_linkset.specs.declared.link_types.AttrValue.TheVariants.{One, Many, Tagged}
use Rattle.gs_linkset.specs.declared.link_types.Context.{Context}
use Rattle.gs_linkset.specs.declared.link_types.Target.{Target}
use Rattle.gs_linktext_grammar.specs.Bytes.{after_prefix, is_blank, is_quotable, is_target_byte, is_token, prefix_of}
use Rattle.gs_linktext_grammar.specs.Grammar.{IsDocument, href_in, href_of, is_comma, is_equals, is_semicolon, is_some_part, link_of, name_in, param_by, param_of, param_with, params_of, value_in, written_link}
use Rattle.gs_linktext_grammar.specs.Lexemes.{Chain, IsLexeme, are_some, unquoted, with_byte}
use Rattle.gs_linktext_grammar.specs.declared.lexeme.Lexeme.{Lexeme}
use Rattle.gs_linktext_grammar.specs.declared.lexeme.Lexeme.TheVariants.{Comma, Semicolon, Equals, Word, Target as Angled, Quoted}
use Rattle.gs_linktext_grammar.specs.declared.written_link.Param.{Param}
use Rattle.gs_linktext_grammar.specs.declared.written_link.WrittenLink.{WrittenLink}
use Rattle.gs_linktext_grammar.proofs.LexLemmas.{not_some, some_is, all_prefix as prefix_all}
use Rattle.gs_linktext.specs.Links.{IsLinksOf, IsLinksOfLink, attr_of, attr_value, first_value, is_language_byte, is_reserved, many_value, tagged_by, tagged_text, tagged_value, types_in, types_of, values_of}
use Rattle.gs_linktext.specs.ReadAnswers.{IsReadAs}
use Rattle.gs_linktext.specs.Spelling.{cannot_spell, has_unspellable_language, is_unspellable_attr, is_unspellable_href, is_unspellable_name, is_unspellable_text, is_unspellable_type, is_unspellable_value, is_upper}
use Rattle.gs_linktext.proofs.AttrLemmas.{no_values}
use Rattle.gs_linktext.proofs.SpelledAttrs.{not_reserved}
use Rattle.gs_linktext.proofs.SpelledBytes.{all_imply, any_in, some_cons}
use Rattle.gs_linktext.proofs.SpelledLexemes.{Link}
use Rattle.gs_chars.proofs.TruthsAndLists.{and_first, and_second, equal_bytes, mapped_some, or_first, or_second}
use Rattle.std.proofs.lemmas.Bool.{and_from, not_from_true, not_from_false, not-true}

-- ---- lists

none_fails : {X : Type 0} (t : X → Bool) (xs : List X) → list_all t xs ≡ true → list_any (λ x. not (t x)) xs ≡ false
none_fails t [] h = refl
none_fails t (x ∷ xs) h =
    let own : not (t x) ≡ false = not_from_true (t x) (and_first (t x) (list_all t xs) h) in
    rw (own, none_fails t xs (and_second (t x) (list_all t xs) h)) refl

none_passes : {X : Type 0} (t : X → Bool) (xs : List X) → list_all (λ x. not (t x)) xs ≡ true → list_any t xs ≡ false
none_passes t [] h = refl
none_passes t (x ∷ xs) h =
    let own : t x ≡ false = not-true (t x) (and_first (not (t x)) (list_all (λ y. not (t y)) xs) h) in
    rw (own, none_passes t xs (and_second (not (t x)) (list_all (λ y. not (t y)) xs) h)) refl

neither : (a b : Bool) → a ≡ false → b ≡ false → (a || b) ≡ false
neither a b h k = rw (h, k) refl

-- the parts of a list have what its members have that are no sign
module _ {X : Type 0} (sign t s : X → Bool) (both : (x : X) → t x ≡ true → sign x ≡ false → s x ≡ true) where
  onto_good : (x : X) (parts : List (List X)) → s x ≡ true → list_all (list_all s) parts ≡ true → list_all (list_all s) (onto_first x parts) ≡ true
  onto_good x [] own h = rw own refl
  onto_good x (part ∷ parts) own h =
      and_from (s x && list_all s part) (list_all (list_all s) parts)
      (and_from (s x) (list_all s part) own (and_first (list_all s part) (list_all (list_all s) parts) h))
      (and_second (list_all s part) (list_all (list_all s) parts) h)

  split_by : (x : X) (xs : List X) (b : Bool) → sign x ≡ b → t x ≡ true → list_all (list_all s) (slice_split sign xs) ≡ true
      → list_all (list_all s) (cond b ([] ∷ slice_split sign xs) (onto_first x (slice_split sign xs))) ≡ true
  split_by x xs true e own rest = rest
  split_by x xs false e own rest = onto_good x (slice_split sign xs) (both x own e) rest

  split_good : (xs : List X) → list_all t xs ≡ true → list_all (list_all s) (slice_split sign xs) ≡ true
  split_good [] h = refl
  split_good (x ∷ xs) h =
      split_by x xs (sign x) refl (and_first (t x) (list_all t xs) h) (split_good xs (and_second (t x) (list_all t xs) h))

module _ {X : Type 0} (q t s : X → Bool) (both : (x : X) → t x ≡ true → q x ≡ true → s x ≡ true) where
  filter_by : (x : X) (xs : List X) (b : Bool) → q x ≡ b → t x ≡ true → list_all s (filter q xs) ≡ true
      → list_all s (if b then x ∷ filter q xs else filter q xs) ≡ true
  filter_by x xs true e own rest = and_from (s x) (list_all s (filter q xs)) (both x own e) rest
  filter_by x xs false e own rest = rest

  filter_good : (xs : List X) → list_all t xs ≡ true → list_all s (filter q xs) ≡ true
  filter_good [] h = refl
  filter_good (x ∷ xs) h =
      filter_by x xs (q x) refl (and_first (t x) (list_all t xs) h) (filter_good xs (and_second (t x) (list_all t xs) h))

module _ {X Y : Type 0} (f : X → Option Y) (u : X → Bool) (t : Y → Bool) (each : (x : X) (y : Y) → u x ≡ true → f x ≡ Some y → t y ≡ true) where
  every_from : (x : X) (ys : List Y) (o : Option Y) (p : Option (List Y)) → u x ≡ true → f x ≡ o
      → ((zs : List Y) → p ≡ Some zs → list_all t zs ≡ true) → ◌≡◌ {A = Option (List Y)}
      (option_and_then (λ y. option_map (λ zs. y ∷ zs) p) o) (Some ys) → list_all t ys ≡ true
  every_from x ys None p own e rest h = absurd (not_some ys h)
  every_from x ys (Some y) None own e rest h = absurd (not_some ys h)
  every_from x ys (Some y) (Some zs) own e rest h =
      let same : y ∷ zs ≡ ys = some_is (y ∷ zs) ys h in
      rw (← same) (and_from (t y) (list_all t zs) (each x y own e) (rest zs refl))

  every_good : (xs : List X) (ys : List Y) → list_all u xs ≡ true → every f xs ≡ Some ys → list_all t ys ≡ true
  every_good [] ys all h = let same : [] ≡ ys = some_is [] ys h in rw (← same) refl
  every_good (x ∷ xs) ys all h =
      every_from x ys (f x) (every f xs) (and_first (u x) (list_all u xs) all) refl (λ zs g. every_good xs zs (and_second (u x) (list_all u xs) all) g) h

-- ---- bytes

token_quotable : (c : ℕ) → is_token c ≡ true → is_quotable c ≡ true
unfolding is_token
token_quotable c h = any_in is_quotable c (codes "!#$%&'*+-.^_`|~0123456789ABCDEFGHIJKLMNOPQRSTUVWXYZabcdefghijklmnopqrstuvwxyz") h refl

-- a byte of a name in lower case
abbrev is_lower_token : ℕ → Bool
is_lower_token c = is_token c && not (is_upper c)

lowered : (c : ℕ) → is_token c ≡ true → is_lower_token (to_ascii_lowercase c) ≡ true
unfolding is_token
lowered c h = any_in (λ d. is_lower_token (to_ascii_lowercase d)) c
    (codes "!#$%&'*+-.^_`|~0123456789ABCDEFGHIJKLMNOPQRSTUVWXYZabcdefghijklmnopqrstuvwxyz") h refl

all_lowered : (name : List ℕ) → list_all is_token name ≡ true → list_all is_lower_token (map to_ascii_lowercase name) ≡ true
all_lowered [] h = refl
all_lowered (c ∷ name) h =
    and_from (is_lower_token (to_ascii_lowercase c)) (list_all is_lower_token (map to_ascii_lowercase name))
    (lowered c (and_first (is_token c) (list_all is_token name) h))
    (all_lowered name (and_second (is_token c) (list_all is_token name) h))

-- a name is one or more bytes of names in lower case
abbrev is_name : List ℕ → Bool
is_name name = are_some is_lower_token name

some_lowered : (name : List ℕ) → are_some is_token name ≡ true → is_name (map to_ascii_lowercase name) ≡ true
some_lowered [] h = absurd (let f : false ≡ true = h in cc)
some_lowered (c ∷ name) h =
    and_from (not (length (map to_ascii_lowercase (c ∷ name)) == 0)) (list_all is_lower_token (map to_ascii_lowercase (c ∷ name)))
    (some_cons (to_ascii_lowercase c) (map to_ascii_lowercase name))
    (all_lowered (c ∷ name) (and_second (not (length (c ∷ name) == 0)) (list_all is_token (c ∷ name)) h))

name_tokens : (name : List ℕ) → is_name name ≡ true → are_some is_token name ≡ true
name_tokens name h =
    and_from (not (length name == 0)) (list_all is_token name) (and_first (not (length name == 0)) (list_all is_lower_token name) h)
    (all_imply is_lower_token is_token (λ c k. and_first (is_token c) (not (is_upper c)) k) name (and_second (not (length name == 0)) (list_all is_lower_token name) h))

name_lower : (name : List ℕ) → is_name name ≡ true → list_any is_upper name ≡ false
name_lower name h =
    none_passes is_upper name (all_imply is_lower_token (λ c. not (is_upper c)) (λ c k. and_second (is_token c) (not (is_upper c)) k) name (and_second (not (length name == 0)) (list_all is_lower_token name) h))

-- ---- lexemes

-- what the bytes of a lexeme are
abbrev is_good : Lexeme → Bool
is_good Comma = true
is_good Semicolon = true
is_good Equals = true
is_good (Word w) = are_some is_token w
is_good (Angled h) = are_some is_target_byte h
is_good (Quoted v) = list_all is_quotable v

byte_before : (c : ℕ) (read : Option (List ℕ × List ℕ)) (value rest : List ℕ) → is_quotable c ≡ true
    → ((v r : List ℕ) → ◌≡◌ {A = Option (List ℕ × List ℕ)} read (Some (v, r)) → list_all is_quotable v ≡ true)
    → ◌≡◌ {A = Option (List ℕ × List ℕ)} (with_byte c read) (Some (value, rest)) → list_all is_quotable value ≡ true
byte_before c None value rest own each h = absurd (not_some (value, rest) h)
byte_before c (Some (v, r)) value rest own each h =
    let same : c ∷ v ≡ value = ap (λ p. p.0) (some_is (c ∷ v, r) (value, rest) h) in
    rw (← same) (and_from (is_quotable c) (list_all is_quotable v) own (each v r refl))

said : (text value rest : List ℕ) → ◌≡◌ {A = Option (List ℕ × List ℕ)} (unquoted text) (Some (value, rest)) → list_all is_quotable value ≡ true
said [] value rest h = absurd (not_some (value, rest) h)
said (c ∷ []) value rest h = by (c == 34) refl
  where
    by : (b : Bool) → (c == 34) ≡ b → list_all is_quotable value ≡ true
    by true e = let same : [] ≡ value = ap (λ p. p.0) (some_is ([], []) (value, rest) (rw e at h)) in rw (← same) refl
    by false e = absurd (not_some (value, rest) (rw e at h))
said (c ∷ d ∷ text) value rest h = by (c == 34) (c == 92) (is_quotable d) (is_quotable c) refl refl refl refl (λ v r g. said text v r g)
    (λ v r g. said (d ∷ text) v r g)
  where
    by : (mark slash after plain : Bool) → (c == 34) ≡ mark → (c == 92) ≡ slash → is_quotable d ≡ after → is_quotable c ≡ plain
        → ((v r : List ℕ) → ◌≡◌ {A = Option (List ℕ × List ℕ)} (unquoted text) (Some (v, r)) → list_all is_quotable v ≡ true)
        → ((v r : List ℕ) → ◌≡◌ {A = Option (List ℕ × List ℕ)} (unquoted (d ∷ text)) (Some (v, r)) → list_all is_quotable v ≡ true)
        → list_all is_quotable value ≡ true
    by true slash after plain e f g k one two = let same : [] ≡ value = ap (λ p. p.0) (some_is ([], d ∷ text) (value, rest) (rw e at h)) in rw (← same) refl
    by false true true plain e f g k one two = byte_before d (unquoted text) value rest g one (rw (e, f, g) at h)
    by false true false plain e f g k one two = absurd (not_some (value, rest) (rw (e, f, g) at h))
    by false false after true e f g k one two = byte_before c (unquoted (d ∷ text)) value rest k two (rw (e, f, k) at h)
    by false false after false e f g k one two = absurd (not_some (value, rest) (rw (e, f, k) at h))

lexeme_good : (lexeme : Lexeme) (text rest : List ℕ) → IsLexeme lexeme text rest → is_good lexeme ≡ true
lexeme_good Comma text rest h = refl
lexeme_good Semicolon text rest h = refl
lexeme_good Equals text rest h = refl
lexeme_good (Word w) text rest (is, word, ends) = word
lexeme_good (Angled w) text rest (is, bytes) = bytes
lexeme_good (Quoted v) text rest (body, is, read) = said body v rest read

chain_good : (lexemes : List Lexeme) (text rest : List ℕ) → Chain lexemes text rest → list_all is_good lexemes ≡ true
chain_good [] text rest chain = refl
chain_good (lexeme ∷ lexemes) text rest (behind, (blanks, after, cut, plain, is), chain) =
    and_from (is_good lexeme) (list_all is_good lexemes) (lexeme_good lexeme after behind is) (chain_good lexemes behind rest chain)

-- ---- written links

-- the name of a parameter is a name, and its value can be quoted
abbrev is_fine : Param → Bool
is_fine p = is_name p.name && list_all is_quotable p.value

-- a written link has a reference, and its parameters are fine
abbrev is_fit : WrittenLink → Bool
is_fit link = are_some is_target_byte link.href && list_all is_fine link.params

name_good : (lexeme : Lexeme) (name : List ℕ) → is_good lexeme ≡ true → name_in lexeme ≡ Some name → are_some is_token name ≡ true
name_good Comma name good h = absurd (not_some name h)
name_good Semicolon name good h = absurd (not_some name h)
name_good Equals name good h = absurd (not_some name h)
name_good (Word w) name good h = rw (← some_is w name h) good
name_good (Angled w) name good h = absurd (not_some name h)
name_good (Quoted v) name good h = absurd (not_some name h)

value_good : (lexeme : Lexeme) (value : List ℕ) → is_good lexeme ≡ true → value_in lexeme ≡ Some value → list_all is_quotable value ≡ true
value_good Comma value good h = absurd (not_some value h)
value_good Semicolon value good h = absurd (not_some value h)
value_good Equals value good h = absurd (not_some value h)
value_good (Word w) value good h =
    rw (← some_is w value h) (all_imply is_token is_quotable token_quotable w (and_second (not (length w == 0)) (list_all is_token w) good))
value_good (Angled w) value good h = absurd (not_some value h)
value_good (Quoted v) value good h = rw (← some_is v value h) good

param_fine : (name value : List ℕ) (p : Param) → are_some is_token name ≡ true → list_all is_quotable value ≡ true
    → param_with name value ≡ Some p → is_fine p ≡ true
param_fine name value p own said h = by (is_utf8 (map to_ascii_lowercase name) && is_utf8 value) refl
  where
    by : (b : Bool) → (is_utf8 (map to_ascii_lowercase name) && is_utf8 value) ≡ b → is_fine p ≡ true
    by true e =
        let same : record { name = map to_ascii_lowercase name; value = value } ≡ p = some_is (record { name = map to_ascii_lowercase name; value = value }) p (rw e at h) in
        rw (← same) (and_from (is_name (map to_ascii_lowercase name)) (list_all is_quotable value) (some_lowered name own) said)
    by false e = absurd (not_some p (rw e at h))

param_by_fine : (name value : Option (List ℕ)) (p : Param) → ((n : List ℕ) → name ≡ Some n → are_some is_token n ≡ true)
    → ((v : List ℕ) → value ≡ Some v → list_all is_quotable v ≡ true) → param_by name value ≡ Some p → is_fine p ≡ true
param_by_fine None value p names values h = absurd (not_some p h)
param_by_fine (Some n) None p names values h = absurd (not_some p h)
param_by_fine (Some n) (Some v) p names values h = param_fine n v p (names n refl) (values v refl) h

no_value : (value : List ℕ) → Some [] ≡ Some value → list_all is_quotable value ≡ true
no_value value h = rw (← some_is [] value h) refl

param_is : (part : List Lexeme) (p : Param) → list_all is_good part ≡ true → param_of part ≡ Some p → is_fine p ≡ true
param_is [] p good h = absurd (not_some p h)
param_is (name ∷ []) p good h =
    param_by_fine (name_in name) (Some []) p (λ n e. name_good name n (and_first (is_good name) true good) e) no_value h
param_is (name ∷ sign ∷ []) p good h = absurd (not_some p h)
param_is (name ∷ sign ∷ value ∷ []) p good h = by (is_equals sign) refl
  where
    rest : list_all is_good (sign ∷ value ∷ []) ≡ true
    rest = and_second (is_good name) (list_all is_good (sign ∷ value ∷ [])) good

    last : is_good value ≡ true
    last = and_first (is_good value) true (and_second (is_good sign) (list_all is_good (value ∷ [])) rest)

    by : (b : Bool) → is_equals sign ≡ b → is_fine p ≡ true
    by true e = param_by_fine (name_in name) (value_in value) p (λ n f. name_good name n (and_first (is_good name) (list_all is_good (sign ∷ value ∷ [])) good) f) (λ v f. value_good value v last f) (rw e at h)
    by false e = absurd (not_some p (rw e at h))
param_is (name ∷ sign ∷ value ∷ x ∷ xs) p good h = absurd (not_some p h)

angled_is : (w href : List ℕ) → are_some is_target_byte w ≡ true → href_in (Angled w) ≡ Some href → are_some is_target_byte href ≡ true
angled_is w href good e = by (is_utf8 w) refl
  where
    by : (b : Bool) → is_utf8 w ≡ b → are_some is_target_byte href ≡ true
    by true t = let same : w ≡ href = some_is w href (rw t at e) in rw (← same) good
    by false t = absurd (not_some href (rw t at e))

href_is : (part : List Lexeme) (href : List ℕ) → list_all is_good part ≡ true → href_of part ≡ Some href → are_some is_target_byte href ≡ true
href_is [] href good h = absurd (not_some href h)
href_is (Comma ∷ []) href good h = absurd (not_some href h)
href_is (Semicolon ∷ []) href good h = absurd (not_some href h)
href_is (Equals ∷ []) href good h = absurd (not_some href h)
href_is (Word w ∷ []) href good h = absurd (not_some href h)
href_is (Angled w ∷ []) href good h = angled_is w href (and_first (are_some is_target_byte w) true good) h
href_is (Quoted w ∷ []) href good h = absurd (not_some href h)
href_is (x ∷ y ∷ xs) href good h = absurd (not_some href h)

link_by : (parts : List (List Lexeme)) (link : WrittenLink) (o : Option (List ℕ)) (ps : Option (List Param))
    → list_all (list_all is_good) parts ≡ true → params_of parts ≡ ps
    → ((href : List ℕ) → o ≡ Some href → are_some is_target_byte href ≡ true)
    → ◌≡◌ {A = Option WrittenLink} (option_and_then (λ href. option_map (λ params. record { href = href; params = params }) ps) o)
    (Some link) → is_fit link ≡ true
link_by parts link None ps good e each h = absurd (not_some link h)
link_by parts link (Some href) None good e each h = absurd (not_some link h)
link_by parts link (Some href) (Some params) good e each h =
    let same : record { href = href; params = params } ≡ link = some_is (record { href = href; params = params }) link h in
    let some = filter_good is_some_part (list_all is_good) (list_all is_good) (λ x t q. t) parts good in
    rw (← same) (and_from (are_some is_target_byte href) (list_all is_fine params) (each href refl) (every_good param_of (list_all is_good) is_fine (λ part p g k. param_is part p g k) (filter is_some_part parts) params some e))

parts_is : (parts : List (List Lexeme)) (link : WrittenLink) → list_all (list_all is_good) parts ≡ true → link_of parts ≡ Some link → is_fit link ≡ true
parts_is [] link good h = absurd (not_some link h)
parts_is (head ∷ parts) link good h =
    link_by parts link (href_of head) (params_of parts) (and_second (list_all is_good head) (list_all (list_all is_good) parts) good) refl
    (λ href e. href_is head href (and_first (list_all is_good head) (list_all (list_all is_good) parts) good) e) h

link_is : (piece : List Lexeme) (link : WrittenLink) → list_all is_good piece ≡ true → written_link piece ≡ Some link → is_fit link ≡ true
link_is piece link good h = parts_is (slice_split is_semicolon piece) link (split_good is_semicolon is_good is_good (λ x t q. t) piece good) h

document_is : (bytes : List ℕ) (written : List WrittenLink) → IsDocument bytes written → list_all is_fit written ≡ true
document_is bytes written (lexemes, (rest, chain, blank), is) =
    let good = chain_good lexemes bytes rest chain in
    let pieces = split_good is_comma is_good is_good (λ x t q. t) lexemes good in
    every_good written_link (list_all is_good) is_fit link_is (filter is_some_part (slice_split is_comma lexemes)) written
    (filter_good is_some_part (list_all is_good) (list_all is_good) (λ x t q. t) (slice_split is_comma lexemes) pieces) is

-- ---- attributes

values_good : (name : List ℕ) (params : List Param) → list_all is_fine params ≡ true → list_all (list_all is_quotable) (values_of name params) ≡ true
values_good name [] h = refl
values_good name (p ∷ params) h = by (bytes_eq p.name name) refl (values_good name params (and_second (is_fine p) (list_all is_fine params) h))
  where
    by : (b : Bool) → bytes_eq p.name name ≡ b → list_all (list_all is_quotable) (values_of name params) ≡ true
        → list_all (list_all is_quotable) (values_of name (p ∷ params)) ≡ true
    by true e rest = rw e (and_from (list_all is_quotable p.value) (list_all (list_all is_quotable) (values_of name params)) (and_second (is_name p.name) (list_all is_quotable p.value) (and_first (is_fine p) (list_all is_fine params) h)) rest)
    by false e rest = rw e rest

its_name : (name : List ℕ) (params : List Param) → list_all is_fine params ≡ true → (values_of name params ≡ [] → ⊥) → is_name name ≡ true
its_name name [] h some = absurd (some refl)
its_name name (p ∷ params) h some = by (bytes_eq p.name name) refl (λ g. its_name name params (and_second (is_fine p) (list_all is_fine params) h) g)
  where
    by : (b : Bool) → bytes_eq p.name name ≡ b → ((values_of name params ≡ [] → ⊥) → is_name name ≡ true) → is_name name ≡ true
    by true e rest = rw (← equal_bytes p.name name e) (and_first (is_name p.name) (list_all is_quotable p.value) (and_first (is_fine p) (list_all is_fine params) h))
    by false e rest = rest (λ none. some (rw e none))

tagged_by_is : (language behind : List ℕ) (pair : List ℕ × List ℕ) → list_all is_language_byte language ≡ true
    → tagged_by language behind ≡ Some pair → has_unspellable_language pair ≡ false
tagged_by_is language [] pair all h = absurd (not_some pair h)
tagged_by_is language (c ∷ text) pair all h = by (c == 39 && (is_utf8 (percent_decode text) && is_utf8 language)) refl
  where
    by : (b : Bool) → (c == 39 && (is_utf8 (percent_decode text) && is_utf8 language)) ≡ b → has_unspellable_language pair ≡ false
    by true e = let same : (percent_decode text, language) ≡ pair = some_is (percent_decode text, language) pair (rw e at h) in rw (← same)
        (none_fails is_language_byte language all)
    by false e = absurd (not_some pair (rw e at h))

tagged_is : (value : List ℕ) (pair : List ℕ × List ℕ) → tagged_text value ≡ Some pair → has_unspellable_language pair ≡ false
tagged_is value pair h = by (bytes_eq (map to_ascii_lowercase (take 6 value)) (codes "utf-8'")) refl
  where
    by : (b : Bool) → bytes_eq (map to_ascii_lowercase (take 6 value)) (codes "utf-8'") ≡ b → has_unspellable_language pair ≡ false
    by true e = tagged_by_is (prefix_of is_language_byte (drop 6 value)) (after_prefix is_language_byte (drop 6 value)) pair
        (prefix_all is_language_byte (drop 6 value)) (rw e at h)
    by false e = absurd (not_some pair (rw e at h))

tagged_all : (values : List (List ℕ)) → list_any has_unspellable_language (filter_map tagged_text values) ≡ false
tagged_all [] = refl
tagged_all (value ∷ values) = by (tagged_text value) refl (tagged_all values)
  where
    by : (o : Option (List ℕ × List ℕ)) → tagged_text value ≡ o → list_any has_unspellable_language (filter_map tagged_text values) ≡ false
        → list_any has_unspellable_language (filter_map tagged_text (value ∷ values)) ≡ false
    by None e rest = rw e rest
    by (Some pair) e rest = rw e (neither (has_unspellable_language pair) (list_any has_unspellable_language (filter_map tagged_text values)) (tagged_is value pair e) rest)

tagged_value_is : (pairs : List (List ℕ × List ℕ)) (v : AttrValue) → list_any has_unspellable_language pairs ≡ false
    → tagged_value pairs ≡ Some v → is_unspellable_value v ≡ false
tagged_value_is [] v all h = absurd (not_some v h)
tagged_value_is (pair ∷ pairs) v all h =
    rw (← some_is (Tagged (pair ∷ pairs)) v h) (neither (length (pair ∷ pairs) == 0) (list_any has_unspellable_language (pair ∷ pairs)) (not-true (length (pair ∷ pairs) == 0) (some_cons pair pairs)) all)

all_texts : (texts : List (List ℕ)) → list_all (list_all is_quotable) texts ≡ true → list_any is_unspellable_text texts ≡ false
all_texts [] h = refl
all_texts (text ∷ texts) h =
    neither (is_unspellable_text text) (list_any is_unspellable_text texts)
    (none_fails is_quotable text (and_first (list_all is_quotable text) (list_all (list_all is_quotable) texts) h))
    (all_texts texts (and_second (list_all is_quotable text) (list_all (list_all is_quotable) texts) h))

many_value_is : (texts : List (List ℕ)) (v : AttrValue) → list_all (list_all is_quotable) texts ≡ true → many_value texts ≡ Some v
    → is_unspellable_value v ≡ false
many_value_is [] v all h = absurd (not_some v h)
many_value_is (text ∷ texts) v all h =
    rw (← some_is (Many (text ∷ texts)) v h) (neither (length (text ∷ texts) == 0) (list_any is_unspellable_text (text ∷ texts)) (not-true (length (text ∷ texts) == 0) (some_cons text texts)) (all_texts (text ∷ texts) all))

one_value_is : (values : List (List ℕ)) (v : AttrValue) → list_all (list_all is_quotable) values ≡ true
    → option_map One (slice_get values 0) ≡ Some v → is_unspellable_value v ≡ false
one_value_is [] v all h = absurd (not_some v h)
one_value_is (text ∷ values) v all h =
    rw (← some_is (One text) v h) (none_fails is_quotable text (and_first (list_all is_quotable text) (list_all (list_all is_quotable) values) all))

value_is : (name : List ℕ) (values : List (List ℕ)) (v : AttrValue) → list_all (list_all is_quotable) values ≡ true
    → attr_value name values ≡ Some v → is_unspellable_value v ≡ false
value_is name values v all h = by (is_tagged name) (is_single name) refl refl
  where
    by : (t s : Bool) → is_tagged name ≡ t → is_single name ≡ s → is_unspellable_value v ≡ false
    by true s e f = tagged_value_is (filter_map tagged_text values) v (tagged_all values) (rw e at h)
    by false true e f = one_value_is values v all (rw (e, f) at h)
    by false false e f = many_value_is values v all (rw (e, f) at h)

attr_is : (params : List Param) (attr : Attr) → list_all is_fine params ≡ true → attr_of params attr.name ≡ Some attr → is_unspellable_attr attr ≡ false
attr_is params attr all h = neither (is_unspellable_name attr.name) (is_unspellable_value attr.value) name value
  where
    free : is_reserved attr.name ≡ false
    free = not_reserved attr.name (values_of attr.name params) attr h

    own : is_name attr.name ≡ true
    own = its_name attr.name params all (λ none. no_values attr.name attr (rw none at h))

    not_rel : bytes_eq attr.name (codes "rel") ≡ false
    not_rel = or_first (bytes_eq attr.name (codes "rel")) (bytes_eq attr.name (codes "anchor") || bytes_eq attr.name (codes "href")) free

    not_anchor : bytes_eq attr.name (codes "anchor") ≡ false
    not_anchor = or_first (bytes_eq attr.name (codes "anchor")) (bytes_eq attr.name (codes "href"))
        (or_second (bytes_eq attr.name (codes "rel")) (bytes_eq attr.name (codes "anchor") || bytes_eq attr.name (codes "href")) free)

    name : is_unspellable_name attr.name ≡ false
    name =
        neither (not (are_some is_token attr.name)) (list_any is_upper attr.name || (bytes_eq attr.name (codes "rel") || bytes_eq attr.name (codes "anchor"))) (not_from_true (are_some is_token attr.name) (name_tokens attr.name own))
        (neither (list_any is_upper attr.name) (bytes_eq attr.name (codes "rel") || bytes_eq attr.name (codes "anchor")) (name_lower attr.name own) (neither (bytes_eq attr.name (codes "rel")) (bytes_eq attr.name (codes "anchor")) not_rel not_anchor))

    value : is_unspellable_value attr.value ≡ false
    value =
        let made = mapped_some (λ v. record { name = attr.name; value = v }) (attr_value attr.name (values_of attr.name params)) attr (rw free at h) in
        let same : made.0 ≡ attr.value = ap (λ a. a.value) made.2 in
        rw (← same) (value_is attr.name (values_of attr.name params) made.0 (values_good attr.name params all) made.1)

attrs_from : (attrs : List Attr) → ((i : ℕ) (attr : Attr) → slice_get attrs i ≡ Some attr → is_unspellable_attr attr ≡ false)
    → list_any is_unspellable_attr attrs ≡ false
attrs_from [] each = refl
attrs_from (attr ∷ attrs) each = neither (is_unspellable_attr attr) (list_any is_unspellable_attr attrs) (each 0 attr refl)
    (attrs_from attrs (λ i a at. each (suc i) a at))

-- ---- links

first_good : (name : List ℕ) (params : List Param) → list_all is_fine params ≡ true → list_all is_quotable (unwrap_or (first_value name params) []) ≡ true
first_good name [] h = refl
first_good name (p ∷ params) h = by (bytes_eq p.name name) refl (first_good name params (and_second (is_fine p) (list_all is_fine params) h))
  where
    by : (b : Bool) → bytes_eq p.name name ≡ b → list_all is_quotable (unwrap_or (first_value name params) []) ≡ true
        → list_all is_quotable (unwrap_or (first_value name (p ∷ params)) []) ≡ true
    by true e rest = rw e (and_second (is_name p.name) (list_all is_quotable p.value) (and_first (is_fine p) (list_all is_fine params) h))
    by false e rest = rw e rest

-- a byte of a relation type
abbrev is_type_byte : ℕ → Bool
is_type_byte c = is_quotable c && not (is_blank c)

-- a relation type that can be spelled
abbrev is_type : List ℕ → Bool
is_type type = list_all is_type_byte type && is_some_part type

types_good : (text : List ℕ) → list_all is_quotable text ≡ true → list_all is_type (types_in text) ≡ true
types_good text h =
    let parts = split_good is_blank is_quotable is_type_byte (λ c t q. and_from (is_quotable c) (not (is_blank c)) t (not_from_false (is_blank c) q)) text h in
    filter_good is_some_part (list_all is_type_byte) is_type (λ type t q. and_from (list_all is_type_byte type) (is_some_part type) t q)
    (slice_split is_blank text) parts

type_spelled : (type : List ℕ) → is_type type ≡ true → (is_unspellable_type type ≡ false) × (is_unspellable_text type ≡ false)
type_spelled type h =
    let bytes = and_first (list_all is_type_byte type) (is_some_part type) h in
    let some : (length type == 0) ≡ false = not-true (length type == 0) (and_second (list_all is_type_byte type) (is_some_part type) h) in
    let blanks = none_passes is_blank type (all_imply is_type_byte (λ c. not (is_blank c)) (λ c k. and_second (is_quotable c) (not (is_blank c)) k) type bytes) in
    let quoted = none_fails is_quotable type (all_imply is_type_byte is_quotable (λ c k. and_first (is_quotable c) (not (is_blank c)) k) type bytes) in
    (neither (length type == 0) (list_any is_blank type) some blanks, quoted)

-- a link can be spelled
abbrev is_spellable : Link → Bool
is_spellable link = not (cannot_spell link)

types_spelled : (anchor : List ℕ) (target : Target) (types : List (List ℕ)) → list_all is_quotable anchor ≡ true
    → are_some is_target_byte target.href ≡ true → list_any is_unspellable_attr target.attrs ≡ false → list_all is_type types ≡ true
    → list_all is_spellable (map (λ type. (anchor, type, target)) types) ≡ true
types_spelled anchor target [] a t attrs all = refl
types_spelled anchor target (type ∷ types) a t attrs all =
    let own = type_spelled type (and_first (is_type type) (list_all is_type types) all) in
    let text = none_fails is_quotable anchor a in
    let behind = neither (is_unspellable_text anchor) (list_any is_unspellable_attr target.attrs) text attrs in
    let more = neither (is_unspellable_text type) (is_unspellable_text anchor || list_any is_unspellable_attr target.attrs) own.1 behind in
    let rest = neither (is_unspellable_type type) (is_unspellable_text type || (is_unspellable_text anchor || list_any is_unspellable_attr target.attrs)) own.0 more in
    let link : cannot_spell (anchor, type, target) ≡ false = neither (is_unspellable_href target.href) (is_unspellable_type type || (is_unspellable_text type || (is_unspellable_text anchor || list_any is_unspellable_attr target.attrs))) (not_from_true (are_some is_target_byte target.href) t) rest in
    and_from (is_spellable (anchor, type, target)) (list_all is_spellable (map (λ type. (anchor, type, target)) types))
    (not_from_false (cannot_spell (anchor, type, target)) link)
    (types_spelled anchor target types a t attrs (and_second (is_type type) (list_all is_type types) all))

link_spelled : (link : WrittenLink) (links : List Link) → is_fit link ≡ true → IsLinksOfLink link links → list_all is_spellable links ≡ true
link_spelled link links h own =
    let params = and_second (are_some is_target_byte link.href) (list_all is_fine link.params) h in
    let types = types_good (unwrap_or (first_value (codes "rel") link.params) []) (first_good (codes "rel") link.params params) in
    let attrs = attrs_from own.attrs (λ i attr at. attr_is link.params attr params (own.attributes.each i attr at)) in
    rw own.is (types_spelled (unwrap_or (first_value (codes "anchor") link.params) []) (record { href = link.href; attrs = own.attrs }) (types_of link.params) (first_good (codes "anchor") link.params params) (and_first (are_some is_target_byte link.href) (list_all is_fine link.params) h) attrs types)

links_spelled : (written : List WrittenLink) (links : List Link) → list_all is_fit written ≡ true → IsLinksOf written links → list_all is_spellable links ≡ true
links_spelled [] links h own = rw own refl
links_spelled (link ∷ written) links h (its, more, of_link, of_rest, is) =
    rw is (list_all-append is_spellable its more ∙ and_from (list_all is_spellable its) (list_all is_spellable more) (link_spelled link its (and_first (is_fit link) (list_all is_fit written) h) of_link) (links_spelled written more (and_second (is_fit link) (list_all is_fit written) h) of_rest))

-- no item passes
none_from : {X : Type 0} (test : X → Bool) (xs : List X) (i : ℕ) → list_all (λ x. not (test x)) xs ≡ true → position_from test i xs ≡ None
none_from test [] i h = refl
none_from test (x ∷ xs) i h =
    let own : test x ≡ false = not-true (test x) (and_first (not (test x)) (list_all (λ y. not (test y)) xs) h) in
    rw own (none_from test xs (i + 1) (and_second (not (test x)) (list_all (λ y. not (test y)) xs) h))

none_found : {X : Type 0} (test : X → Bool) (xs : List X) → list_all (λ x. not (test x)) xs ≡ true → position test xs ≡ None
none_found test xs h = position_from-zero test xs ∙ none_from test xs 0 h

pub all_spelled : (bytes : List ℕ) (contexts : List Context) → IsReadAs bytes contexts → position cannot_spell (links_of_document contexts) ≡ None
all_spelled bytes contexts read =
    let links = links_spelled read.written read.links (document_is bytes read.written read.document) read.given in
    none_found cannot_spell (links_of_document contexts) (ap (list_all is_spellable) read.cut.same ∙ links)
