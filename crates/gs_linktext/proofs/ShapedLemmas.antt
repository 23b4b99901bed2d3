-- A document that is read has the shape of a linkset.
use Rattle.std.proofs.Common.{◌≡◌, ℕ, suc, ◌+◌, ◌/◌, ◌%◌, ◌<◌, ◌≤◌, ◌==◌, ◌||◌, ◌&&◌, nat_lt, not, Bool, true, false, List, [], ◌∷◌, ◌++◌, Option, Some, None, codes, drop, filter, map, slice_get, take, bytes_eq, refl, ap, subst, sym, ◌∙◌, inl, inr, arith, unwrap_or}
use Rattle.std.specs.Char.{to_ascii_lowercase}
use Rattle.std.specs.List.{flat_map, filter_map, list_all, list_any, slice_split, AllByRecursion}
use Rattle.std.specs.Option.{option_map, option_or}
use Rattle.std.specs.Str.{is_utf8, IsUtf8}
use Rattle.std.specs.Prelude.{encode_utf8_all, option_and_then}
use Rattle.std.proofs.lemmas.Bool.Decides.{nat_tests}
use Rattle.std.proofs.lemmas.List.Folds.{list_all-append}
use Rattle.std.proofs.lemmas.Str.{IsUtf8-append, IsUtf8-encode, IsUtf8-from_is_utf8, IsUtf8-nil, is_utf8-from_IsUtf8}
use lib.Utf8.{encode, scalar, scalars}
use Rattle.gs_linkset.specs.Attributes.{every, is_single, is_tagged}
use Rattle.gs_linkset.specs.LinkShapes.{ascend, is_attr, is_context, is_relation, is_tagged_text, is_target, is_value, links_of_context, links_of_document, links_of_relation, relation_names}
use Rattle.gs_linkset.specs.declared.link_types.Attr.{Attr}
use Rattle.gs_linkset.specs.declared.link_types.AttrValue.{AttrValue}
use Rattle.gs_linkset.specs.declared.link_types.AttrValue.TheVariants.{One, Many, Tagged}
use Rattle.gs_linkset.specs.declared.link_types.Context.{Context}
use Rattle.gs_linkset.specs.declared.link_types.Relation.{Relation}
use Rattle.gs_linkset.specs.declared.link_types.Target.{Target}
use Rattle.percent_encoding.specs.Percent.{percent_decode}
use Rattle.gs_linktext_grammar.specs.Bytes.{after_prefix, is_blank, prefix_of}
use Rattle.gs_linktext_grammar.specs.Grammar.{href_in, href_of, is_comma, is_equals, is_some_part, link_of, name_in, param_by, param_of, param_with, params_of, value_in, written_link, is_semicolon, IsDocument}
use Rattle.gs_linktext_grammar.specs.declared.lexeme.Lexeme.{Lexeme}
use Rattle.gs_linktext_grammar.specs.declared.lexeme.Lexeme.TheVariants.{Comma, Semicolon, Equals, Word, Target as Angled, Quoted}
use Rattle.gs_linktext_grammar.specs.declared.written_link.Param.{Param}
use Rattle.gs_linktext_grammar.specs.declared.written_link.WrittenLink.{WrittenLink}
use Rattle.gs_linktext_grammar.proofs.LexLemmas.{not_some, some_is}
use Rattle.gs_linktext_grammar.specs.declared.error.LinkTextFault.{LinkTextFault}
use Rattle.gs_linktext_grammar.specs.declared.error.LinkTextFault.TheVariants.{Anchor, Rel}
use Rattle.gs_linktext.specs.Contexts.{ascends, has_target, is_full}
use Rattle.gs_linktext.specs.Links.{attr_of, attr_value, first_error, first_value, is_language_byte, is_rel_error, is_reserved, link_error, many_value, tagged_by, tagged_text, tagged_value, types_of, values_of, IsAttributes, IsLinksOf, IsLinksOfLink}
use Rattle.gs_linktext.specs.ReadAnswers.{IsReadAs}
use Rattle.gs_linktext.proofs.AttrLemmas.{no_values}
use Rattle.gs_linktext.proofs.SpelledAttrs.{not_reserved}
use Rattle.gs_linktext.proofs.SpelledLexemes.{Link}
use Rattle.gs_linktext.proofs.SpelledLinks.{is_shaped}
use Rattle.gs_chars.proofs.TruthsAndLists.{and_first, and_second, equal_bytes, mapped_some, or_first, or_second, true_or_false}
use Rattle.std.proofs.lemmas.Bool.{and_from, not_from_false, not-true}

-- ---- the texts of a document are UTF-8

-- a parameter's texts are UTF-8
abbrev pub is_param : Param → Bool
is_param p = is_utf8 p.name && is_utf8 p.value

-- a written link's texts are UTF-8
abbrev pub is_written : WrittenLink → Bool
is_written link = is_utf8 link.href && list_all is_param link.params

module _ {X Y : Type 0} (f : X → Option Y) (t : Y → Bool) (each : (x : X) (y : Y) → f x ≡ Some y → t y ≡ true) where
  every_from : (x : X) (xs : List X) (ys : List Y) (o : Option Y) (p : Option (List Y)) → f x ≡ o → every f xs ≡ p
      → ((zs : List Y) → p ≡ Some zs → list_all t zs ≡ true) → ◌≡◌ {A = Option (List Y)}
      (option_and_then (λ y. option_map (λ zs. y ∷ zs) p) o) (Some ys) → list_all t ys ≡ true
  every_from x xs ys None p e g rest h = absurd (not_some ys h)
  every_from x xs ys (Some y) None e g rest h = absurd (not_some ys h)
  every_from x xs ys (Some y) (Some zs) e g rest h =
      let same : y ∷ zs ≡ ys = some_is (y ∷ zs) ys h in
      rw (← same) (and_from (t y) (list_all t zs) (each x y e) (rest zs refl))

  every_all : (xs : List X) (ys : List Y) → every f xs ≡ Some ys → list_all t ys ≡ true
  every_all [] ys h = let same : [] ≡ ys = some_is [] ys h in rw (← same) refl
  every_all (x ∷ xs) ys h = every_from x xs ys (f x) (every f xs) refl refl (λ zs g. every_all xs zs g) h

param_with_is : (name value : List ℕ) (p : Param) → param_with name value ≡ Some p → is_param p ≡ true
param_with_is name value p h = by (is_utf8 (map to_ascii_lowercase name) && is_utf8 value) refl
  where
    by : (b : Bool) → (is_utf8 (map to_ascii_lowercase name) && is_utf8 value) ≡ b → is_param p ≡ true
    by true e = let same : record { name = map to_ascii_lowercase name; value = value } ≡ p = some_is
        (record { name = map to_ascii_lowercase name; value = value }) p (rw e at h) in rw (← same) e
    by false e = absurd (not_some p (rw e at h))

param_by_is : (name value : Option (List ℕ)) (p : Param) → param_by name value ≡ Some p → is_param p ≡ true
param_by_is None value p h = absurd (not_some p h)
param_by_is (Some n) None p h = absurd (not_some p h)
param_by_is (Some n) (Some v) p h = param_with_is n v p h

param_is : (part : List Lexeme) (p : Param) → param_of part ≡ Some p → is_param p ≡ true
param_is [] p h = absurd (not_some p h)
param_is (name ∷ []) p h = param_by_is (name_in name) (Some []) p h
param_is (name ∷ sign ∷ []) p h = absurd (not_some p h)
param_is (name ∷ sign ∷ value ∷ []) p h = by (is_equals sign) refl
  where
    by : (b : Bool) → is_equals sign ≡ b → is_param p ≡ true
    by true e = param_by_is (name_in name) (value_in value) p (rw e at h)
    by false e = absurd (not_some p (rw e at h))
param_is (name ∷ sign ∷ value ∷ x ∷ xs) p h = absurd (not_some p h)

angled_is : (h href : List ℕ) → href_in (Angled h) ≡ Some href → is_utf8 href ≡ true
angled_is h href e = by (is_utf8 h) refl
  where
    by : (b : Bool) → is_utf8 h ≡ b → is_utf8 href ≡ true
    by true t = let same : h ≡ href = some_is h href (rw t at e) in rw (← same) t
    by false t = absurd (not_some href (rw t at e))

href_is : (part : List Lexeme) (href : List ℕ) → href_of part ≡ Some href → is_utf8 href ≡ true
href_is [] href h = absurd (not_some href h)
href_is (Comma ∷ []) href h = absurd (not_some href h)
href_is (Semicolon ∷ []) href h = absurd (not_some href h)
href_is (Equals ∷ []) href h = absurd (not_some href h)
href_is (Word w ∷ []) href h = absurd (not_some href h)
href_is (Angled w ∷ []) href h = angled_is w href h
href_is (Quoted w ∷ []) href h = absurd (not_some href h)
href_is (x ∷ y ∷ xs) href h = absurd (not_some href h)

link_by : (parts : List (List Lexeme)) (link : WrittenLink) (o : Option (List ℕ)) (ps : Option (List Param)) → params_of parts ≡ ps
    → ((href : List ℕ) → o ≡ Some href → is_utf8 href ≡ true) → ◌≡◌ {A = Option WrittenLink}
    (option_and_then (λ href. option_map (λ params. record { href = href; params = params }) ps) o) (Some link) → is_written link ≡ true
link_by parts link None ps e each h = absurd (not_some link h)
link_by parts link (Some href) None e each h = absurd (not_some link h)
link_by parts link (Some href) (Some params) e each h =
    let same : record { href = href; params = params } ≡ link = some_is (record { href = href; params = params }) link h in
    rw (← same) (and_from (is_utf8 href) (list_all is_param params) (each href refl) (every_all param_of is_param param_is (filter is_some_part parts) params e))

parts_is : (parts : List (List Lexeme)) (link : WrittenLink) → link_of parts ≡ Some link → is_written link ≡ true
parts_is [] link h = absurd (not_some link h)
parts_is (head ∷ parts) link h = link_by parts link (href_of head) (params_of parts) refl (λ href e. href_is head href e) h

link_is : (piece : List Lexeme) (link : WrittenLink) → written_link piece ≡ Some link → is_written link ≡ true
link_is piece link h = parts_is (slice_split is_semicolon piece) link h

pub document_is : (bytes : List ℕ) (written : List WrittenLink) → IsDocument bytes written → list_all is_written written ≡ true
document_is bytes written (lexemes, lexed, is) = every_all written_link is_written link_is (filter is_some_part (slice_split is_comma lexemes)) written is

-- ---- the parts of a UTF-8 text between its blanks are UTF-8

-- each part is UTF-8
abbrev AreUtf8 : List (List ℕ) → Type 0
AreUtf8 parts = AllByRecursion IsUtf8 parts

first_part : (xs : List ℕ) → (part : List ℕ) × (parts : List (List ℕ)) × (slice_split is_blank xs ≡ part ∷ parts)
first_part [] = ([], [], refl)
first_part (x ∷ xs) = by (is_blank x) refl (first_part xs)
  where
    by : (b : Bool) → is_blank x ≡ b → ((part : List ℕ) × (parts : List (List ℕ)) × (slice_split is_blank xs ≡ part ∷ parts))
        → (part : List ℕ) × (parts : List (List ℕ)) × (slice_split is_blank (x ∷ xs) ≡ part ∷ parts)
    by true e rest = ([], slice_split is_blank xs, rw e refl)
    by false e (part, parts, is) = (x ∷ part, parts, rw (e, is) refl)

no_blank_split : (b rest part : List ℕ) (parts : List (List ℕ)) → list_all (λ c. not (is_blank c)) b ≡ true
    → slice_split is_blank rest ≡ part ∷ parts → slice_split is_blank (b ++ rest) ≡ (b ++ part) ∷ parts
no_blank_split [] rest part parts h is = is
no_blank_split (c ∷ b) rest part parts h is =
    let f = not-true (is_blank c) (and_first (not (is_blank c)) (list_all (λ d. not (is_blank d)) b) h) in
    rw (f, no_blank_split b rest part parts (and_second (not (is_blank c)) (list_all (λ d. not (is_blank d)) b) h) is) refl

high_no_blank : (b : ℕ) → 128 ≤ b → not (is_blank b) ≡ true
high_no_blank b h =
    let space : (b == 32) ≡ false = grind (arith, nat_tests) in
    let tab : (b == 9) ≡ false = grind (arith, nat_tests) in
    let return : (b == 13) ≡ false = grind (arith, nat_tests) in
    let line : (b == 10) ≡ false = grind (arith, nat_tests) in
    rw (space, tab, return, line) refl

blank_low : (c : ℕ) → is_blank c ≡ true → c < 128
blank_low c h = elim (true_or_false (nat_lt c 128)) [
  | inl t ↦ grind (arith, nat_tests)
  | inr f ↦ let high : 128 ≤ c = grind (arith, nat_tests) in absurd (let g : false ≡ true = (rw h at (high_no_blank c high)) in cc)
]

low_code : (c : ℕ) → c < 128 → encode c ≡ c ∷ []
unfolding encode
low_code c h = let t : nat_lt c 128 ≡ true = grind (arith, nat_tests) in rw t refl

code_no_blank : (c : ℕ) → is_blank c ≡ false → list_all (λ b. not (is_blank b)) (encode c) ≡ true
unfolding encode
code_no_blank c h = elim (true_or_false (nat_lt c 128)) [
  | inl t ↦ rw (t, h) refl
  | inr f ↦ elim (true_or_false (nat_lt c 2048)) [
    | inl t ↦ rw (f, t) (and_from (not (is_blank (192 + c / 64))) _ (high_no_blank (192 + c / 64) (omega arith)) (and_from (not (is_blank (128 + c % 64))) true (high_no_blank (128 + c % 64) (omega arith)) refl))
    | inr g ↦ elim (true_or_false (nat_lt c 65536)) [
      | inl t ↦ rw (f, g, t) (and_from (not (is_blank (224 + c / 4096))) _ (high_no_blank (224 + c / 4096) (omega arith)) (and_from (not (is_blank (128 + c / 64 % 64))) _ (high_no_blank (128 + c / 64 % 64) (omega arith)) (and_from (not (is_blank (128 + c % 64))) true (high_no_blank (128 + c % 64) (omega arith)) refl)))
      | inr e ↦ rw (f, g, e) (and_from (not (is_blank (240 + c / 262144))) _ (high_no_blank (240 + c / 262144) (omega arith)) (and_from (not (is_blank (128 + c / 4096 % 64))) _ (high_no_blank (128 + c / 4096 % 64) (omega arith)) (and_from (not (is_blank (128 + c / 64 % 64))) _ (high_no_blank (128 + c / 64 % 64) (omega arith)) (and_from (not (is_blank (128 + c % 64))) true (high_no_blank (128 + c % 64) (omega arith)) refl))))
    ]
  ]
]

one_code : (c : ℕ) → scalar c ≡ true → IsUtf8 (encode c)
one_code c h = IsUtf8-encode c h

code_parts : (c : ℕ) (rest : List ℕ) → scalar c ≡ true → AreUtf8 (slice_split is_blank rest) → AreUtf8 (slice_split is_blank (encode c ++ rest))
code_parts c rest s all = by (first_part rest)
  where
    by : ((part : List ℕ) × (parts : List (List ℕ)) × (slice_split is_blank rest ≡ part ∷ parts)) → AreUtf8 (slice_split is_blank (encode c ++ rest))
    by (part, parts, is) =
        let own : AreUtf8 (part ∷ parts) = subst AreUtf8 is all in
        elim (true_or_false (is_blank c)) [
          | inl t ↦ let one = low_code c (blank_low c t) in rw (one, t) (IsUtf8-nil, all)
          | inr f ↦ rw (no_blank_split (encode c) rest part parts (code_no_blank c f) is) (IsUtf8-append (encode c) part (one_code c s) own.0, own.1)
        ]

codes_parts : (cs : List ℕ) → scalars cs ≡ true → AreUtf8 (slice_split is_blank (encode_utf8_all cs))
codes_parts [] h = (IsUtf8-nil, tt)
codes_parts (c ∷ cs) h = code_parts c (encode_utf8_all cs) (and_first (scalar c) (scalars cs) h) (codes_parts cs (and_second (scalar c) (scalars cs) h))

parts_all : (parts : List (List ℕ)) → AreUtf8 parts → list_all is_utf8 (filter is_some_part parts) ≡ true
parts_all [] all = refl
parts_all (part ∷ parts) all = by (is_some_part part) refl (parts_all parts all.1)
  where
    by : (b : Bool) → is_some_part part ≡ b → list_all is_utf8 (filter is_some_part parts) ≡ true → list_all is_utf8 (filter is_some_part (part ∷ parts)) ≡ true
    by true e rest = rw e (and_from (is_utf8 part) (list_all is_utf8 (filter is_some_part parts)) (is_utf8-from_IsUtf8 part all.0) rest)
    by false e rest = rw e rest

types_utf8 : (text : List ℕ) → is_utf8 text ≡ true → list_all is_utf8 (filter is_some_part (slice_split is_blank text)) ≡ true
types_utf8 text h =
    let own = IsUtf8-from_is_utf8 text h in
    let parts : AreUtf8 (slice_split is_blank text) = rw own.1.1 at (codes_parts own.0 own.1.0) in
    parts_all (slice_split is_blank text) parts

-- ---- the attributes of a link have their shape

values_utf8 : (name : List ℕ) (params : List Param) → list_all is_param params ≡ true → list_all is_utf8 (values_of name params) ≡ true
values_utf8 name [] h = refl
values_utf8 name (p ∷ params) h = by (bytes_eq p.name name) refl (values_utf8 name params (and_second (is_param p) (list_all is_param params) h))
  where
    by : (b : Bool) → bytes_eq p.name name ≡ b → list_all is_utf8 (values_of name params) ≡ true → list_all is_utf8 (values_of name (p ∷ params)) ≡ true
    by true e rest = rw e (and_from (is_utf8 p.value) (list_all is_utf8 (values_of name params)) (and_second (is_utf8 p.name) (is_utf8 p.value) (and_first (is_param p) (list_all is_param params) h)) rest)
    by false e rest = rw e rest

name_utf8 : (name : List ℕ) (params : List Param) → list_all is_param params ≡ true → (values_of name params ≡ [] → ⊥) → is_utf8 name ≡ true
name_utf8 name [] h some = absurd (some refl)
name_utf8 name (p ∷ params) h some = by (bytes_eq p.name name) refl (λ g. name_utf8 name params (and_second (is_param p) (list_all is_param params) h) g)
  where
    by : (b : Bool) → bytes_eq p.name name ≡ b → ((values_of name params ≡ [] → ⊥) → is_utf8 name ≡ true) → is_utf8 name ≡ true
    by true e rest = rw (← equal_bytes p.name name e) (and_first (is_utf8 p.name) (is_utf8 p.value) (and_first (is_param p) (list_all is_param params) h))
    by false e rest = rest (λ none. some (rw e none))

tagged_by_is : (language behind : List ℕ) (pair : List ℕ × List ℕ) → tagged_by language behind ≡ Some pair → is_tagged_text pair ≡ true
tagged_by_is language [] pair h = absurd (not_some pair h)
tagged_by_is language (c ∷ text) pair h = by (c == 39 && (is_utf8 (percent_decode text) && is_utf8 language)) refl
  where
    by : (b : Bool) → (c == 39 && (is_utf8 (percent_decode text) && is_utf8 language)) ≡ b → is_tagged_text pair ≡ true
    by true e = let same : (percent_decode text, language) ≡ pair = some_is (percent_decode text, language) pair (rw e at h) in rw (← same)
        (and_second (c == 39) (is_utf8 (percent_decode text) && is_utf8 language) e)
    by false e = absurd (not_some pair (rw e at h))

tagged_is : (value : List ℕ) (pair : List ℕ × List ℕ) → tagged_text value ≡ Some pair → is_tagged_text pair ≡ true
tagged_is value pair h = by (bytes_eq (map to_ascii_lowercase (take 6 value)) (codes "utf-8'")) refl
  where
    by : (b : Bool) → bytes_eq (map to_ascii_lowercase (take 6 value)) (codes "utf-8'") ≡ b → is_tagged_text pair ≡ true
    by true e = tagged_by_is (prefix_of is_language_byte (drop 6 value)) (after_prefix is_language_byte (drop 6 value)) pair (rw e at h)
    by false e = absurd (not_some pair (rw e at h))

tagged_all : (values : List (List ℕ)) → list_all is_tagged_text (filter_map tagged_text values) ≡ true
tagged_all [] = refl
tagged_all (value ∷ values) = by (tagged_text value) refl (tagged_all values)
  where
    by : (o : Option (List ℕ × List ℕ)) → tagged_text value ≡ o → list_all is_tagged_text (filter_map tagged_text values) ≡ true
        → list_all is_tagged_text (filter_map tagged_text (value ∷ values)) ≡ true
    by None e rest = rw e rest
    by (Some pair) e rest = rw e (and_from (is_tagged_text pair) (list_all is_tagged_text (filter_map tagged_text values)) (tagged_is value pair e) rest)

tagged_value_is : (name : List ℕ) (pairs : List (List ℕ × List ℕ)) (v : AttrValue) → is_tagged name ≡ true
    → list_all is_tagged_text pairs ≡ true → tagged_value pairs ≡ Some v → is_value name v ≡ true
tagged_value_is name [] v t all h = absurd (not_some v h)
tagged_value_is name (pair ∷ pairs) v t all h = rw (← some_is (Tagged (pair ∷ pairs)) v h)
    (and_from (is_tagged name) (list_all is_tagged_text (pair ∷ pairs)) t all)

many_value_is : (name : List ℕ) (texts : List (List ℕ)) (v : AttrValue) → is_tagged name ≡ false → is_single name ≡ false
    → list_all is_utf8 texts ≡ true → many_value texts ≡ Some v → is_value name v ≡ true
many_value_is name [] v t s all h = absurd (not_some v h)
many_value_is name (text ∷ texts) v t s all h =
    rw (← some_is (Many (text ∷ texts)) v h) (and_from (not (is_tagged name)) (not (is_single name) && list_all is_utf8 (text ∷ texts)) (not_from_false (is_tagged name) t) (and_from (not (is_single name)) (list_all is_utf8 (text ∷ texts)) (not_from_false (is_single name) s) all))

one_value_is : (name : List ℕ) (values : List (List ℕ)) (v : AttrValue) → is_tagged name ≡ false → is_single name ≡ true
    → list_all is_utf8 values ≡ true → option_map One (slice_get values 0) ≡ Some v → is_value name v ≡ true
one_value_is name [] v t s all h = absurd (not_some v h)
one_value_is name (text ∷ values) v t s all h =
    rw (← some_is (One text) v h) (and_from (not (is_tagged name)) (is_single name && is_utf8 text) (not_from_false (is_tagged name) t) (and_from (is_single name) (is_utf8 text) s (and_first (is_utf8 text) (list_all is_utf8 values) all)))

value_is : (name : List ℕ) (values : List (List ℕ)) (v : AttrValue) → list_all is_utf8 values ≡ true → attr_value name values ≡ Some v → is_value name v ≡ true
value_is name values v all h = by (is_tagged name) (is_single name) refl refl
  where
    by : (t s : Bool) → is_tagged name ≡ t → is_single name ≡ s → is_value name v ≡ true
    by true s e f = tagged_value_is name (filter_map tagged_text values) v e (tagged_all values) (rw e at h)
    by false true e f = one_value_is name values v e f all (rw (e, f) at h)
    by false false e f = many_value_is name values v e f all (rw (e, f) at h)

attr_is : (params : List Param) (attr : Attr) → list_all is_param params ≡ true → attr_of params attr.name ≡ Some attr → is_attr attr ≡ true
unfolding is_attr
attr_is params attr all h =
    and_from (not (bytes_eq attr.name (codes "href"))) (is_utf8 attr.name && is_value attr.name attr.value)
    (not_from_false (bytes_eq attr.name (codes "href")) apart) (and_from (is_utf8 attr.name) (is_value attr.name attr.value) name value)
  where
    free : is_reserved attr.name ≡ false
    free = not_reserved attr.name (values_of attr.name params) attr h

    apart : bytes_eq attr.name (codes "href") ≡ false
    apart = or_second (bytes_eq attr.name (codes "anchor")) (bytes_eq attr.name (codes "href"))
        (or_second (bytes_eq attr.name (codes "rel")) (bytes_eq attr.name (codes "anchor") || bytes_eq attr.name (codes "href")) free)

    name : is_utf8 attr.name ≡ true
    name = name_utf8 attr.name params all (λ none. no_values attr.name attr (rw none at h))

    value : is_value attr.name attr.value ≡ true
    value =
        let own = mapped_some (λ v. record { name = attr.name; value = v }) (attr_value attr.name (values_of attr.name params)) attr (rw free at h) in
        let same : own.0 ≡ attr.value = ap (λ a. a.value) own.2 in
        rw (← same) (value_is attr.name (values_of attr.name params) own.0 (values_utf8 attr.name params all) own.1)

attrs_from : (attrs : List Attr) → ((i : ℕ) (attr : Attr) → slice_get attrs i ≡ Some attr → is_attr attr ≡ true) → list_all is_attr attrs ≡ true
attrs_from [] each = refl
attrs_from (attr ∷ attrs) each = and_from (is_attr attr) (list_all is_attr attrs) (each 0 attr refl) (attrs_from attrs (λ i a at. each (suc i) a at))

target_is : (link : WrittenLink) (attrs : List Attr) → is_written link ≡ true → IsAttributes link.params attrs → is_target
    (record { href = link.href; attrs = attrs }) ≡ true
unfolding is_target
target_is link attrs h own =
    let params = and_second (is_utf8 link.href) (list_all is_param link.params) h in
    and_from (is_utf8 link.href) (ascend (map (λ attr. attr.name) attrs) && list_all is_attr attrs)
    (and_first (is_utf8 link.href) (list_all is_param link.params) h)
    (and_from (ascend (map (λ attr. attr.name) attrs)) (list_all is_attr attrs) own.ascending (attrs_from attrs (λ i attr at. attr_is link.params attr params (own.each i attr at))))

-- ---- the links have their shape

first_utf8 : (name : List ℕ) (params : List Param) → list_all is_param params ≡ true → is_utf8 (unwrap_or (first_value name params) []) ≡ true
first_utf8 name [] h = is_utf8-from_IsUtf8 [] IsUtf8-nil
first_utf8 name (p ∷ params) h = by (bytes_eq p.name name) refl (first_utf8 name params (and_second (is_param p) (list_all is_param params) h))
  where
    by : (b : Bool) → bytes_eq p.name name ≡ b → is_utf8 (unwrap_or (first_value name params) []) ≡ true
        → is_utf8 (unwrap_or (first_value name (p ∷ params)) []) ≡ true
    by true e rest = rw e (and_second (is_utf8 p.name) (is_utf8 p.value) (and_first (is_param p) (list_all is_param params) h))
    by false e rest = rw e rest

types_shaped : (anchor : List ℕ) (target : Target) (types : List (List ℕ)) → is_utf8 anchor ≡ true → is_target target ≡ true
    → list_all is_utf8 types ≡ true → list_any (λ t. bytes_eq t (codes "anchor")) types ≡ false
    → list_all is_shaped (map (λ type. (anchor, type, target)) types) ≡ true
types_shaped anchor target [] a t all none = refl
types_shaped anchor target (type ∷ types) a t all none =
    let apart = not_from_false (bytes_eq type (codes "anchor")) (or_first (bytes_eq type (codes "anchor")) (list_any (λ u. bytes_eq u (codes "anchor")) types) none) in
    and_from (is_shaped (anchor, type, target)) _ (and_from (is_utf8 anchor) _ a (and_from (not (bytes_eq type (codes "anchor"))) _ apart (and_from (is_utf8 type) (is_target target) (and_first (is_utf8 type) (list_all is_utf8 types) all) t)))
    (types_shaped anchor target types a t (and_second (is_utf8 type) (list_all is_utf8 types) all) (or_second (bytes_eq type (codes "anchor")) (list_any (λ u. bytes_eq u (codes "anchor")) types) none))

no_anchor : (types : List (List ℕ)) → is_rel_error types ≡ false → list_any (λ t. bytes_eq t (codes "anchor")) types ≡ false
no_anchor [] h = refl
no_anchor (type ∷ types) h = h

rel_free : (i : ℕ) (link : WrittenLink) → link_error i link ≡ None → is_rel_error (types_of link.params) ≡ false
rel_free i link h = by (first_value (codes "anchor") link.params) refl (is_rel_error (types_of link.params)) refl
  where
    by : (o : Option (List ℕ)) → first_value (codes "anchor") link.params ≡ o → (b : Bool) → is_rel_error (types_of link.params) ≡ b
        → is_rel_error (types_of link.params) ≡ false
    by None e b f = absurd (not_some (Anchor i) (sym (rw e at h)))
    by (Some a) e true f = absurd (not_some (Rel i) (sym (rw (e, f) at h)))
    by (Some a) e false f = f

link_shaped : (i : ℕ) (link : WrittenLink) (links : List Link) → is_written link ≡ true → link_error i link ≡ None
    → IsLinksOfLink link links → list_all is_shaped links ≡ true
link_shaped i link links h none own =
    let params = and_second (is_utf8 link.href) (list_all is_param link.params) h in
    let types = types_utf8 (unwrap_or (first_value (codes "rel") link.params) []) (first_utf8 (codes "rel") link.params params) in
    rw own.is (types_shaped (unwrap_or (first_value (codes "anchor") link.params) []) (record { href = link.href; attrs = own.attrs }) (types_of link.params) (first_utf8 (codes "anchor") link.params params) (target_is link own.attrs h own.attributes) types (no_anchor (types_of link.params) (rel_free i link none)))

no_first : (a b : Option LinkTextFault) → option_or a b ≡ None → (a ≡ None) × (b ≡ None)
no_first None b h = (refl, h)
no_first (Some e) b h = absurd (not_some e (sym h))

pub links_shaped : (i : ℕ) (written : List WrittenLink) (links : List Link) → list_all is_written written ≡ true
    → first_error i written ≡ None → IsLinksOf written links → list_all is_shaped links ≡ true
links_shaped i [] links h none own = rw own refl
links_shaped i (link ∷ written) links h none (its, more, of_link, of_rest, is) =
    let parts = no_first (link_error i link) (first_error (i + 1) written) none in
    rw is (list_all-append is_shaped its more ∙ and_from (list_all is_shaped its) (list_all is_shaped more) (link_shaped i link its (and_first (is_written link) (list_all is_written written) h) parts.0 of_link) (links_shaped (i + 1) written more (and_second (is_written link) (list_all is_written written) h) parts.1 of_rest))

-- ---- contexts of links that have their shape

targets_from : (anchor name : List ℕ) (targets : List Target) → list_all is_shaped (map (λ target. (anchor, name, target)) targets) ≡ true
    → list_all is_target targets ≡ true
targets_from anchor name [] h = refl
targets_from anchor name (target ∷ targets) h =
    let own = and_first (is_shaped (anchor, name, target)) _ h in
    let t = and_second (is_utf8 name) (is_target target) (and_second (not (bytes_eq name (codes "anchor"))) _ (and_second (is_utf8 anchor) _ own)) in
    and_from (is_target target) (list_all is_target targets) t (targets_from anchor name targets (and_second (is_shaped (anchor, name, target)) _ h))

first_shaped : (anchor name : List ℕ) (targets : List Target) → is_some_part targets ≡ true
    → list_all is_shaped (map (λ target. (anchor, name, target)) targets) ≡ true
    → (is_utf8 anchor ≡ true) × (not (bytes_eq name (codes "anchor")) ≡ true) × (is_utf8 name ≡ true)
first_shaped anchor name [] some h = absurd (let f : false ≡ true = some in cc)
first_shaped anchor name (target ∷ targets) some h =
    let own = and_first (is_shaped (anchor, name, target)) _ h in
    let behind = and_second (is_utf8 anchor) _ own in
    (and_first (is_utf8 anchor) _ own, and_first (not (bytes_eq name (codes "anchor"))) _ behind, and_first (is_utf8 name) (is_target target) (and_second (not (bytes_eq name (codes "anchor"))) _ behind))

relation_from : (anchor : List ℕ) (relation : Relation) → has_target relation ≡ true
    → list_all is_shaped (links_of_relation anchor relation) ≡ true → (is_utf8 anchor ≡ true) × (is_relation relation ≡ true)
unfolding is_relation
relation_from anchor relation some h =
    let own = first_shaped anchor relation.name relation.targets some h in
    (own.0, and_from (not (bytes_eq relation.name (codes "anchor"))) (is_utf8 relation.name && list_all is_target relation.targets) own.1 (and_from (is_utf8 relation.name) (list_all is_target relation.targets) own.2 (targets_from anchor relation.name relation.targets h)))

both_shaped : (xs ys : List Link) → list_all is_shaped (xs ++ ys) ≡ true → (list_all is_shaped xs ≡ true) × (list_all is_shaped ys ≡ true)
both_shaped xs ys h =
    let both = sym (list_all-append is_shaped xs ys) ∙ h in
    (and_first (list_all is_shaped xs) (list_all is_shaped ys) both, and_second (list_all is_shaped xs) (list_all is_shaped ys) both)

relations_from : (anchor : List ℕ) (relations : List Relation) → list_all has_target relations ≡ true
    → list_all is_shaped (flat_map (links_of_relation anchor) relations) ≡ true → list_all is_relation relations ≡ true
relations_from anchor [] full h = refl
relations_from anchor (relation ∷ relations) full h =
    let both = both_shaped (links_of_relation anchor relation) (flat_map (links_of_relation anchor) relations) h in
    and_from (is_relation relation) (list_all is_relation relations)
    (relation_from anchor relation (and_first (has_target relation) (list_all has_target relations) full) both.0).1
    (relations_from anchor relations (and_second (has_target relation) (list_all has_target relations) full) both.1)

anchor_from : (anchor : List ℕ) (relations : List Relation) → is_some_part relations ≡ true → list_all has_target relations ≡ true
    → list_all is_shaped (flat_map (links_of_relation anchor) relations) ≡ true → is_utf8 anchor ≡ true
anchor_from anchor [] some full h = absurd (let f : false ≡ true = some in cc)
anchor_from anchor (relation ∷ relations) some full h =
    let both = both_shaped (links_of_relation anchor relation) (flat_map (links_of_relation anchor) relations) h in
    (relation_from anchor relation (and_first (has_target relation) (list_all has_target relations) full) both.0).0

context_from : (context : Context) → is_full context ≡ true → ascends context ≡ true → list_all is_shaped (links_of_context context) ≡ true
    → is_context context ≡ true
unfolding is_context
context_from context full up h =
    let some = and_first (is_some_part context.relations) (list_all has_target context.relations) full in
    let targets = and_second (is_some_part context.relations) (list_all has_target context.relations) full in
    and_from (is_utf8 context.anchor) (ascend (relation_names context.relations) && list_all is_relation context.relations)
    (anchor_from context.anchor context.relations some targets h)
    (and_from (ascend (relation_names context.relations)) (list_all is_relation context.relations) up (relations_from context.anchor context.relations targets h))

contexts_from : (contexts : List Context) → list_all is_full contexts ≡ true → list_all ascends contexts ≡ true
    → list_all is_shaped (links_of_document contexts) ≡ true → list_all is_context contexts ≡ true
contexts_from [] full up h = refl
contexts_from (context ∷ contexts) full up h =
    let both = both_shaped (links_of_context context) (links_of_document contexts) h in
    and_from (is_context context) (list_all is_context contexts)
    (context_from context (and_first (is_full context) (list_all is_full contexts) full) (and_first (ascends context) (list_all ascends contexts) up) both.0)
    (contexts_from contexts (and_second (is_full context) (list_all is_full contexts) full) (and_second (ascends context) (list_all ascends contexts) up) both.1)

pub is_shape : (bytes : List ℕ) (contexts : List Context) → IsReadAs bytes contexts → list_all is_context contexts ≡ true
is_shape bytes contexts read =
    let links = links_shaped 0 read.written read.links (document_is bytes read.written read.document) read.error_free read.given in
    contexts_from contexts read.cut.full read.cut.ascending (ap (list_all is_shaped) read.cut.same ∙ links)
