-- The lexeme at the start of a text is the one that the text begins with, and there is no other.
use Rattle.std.proofs.Common.{◌≡◌, ℕ, ◌<◌, ◌≤◌, ◌==◌, not, Bool, true, false, List, [], ◌∷◌, ◌++◌, Option, Some, None, length, refl, ap, ◌∙◌, inl, inr, arith}
use Rattle.std.specs.List.{list_all}
use Rattle.std.proofs.lemmas.Bool.Decides.{nat_tests}
use Rattle.gs_linktext_grammar.specs.Bytes.{after_prefix, prefix_of, is_blank, is_quotable, is_quoted_byte, is_target_byte, is_token}
use Rattle.gs_linktext_grammar.specs.Prefixes.{first_lexeme, quoted_of, target_of, word_of}
use Rattle.gs_linktext_grammar.specs.Lexemes.{are_some, IsLexeme, stops, unquoted, with_byte}
use Rattle.gs_linktext_grammar.specs.declared.lexeme.Lexeme.{Lexeme}
use Rattle.gs_linktext_grammar.specs.declared.lexeme.Lexeme.TheVariants.{Comma, Semicolon, Equals, Word, Target, Quoted}
use Rattle.gs_chars.proofs.TruthsAndLists.{and_first, and_second, true_or_false, equal_number}
use Rattle.std.proofs.lemmas.Bool.{and_from, not_from_false, not-true}

-- ---- options and numbers

pub some_is : {X : Type 0} (x y : X) → Some x ≡ Some y → x ≡ y
some_is x y h = let e : Some x ≡ Some y = h in cc

pub not_some : {X : Type 0} (x : X) → None ≡ Some x → ⊥
not_some x h = let e : None ≡ Some x = h in cc

-- the result of reading is this lexeme and this rest
abbrev IsRead : Option (Lexeme × List ℕ) → Lexeme → List ℕ → Type 0
IsRead read x rest = read ≡ Some (x, rest)

same_lexeme : (x y : Lexeme) (r s : List ℕ) → IsRead (Some (x, r)) y s → x ≡ y
same_lexeme x y r s h = ap (λ p. p.0) (some_is (x, r) (y, s) h)

same_rest : (x y : Lexeme) (r s : List ℕ) → IsRead (Some (x, r)) y s → r ≡ s
same_rest x y r s h = ap (λ p. p.1) (some_is (x, r) (y, s) h)

-- ---- the bytes of a kind before

pub prefix_behind : (test : ℕ → Bool) (text : List ℕ) → text ≡ prefix_of test text ++ after_prefix test text
prefix_behind test [] = refl
prefix_behind test (c ∷ rest) = elim (true_or_false (test c)) [
  | inl t ↦ rw t (ap (λ (xs : List ℕ). c ∷ xs) (prefix_behind test rest))
  | inr f ↦ rw f refl
]

pub all_prefix : (test : ℕ → Bool) (text : List ℕ) → list_all test (prefix_of test text) ≡ true
all_prefix test [] = refl
all_prefix test (c ∷ rest) = elim (true_or_false (test c)) [
  | inl t ↦ rw t (and_from (test c) (list_all test (prefix_of test rest)) t (all_prefix test rest))
  | inr f ↦ rw f refl
]

pub stops_behind : (test : ℕ → Bool) (text : List ℕ) → stops test (after_prefix test text) ≡ true
stops_behind test [] = refl
stops_behind test (c ∷ rest) = elim (true_or_false (test c)) [
  | inl t ↦ rw t (stops_behind test rest)
  | inr f ↦ rw f (not_from_false (test c) f)
]

pub prefix_stops : (test : ℕ → Bool) (rest : List ℕ) → stops test rest ≡ true → (prefix_of test rest ≡ []) × (after_prefix test rest ≡ rest)
prefix_stops test [] h = (refl, refl)
prefix_stops test (c ∷ rest) h = let f = not-true (test c) h in rw f (refl, refl)

pub prefix_whole : (test : ℕ → Bool) (w rest : List ℕ) → list_all test w ≡ true → stops test rest ≡ true
    → (prefix_of test (w ++ rest) ≡ w) × (after_prefix test (w ++ rest) ≡ rest)
prefix_whole test [] rest h s = prefix_stops test rest s
prefix_whole test (c ∷ w) rest h s =
    let t = and_first (test c) (list_all test w) h in
    let more = prefix_whole test w rest (and_second (test c) (list_all test w) h) s in
    rw t (ap (λ (xs : List ℕ). c ∷ xs) more.0, more.1)

pub all_behind : (test : ℕ → Bool) (text : List ℕ) → list_all test text ≡ true → after_prefix test text ≡ []
all_behind test [] h = refl
all_behind test (c ∷ rest) h =
    let t = and_first (test c) (list_all test rest) h in
    rw t (all_behind test rest (and_second (test c) (list_all test rest) h))

pub none_behind : (test : ℕ → Bool) (text : List ℕ) → after_prefix test text ≡ [] → list_all test text ≡ true
none_behind test [] h = refl
none_behind test (c ∷ rest) h = elim (true_or_false (test c)) [
  | inl t ↦ let more : after_prefix test rest ≡ [] = (rw t at h) in rw t (none_behind test rest more)
  | inr f ↦ absurd (let e : c ∷ rest ≡ [] = (rw f at h) in cc)
]

-- ---- a lexeme before is the prefix

word_prefix : (word text rest : List ℕ) → text ≡ word ++ rest → are_some is_token word ≡ true → stops is_token rest ≡ true
    → word_of (prefix_of is_token text) (after_prefix is_token text) ≡ Some (Word word, rest)
word_prefix word text rest e some stop =
    let whole = prefix_whole is_token word rest (and_second (not (length word == 0)) (list_all is_token word) some) stop in
    let none = not-true (length word == 0) (and_first (not (length word == 0)) (list_all is_token word) some) in
    rw (e, whole.0, whole.1, none) refl

-- no byte of a token is another sign
pub token_is_no_sign : (c : ℕ) → is_token c ≡ true
    → ((c == 44) ≡ false) × ((c == 59) ≡ false) × ((c == 61) ≡ false) × ((c == 60) ≡ false) × ((c == 34) ≡ false) × (is_blank c ≡ false)
unfolding is_token
token_is_no_sign c h = (not_at 44 refl, not_at 59 refl, not_at 61 refl, not_at 60 refl, not_at 34 refl, rw (not_at 32 refl, not_at 9 refl, not_at 13 refl, not_at 10 refl) refl)
  where
    by : (d : ℕ) (b : Bool) → (c == d) ≡ b → is_token d ≡ false → (c == d) ≡ false
    by d false e f = e
    by d true e f = absurd (let same : c ≡ d = equal_number c d e in let g : is_token d ≡ true = (rw same at h) in cc)

    not_at : (d : ℕ) → is_token d ≡ false → (c == d) ≡ false
    not_at d f = by d (c == d) refl f

pub lexeme_is_prefix : (x : Lexeme) (text rest : List ℕ) → IsLexeme x text rest → first_lexeme text ≡ Some (x, rest)
lexeme_is_prefix Comma text rest h = rw h refl
lexeme_is_prefix Semicolon text rest h = rw h refl
lexeme_is_prefix Equals text rest h = rw h refl
lexeme_is_prefix (Word word) text rest h = of_word word text rest h
  where
    of_word : (word text rest : List ℕ) → IsLexeme (Word word) text rest → first_lexeme text ≡ Some (Word word, rest)
    of_word [] text rest h = absurd (let f : false ≡ true = h.1 in cc)
    of_word (c ∷ word) text rest h =
        let t = and_first (is_token c) (list_all is_token word) (and_second (not (length (c ∷ word) == 0)) (list_all is_token (c ∷ word)) h.1) in
        let n = token_is_no_sign c t in
        let w = word_prefix (c ∷ word) (c ∷ (word ++ rest)) rest refl h.1 h.2 in
        rw (h.0, n.0, n.1, n.2, n.3, n.4) w
lexeme_is_prefix (Target href) text rest h =
    let whole = prefix_whole is_target_byte href (62 ∷ rest) (and_second (not (length href == 0)) (list_all is_target_byte href) h.1) refl in
    let none = not-true (length href == 0) (and_first (not (length href == 0)) (list_all is_target_byte href) h.1) in
    rw (h.0, whole.0, whole.1, none) refl
lexeme_is_prefix (Quoted value) text rest (body, e, said) = rw (e, said) refl

-- ---- and the prefix is the lexeme before

is_word : (x : Lexeme) (text rest : List ℕ) → word_of (prefix_of is_token text) (after_prefix is_token text) ≡ Some (x, rest) → IsLexeme x text rest
is_word x text rest h = by (length (prefix_of is_token text) == 0) refl
  where
    word : List ℕ
    word = prefix_of is_token text

    behind : List ℕ
    behind = after_prefix is_token text

    by : (b : Bool) → (length word == 0) ≡ b → IsLexeme x text rest
    by true e = absurd (not_some (x, rest) (rw e at h))
    by false e =
        let g : IsRead (Some (Word word, behind)) x rest = (rw e at h) in
        rw (← same_lexeme (Word word) x behind rest g, ← same_rest (Word word) x behind rest g)
        (prefix_behind is_token text, and_from (not (length word == 0)) (list_all is_token word) (not_from_false (length word == 0) e) (all_prefix is_token text), stops_behind is_token text)

is_target : (x : Lexeme) (text rest : List ℕ)
    → target_of (prefix_of is_target_byte text) (after_prefix is_target_byte text) ≡ Some (x, rest) → IsLexeme x (60 ∷ text) rest
is_target x text rest h = by_rest (after_prefix is_target_byte text) refl
  where
    href : List ℕ
    href = prefix_of is_target_byte text

    by_href : (behind : List ℕ) (b : Bool) → (length href == 0) ≡ b → after_prefix is_target_byte text ≡ 62 ∷ behind → IsLexeme x (60 ∷ text) rest
    by_href behind true e at_end = absurd (not_some (x, rest) (rw (at_end, e) at h))
    by_href behind false e at_end =
        let g : IsRead (Some (Target href, behind)) x rest = (rw (at_end, e) at h) in
        let split : text ≡ href ++ 62 ∷ behind = prefix_behind is_target_byte text ∙ ap (λ (xs : List ℕ). href ++ xs) at_end in
        rw (← same_lexeme (Target href) x behind rest g, ← same_rest (Target href) x behind rest g)
        (ap (λ (xs : List ℕ). 60 ∷ xs) split, and_from (not (length href == 0)) (list_all is_target_byte href) (not_from_false (length href == 0) e) (all_prefix is_target_byte text))

    by_mark : (c : ℕ) (behind : List ℕ) (b : Bool) → (c == 62) ≡ b → after_prefix is_target_byte text ≡ c ∷ behind → IsLexeme x (60 ∷ text) rest
    by_mark c behind false e is = absurd (not_some (x, rest) (rw (is, e) at h))
    by_mark c behind true e is = by_href behind (length href == 0) refl (is ∙ ap (λ (d : ℕ). d ∷ behind) (equal_number c 62 e))

    by_rest : (behind : List ℕ) → after_prefix is_target_byte text ≡ behind → IsLexeme x (60 ∷ text) rest
    by_rest [] is = absurd (not_some (x, rest) (rw is at h))
    by_rest (c ∷ behind) is = by_mark c behind (c == 62) refl is

is_quoted : (x : Lexeme) (text rest : List ℕ) (read : Option (List ℕ × List ℕ)) → unquoted text ≡ read → quoted_of read ≡ Some (x, rest)
    → IsLexeme x (34 ∷ text) rest
is_quoted x text rest None e h = absurd (not_some (x, rest) h)
is_quoted x text rest (Some pair) e h =
    rw (← same_lexeme (Quoted pair.0) x pair.1 rest h, ← same_rest (Quoted pair.0) x pair.1 rest h) (text, refl, e)

pub prefix_is_lexeme : (x : Lexeme) (text rest : List ℕ) → first_lexeme text ≡ Some (x, rest) → IsLexeme x text rest
prefix_is_lexeme x [] rest h = absurd (not_some (x, rest) h)
prefix_is_lexeme x (c ∷ text) rest h = by_comma (c == 44) refl
  where
    sign : (y : Lexeme) (d : ℕ) → (c == d) ≡ true → IsRead (Some (y, text)) x rest → IsLexeme y (d ∷ rest) rest → IsLexeme x (c ∷ text) rest
    sign y d e g own =
        rw (← same_lexeme y x text rest g, same_rest y x text rest g, equal_number c d e) own

    by_mark : (b : Bool) → (c == 34) ≡ b → (c == 44) ≡ false → (c == 59) ≡ false → (c == 61) ≡ false → (c == 60) ≡ false → IsLexeme x (c ∷ text) rest
    by_mark true e e1 e2 e3 e4 = let same = equal_number c 34 e in rw same (is_quoted x text rest (unquoted text) refl (rw (e1, e2, e3, e4, e) at h))
    by_mark false e e1 e2 e3 e4 = is_word x (c ∷ text) rest (rw (e1, e2, e3, e4, e) at h)

    by_angle : (b : Bool) → (c == 60) ≡ b → (c == 44) ≡ false → (c == 59) ≡ false → (c == 61) ≡ false → IsLexeme x (c ∷ text) rest
    by_angle true e e1 e2 e3 = let same = equal_number c 60 e in rw same (is_target x text rest (rw (e1, e2, e3, e) at h))
    by_angle false e e1 e2 e3 = by_mark (c == 34) refl e1 e2 e3 e

    by_equals : (b : Bool) → (c == 61) ≡ b → (c == 44) ≡ false → (c == 59) ≡ false → IsLexeme x (c ∷ text) rest
    by_equals true e e1 e2 = sign Equals 61 e (rw (e1, e2, e) at h) refl
    by_equals false e e1 e2 = by_angle (c == 60) refl e1 e2 e

    by_semicolon : (b : Bool) → (c == 59) ≡ b → (c == 44) ≡ false → IsLexeme x (c ∷ text) rest
    by_semicolon true e e1 = sign Semicolon 59 e (rw (e1, e) at h) refl
    by_semicolon false e e1 = by_equals (c == 61) refl e1 e

    by_comma : (b : Bool) → (c == 44) ≡ b → IsLexeme x (c ∷ text) rest
    by_comma true e = sign Comma 44 e (rw e at h) refl
    by_comma false e = by_semicolon (c == 59) refl e

-- ---- the rest after a lexeme is shorter than the text

shorter_byte : (c n : ℕ) (read : Option (List ℕ × List ℕ)) (value rest : List ℕ)
    → ((v r : List ℕ) → ◌≡◌ {A = Option (List ℕ × List ℕ)} read (Some (v, r)) → length r < n) → ◌≡◌ {A = Option (List ℕ × List ℕ)}
    (with_byte c read) (Some (value, rest)) → length rest < n
shorter_byte c n None value rest h e = absurd (not_some (value, rest) e)
shorter_byte c n (Some pair) value rest h e =
    let same : pair.1 ≡ rest = ap (λ p. p.1) (some_is (c ∷ pair.0, pair.1) (value, rest) e) in
    rw (← same) (h pair.0 pair.1 refl)

quoted_step_shorter : (c d : ℕ) (text value rest : List ℕ) → ◌≡◌ {A = Option (List ℕ × List ℕ)} (unquoted (c ∷ d ∷ text)) (Some (value, rest))
    → ((v r : List ℕ) → ◌≡◌ {A = Option (List ℕ × List ℕ)} (unquoted text) (Some (v, r)) → length r < length text)
    → ((v r : List ℕ) → ◌≡◌ {A = Option (List ℕ × List ℕ)} (unquoted (d ∷ text)) (Some (v, r)) → length r < length (d ∷ text))
    → length rest < length (c ∷ d ∷ text)
quoted_step_shorter c d text value rest e first second = by_mark (c == 34) refl
  where
    more : length rest < length text → length rest < length (c ∷ d ∷ text)
    more h = omega (arith, h)

    one_more : length rest < length (d ∷ text) → length rest < length (c ∷ d ∷ text)
    one_more h = omega (arith, h)

    by_quotable : (b : Bool) → is_quotable d ≡ b → (c == 34) ≡ false → (c == 92) ≡ true → length rest < length (c ∷ d ∷ text)
    by_quotable true t f g = more (shorter_byte d (length text) (unquoted text) value rest first (rw (f, g, t) at e))
    by_quotable false t f g = absurd (not_some (value, rest) (rw (f, g, t) at e))

    by_byte : (b : Bool) → is_quoted_byte c ≡ b → (c == 34) ≡ false → (c == 92) ≡ false → length rest < length (c ∷ d ∷ text)
    by_byte true t f g = one_more (shorter_byte c (length (d ∷ text)) (unquoted (d ∷ text)) value rest second (rw (t, f, g) at e))
    by_byte false t f g = absurd (not_some (value, rest) (rw (t, f, g) at e))

    by_slash : (b : Bool) → (c == 92) ≡ b → (c == 34) ≡ false → length rest < length (c ∷ d ∷ text)
    by_slash true t f = by_quotable (is_quotable d) refl f t
    by_slash false t f = by_byte (is_quoted_byte c) refl f t

    by_mark : (b : Bool) → (c == 34) ≡ b → length rest < length (c ∷ d ∷ text)
    by_mark true t = let same : d ∷ text ≡ rest = ap (λ p. p.1) (some_is ([], d ∷ text) (value, rest) (rw t at e)) in rw (← same) (omega arith)
    by_mark false f = by_slash (c == 92) refl f

pub shorter_quoted : (text value rest : List ℕ) → ◌≡◌ {A = Option (List ℕ × List ℕ)} (unquoted text) (Some (value, rest)) → length rest < length text
shorter_quoted [] value rest e = absurd (not_some (value, rest) e)
shorter_quoted (c ∷ []) value rest e = by (c == 34) refl
  where
    by : (b : Bool) → (c == 34) ≡ b → length rest < 1
    by true t = let same : [] ≡ rest = ap (λ p. p.1) (some_is ([], []) (value, rest) (rw t at e)) in rw (← same) (omega arith)
    by false f = absurd (not_some (value, rest) (rw f at e))
shorter_quoted (c ∷ d ∷ text) value rest e = quoted_step_shorter c d text value rest e (λ v r h. shorter_quoted text v r h)
    (λ v r h. shorter_quoted (d ∷ text) v r h)

longer : (prefix rest : List ℕ) → length rest ≤ length (prefix ++ rest)
longer [] rest = omega arith
longer (c ∷ prefix) rest = let h = longer prefix rest in omega (arith, h)

some_longer : (test : ℕ → Bool) (prefix rest : List ℕ) → are_some test prefix ≡ true → length rest < length (prefix ++ rest)
some_longer test [] rest h = absurd (let f : false ≡ true = h in cc)
some_longer test (c ∷ prefix) rest h = let g = longer prefix rest in omega (arith, g)

shorter_lexeme : (x : Lexeme) (text rest : List ℕ) → IsLexeme x text rest → length rest < length text
shorter_lexeme Comma text rest h = rw h (omega arith)
shorter_lexeme Semicolon text rest h = rw h (omega arith)
shorter_lexeme Equals text rest h = rw h (omega arith)
shorter_lexeme (Word word) text rest h = rw h.0 (some_longer is_token word rest h.1)
shorter_lexeme (Target href) text rest h = let g = longer href (62 ∷ rest) in rw h.0 (omega (arith, g))
shorter_lexeme (Quoted value) text rest (body, e, said) = let g = shorter_quoted body value rest said in rw e (omega (arith, g))

pub shorter_prefix : (x : Lexeme) (text rest : List ℕ) → first_lexeme text ≡ Some (x, rest) → length rest < length text
shorter_prefix x text rest h = shorter_lexeme x text rest (prefix_is_lexeme x text rest h)

pub shorter_behind : (test : ℕ → Bool) (text : List ℕ) → length (after_prefix test text) ≤ length text
shorter_behind test text = let g = longer (prefix_of test text) (after_prefix test text) in rw (← prefix_behind test text) at g
