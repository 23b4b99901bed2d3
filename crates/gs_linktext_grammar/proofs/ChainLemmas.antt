-- Texts and their lexemes: each text has one list of lexemes at most.
use Rattle.std.proofs.Common.{◌≡◌, ℕ, ◌==◌, not, true, false, List, [], ◌∷◌, ◌++◌, Some, None, length, refl, ap, sym, ◌∙◌, arith, append-nil}
use Rattle.std.specs.List.{list_all}
use Rattle.gs_linktext_grammar.specs.Bytes.{prefix_of, is_blank, is_token}
use Rattle.gs_linktext_grammar.specs.Prefixes.{after_blanks, first_lexeme}
use Rattle.gs_linktext_grammar.specs.Grammar.{is_comma}
use Rattle.gs_linktext_grammar.specs.Pieces.{has_no_comma, IsPiece}
use Rattle.gs_linktext_grammar.specs.Lexemes.{Chain, IsLexeme, IsNext, Lexed, stops}
use Rattle.gs_linktext_grammar.specs.declared.lexeme.Lexeme.{Lexeme}
use Rattle.gs_linktext_grammar.specs.declared.lexeme.Lexeme.TheVariants.{Comma, Semicolon, Equals, Word, Target, Quoted}
use Rattle.gs_linktext_grammar.specs.Answers.{IsSyntax}
use Rattle.gs_linktext_grammar.specs.declared.error.LinkTextFault.{LinkTextFault}
use Rattle.gs_linktext_grammar.specs.declared.error.LinkTextFault.TheVariants.{Syntax, Anchor, Rel, Memory}
use Rattle.std.proofs.lemmas.Bool.Decides.{nat_tests}
use Rattle.gs_chars.proofs.TruthsAndLists.{and_first, and_second}
use Rattle.gs_linktext_grammar.proofs.LexLemmas.{all_behind, all_prefix, prefix_behind, prefix_is_lexeme, prefix_whole, lexeme_is_prefix, none_behind, not_some, some_is, token_is_no_sign}
use Rattle.std.proofs.lemmas.Bool.{and_from, not_from_false}

-- a lexeme begins with no blank
no_blank : (x : Lexeme) (text rest : List ℕ) → IsLexeme x text rest → stops is_blank text ≡ true
no_blank Comma text rest h = rw h refl
no_blank Semicolon text rest h = rw h refl
no_blank Equals text rest h = rw h refl
no_blank (Word word) text rest h = of_word word text rest h
  where
    of_word : (word text rest : List ℕ) → IsLexeme (Word word) text rest → stops is_blank text ≡ true
    of_word [] text rest h = absurd (let f : false ≡ true = h.1 in cc)
    of_word (c ∷ word) text rest h =
        let t = and_first (is_token c) (list_all is_token word) (and_second (not (length (c ∷ word) == 0)) (list_all is_token (c ∷ word)) h.1) in
        rw h.0 (not_from_false (is_blank c) (token_is_no_sign c t).5)
no_blank (Target href) text rest h = rw h.0 refl
no_blank (Quoted value) text rest (body, e, said) = rw e refl

pub next_of_prefix : (x : Lexeme) (text rest : List ℕ) → first_lexeme (after_blanks text) ≡ Some (x, rest) → IsNext x text rest
next_of_prefix x text rest h = (prefix_of is_blank text, after_blanks text, prefix_behind is_blank text, all_prefix is_blank text, prefix_is_lexeme x (after_blanks text) rest h)

pub prefix_of_next : (x : Lexeme) (text rest : List ℕ) → IsNext x text rest → first_lexeme (after_blanks text) ≡ Some (x, rest)
prefix_of_next x text rest (blanks, behind, e, blank, own) =
    let skipped : after_blanks text ≡ behind = ap after_blanks e ∙ (prefix_whole is_blank blanks behind blank (no_blank x behind rest own)).1 in
    rw skipped (lexeme_is_prefix x behind rest own)

pub one_next : (x y : Lexeme) (text r s : List ℕ) → IsNext x text r → IsNext y text s → (x ≡ y) × (r ≡ s)
one_next x y text r s h g =
    let same = some_is (x, r) (y, s) (sym (prefix_of_next x text r h) ∙ prefix_of_next y text s g) in
    (ap (λ p. p.0) same, ap (λ p. p.1) same)

-- a text of blanks goes on with no lexeme
no_next : (x : Lexeme) (text rest : List ℕ) → list_all is_blank text ≡ true → IsNext x text rest → ⊥
no_next x text rest blank h =
    let prefix = prefix_of_next x text rest h in
    not_some (x, rest) (rw (all_behind is_blank text blank) at prefix)

pub rest_lexed : (p xs : List Lexeme) (text rest : List ℕ) → Chain p text rest → Lexed xs text → (ys : List Lexeme) × (xs ≡ p ++ ys) × Lexed ys rest
rest_lexed [] xs text rest h g = (xs, refl, rw h at g)
rest_lexed (x ∷ p) [] text rest (behind, next, chain) (left, is, blank) = absurd (no_next x text behind (rw (← is) at blank) next)
rest_lexed (x ∷ p) (y ∷ ys) text rest (behind, next, chain) (left, (after, other, more), blank) =
    let same = one_next y x text after behind other next in
    let found = rest_lexed p ys behind rest chain (left, rw same.1 at more, blank) in
    (found.0, ap (λ (z : Lexeme). z ∷ ys) same.0 ∙ ap (λ (zs : List Lexeme). x ∷ zs) found.1, found.2)

pub whole_lexed : (p ys : List Lexeme) (text rest : List ℕ) → Chain p text rest → Lexed ys rest → Lexed (p ++ ys) text
whole_lexed [] ys text rest h g = rw (← h) at g
whole_lexed (x ∷ p) ys text rest (behind, next, chain) g =
    let more = whole_lexed p ys behind rest chain g in
    (more.0, (behind, next, more.1), more.2)

pub chain_more : (p : List Lexeme) (x : Lexeme) (text rest behind : List ℕ) → Chain p text rest → IsNext x rest behind → Chain (p ++ x ∷ []) text behind
chain_more [] x text rest behind h next = (behind, rw (← h) at next, refl)
chain_more (y ∷ p) x text rest behind (after, own, chain) next = (after, own, chain_more p x after rest behind chain next)

pub chain_append : (p q : List Lexeme) (text rest behind : List ℕ) → Chain p text rest → Chain q rest behind → Chain (p ++ q) text behind
chain_append [] q text rest behind h g = rw (← h) at g
chain_append (x ∷ p) q text rest behind (after, own, chain) g = (after, own, chain_append p q after rest behind chain g)

pub lexed_end : (p : List Lexeme) (text rest : List ℕ) → Chain p text rest → after_blanks rest ≡ [] → Lexed p text
lexed_end p text rest h e = (rest, h, none_behind is_blank rest e)

-- no lexemes are those of a text that goes on with none and has not ended
pub not_lexed : (p xs : List Lexeme) (text rest : List ℕ) → Chain p text rest → first_lexeme (after_blanks rest) ≡ None
    → (after_blanks rest ≡ [] → ⊥) → Lexed xs text → ⊥
not_lexed p xs text rest h none more g =
    let found = rest_lexed p xs text rest h g in
    by found.0 found.2
  where
    by : (ys : List Lexeme) → Lexed ys rest → ⊥
    by [] (left, is, blank) = more (all_behind is_blank rest (rw (← is) at blank))
    by (y ∷ ys) (left, (after, next, chain), blank) = not_some (y, after) (sym none ∙ prefix_of_next y rest after next)

pub one_lexing : (xs ys : List Lexeme) (text : List ℕ) → Lexed xs text → Lexed ys text → xs ≡ ys
one_lexing xs ys text (rest, chain, blank) g =
    let found = rest_lexed xs ys text rest chain g in
    sym (found.1 ∙ by found.0 found.2)
  where
    by : (zs : List Lexeme) → Lexed zs rest → xs ++ zs ≡ xs
    by [] h = append-nil xs
    by (z ∷ zs) (left, (after, next, more), own) = absurd (no_next z rest after blank next)

-- ---- the lexemes of a piece

pub no_comma_more : (p : List Lexeme) (x : Lexeme) → has_no_comma p → is_comma x ≡ false → has_no_comma (p ++ x ∷ [])
no_comma_more [] x h own = rw own refl
no_comma_more (y ∷ p) x h own = and_from (not (is_comma y)) _ (and_first (not (is_comma y)) _ h) (no_comma_more p x (and_second (not (is_comma y)) _ h) own)

comma_is : (x : Lexeme) → is_comma x ≡ true → x ≡ Comma
comma_is Comma h = refl
comma_is Semicolon h = absurd (let f : false ≡ true = h in cc)
comma_is Equals h = absurd (let f : false ≡ true = h in cc)
comma_is (Word w) h = absurd (let f : false ≡ true = h in cc)
comma_is (Target w) h = absurd (let f : false ≡ true = h in cc)
comma_is (Quoted w) h = absurd (let f : false ≡ true = h in cc)

pub piece_ends : (p : List Lexeme) (text rest : List ℕ) → Chain p text rest → has_no_comma p → after_blanks rest ≡ [] → IsPiece text p None
piece_ends p text rest h none e = (none, lexed_end p text rest h e)

pub piece_goes_on : (p : List Lexeme) (x : Lexeme) (text rest behind : List ℕ) → Chain p text rest → has_no_comma p
    → first_lexeme (after_blanks rest) ≡ Some (x, behind) → is_comma x ≡ true → IsPiece text p (Some behind)
piece_goes_on p x text rest behind h none e own =
    (none, rw (← comma_is x own) (chain_more p x text rest behind h (next_of_prefix x rest behind e)))

pub piece_more : (p q : List Lexeme) (x : Lexeme) (text rest behind : List ℕ) → Chain p text rest → has_no_comma p
    → first_lexeme (after_blanks rest) ≡ Some (x, behind) → is_comma x ≡ false → q ≡ p ++ x ∷ []
    → Chain q text behind × has_no_comma q
piece_more p q x text rest behind h none e own is =
    rw is (chain_more p x text rest behind h (next_of_prefix x rest behind e), no_comma_more p x none own)

pub nothing : (xs ys : List ℕ) → true ≡ (length xs == 0) → xs ≡ ys → ys ≡ []
nothing [] ys h e = sym e
nothing (x ∷ xs) ys h e = absurd (grind (arith, nat_tests))

pub something : (xs ys : List ℕ) → false ≡ (length xs == 0) → xs ≡ ys → ys ≡ [] → ⊥
something [] ys h e g = let f : false ≡ true = h in cc
something (x ∷ xs) ys h e g = let f : x ∷ xs ≡ [] = e ∙ g in cc

pub syntax_more : (P Q : Type 0) (error : LinkTextFault) → (P → Q) → IsSyntax P error → IsSyntax Q error
syntax_more P Q Syntax f h = f h
syntax_more P Q (Anchor i) f h = h
syntax_more P Q (Rel i) f h = h
syntax_more P Q Memory f h = h

pub piece_rejected : (p : List Lexeme) (text rest : List ℕ) (error : LinkTextFault) → Chain p text rest → (after_blanks rest ≡ [] → ⊥)
    → IsSyntax (first_lexeme (after_blanks rest) ≡ None) error → IsSyntax ((xs : List Lexeme) → Lexed xs text → ⊥) error
piece_rejected p text rest error h more none =
    syntax_more (first_lexeme (after_blanks rest) ≡ None) ((xs : List Lexeme) → Lexed xs text → ⊥) error (λ e xs. not_lexed p xs text rest h e more) none
