-- The lexemes of a text, with blanks between them: RFC 8288, section 3; RFC 9110, sections 5.6.2 and 5.6.4.
use Rattle.std.specs.Prelude.{◌≡◌, ℕ, Bool, true, ◌==◌, ◌&&◌, not, if◌then◌else◌, List, [], ◌∷◌, ◌++◌, length, Option, Some, None}
use Rattle.std.specs.List.{list_all}
use Rattle.std.specs.Option.{option_map}
use Rattle.gs_linktext_grammar.specs.Bytes.{is_blank, is_quotable, is_quoted_byte, is_target_byte, is_token}
use Rattle.gs_linktext_grammar.specs.declared.lexeme.Lexeme.{Lexeme}
use Rattle.gs_linktext_grammar.specs.declared.lexeme.Lexeme.TheVariants.{Comma, Semicolon, Equals, Word, Target, Quoted}

-- trusted, own: the text with a byte before it, if there is a text
abbrev pub with_byte : ℕ → Option (List ℕ × List ℕ) → Option (List ℕ × List ℕ)
with_byte c read = option_map (λ pair. (c ∷ pair.0, pair.1)) read

-- trusted, RFC 9110, section 5.6.4: The text of a quoted string after its first quotation mark, without its backslashes, and
-- the rest after its last mark. It is none if the string does not end, or has a byte that is not allowed.
abbrev pub unquoted : List ℕ → Option (List ℕ × List ℕ)
unquoted [] = None
unquoted (c ∷ []) = if c == 34 then Some ([], []) else None
unquoted (c ∷ d ∷ rest) =
    if c == 34 then Some ([], d ∷ rest)
    else if c == 92 then (if is_quotable d then with_byte d (unquoted rest) else None)
    else if is_quoted_byte c then with_byte c (unquoted (d ∷ rest))
    else None

-- trusted, own: holds if the text does not go on with a byte that passes `test`
abbrev pub stops : (ℕ → Bool) → List ℕ → Bool
stops test [] = true
stops test (c ∷ rest) = not (test c)

-- trusted, RFC 8288, section 3: holds if `text` is one or more bytes that pass `test`
abbrev pub are_some : (ℕ → Bool) → List ℕ → Bool
are_some test text = not (length text == 0) && list_all test text

-- trusted, RFC 8288, section 3: Holds if `text` is the lexeme and then `rest`. A word is as long as it can be.
abbrev pub IsLexeme : Lexeme → List ℕ → List ℕ → Type 0
IsLexeme Comma text rest = text ≡ 44 ∷ rest
IsLexeme Semicolon text rest = text ≡ 59 ∷ rest
IsLexeme Equals text rest = text ≡ 61 ∷ rest
IsLexeme (Word word) text rest = (text ≡ word ++ rest) × (are_some is_token word ≡ true) × (stops is_token rest ≡ true)
IsLexeme (Target href) text rest = (text ≡ 60 ∷ (href ++ 62 ∷ rest)) × (are_some is_target_byte href ≡ true)
IsLexeme (Quoted value) text rest = (body : List ℕ) × (text ≡ 34 ∷ body) × (unquoted body ≡ Some (value, rest))

-- trusted, own: holds if `text` is blanks, if any, then `lexeme`, then `rest`
abbrev pub IsNext : Lexeme → List ℕ → List ℕ → Type 0
IsNext lexeme text rest = (blanks : List ℕ) × (behind : List ℕ) × (text ≡ blanks ++ behind)
    × (list_all is_blank blanks ≡ true) × IsLexeme lexeme behind rest

-- trusted, own: holds if `text` is the lexemes in turn, with blanks, if any, before each, and then `rest`
abbrev pub Chain : List Lexeme → List ℕ → List ℕ → Type 0
Chain [] text rest = text ≡ rest
Chain (lexeme ∷ lexemes) text rest = (behind : List ℕ) × IsNext lexeme text behind × Chain lexemes behind rest

-- trusted, own: holds if `text` is `lexemes`, with blanks, if any, before, between and after them
abbrev pub Lexed : List Lexeme → List ℕ → Type 0
Lexed lexemes text = (rest : List ℕ) × Chain lexemes text rest × (list_all is_blank rest ≡ true)
