-- The lexeme at the start of a text, by its first byte: the definitions of the private steps of reading.
use Rattle.std.specs.Prelude.{ℕ, ◌==◌, if◌then◌else◌, List, [], ◌∷◌, ◌++◌, length, Option, Some, None}
use Rattle.std.specs.Option.{option_map}
use Rattle.gs_linktext_grammar.specs.Bytes.{after_prefix, prefix_of, is_blank, is_target_byte, is_token}
use Rattle.gs_linktext_grammar.specs.Lexemes.{unquoted, with_byte}
use Rattle.gs_linktext_grammar.specs.declared.lexeme.Lexeme.{Lexeme}
use Rattle.gs_linktext_grammar.specs.declared.lexeme.Lexeme.TheVariants.{Comma, Semicolon, Equals, Word, Target, Quoted}

-- the text after its blanks
abbrev pub after_blanks : List ℕ → List ℕ
after_blanks text = after_prefix is_blank text

-- a word of these bytes, and the rest after it
abbrev pub word_of : List ℕ → List ℕ → Option (Lexeme × List ℕ)
word_of word rest = if length word == 0 then None else Some (Word word, rest)

-- the target of these bytes, and the rest after its closing bracket
abbrev pub target_of : List ℕ → List ℕ → Option (Lexeme × List ℕ)
target_of href [] = None
target_of href (c ∷ rest) = if c == 62 then (if length href == 0 then None else Some (Target href, rest)) else None

-- the text of a quoted string that goes on with this byte, or ends, and then with the rest
abbrev pub said_from : Option ℕ → List ℕ → Option (List ℕ × List ℕ)
said_from None rest = Some ([], rest)
said_from (Some c) rest = with_byte c (unquoted rest)

-- the contents of a quoted string that has these bytes already
abbrev pub with_bytes : List ℕ → Option (List ℕ × List ℕ) → Option (List ℕ × List ℕ)
with_bytes value read = option_map (λ pair. (value ++ pair.0, pair.1)) read

-- a quoted string
abbrev pub quoted_of : Option (List ℕ × List ℕ) → Option (Lexeme × List ℕ)
quoted_of read = option_map (λ pair. (Quoted pair.0, pair.1)) read

-- the lexeme at the start of a text that does not begin with white space, and the rest after it
abbrev pub first_lexeme : List ℕ → Option (Lexeme × List ℕ)
first_lexeme [] = None
first_lexeme (c ∷ rest) =
    if c == 44 then Some (Comma, rest)
    else if c == 59 then Some (Semicolon, rest)
    else if c == 61 then Some (Equals, rest)
    else if c == 60 then target_of (prefix_of is_target_byte rest) (after_prefix is_target_byte rest)
    else if c == 34 then quoted_of (unquoted rest)
    else word_of (prefix_of is_token (c ∷ rest)) (after_prefix is_token (c ∷ rest))
