-- The lexemes up to a comma: the definitions of the private steps of reading.
use Rattle.std.specs.Prelude.{◌≡◌, ℕ, true, not, if◌then◌else◌, List, [], ◌∷◌, ◌++◌, filter, Option, Some, None, option_map}
use Rattle.std.specs.List.{list_all}
use Rattle.gs_linkset.specs.Attributes.{every}
use Rattle.gs_linktext_grammar.specs.Grammar.{is_comma, is_some_part, written_link, written_links}
use Rattle.gs_linktext_grammar.specs.Lexemes.{Chain, Lexed}
use Rattle.gs_linktext_grammar.specs.declared.lexeme.Lexeme.{Lexeme}
use Rattle.gs_linktext_grammar.specs.declared.lexeme.Lexeme.TheVariants.{Comma}
use Rattle.gs_linktext_grammar.specs.declared.written_link.WrittenLink.{WrittenLink}

-- holds if no lexeme is a comma
abbrev pub has_no_comma : List Lexeme → Type 0
has_no_comma lexemes = list_all (λ x. not (is_comma x)) lexemes ≡ true

-- holds if a text is the lexemes of a piece and no more, or these, a comma, and the rest
abbrev pub IsPiece : List ℕ → List Lexeme → Option (List ℕ) → Type 0
IsPiece text piece None = has_no_comma piece × Lexed piece text
IsPiece text piece (Some rest) = has_no_comma piece × Chain (piece ++ Comma ∷ []) text rest

-- the values so far and the value of a further part, if it has one; an empty part is ignored
abbrev pub with_part : {X Y : Type 0} → (List X → Option Y) → List X → List Y → Option (List Y)
with_part f part ys = if is_some_part part then option_map (λ y. ys ++ y ∷ []) (f part) else Some ys

-- holds if `new` is the links so far, and the link of a piece, if it has one
abbrev pub AddsLink : List Lexeme → List WrittenLink → List WrittenLink → Type 0
AddsLink piece links new = with_part written_link piece links ≡ Some new

-- the values of the parts that have something in them
abbrev pub given : {X Y : Type 0} → (List X → Option Y) → List (List X) → Option (List Y)
given f parts = every f (filter is_some_part parts)

-- the values before others, if there are others
abbrev pub prepended : {Y : Type 0} → List Y → Option (List Y) → Option (List Y)
prepended ys others = option_map (λ more. ys ++ more) others

-- holds if the text is the links so far, each with its comma, and then the rest
abbrev pub IsSoFar : List ℕ → List ℕ → List WrittenLink → Type 0
IsSoFar text rest links =
    (lexemes : List Lexeme) × Chain lexemes text rest
    × ((others : List Lexeme) → written_links (lexemes ++ others) ≡ prepended links (written_links others))
