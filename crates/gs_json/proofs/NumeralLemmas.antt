-- A whole text that is a numeral is read as its number.
use Rattle.std.proofs.Common.{◌≡◌, ℕ, List, [], ◌∷◌, option_and_then, append-nil, sym, ap, ◌∙◌}
use Rattle.json.specs.Json.{if_last, value}
use Rattle.json.specs.Json as json
use Rattle.json.specs.Lex.{tokens}
use Rattle.json.specs.Print.{ArePrintable, IsNumber, print, print_from}
use Rattle.json.specs.Token.{number}
use Rattle.json.proofs.Grammar.{value_is}
use Rattle.json.proofs.Printed.Tokens.{tokens-print}
use Rattle.serde_json.specs.Read.{max_depth, of_json, read}

printed : (s : List ℕ) → print (number s ∷ []) ≡ s
unfolding print_from
printed s = append-nil s

printable : (s : List ℕ) → IsNumber s → ArePrintable (number s ∷ [])
unfolding ArePrintable
printable s h = (h, tt)

one_token : (s : List ℕ) → IsNumber s → tokens s ≡ number s ∷ []
one_token s h = sym (ap tokens (printed s)) ∙ tokens-print (number s ∷ []) (printable s h)

pub numeral_read : (s : List ℕ) → IsNumber s → read s ≡ of_json (json.number s)
numeral_read s h =
    ap (λ ts. option_and_then of_json (option_and_then (λ p. if_last p.0 p.1) (value max_depth ts))) (one_token s h)
    ∙ ap (λ o. option_and_then of_json (option_and_then (λ p. if_last p.0 p.1) o)) (value_is max_depth (number s ∷ []))
