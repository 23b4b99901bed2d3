-- The pairs that a link names: GS1 Digital Link URI Syntax, section 3.
use Rattle.std.specs.Prelude.{◌≡◌, ℕ, ◌+◌, not, Bool, true, if◌then◌else◌, List, [], ◌∷◌, ◌++◌, length, drop, Option, Some, None, Result, Ok, Err}
use Rattle.gs_ai.specs.declared.pair.Pair.{Pair}
use Rattle.gs_ai.specs.declared.row.AiRow.{AiRow}
use Rattle.gs_dlink.specs.declared.error.LinkFault.{LinkFault}
use Rattle.gs_dlink.specs.declared.error.LinkFault.TheVariants.{NotHttp, NoKeyPath}
use Rattle.gs_dlink.specs.Paths.{key_path}
use Rattle.gs_dlink.specs.Uris.{authority_end, path_of, query_of, query_pairs, segments, Written}
use Rattle.gs_dlink.specs.Values.{pair_answer}
use Rattle.std.specs.Result.{result_err}
use Rattle.gs_chars.specs.Characters.{is_byte}

-- trusted, own: the pair before those of the others, or the first error
abbrev pub then_pairs : Result Pair LinkFault → Result (List Pair) LinkFault → Result (List Pair) LinkFault
then_pairs (Err error) rest = Err error
then_pairs (Ok pair) (Ok pairs) = Ok (pair ∷ pairs)
then_pairs (Ok pair) (Err error) = Err error

-- trusted, own: the pairs that are written so, or the first error
abbrev pub written_answer : List AiRow → List Written → Result (List Pair) LinkFault
written_answer table [] = Ok []
written_answer table (pair ∷ written) = then_pairs (pair_answer table pair) (written_answer table written)

-- trusted, own: holds if the path is empty or begins with a slash
abbrev pub is_rooted : List ℕ → Bool
is_rooted [] = true
is_rooted (c ∷ _) = is_byte 47 c

-- trusted, own: the answer by the key path, to a path and a query at their places
abbrev pub by_key_path : List AiRow → List Written → Option (List Written) → Result (List Pair) LinkFault
by_key_path table query None = Err NoKeyPath
by_key_path table query (Some path) = written_answer table (path ++ query)

-- trusted, RFC 9112, section 3.2.1; GS1 Digital Link URI Syntax, section 3: the answer to a path with its query that is at a
-- place in the whole text
unfoldable pub target_answer : List AiRow → ℕ → List ℕ → Result (List Pair) LinkFault
target_answer table at text =
    if not (is_rooted (path_of text)) then Err NoKeyPath
    else by_key_path table (query_pairs (at + length (path_of text) + 1) (query_of text)) (key_path table (segments at (path_of text)))

-- trusted, own: the answer to a link, by the place after its authority
abbrev pub by_authority : List AiRow → List ℕ → Option ℕ → Result (List Pair) LinkFault
by_authority table text None = Err NotHttp
by_authority table text (Some at) = target_answer table at (drop at text)

-- trusted, GS1 Digital Link URI Syntax, section 3: the pairs of a link, or its first error
unfoldable pub link_answer : List AiRow → List ℕ → Result (List Pair) LinkFault
link_answer table text = by_authority table text (authority_end text)

-- trusted, GS1 Digital Link URI Syntax, section 3; the order of the errors is own: holds if `text` is a Digital Link URI that
-- names `pairs`
abbrev pub IsLink : List AiRow → List ℕ → List Pair → Type 0
IsLink table text pairs = link_answer table text ≡ Ok pairs

-- trusted, GS1 Digital Link URI Syntax, section 3; the order of the errors is own: the first error of a text that is not a link
abbrev pub link_error : List AiRow → List ℕ → Option LinkFault
link_error table text = result_err (link_answer table text)

-- trusted, RFC 9112, section 3.2.1; GS1 Digital Link URI Syntax, section 3: holds if `text` is the target of a request that
-- names `pairs`
abbrev pub IsTarget : List AiRow → List ℕ → List Pair → Type 0
IsTarget table text pairs = target_answer table 0 text ≡ Ok pairs

-- trusted, RFC 9112, section 3.2.1; GS1 Digital Link URI Syntax, section 3: the first error of the target of a request, if there
-- is one
abbrev pub target_error : List AiRow → List ℕ → Option LinkFault
target_error table text = result_err (target_answer table 0 text)
