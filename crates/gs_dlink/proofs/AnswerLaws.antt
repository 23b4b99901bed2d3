-- A text is a link or has an error, and not both.
use Rattle.std.proofs.Common.{◌≡◌, ◌≢◌, ◌⊎◌, ℕ, ◌+◌, not, Bool, true, false, if◌then◌else◌, List, [], ◌∷◌, ◌++◌, length, drop, find, Option, Some, None, refl, sym, ◌∙◌, ap, inl, inr}
use Rattle.std.specs.Prelude.{option_map, Result, Ok, Err}
use Rattle.gs_ai.specs.declared.errors.ElementWhy.{ElementWhy}
use Rattle.gs_ai.specs.declared.errors.ElementWhy.TheVariants.{Value, Escape}
use Rattle.gs_ai.specs.declared.errors.ValueFault.TheVariants.{Unknown}
use Rattle.gs_ai.specs.declared.pair.Pair.{Pair}
use Rattle.gs_ai.specs.declared.row.AiRow.{AiRow}
use Rattle.gs_ai.specs.Values.{has_code, value_error}
use Rattle.gs_dlink.specs.declared.error.LinkFault.{LinkFault}
use Rattle.gs_dlink.specs.declared.error.LinkFault.TheVariants.{NotHttp, NoKeyPath, Element, Memory}
use Rattle.gs_dlink.specs.Answers.{IsLink, by_authority, by_key_path, is_rooted, link_answer, link_error, target_answer, then_pairs, written_answer}
use Rattle.gs_dlink.specs.Paths.{key_path}
use Rattle.gs_dlink.specs.Uris.{Written, authority_end, path_of, query_of, query_pairs, segments}
use Rattle.gs_dlink.specs.Values.{are_escapes, by_row, by_value, pair_answer, value_of}
use Rattle.std.specs.Result.{result_err}

-- the answer is not out of memory
abbrev IsKnown : {X : Type 0} → Result X LinkFault → Type 0
IsKnown answer = answer ≢ Err Memory

-- the pair of a value
abbrev made : Written → List ℕ → Pair
made pair value = record { code = pair.code; value = value }

value_known : (pair : Written) (value : List ℕ) (why : Option ElementWhy) → IsKnown (by_value pair value why)
value_known pair value None e = let f : Ok (made pair value) ≡ Err Memory = e in cc
value_known pair value (Some why) e = let f : Err (Element (record { at = pair.at; why = why })) ≡ Err Memory = e in cc

choice_known : {X : Type 0} (test : Bool) (one other : Result X LinkFault) → IsKnown one → IsKnown other → IsKnown (if test then one else other)
choice_known true one other a b = a
choice_known false one other a b = b

row_known : (table : List AiRow) (pair : Written) (row : Option AiRow) → IsKnown (by_row table pair row)
row_known table pair None = value_known pair [] (Some (Value Unknown))
row_known table pair (Some row) =
    choice_known (not (are_escapes pair.value)) (by_value pair [] (Some Escape))
    (by_value pair (value_of row pair.value) (option_map Value (value_error table pair.code (value_of row pair.value))))
    (value_known pair [] (Some Escape)) (value_known pair (value_of row pair.value) (option_map Value (value_error table pair.code (value_of row pair.value))))

pair_known : (table : List AiRow) (pair : Written) → IsKnown (pair_answer table pair)
unfolding pair_answer
pair_known table pair = row_known table pair (find (has_code pair.code) table)

then_known : (one : Result Pair LinkFault) (rest : Result (List Pair) LinkFault) → IsKnown one → IsKnown rest → IsKnown (then_pairs one rest)
then_known (Err error) rest a b e = a (let f : Err error ≡ Err Memory = e in cc)
then_known (Ok pair) (Ok pairs) a b e = let f : Ok (pair ∷ pairs) ≡ Err Memory = e in cc
then_known (Ok pair) (Err error) a b e = b (let f : Err error ≡ Err Memory = e in cc)

no_pairs : IsKnown {X = List Pair} (Ok [])
no_pairs e = cc

written_known : (table : List AiRow) (written : List Written) → IsKnown (written_answer table written)
written_known table [] = no_pairs
written_known table (pair ∷ written) = then_known (pair_answer table pair) (written_answer table written) (pair_known table pair) (written_known table written)

no_path : IsKnown {X = List Pair} (Err NoKeyPath)
no_path e = cc

path_known : (table : List AiRow) (query : List Written) (path : Option (List Written)) → IsKnown (by_key_path table query path)
path_known table query None = no_path
path_known table query (Some path) = written_known table (path ++ query)

target_known : (table : List AiRow) (at : ℕ) (text : List ℕ) → IsKnown (target_answer table at text)
unfolding target_answer
target_known table at text =
    let query = query_pairs (at + length (path_of text) + 1) (query_of text) in
    let path = key_path table (segments at (path_of text)) in
    choice_known (not (is_rooted (path_of text))) (Err NoKeyPath) (by_key_path table query path) no_path (path_known table query path)

no_link : IsKnown {X = List Pair} (Err NotHttp)
no_link e = cc

authority_known : (table : List AiRow) (text : List ℕ) (end : Option ℕ) → IsKnown (by_authority table text end)
authority_known table text None = no_link
authority_known table text (Some at) = target_known table at (drop at text)

link_known : (table : List AiRow) (text : List ℕ) → IsKnown (link_answer table text)
unfolding link_answer
link_known table text = authority_known table text (authority_end text)

pub one_list : (table : List AiRow) (text : List ℕ) (one other : List Pair) → IsLink table text one → IsLink table text other → one ≡ other
one_list table text one other a b = let same : Ok one ≡ Ok other = sym a ∙ b in cc

pub no_error : (table : List AiRow) (text : List ℕ) (pairs : List Pair) (error : LinkFault) → IsLink table text pairs → link_error table text ≡ Some error → ⊥
no_error table text pairs error a f = let same : None ≡ Some error = ap result_err (sym a) ∙ f in absurd (cc)

answered_by : (table : List AiRow) (text : List ℕ) (answer : Result (List Pair) LinkFault) → link_answer table text ≡ answer
    → IsKnown answer
    → ((pairs : List Pair) × IsLink table text pairs) ⊎ ((error : LinkFault) × (error ≢ Memory) × (link_error table text ≡ Some error))
answered_by table text (Ok pairs) e known = inl (pairs, e)
answered_by table text (Err error) e known = inr (error, (λ f. known (ap Err f)), ap result_err e)

pub answered : (table : List AiRow) (text : List ℕ)
    → ((pairs : List Pair) × IsLink table text pairs) ⊎ ((error : LinkFault) × (error ≢ Memory) × (link_error table text ≡ Some error))
answered table text = answered_by table text (link_answer table text) refl (link_known table text)
