-- The bytes of the first pairs of a list.
use Rattle.std.proofs.Common.{◌≡◌, ◌+◌, ◌-◌, ◌^◌, ◌<◌, ℕ, List, [], ◌∷◌, ◌++◌, arith, ap, get_or, length, min, sym, take, ◌∙◌}
use Rattle.std.proofs.lemmas.List.{take_more}
use Rattle.std.proofs.lemmas.List.Sums.{sum_by-append}
use Rattle.gs_ai.specs.declared.pair.Pair.{Pair}
use Rattle.gs_ident.specs.Room.{room_of_pair, room_of_pairs}

room_more : (pairs : List Pair) (i : ℕ) (pair : Pair) → i < length pairs → pair ≡ get_or pairs i pair
    → room_of_pairs (take (i + 1) pairs) ≡ room_of_pairs (take i pairs) + room_of_pair pair
room_more pairs i pair low read =
    let more : take (i + 1) pairs ≡ take i pairs ++ pair ∷ [] = take_more pairs i pair low ∙ ap (λ (x : Pair). take i pairs ++ x ∷ []) (sym read) in
    let split = sum_by-append room_of_pair (take i pairs) (pair ∷ []) in
    ap room_of_pairs more ∙ split ∙ omega arith

-- a sum with each part cut at the greatest number, and one more part
pub added : (pairs : List Pair) (i : ℕ) (pair : Pair) (before room part next : ℕ) → i < length pairs → pair ≡ get_or pairs i pair
    → room ≡ min (before + room_of_pairs (take i pairs)) (2 ^ 64 - 1) → part ≡ min (room_of_pair pair) (2 ^ 64 - 1)
    → next ≡ min (room + part) (2 ^ 64 - 1) → next ≡ min (before + room_of_pairs (take (i + 1) pairs)) (2 ^ 64 - 1)
added pairs i pair before room part next low read r p n = let more = room_more pairs i pair low read in omega arith
