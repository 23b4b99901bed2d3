-- Arguments that are pairs, and the look-up of a name in them.
use Rattle.std.proofs.Common.{◌≡◌, ℕ, Bool, true, false, List, [], ◌∷◌, length, refl, sym, ◌∙◌, ap, arith}
use Rattle.std.specs.Prelude.{map, ◌==◌}
use Rattle.std.proofs.lemmas.Bool.{eqb-true}
use Rattle.tdl_arguments.specs.declared.name.NameRow.{NameRow}
use Rattle.tdl_arguments.specs.Names.{AreOfRows, ArePairs, AreTaken, no_pair, none_taken, one_pair, one_taken, takes}

-- ---- pairs that rows take

pub of_no_word : (rows : List NameRow) → AreOfRows rows [] []
of_no_word rows = record { are = no_pair; taken = none_taken }

one_word_no_pair : (x : List ℕ) (pairs : List (List ℕ × List ℕ)) → ArePairs (x ∷ []) pairs → ⊥
one_word_no_pair x pairs are = elim are [ ]

pub of_one_word : (rows : List NameRow) (words : List (List ℕ)) (pairs : List (List ℕ × List ℕ)) → length words ≡ 1 → AreOfRows rows words pairs → ⊥
of_one_word rows [] pairs e of = absurd (omega arith)
of_one_word rows (x ∷ []) pairs e of = one_word_no_pair x pairs of.are
of_one_word rows (x ∷ y ∷ words) pairs e of = absurd (omega arith)

-- the other pairs; the first is taken next to them
record Behind (rows : List NameRow) (n v : List ℕ) (words : List (List ℕ)) : Type 0 where
  others : List (List ℕ × List ℕ)
  of_rows : AreOfRows rows words others
  takes_first : takes rows n v others ≡ true

behind_from : (rows : List NameRow) (n v : List ℕ) (words : List (List ℕ)) (others : List (List ℕ × List ℕ)) → ArePairs words others
    → AreTaken rows ((n, v) ∷ others) → Behind rows n v words
behind_from rows n v words others are (one_taken _ _ _ first taken) = record { others = others; of_rows = record { are = are; taken = taken }; takes_first = first }

behind_of : (rows : List NameRow) (n v : List ℕ) (words : List (List ℕ)) (pairs : List (List ℕ × List ℕ)) → ArePairs (n ∷ v ∷ words) pairs
    → AreTaken rows pairs → Behind rows n v words
behind_of rows n v words pairs (one_pair _ _ _ others are) taken = behind_from rows n v words others are taken

pub not_behind : (rows : List NameRow) (n v : List ℕ) (words : List (List ℕ)) (pairs : List (List ℕ × List ℕ))
    → ((others : List (List ℕ × List ℕ)) → AreOfRows rows words others → ⊥) → AreOfRows rows (n ∷ v ∷ words) pairs → ⊥
not_behind rows n v words pairs none of = let b = behind_of rows n v words pairs of.are of.taken in none b.others b.of_rows

-- whether a pair is taken next to the pairs of the other arguments
abbrev pub TakesBeside : List NameRow → List ℕ → List ℕ → List (List ℕ) → Bool → Type 0
TakesBeside rows n v words taken = (others : List (List ℕ × List ℕ)) → ArePairs words others → taken ≡ takes rows n v others

pub not_taken : (rows : List NameRow) (n v : List ℕ) (words : List (List ℕ)) (pairs : List (List ℕ × List ℕ)) (taken : Bool) → taken ≡ false
    → TakesBeside rows n v words taken → AreOfRows rows (n ∷ v ∷ words) pairs → ⊥
not_taken rows n v words pairs taken e beside of =
    let b = behind_of rows n v words pairs of.are of.taken in
    let is : taken ≡ takes rows n v b.others = beside b.others b.of_rows.are in
    let first = b.takes_first in
    let same : false ≡ true = sym e ∙ is ∙ first in cc

pub one_more : (rows : List NameRow) (n v : List ℕ) (words : List (List ℕ)) (taken : Bool)
    → ((others : List (List ℕ × List ℕ)) × AreOfRows rows words others) → taken ≡ true → TakesBeside rows n v words taken
    → (pairs : List (List ℕ × List ℕ)) × AreOfRows rows (n ∷ v ∷ words) pairs
one_more rows n v words taken behind e beside =
    let first : takes rows n v behind.0 ≡ true = sym (beside behind.0 behind.1.are) ∙ e in
    ((n, v) ∷ behind.0, record { are = one_pair n v words behind.0 behind.1.are; taken = one_taken n v behind.0 first behind.1.taken })

-- no argument is not a pair, and is taken
pub of_empty : {S : Type 0} (bytes : S → List ℕ) (rows : List NameRow) (words : List S) → true ≡ (length words == 0)
    → (pairs : List (List ℕ × List ℕ)) × AreOfRows rows (map bytes words) pairs
of_empty bytes rows [] e = ([], of_no_word rows)
of_empty bytes rows (x ∷ words) e = absurd (let n : length (x ∷ words) ≡ 0 = eqb-true (length (x ∷ words)) 0 (sym e) in omega arith)

-- ---- one request

-- arguments are the pairs of only one list
pub same_pairs : (words : List (List ℕ)) (one other : List (List ℕ × List ℕ)) → ArePairs words one → ArePairs words other → one ≡ other
same_pairs words one other no_pair no_pair = refl
same_pairs words one other (one_pair n v rest pairs a) (one_pair _ _ _ pairs' b) =
    let others : pairs ≡ pairs' = same_pairs rest pairs pairs' a b in
    ap (λ (ps : List (List ℕ × List ℕ)). (n, v) ∷ ps) others
