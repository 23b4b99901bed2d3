-- A text between two others.
use Rattle.std.proofs.Common.{◌≡◌, ℕ, ◌<◌, ◌-◌, true, false, List, [], ◌∷◌, ◌++◌, length, take, drop, bytes_eq, refl, sym, ◌∙◌, arith, true≢false, length-append, append_assoc}
use Rattle.std.proofs.lemmas.Bool.Decides.{nat_tests}
use Rattle.std.proofs.lemmas.List.{take-append-drop}
use Rattle.std.proofs.Math.Seq.{take-append_seam}
use Rattle.gs_ai.specs.Parts.{number_text}
use Rattle.gs_chars.proofs.TruthsAndLists.{same_bytes, equal_bytes}

drop_seam : (xs ys : List ℕ) → drop (length xs) (xs ++ ys) ≡ ys
drop_seam [] ys = refl
drop_seam (x ∷ xs) ys = drop_seam xs ys

-- a text that does not begin so has no such prefix
pub no_front : (before number after text : List ℕ) → bytes_eq (take (length before) text) before ≡ false → before ++ number ++ after ≡ text → ⊥
no_front before number after text h e =
    let front : take (length before) text ≡ before = rw (← e, append_assoc) (take-append_seam before (number ++ after)) in
    let test : bytes_eq (take (length before) text) before ≡ true = rw front (same_bytes before) in
    true≢false (sym test ∙ h)

pub rest_of : (before number after text rest : List ℕ) → rest ≡ drop (length before) text → before ++ number ++ after ≡ text → rest ≡ number ++ after
rest_of before number after text rest r e = rw (r, ← e, append_assoc) (drop_seam before (number ++ after))

pub no_back : (before number after text rest : List ℕ) → rest ≡ drop (length before) text
    → bytes_eq (drop (length rest - length after) rest) after ≡ false → before ++ number ++ after ≡ text → ⊥
no_back before number after text rest r h e =
    let whole = rest_of before number after text rest r e in
    let long : length rest - length after ≡ length number = rw whole (omega (arith, length-append number after)) in
    let back : drop (length rest - length after) rest ≡ after = rw (long, whole) (drop_seam number after) in
    let test : bytes_eq (drop (length rest - length after) rest) after ≡ true = rw back (same_bytes after) in
    true≢false (sym test ∙ h)

pub number_of : (before number after text rest middle : List ℕ) → rest ≡ drop (length before) text
    → middle ≡ take (length rest - length after) rest → before ++ number ++ after ≡ text → number ≡ middle
number_of before number after text rest middle r m e =
    let whole = rest_of before number after text rest r e in
    let long : length rest - length after ≡ length number = rw whole (omega (arith, length-append number after)) in
    sym (rw (m, long, whole) (take-append_seam number after))

-- the pieces joined again
pub joined : (before after text rest middle : List ℕ) → bytes_eq (take (length before) text) before ≡ true
    → rest ≡ drop (length before) text → bytes_eq (drop (length rest - length after) rest) after ≡ true
    → middle ≡ take (length rest - length after) rest → before ++ middle ++ after ≡ text
joined before after text rest middle f r b m =
    let front : take (length before) text ≡ before = equal_bytes _ _ f in
    let back : drop (length rest - length after) rest ≡ after = equal_bytes _ _ b in
    let halves = take-append-drop (length rest - length after) rest in
    let inner : middle ++ after ≡ rest = rw m (rw back at halves) in
    let whole = take-append-drop (length before) text in
    let outer : before ++ rest ≡ text = rw r (rw front at whole) in
    rw (append_assoc, inner) outer

-- one text is that of one number
pub same_number : (j k : ℕ) → j < 100 → k < 100 → number_text j ≡ number_text k → j ≡ k
same_number j k a b e = grind (arith, nat_tests)
