-- The row of a code, which was looked up before.
use Rattle.std.proofs.Common.{◌≡◌, ℕ, false, List, [], ◌∷◌, ◌++◌, ◌&&◌, position, reverse, None, All, refl}
use Rattle.std.proofs.lemmas.List.{reverse-append}
use Rattle.std.proofs.lemmas.List.Elements.{All-head, All-nil, All-push, All-tail}
use Rattle.gs_ai.specs.declared.row.AiRow.{AiRow}
use Rattle.gs_ai.specs.Tables.{is_key, is_key_of}
use Rattle.gs_ai.specs.Values.{has_code}
use Rattle.gs_chars.proofs.Searches.{none_any, passes_none}

-- a code that no row has is not a key's
pub no_row_no_key : (table : List AiRow) (code : List ℕ) → position (has_code code) table ≡ None → is_key_of table code ≡ false
no_row_no_key table code h = none_any (λ row. has_code code row && is_key row.role) table (λ j row at. rw (passes_none (has_code code) table j row h at) refl)

pub all_reversed : {X : Type 0} (P : X → Type 0) (xs : List X) → All P xs → All P (reverse xs)
all_reversed P [] h = All-nil P
all_reversed P (x ∷ xs) h =
    let turned : reverse (x ∷ xs) ≡ reverse xs ++ x ∷ [] = reverse-append (x ∷ []) xs in
    rw turned (All-push P (reverse xs) x (all_reversed P xs (All-tail P x xs h)) (All-head P x xs h))
