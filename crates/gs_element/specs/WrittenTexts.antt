-- The text after an element: the definitions of the private steps of writing.
use Rattle.std.specs.Prelude.{ℕ, Bool, List, [], ◌∷◌, ◌++◌, is_none, if◌then◌else◌}
use Rattle.gs_ai.specs.declared.pair.Pair.{Pair}
use Rattle.gs_ai.specs.PredefinedLengths.{predefined_length}

-- a byte 29 after an open element, one whose code has no predefined length
abbrev pub separator_of : Bool → List ℕ
separator_of unclosed = if unclosed then 29 ∷ [] else []

-- the elements of the pairs after an element that is open or not
abbrev pub raw_behind : Bool → List Pair → List ℕ
raw_behind unclosed [] = []
raw_behind unclosed (pair ∷ pairs) =
    separator_of unclosed ++ (pair.code ++ (pair.value ++ raw_behind (is_none (predefined_length pair.code)) pairs))

-- holds if the last element is open, or the one before them if there are none
abbrev pub last_open : Bool → List Pair → Bool
last_open unclosed [] = unclosed
last_open unclosed (pair ∷ pairs) = last_open (is_none (predefined_length pair.code)) pairs
