-- Definitions for proofs and private functions, in addition to Raw.antt.
use Rattle.std.specs.Prelude.{◌≡◌, ℕ, ◌==◌, List, [], ◌∷◌, length, drop, find, Some, None, if◌then◌else◌}
use Rattle.gs_ai.specs.declared.row.AiRow.{AiRow}
use Rattle.gs_ai.specs.Tables.{begins}
use Rattle.gs_ai.specs.Values.{value_error}
use Rattle.gs_element.specs.Raw.{raw_value}

-- the text without one byte 29 at its start
abbrev pub without_separator : List ℕ → List ℕ
without_separator [] = []
without_separator (c ∷ text) = if c == 29 then text else c ∷ text

-- Holds if these are the parts that are cut from the start of a text. They are the code that begins it, its value, and the rest
-- after one byte 29.
pub record IsCutFrom (table : List AiRow) (text code value rest : List ℕ) : Type 0 where
  pub row : AiRow
  pub found : find (λ r. begins r.code text) table ≡ Some row
  pub code_is : code ≡ row.code
  pub value_is : value ≡ raw_value code (drop (length code) text)
  pub fits : value_error table code value ≡ None
  pub rest_is : rest ≡ without_separator (drop (length value) (drop (length code) text))
