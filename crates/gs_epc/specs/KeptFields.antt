-- The consequence of the rules of tables for an EPC of the set. Its fields have the lengths and characters of the key of its
-- kind.
use Rattle.std.specs.Prelude.{◌≡◌, ◌≤◌, ◌-◌, ℕ, List, [], ◌∷◌, length, Option, Some, None, IsTrue}
use Rattle.gs_chars.specs.Characters.{are_digits, are_in_set82}
use Rattle.gs_ai.specs.declared.row.AiRow.{AiRow}
use Rattle.gs_tables_document.specs.declared.document.Kind.{Kind}
use Rattle.gs_tables.specs.declared.form.KeyForm.{KeyForm}
use Rattle.gs_tables.specs.declared.form.KeyForm.TheVariants.{Digits, Characters}
use Rattle.gs_tables.specs.declared.form.Room.{Room}
use Rattle.gs_tables.specs.declared.form.Room.TheVariants as room
use Rattle.gs_epc.specs.Layout.{KeyFields}
use Rattle.gs_tables.specs.Forms.{serial_room}
use Rattle.gs_tables.specs.KeptRules.{KeptKind}

-- holds if `text` is from 1 to `most` characters of the set of 82
pub record AreCharacters (most : ℕ) (text : List ℕ) : Type 0 where
  pub least : 1 ≤ length text
  pub room : length text ≤ most
  pub characters : IsTrue (are_in_set82 text)

-- holds if this is at least one and at most that many digits
pub record AreNumbers (most : ℕ) (text : List ℕ) : Type 0 where
  pub least : 1 ≤ length text
  pub room : length text ≤ most
  pub digits : IsTrue (are_digits text)

-- holds if this is exactly that many digits
abbrev pub HasDigits : ℕ → List ℕ → Type 0
HasDigits n text = (length text ≡ n) × IsTrue (are_digits text)

-- holds if prefix and rest fit the key: digits, with the lead digits that belong to the rest; or characters
abbrev pub FitForm : KeyForm → ℕ → List ℕ → List ℕ → Type 0
FitForm (Digits digits _) lead prefix rest =
    (length prefix ≤ digits - lead) × (length rest ≡ digits - length prefix) × IsTrue (are_digits prefix) × IsTrue (are_digits rest)
FitForm (Characters most) lead prefix rest = IsTrue (are_digits prefix) × AreCharacters (most - length prefix) rest

-- holds if the serial has room, and is empty if the kind has none
abbrev pub FitsRoom : Option Room → List ℕ → Type 0
FitsRoom None serial = serial ≡ []
FitsRoom (Some (room.Characters most)) serial = AreCharacters most serial
FitsRoom (Some (room.Digits most)) serial = AreNumbers most serial

-- holds if the piece and the total have that many digits, and are empty if the kind has none
abbrev pub FitsFurther : List ℕ → List ℕ → List ℕ → Type 0
FitsFurther [] piece total = (piece ≡ []) × (total ≡ [])
FitsFurther (a ∷ b ∷ []) piece total = HasDigits a piece × HasDigits b total
FitsFurther _ piece total = ⊥

-- Holds if the fields of an EPC's key fit the kind, which satisfies the rules.
pub record FitKind (ais : List AiRow) (kind : Kind) (fields : KeyFields) : Type 0 where
  pub of_kind : KeptKind ais kind
  pub prefix_least : 1 ≤ length fields.prefix
  pub prefix_most : length fields.prefix ≤ 12
  pub fits : FitForm of_kind.form kind.lead fields.prefix fields.rest
  pub further : FitsFurther kind.further fields.piece fields.total
  pub room : FitsRoom (serial_room ais of_kind.form kind.serial) fields.serial
