-- The forms of keys, and the places of their serials: TDS 2.0, section 6.3 (the EPC schemes and their keys).
use Rattle.std.specs.Prelude.{ℕ, ◌-◌, List, [], ◌∷◌, Option, Some, None, option_and_then, option_map, if◌then◌else◌, codes}
use Rattle.std.specs.List.{find}
use Rattle.std.specs.Option.{option_map_or}
use Rattle.std.specs.Str.{bytes_eq}
use Rattle.gs_ai.specs.declared.part.Part.{Part}
use Rattle.gs_ai.specs.declared.part.Part.TheVariants.{Zero, Num, NumCheck, NumOpt, Set, SetOpt}
use Rattle.gs_ai.specs.declared.row.AiRow.{AiRow}
use Rattle.gs_ai.specs.Values.{has_code}
use Rattle.gs_tables.specs.declared.form.Behind.TheVariants.{Nothing, Further, Tail as BehindTail}
use Rattle.gs_tables.specs.declared.form.KeyForm.{KeyForm}
use Rattle.gs_tables.specs.declared.form.KeyForm.TheVariants.{Digits, Characters}
use Rattle.gs_tables.specs.declared.form.Room.{Room}
use Rattle.gs_tables.specs.declared.form.Room.TheVariants as room
use Rattle.gs_tables_document.specs.declared.document.SerialAt.{SerialAt}
use Rattle.gs_tables_document.specs.declared.document.SerialAt.TheVariants.{Nowhere, Tail, Ai}

-- trusted, own: the form of a key of digits with a check digit and an optional tail, of characters or of digits
abbrev pub digits_form : List Part → Option KeyForm
digits_form (NumCheck k ∷ []) = Some (Digits (k - 1) Nothing)
digits_form (NumCheck k ∷ SetOpt most ∷ []) = Some (Digits (k - 1) (BehindTail (room.Characters most)))
digits_form (NumCheck k ∷ NumOpt most ∷ []) = Some (Digits (k - 1) (BehindTail (room.Digits most)))
digits_form _ = None

-- trusted, TDS 2.0, section 6.3; GS1 General Specifications, section 3.2: The form of the parts of a key, if a kind can have
-- them. It is an optional zero, digits with a check digit and an optional tail. Or it is digits with a check digit, a piece and
-- a total, or only characters.
abbrev pub key_form : List Part → Option KeyForm
key_form (Zero ∷ parts) = digits_form parts
key_form (Set most ∷ []) = Some (Characters most)
key_form (NumCheck k ∷ Num a ∷ Num b ∷ []) = Some (Digits (k - 1) (Further a b))
key_form parts = digits_form parts

-- trusted, own: the form of the key of this code
abbrev pub form_at : List AiRow → List ℕ → Option KeyForm
form_at ais code = option_and_then (λ row. key_form row.parts) (find (has_code code) ais)

-- trusted, own: the room of a tail, if the key has one
abbrev pub tail_of : KeyForm → Option Room
tail_of (Digits _ (BehindTail room)) = Some room
tail_of (Digits _ Nothing) = None
tail_of (Digits _ (Further _ _)) = None
tail_of (Characters _) = None

-- trusted, own: the numbers of digits of the piece and the total of a key, and nothing of a key without them
abbrev pub further_of : KeyForm → List ℕ
further_of (Digits _ (Further a b)) = a ∷ b ∷ []
further_of (Digits _ Nothing) = []
further_of (Digits _ (BehindTail _)) = []
further_of (Characters _) = []

-- trusted, own: the numbers of digits of the piece and the total of the key of `code`
abbrev pub further_at : List AiRow → List ℕ → List ℕ
further_at ais code = option_map_or further_of (form_at ais code) []

-- trusted, own: the most characters of parts that are only characters
abbrev pub characters_of : List Part → Option ℕ
characters_of (Set most ∷ []) = Some most
characters_of _ = None

-- trusted, TDS 2.0, section 6.3: the place of the serial by the text of a row
abbrev pub serial_at : List ℕ → SerialAt
serial_at [] = Nowhere
serial_at (c ∷ cs) = if bytes_eq (c ∷ cs) (codes "tail") then Tail else Ai (c ∷ cs)

-- trusted, own: the row of the serial's code, if the serial is a separate element
abbrev pub serial_row : List AiRow → SerialAt → Option AiRow
serial_row ais (Ai code) = find (has_code code) ais
serial_row ais Nowhere = None
serial_row ais Tail = None

-- trusted, TDS 2.0, section 6.3: the room of the serial, if there is one
abbrev pub serial_room : List AiRow → KeyForm → SerialAt → Option Room
serial_room ais form Nowhere = None
serial_room ais form Tail = tail_of form
serial_room ais form (Ai code) =
    option_and_then (λ row. option_map room.Characters (characters_of row.parts)) (find (has_code code) ais)
