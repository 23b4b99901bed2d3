-- The errors of the places of a template. The limits of a place and the order of the rejections are this project's own.
use Rattle.std.specs.Prelude.{ℕ, ◌+◌, ◌==◌, ◌||◌, Bool, if◌then◌else◌, List, [], ◌∷◌, ◌++◌, find, length, bytes_eq, Result, Ok, Err}
use Rattle.std.specs.List.{list_any}
use Rattle.std.specs.Option.{option_map_or}
use Rattle.gs_ai.specs.Values.{has_code}
use Rattle.gs_ai.specs.declared.row.AiRow.{AiRow}
use Rattle.gs_template.specs.Templates.{Part, itself, parts, place}
use Rattle.gs_template.specs.declared.error.PlaceFault.{PlaceFault}
use Rattle.gs_template.specs.declared.error.PlaceFault.TheVariants.{Brace, Code}

-- trusted, own: holds if `c` is a brace
abbrev pub is_brace : ℕ → Bool
is_brace c = c == 123 || c == 125

-- trusted, own: the error of a part at a place: a brace that stands for itself, or a place of another code
abbrev pub part_errors : List (List ℕ) → ℕ → Part → List PlaceFault
part_errors codes at (itself c) = if is_brace c then Brace at ∷ [] else []
part_errors codes at (place code) = if list_any (bytes_eq code) codes then [] else Code at ∷ []

-- trusted, own: the number of bytes of the template that a part is
abbrev pub part_size : Part → ℕ
part_size (itself c) = 1
part_size (place code) = length code + 2

-- trusted, own: the errors of parts; the first part is at this offset of the template
abbrev pub errors_from : List (List ℕ) → ℕ → List Part → List PlaceFault
errors_from codes at [] = []
errors_from codes at (part ∷ parts) = part_errors codes at part ++ errors_from codes (at + part_size part) parts

-- trusted, own: the errors of a template for a key, from the start
unfoldable pub place_errors : List AiRow → List ℕ → List ℕ → List PlaceFault
place_errors table key href = errors_from (key ∷ option_map_or (λ row. row.qualifiers) (find (has_code key) table) []) 0 (parts href)

-- trusted, own: the first error, or that there is none
abbrev pub first_error : List PlaceFault → Result (Unit {0}) PlaceFault
first_error [] = Ok tt
first_error (error ∷ errors) = Err error
