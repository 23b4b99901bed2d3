-- The rules of a table of application identifiers. Its formats are those of GS1 General Specifications, section 3.2,
-- its keys and qualifiers those of GS1 Digital Link URI Syntax, section 3. The rules and their order are this project's own.
use Rattle.std.specs.Prelude.{◌≡◌, ℕ, ◌+◌, ◌-◌, Bool, true, false, not, ◌==◌, ◌&&◌, ◌||◌, nat_le, nat_eq, if◌then◌else◌, List, [], ◌∷◌, ◌++◌, length, take, map, filter, position, Option, Some, is_none, bytes_eq, slice_get}
use Rattle.std.specs.List.{flat_map, list_all, list_any, enumerate_from, starts_with}
use Rattle.std.specs.Option.{option_map_or}
use Rattle.gs_chars.specs.Characters.{are_digits}
use Rattle.gs_ai.specs.declared.part.Part.{Part}
use Rattle.gs_ai.specs.declared.part.Part.TheVariants.{NumCheck}
use Rattle.gs_ai.specs.declared.part.Role.{Role}
use Rattle.gs_ai.specs.declared.part.Role.TheVariants.{Key, Qualifier, Attribute, Other}
use Rattle.gs_ai.specs.declared.errors.AiFault.{AiFault}
use Rattle.gs_ai.specs.declared.errors.AiFault.TheVariants.{BadAi, CodePrefix, KeyIsQualifier, PredefinedLength}
use Rattle.gs_ai.specs.declared.row.AiRow.{AiRow}
use Rattle.gs_ai.specs.Parts.{is_part, is_open}
use Rattle.gs_ai.specs.PredefinedLengths.{predefined_length}
use Rattle.gs_ai.specs.Values.{least_of, greatest_of, parts_error, has_code}
use Rattle.gs_chars.specs.Answers.{error_if}

-- ---- one row

-- trusted, own: holds if `code` is two to four digits
abbrev pub is_code : List ℕ → Bool
is_code code = are_digits code && nat_le 2 (length code) && nat_le (length code) 4

-- trusted, own: holds if there are one to three parts of the list, and only the last is written with `..`
abbrev pub are_parts : List Part → Bool
are_parts parts =
    nat_le 1 (length parts) && nat_le (length parts) 3 && list_all is_part parts
    && list_all (λ p. not (is_open p)) (take (length parts - 1) parts)

-- trusted, own: holds if no code occurs twice
abbrev pub are_distinct : List (List ℕ) → Bool
are_distinct [] = true
are_distinct (code ∷ codes) = not (list_any (bytes_eq code) codes) && are_distinct codes

-- trusted, own: holds if the parts are only `n14c`: 13 digits and their check digit
abbrev pub is_gtin : List Part → Bool
is_gtin (NumCheck k ∷ []) = k == 14
is_gtin _ = false

-- trusted, own: holds if the list is empty
abbrev pub is_empty : {X : Type 0} → List X → Bool
is_empty [] = true
is_empty (_ ∷ _) = false

-- trusted, own: holds if the role is not `Other`, and `row` has no `none` text if it is a key, and otherwise no qualifiers
abbrev pub keeps_role_of : Role → AiRow → Bool
keeps_role_of Key row = is_empty row.none
keeps_role_of Qualifier row = is_empty row.qualifiers
keeps_role_of Attribute row = is_empty row.qualifiers
keeps_role_of Other _ = false

-- trusted, own: holds if `row` satisfies the rules of its role
abbrev pub keeps_role : AiRow → Bool
keeps_role row = keeps_role_of row.role row

-- trusted, own, after GS1 General Specifications section 3.2: holds if `row` is valid, regardless of the other rows
unfoldable pub is_row : AiRow → Bool
is_row row =
    is_code row.code && are_parts row.parts && keeps_role row && are_distinct row.qualifiers
    && (not row.short || is_gtin row.parts)
    && (is_empty row.none || is_none (parts_error row.parts row.none))

-- trusted, own, after GS1 General Specifications section 3.2: holds if the code and each value of `row` together have the
-- predefined length, if the code begins with a listed one
unfoldable pub keeps_predefined : AiRow → Bool
keeps_predefined row =
    option_map_or (λ n. (least_of row.parts == greatest_of row.parts) && (length row.code + greatest_of row.parts == n)) (predefined_length row.code) true

-- ---- a row among the others

-- trusted, own: holds if `text` begins with `front`
abbrev pub begins : List ℕ → List ℕ → Bool
begins front text = starts_with nat_eq text front

-- trusted, own: holds if one of the codes `a` and `b` begins with the other
unfoldable pub clash : List ℕ → List ℕ → Bool
clash a b = begins a b || begins b a

-- trusted, own: holds if the role is key
abbrev pub is_key : Role → Bool
is_key Key = true
is_key _ = false

-- trusted, own: holds if the role is qualifier
abbrev pub is_qualifier : Role → Bool
is_qualifier Qualifier = true
is_qualifier _ = false

-- trusted, own: holds if one of `rows` has the code `code` and the role key
abbrev pub is_key_of : List AiRow → List ℕ → Bool
is_key_of rows code = list_any (λ row. has_code code row && is_key row.role) rows

-- trusted, own: holds if one of `rows` has the code `code` and the role qualifier
abbrev pub is_qualifier_of : List AiRow → List ℕ → Bool
is_qualifier_of rows code = list_any (λ row. has_code code row && is_qualifier row.role) rows

-- trusted, own: the errors of row i, given the rows before it: its form, a code that clashes with an earlier one, its length
unfoldable pub row_errors : ℕ → List AiRow → AiRow → List AiFault
row_errors i earlier row =
    error_if (not (is_row row)) (BadAi i)
    ++ map (λ other. CodePrefix other.0 i) (filter (λ other. clash other.1.code row.code) (enumerate_from 0 earlier))
    ++ error_if (not (keeps_predefined row)) (PredefinedLength i)

-- trusted, own: the errors of the qualifiers that row i lists: the code of a key, or of no qualifier
unfoldable pub list_errors : List AiRow → ℕ → AiRow → List AiFault
list_errors rows i row =
    error_if (list_any (is_key_of rows) row.qualifiers) (KeyIsQualifier i)
    ++ error_if (not (list_all (is_qualifier_of rows) row.qualifiers)) (BadAi i)

-- ---- all rows

-- trusted, own: the list of all errors of `rows`, in the order of the reports: those of each row in turn, then those of each
-- list
unfoldable pub table_errors : List AiRow → List AiFault
table_errors rows =
    flat_map (λ row. row_errors row.0 (take row.0 rows) row.1) (enumerate_from 0 rows)
    ++ flat_map (λ row. list_errors rows row.0 row.1) (enumerate_from 0 rows)

-- trusted, own: Holds if each row is valid and has its predefined length, and no code begins with another row's. Each row lists
-- only codes of qualifiers, and none of a key.
pub record KeepsRules (rows : List AiRow) : Type 0 where
  -- each row is valid, regardless of the others
  pub rows_in_order : (i : ℕ) (row : AiRow) → slice_get rows i ≡ Some row → (is_row row ≡ true) × (keeps_predefined row ≡ true)
  -- no code begins another
  pub codes_apart : (i j : ℕ) (a b : AiRow) → slice_get rows i ≡ Some a → slice_get rows j ≡ Some b → begins a.code b.code ≡ true → i ≡ j
  -- each code that a row lists is that of a qualifier, and of no key
  pub lists_qualifiers : (i : ℕ) (row : AiRow) → slice_get rows i ≡ Some row → (list_all (is_qualifier_of rows) row.qualifiers ≡ true) × (list_any (is_key_of rows) row.qualifiers ≡ false)

-- trusted, own: the index of the row whose code begins the text
abbrev pub row_at : List AiRow → List ℕ → Option ℕ
row_at rows text = position (λ row. begins row.code text) rows
