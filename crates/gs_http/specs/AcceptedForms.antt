-- The form of a linkset that a request accepts: RFC 9110, section 12.5.1 (`Accept`), and RFC 9264, section 4. That the first that is
-- named counts, whatever its weight, is this project's own.
use Rattle.std.specs.Prelude.{ℕ, if◌then◌else◌, List, [], ◌∷◌, codes, Option, Some, None}
use Rattle.std.specs.List.{before_first, filter_map, flat_map, slice_split}
use Rattle.httparse.specs.Grammar.{trim_ows}
use Rattle.gs_http.specs.declared.documents.LinksetForm.{LinksetForm}
use Rattle.gs_http.specs.declared.documents.LinksetForm.TheVariants.{Json, Text}
use Rattle.gs_http.specs.Fields.{is_comma, is_semicolon, is_word}

-- trusted, RFC 9264, sections 4.1 and 4.2: the form of a linkset that a media type names, case-insensitively
abbrev pub form_named : List ℕ → Option LinksetForm
form_named name =
    if is_word (codes "application/linkset+json") name then Some Json
    else if is_word (codes "application/linkset") name then Some Text
    else None

-- trusted, RFC 9110, section 12.5.1: the form that a part of a value names, by the text before its parameters without surrounding
-- white space
abbrev pub part_form : List ℕ → Option LinksetForm
part_form part = form_named (trim_ows (before_first is_semicolon part))

-- trusted, RFC 9110, section 5.6.1: the forms that the parts between commas name, in their order
abbrev pub value_forms : List ℕ → List LinksetForm
value_forms value = filter_map part_form (slice_split is_comma value)

-- trusted, RFC 9110, section 12.5.1: the forms that a field accepts
abbrev pub field_forms : List ℕ × List ℕ → List LinksetForm
field_forms field = if is_word (codes "accept") field.0 then value_forms field.1 else []

-- trusted, own: the first of the forms, if there is one
abbrev pub first_form : List LinksetForm → Option LinksetForm
first_form [] = None
first_form (form ∷ forms) = Some form

-- trusted, own: the form that a request accepts first, over all its fields in their order
abbrev pub accepted_form : List (List ℕ × List ℕ) → Option LinksetForm
accepted_form fields = first_form (flat_map field_forms fields)
