-- How a template is judged and filled, part by part.
use Rattle.std.specs.Prelude.{◌≡◌, ℕ, ◌+◌, Bool, true, List, ◌++◌, drop, filter}
use Rattle.std.specs.List.{flat_map, list_all}
use Rattle.std.specs.Str.{is_utf8}
use Rattle.gs_ident.specs.Elements.{Elements}
use Rattle.gs_ident.specs.Links.{percent_encoded}
use Rattle.gs_template.specs.Errors.{errors_from}
use Rattle.gs_template.specs.Templates.{Part, filled, is_delimiter, is_place_byte, itself, parts, parts_behind, place, stands_for, value_under}

-- holds if the expansion of a place has only characters that need no escape
abbrev pub is_inert : Elements → Part → Bool
is_inert identity (itself c) = true
is_inert identity (place code) = list_all is_place_byte (percent_encoded (value_under identity code))

-- holds if there are no errors so far: the errors of the rest, after n bytes, are the errors of the whole
abbrev pub AreErrorsFrom : List (List ℕ) → List ℕ → ℕ → ℕ → Type 0
AreErrorsFrom codes href i further = errors_from codes 0 (parts href) ≡ errors_from codes (i + further) (parts_behind further (drop i href))

-- holds if the output so far and the expansion of the rest, after n bytes, are the expansion of the whole
abbrev pub IsFilledTo : Elements → List ℕ → List ℕ → ℕ → ℕ → Type 0
IsFilledTo identity href out i further = filled href identity ≡ out ++ flat_map (stands_for identity) (parts_behind further (drop i href))

-- holds if the output so far and the unchanged rest, after n bytes, have the delimiters of the whole. They are UTF-8 if it is
abbrev pub KeepsTo : List ℕ → List ℕ → ℕ → ℕ → Type 0
KeepsTo href out i further =
    (filter is_delimiter (out ++ drop further (drop i href)) ≡ filter is_delimiter href)
    × (is_utf8 href ≡ true → is_utf8 (out ++ drop further (drop i href)) ≡ true)
