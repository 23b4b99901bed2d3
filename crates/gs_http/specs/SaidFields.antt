-- What the header fields of a request say, found in one pass, for private functions.
use Rattle.std.specs.Prelude.{◌≡◌, ℕ, ◌||◌, if◌then◌else◌, List, [], ◌∷◌, map, length, codes, Option, Some, None, All}
use Rattle.std.specs.Borrow.{Bor}
use Rattle.std.specs.List.{list_any, slice_split}
use Rattle.httparse.specs.Spans.{IsHeaderWithin, header_bytes}
use Rattle.httparse.specs.declared.spans.HeaderSpan.{HeaderSpan}
use Rattle.gs_http.specs.declared.fields.Members.{Members}
use Rattle.gs_http.specs.declared.documents.LinksetForm.{LinksetForm}
use Rattle.gs_http.specs.declared.said.Said.{Said}
use Rattle.gs_http.specs.AcceptedForms.{accepted_form, field_forms, first_form}
use Rattle.gs_http.specs.Fields.{is_comma, is_word, shows_body, shows_end}
use Rattle.gs_http.specs.LanguageRanges.{language_values}

-- the members of the part of a value that is left, if one is
abbrev pub members_in : Option (Bor (List ℕ)) → List (List ℕ)
members_in None = []
members_in (Some rest) = slice_split is_comma rest.now

-- the members that are left to come
abbrev pub members_left : Members → List (List ℕ)
members_left members = members_in members.rest

-- the first form, if there is one, otherwise the second
abbrev pub or_form : Option LinksetForm → Option LinksetForm → Option LinksetForm
or_form None form = form
or_form (Some first) form = Some first

-- the first list if it has an item, otherwise the second
abbrev pub or_fields : List HeaderSpan → List HeaderSpan → List HeaderSpan
or_fields [] fields = fields
or_fields (field ∷ first) fields = field ∷ first

-- holds if a field was added, with which the last list begins
pub record Adds (old new : Said) (field : List ℕ × List ℕ) (from : List HeaderSpan) : Type 0 where
  pub has_body : new.has_body ≡ (old.has_body || shows_body field)
  pub closes : new.closes ≡ (old.closes || shows_end field)
  pub form : new.form ≡ or_form old.form (first_form (field_forms field))
  pub languages : new.languages.now ≡ (if is_word (codes "accept-language") field.0 then or_fields old.languages.now from else old.languages.now)

-- holds if each is the value that its definition gives for the fields of the head
pub record Says (said : Said) (head : List ℕ) (fields : List HeaderSpan) : Type 0 where
  pub has_body : said.has_body ≡ list_any shows_body (map (header_bytes head) fields)
  pub closes : said.closes ≡ list_any shows_end (map (header_bytes head) fields)
  pub form : said.form ≡ accepted_form (map (header_bytes head) fields)
  pub languages : language_values (map (header_bytes head) said.languages.now) ≡ language_values (map (header_bytes head) fields)
  pub within : All (IsHeaderWithin (length head)) said.languages.now
