-- What the fields so far say, field by field.
use Rattle.std.proofs.Common.{◌≡◌, ℕ, ◌||◌, Bool, true, false, if◌then◌else◌, List, [], ◌∷◌, ◌++◌, length, map, Option, Some, None, refl, sym, ap, ◌∙◌, inl, inr, subst}
use Rattle.std.specs.Prelude.{All, codes}
use Rattle.std.specs.List.{flat_map, list_any}
use Rattle.std.proofs.lemmas.List.Elements.{All-tail}
use Rattle.gs_chars.proofs.TruthsAndLists.{true_or_false}
use Rattle.httparse.specs.Spans.{IsHeaderWithin, header_bytes}
use Rattle.httparse.specs.declared.spans.HeaderSpan.{HeaderSpan}
use Rattle.gs_http.specs.AcceptedForms.{accepted_form, field_forms, first_form}
use Rattle.gs_http.specs.Fields.{is_word, shows_body, shows_end}
use Rattle.gs_http.specs.LanguageRanges.{language_values}
use Rattle.gs_http.specs.SaidFields.{Adds, Says, or_fields, or_form}
use Rattle.gs_http.specs.declared.documents.LinksetForm.{LinksetForm}
use Rattle.gs_http.specs.declared.said.Said.{Said}

-- the fields so far say this, and others are left
pub record SaysSoFar (said : Said) (head : List ℕ) (all rest : List HeaderSpan) : Type 0 where
  pub has_body : list_any shows_body (map (header_bytes head) all) ≡ (said.has_body || list_any shows_body (map (header_bytes head) rest))
  pub closes : list_any shows_end (map (header_bytes head) all) ≡ (said.closes || list_any shows_end (map (header_bytes head) rest))
  pub form : accepted_form (map (header_bytes head) all) ≡ or_form said.form (accepted_form (map (header_bytes head) rest))
  pub languages : language_values (map (header_bytes head) all) ≡ language_values (map (header_bytes head) (or_fields said.languages.now rest))
  pub within : All (IsHeaderWithin (length head)) said.languages.now
  pub left : All (IsHeaderWithin (length head)) rest

or_next : (a b c : Bool) → (a || (b || c)) ≡ ((a || b) || c)
or_next true b c = refl
or_next false b c = refl

pub or_no : (a : Bool) → (a || false) ≡ a
or_no true = refl
or_no false = refl

or_form_next : (a b c : Option LinksetForm) → or_form a (or_form b c) ≡ or_form (or_form a b) c
or_form_next None b c = refl
or_form_next (Some form) b c = refl

pub or_form_none : (a : Option LinksetForm) → or_form a None ≡ a
or_form_none None = refl
or_form_none (Some form) = refl

first_joined : (a b : List LinksetForm) → first_form (a ++ b) ≡ or_form (first_form a) (first_form b)
first_joined [] b = refl
first_joined (form ∷ a) b = refl

or_fields_none : (a : List HeaderSpan) → or_fields a [] ≡ a
or_fields_none [] = refl
or_fields_none (field ∷ a) = refl

module _ (head : List ℕ) (field : HeaderSpan) (rest : List HeaderSpan) where
  -- the fields from the first language on
  from_first : (old : List HeaderSpan) → or_fields (or_fields old (field ∷ rest)) rest ≡ or_fields old (field ∷ rest)
  from_first [] = refl
  from_first (first ∷ old) = refl

  passed : (old : List HeaderSpan) → is_word (codes "accept-language") (header_bytes head field).0 ≡ false
      → language_values (map (header_bytes head) (or_fields old (field ∷ rest))) ≡ language_values (map (header_bytes head) (or_fields old rest))
  passed [] other = rw other refl
  passed (first ∷ old) other = refl

  all_within : (old : List HeaderSpan) → All (IsHeaderWithin (length head)) old → All (IsHeaderWithin (length head)) (field ∷ rest)
      → All (IsHeaderWithin (length head)) (or_fields old (field ∷ rest))
  all_within [] within left = left
  all_within (first ∷ old) within left = within

  next_languages : (old new : List HeaderSpan) (all : List (List ℕ)) → all ≡ language_values (map (header_bytes head) (or_fields old (field ∷ rest)))
      → All (IsHeaderWithin (length head)) old → All (IsHeaderWithin (length head)) (field ∷ rest)
      → new ≡ (if is_word (codes "accept-language") (header_bytes head field).0 then or_fields old (field ∷ rest) else old)
      → (all ≡ language_values (map (header_bytes head) (or_fields new rest))) × All (IsHeaderWithin (length head)) new
  next_languages old new all so_far within left added = elim (true_or_false (is_word (codes "accept-language") (header_bytes head field).0)) [
    | inl named ↦
        let now : new ≡ or_fields old (field ∷ rest) = rw named at added in (
          so_far ∙ ap (λ (fields : List HeaderSpan). language_values (map (header_bytes head) fields))
              (sym (ap (λ (first : List HeaderSpan). or_fields first rest) now ∙ from_first old)),
          subst (All (IsHeaderWithin (length head))) (sym now) (all_within old within left),
        )
    | inr other ↦
        let now : new ≡ old = rw other at added in (
          so_far ∙ passed old other ∙ ap (λ (first : List HeaderSpan). language_values (map (header_bytes head) (or_fields first rest))) (sym now),
          subst (All (IsHeaderWithin (length head))) (sym now) within,
        )
  ]

  -- one field more
  pub says_next : (old new : Said) (all : List HeaderSpan) → SaysSoFar old head all (field ∷ rest)
      → Adds old new (header_bytes head field) (field ∷ rest) → SaysSoFar new head all rest
  says_next old new all s a =
      let here = header_bytes head field in
      let more = map (header_bytes head) rest in
      let language = next_languages old.languages.now new.languages.now _ s.languages s.within s.left a.languages in
      record {
        has_body = s.has_body ∙ or_next old.has_body (shows_body here) (list_any shows_body more) ∙ ap (λ b. b || list_any shows_body more) (sym a.has_body);
        closes = s.closes ∙ or_next old.closes (shows_end here) (list_any shows_end more) ∙ ap (λ b. b || list_any shows_end more) (sym a.closes);
        form = s.form ∙ ap (or_form old.form) (first_joined (field_forms here) (flat_map field_forms more)) ∙ or_form_next old.form
            (first_form (field_forms here)) (accepted_form more)
            ∙ ap (λ form. or_form form (accepted_form more)) (sym a.form);
        languages = language.0;
        within = language.1;
        left = All-tail (IsHeaderWithin (length head)) field rest s.left;
      }

-- the first of the fields that are left
pub says_step : (head : List ℕ) (fields all others : List HeaderSpan) (field : HeaderSpan) (old new : Said) (name value : List ℕ) → fields ≡ field ∷ others
    → name ≡ (header_bytes head field).0 → value ≡ (header_bytes head field).1 → SaysSoFar old head all fields → Adds old new
    (name, value) fields → SaysSoFar new head all others
says_step head fields all others field old new name value first n v s a = says_next head field others old new all (rw first at s) (rw (n, v, first) at a)

-- no field is left
pub says_all : (said : Said) (head : List ℕ) (all : List HeaderSpan) → SaysSoFar said head all [] → Says said head all
says_all said head all s = record {
  has_body = sym (s.has_body ∙ or_no said.has_body);
  closes = sym (s.closes ∙ or_no said.closes);
  form = sym (s.form ∙ or_form_none said.form);
  languages = sym (s.languages ∙ ap (λ (fields : List HeaderSpan). language_values (map (header_bytes head) fields)) (or_fields_none said.languages.now));
  within = s.within;
}
