-- The parts of a template, their errors, and their expansions.
use Rattle.std.proofs.Common.{◌≡◌, ◌≤◌, ◌<◌, ℕ, zero, suc, ◌+◌, ◌-◌, ◌==◌, ◌&&◌, ◌||◌, Bool, true, false, All, if◌then◌else◌, List, [], ◌∷◌, ◌++◌, length, take, drop, filter, find, get_or, codes, Some, None, slice_get, refl, sym, ap, ◌∙◌, subst, arith}
use Rattle.std.specs.Prelude.{Err}
use Rattle.std.specs.List.{flat_map, list_all, list_any}
use Rattle.std.specs.Option.{option_map_or}
use Rattle.std.specs.Str.{IsUtf8, IsAscii, is_utf8}
use Rattle.std.proofs.lemmas.Bool.{agree_below, agree_below_at, eqb-true, and_from}
use Rattle.std.proofs.lemmas.Bool.Decides.{nat_tests}
use Rattle.std.proofs.lemmas.List.{append_assoc, drop_more, length-append, length-drop, length-take-le, take_all, take_at}
use Rattle.std.proofs.lemmas.List.Elements.{All-head, All-tail, filter-append}
use Rattle.std.proofs.lemmas.List.Folds.{find-append, list_all-append}
use Rattle.std.proofs.lemmas.Str.{IsCharBoundary-after_ascii, IsCharBoundary-before_ascii, IsUtf8-append, IsUtf8-drop, IsUtf8-from_ascii, IsUtf8-from_is_utf8, IsUtf8-take, is_utf8-from_IsUtf8}
use Rattle.std.specs.Prelude.{slice_index}
use Rattle.gs_chars.proofs.TruthsAndLists.{and_first, and_second}
use Rattle.gs_chars.specs.Characters.{are_digits, is_digit}
use Rattle.gs_ai.specs.declared.pair.Pair.{Pair}
use Rattle.gs_ident.specs.Elements.{Elements, is_coded}
use Rattle.gs_ident.specs.Links.{escaped_byte, is_letter, is_unescaped, percent_encoded}
use Rattle.gs_template.specs.Errors.{errors_from, first_error, part_errors, part_size}
use Rattle.gs_template.specs.Progress.{AreErrorsFrom, IsFilledTo, KeepsTo, is_inert}
use Rattle.gs_template.specs.Templates.{HoldsBytes, Part, bytes_behind, code_size, filled, is_closed, is_delimiter, is_place_byte, itself, part_of, parts, parts_behind, place, place_size, stands_for, value_of, value_under}
use Rattle.gs_template.specs.declared.error.PlaceFault.{PlaceFault}

-- ---- lists

at_front : (xs ys : List ℕ) (c : ℕ) → get_or (xs ++ c ∷ ys) (length xs) 0 ≡ c
at_front [] ys c = refl
at_front (x ∷ xs) ys c = at_front xs ys c

-- the item at an index, and the items after it
drop_from : (xs : List ℕ) (i x : ℕ) → i < length xs → x ≡ get_or xs i 0 → drop i xs ≡ x ∷ drop (i + 1) xs
drop_from xs i x h e = drop_more xs i 0 h ∙ ap (λ c. c ∷ drop (i + 1) xs) (sym e)

-- the items after an index, in the form of a slice
pub rest_whole : (xs : List ℕ) (n : ℕ) → take (length xs - n) (drop n xs) ≡ drop n xs
rest_whole xs n = take_all (length xs - n) (drop n xs) (let size = length-drop n xs in omega (arith, size))

pub drop_zero : {X : Type 0} (xs : List X) → drop 0 xs ≡ xs
drop_zero [] = refl
drop_zero (x ∷ xs) = refl

pub drop_over : (xs : List ℕ) (x : ℕ) (ys : List ℕ) → drop (suc (length xs)) (xs ++ x ∷ ys) ≡ ys
drop_over [] x ys = drop_zero ys
drop_over (y ∷ xs) x ys = drop_over xs x ys

-- ---- parts

code_closed : (text : List ℕ) (n : ℕ) → code_size text ≡ suc n → is_closed (suc n) text ≡ true
unfolding code_size
code_closed text n h = by (is_closed 2 text) (is_closed 3 text) (is_closed 4 text) refl refl refl h
  where
    by : (a b d : Bool) → is_closed 2 text ≡ a → is_closed 3 text ≡ b → is_closed 4 text ≡ d
        → (if a then 2 else if b then 3 else if d then 4 else 0) ≡ suc n → is_closed (suc n) text ≡ true
    by true b d e f g h = subst (λ m. is_closed m text ≡ true) h e
    by false true d e f g h = subst (λ m. is_closed m text ≡ true) h f
    by false false true e f g h = subst (λ m. is_closed m text ≡ true) h g
    by false false false e f g h = absurd (let k : 0 ≡ suc n = h in cc)

pub size_is : (c : ℕ) (text : List ℕ) (n : ℕ) → place_size c text ≡ suc n → (c ≡ 123) × (is_closed (suc n) text ≡ true)
size_is c text n h = by (c == 123) refl h
  where
    by : (b : Bool) → (c == 123) ≡ b → (if b then code_size text else 0) ≡ suc n → (c ≡ 123) × (is_closed (suc n) text ≡ true)
    by true e h = (eqb-true c 123 e, code_closed text n h)
    by false e h = absurd (let k : 0 ≡ suc n = h in cc)

-- the bytes of a part
abbrev raw : Part → List ℕ
raw (itself c) = c ∷ []
raw (place code) = 123 ∷ (code ++ 125 ∷ [])

pub closed_at : (text : List ℕ) (n : ℕ) → option_map_or (λ c. c == 125) (slice_get text n) false ≡ true → (take n text ++ 125 ∷ []) ++ drop (suc n) text ≡ text
closed_at [] n h = absurd (let k : false ≡ true = h in cc)
closed_at (c ∷ text) zero h = rw (eqb-true c 125 h, drop_zero text) refl
closed_at (c ∷ text) (suc n) h = ap (λ xs. c ∷ xs) (closed_at text n h)

-- the first part of a text, and the rest
cut_of : (c : ℕ) (text : List ℕ) (n : ℕ) → place_size c text ≡ n → raw (part_of c text n) ++ drop (bytes_behind n) text ≡ c ∷ text
cut_of c text zero h = rw (drop_zero text) refl
cut_of c text (suc n) h =
    let parts = size_is c text n h in
    let brace = parts.0 in
    let closed = closed_at text (suc n) (and_first (option_map_or (λ c. c == 125) (slice_get text (suc n)) false) (are_digits (take (suc n) text)) parts.1) in
    rw brace (ap (λ xs. 123 ∷ xs) closed)

pub closed_within : (text : List ℕ) (n : ℕ) → option_map_or (λ c. c == 125) (slice_get text n) false ≡ true → n < length text
closed_within [] n h = absurd (let k : false ≡ true = h in cc)
closed_within (c ∷ text) zero h = omega arith
closed_within (c ∷ text) (suc n) h = let low = closed_within text n h in omega (arith, low)

size_within : (c : ℕ) (text : List ℕ) (n : ℕ) → place_size c text ≡ n → n ≤ length text
size_within c text zero h = omega arith
size_within c text (suc n) h =
    let low = closed_within text (suc n) (and_first (option_map_or (λ c. c == 125) (slice_get text (suc n)) false) (are_digits (take (suc n) text)) (size_is c text n h).1) in
    omega (arith, low)

-- ---- errors

module _ (beside : List (List ℕ)) (href : List ℕ) (i c : ℕ) (within : i < length href) (at : c ≡ get_or href i 0) where
  pub errors_skip : (further less : ℕ) → 0 < further → less ≡ further - 1 → AreErrorsFrom beside href i further → AreErrorsFrom beside href (i + 1) less
  errors_skip zero less h e so_far = absurd (omega arith)
  errors_skip (suc further) less h e so_far =
      let place : i + suc further ≡ i + 1 + further = omega arith in
      let same : less ≡ further = omega (arith, e) in
      rw same (so_far ∙ ap (λ xs. errors_from beside (i + suc further) (parts_behind (suc further) xs)) (drop_from href i c within at) ∙ ap (λ n. errors_from beside n (parts_behind further (drop (i + 1) href))) place)

  here : AreErrorsFrom beside href i 0 → (n : ℕ) → place_size c (drop (i + 1) href) ≡ n
      → errors_from beside 0 (parts href) ≡ part_errors beside i (part_of c (drop (i + 1) href) n) ++ errors_from beside (i + part_size (part_of c (drop (i + 1) href) n)) (parts_behind (bytes_behind n) (drop (i + 1) href))
  here so_far n is =
      let start : i + 0 ≡ i = omega arith in
      rw (start, drop_from href i c within at, is) at so_far

  behind : (n : ℕ) → n ≤ length (drop (i + 1) href) → i + part_size (part_of c (drop (i + 1) href) n) ≡ i + 1 + bytes_behind n
  behind zero h = omega arith
  behind (suc n) h = let size = length-take-le (suc n) (drop (i + 1) href) h in omega (arith, size)

  pub errors_step : (n further : ℕ) → place_size c (drop (i + 1) href) ≡ n → part_errors beside i (part_of c (drop (i + 1) href) n) ≡ []
      → further ≡ bytes_behind n → AreErrorsFrom beside href i 0 → AreErrorsFrom beside href (i + 1) further
  errors_step n further is fine e so_far =
      here so_far n is ∙ rw (fine, behind n (size_within c (drop (i + 1) href) n is), e) refl

  pub errors_stop : (n : ℕ) (error : PlaceFault) → place_size c (drop (i + 1) href) ≡ n
      → part_errors beside i (part_of c (drop (i + 1) href) n) ≡ error ∷ [] → AreErrorsFrom beside href i 0
      → first_error (errors_from beside 0 (parts href)) ≡ Err error
  errors_stop n error is bad so_far = rw (here so_far n is, bad) refl

-- ---- bytes of places

pub plain_small : (c : ℕ) → is_place_byte c ≡ true → c < 128
unfolding is_unescaped
plain_small c h = grind (arith, nat_tests)

no_delimiters : agree_below (λ c. is_place_byte c && is_delimiter c) (λ _. false) 128 ≡ true
unfolding is_unescaped is_delimiter
no_delimiters = refl

not_delimiter : (c : ℕ) → is_place_byte c ≡ true → is_delimiter c ≡ false
not_delimiter c h = by (is_delimiter c) (rw h at (agree_below_at (λ c. is_place_byte c && is_delimiter c) (λ _. false) 128 c no_delimiters (plain_small c h)))
  where
    by : (b : Bool) → (true && b) ≡ false → b ≡ false
    by true e = e
    by false e = e

inert_filtered : (text : List ℕ) → list_all is_place_byte text ≡ true → filter is_delimiter text ≡ []
inert_filtered [] h = refl
inert_filtered (c ∷ text) h = rw (not_delimiter c (and_first (is_place_byte c) (list_all is_place_byte text) h))
    (inert_filtered text (and_second (is_place_byte c) (list_all is_place_byte text) h))

inert_ascii : (text : List ℕ) → list_all is_place_byte text ≡ true → IsAscii text
inert_ascii [] h i = nothing i
  where
    nothing : (i : ℕ) → slice_index [] i < 128
    nothing zero = omega arith
    nothing (suc i) = omega arith
inert_ascii (c ∷ text) h zero = plain_small c (and_first (is_place_byte c) (list_all is_place_byte text) h)
inert_ascii (c ∷ text) h (suc i) = inert_ascii text (and_second (is_place_byte c) (list_all is_place_byte text) h) i

escapes : agree_below (λ c. list_all is_place_byte (escaped_byte c)) (λ _. true) 256 ≡ true
unfolding is_unescaped
escapes = refl

pub encoded_plain : (value : List ℕ) → All (λ c. c < 256) value → list_all is_place_byte (percent_encoded value) ≡ true
unfolding percent_encoded
encoded_plain [] h = refl
encoded_plain (c ∷ value) h =
    list_all-append is_place_byte (escaped_byte c) (flat_map escaped_byte value)
    ∙ and_from (list_all is_place_byte (escaped_byte c)) (list_all is_place_byte (flat_map escaped_byte value))
    (agree_below_at (λ c. list_all is_place_byte (escaped_byte c)) (λ _. true) 256 c escapes (All-head (λ c. c < 256) c value h))
    (encoded_plain value (All-tail (λ c. c < 256) c value h))

digit_plain : (c : ℕ) → is_digit c ≡ true → is_place_byte c ≡ true
unfolding is_unescaped
digit_plain c h = rw h (by (is_letter c) (list_any (λ x. x == c) (codes "-._")) (c == 37))
  where
    by : (a b d : Bool) → ((a || true) || b) || d ≡ true
    by true b d = refl
    by false b d = refl

digits_plain : (text : List ℕ) → are_digits text ≡ true → list_all is_place_byte text ≡ true
digits_plain [] h = refl
digits_plain (c ∷ text) h = and_from (is_place_byte c) (list_all is_place_byte text)
    (digit_plain c (and_first (is_digit c) (are_digits text) h)) (digits_plain text (and_second (is_digit c) (are_digits text) h))

braces : (filter is_delimiter (123 ∷ []) ≡ []) × (filter is_delimiter (125 ∷ []) ≡ [])
unfolding is_delimiter
braces = (refl, refl)

place_filtered : (code : List ℕ) → are_digits code ≡ true → filter is_delimiter (raw (place code)) ≡ []
place_filtered code h =
    filter-append is_delimiter (123 ∷ []) (code ++ 125 ∷ [])
    ∙ rw (braces.0, filter-append is_delimiter code (125 ∷ []), inert_filtered code (digits_plain code h), braces.1) refl

-- a part and its expansion have the same delimiters
same_delimiters : (identity : Elements) (c : ℕ) (text : List ℕ) (n : ℕ) → place_size c text ≡ n
    → is_inert identity (part_of c text n) ≡ true
    → filter is_delimiter (stands_for identity (part_of c text n)) ≡ filter is_delimiter (raw (part_of c text n))
same_delimiters identity c text zero is inert = refl
same_delimiters identity c text (suc n) is inert =
    let closed = (size_is c text n is).1 in
    let digits = and_second (option_map_or (λ c. c == 125) (slice_get text (suc n)) false) (are_digits (take (suc n) text)) closed in
    inert_filtered (stands_for identity (place (take (suc n) text))) inert ∙ sym (place_filtered (take (suc n) text) digits)

-- ---- UTF-8

seam : (xs ys : List ℕ) (c : ℕ) → c < 128 → IsUtf8 (xs ++ c ∷ ys) → IsUtf8 xs × IsUtf8 ys
seam xs ys c small whole =
    let all = xs ++ c ∷ ys in
    let size = length-append xs (c ∷ ys) in
    let inside : length xs < length all = omega (arith, size) in
    let low : get_or all (length xs) 0 < 128 = rw (at_front xs ys c) small in
    let front = IsUtf8-take all (length xs) whole (IsCharBoundary-before_ascii all (length xs) inside low) in
    let back = IsUtf8-drop all (length xs + 1) whole (IsCharBoundary-after_ascii all (length xs) whole inside low) in
    let next : length xs + 1 ≡ suc (length xs) = omega arith in
    (rw (take_at xs (c ∷ ys) (length xs) refl) at front, rw (next, drop_over xs c ys) at back)

part_utf8 : (identity : Elements) (out text : List ℕ) (c n : ℕ) → place_size c text ≡ n → is_inert identity (part_of c text n) ≡ true
    → IsUtf8 (out ++ (raw (part_of c text n) ++ drop (bytes_behind n) text))
    → IsUtf8 ((out ++ stands_for identity (part_of c text n)) ++ drop (bytes_behind n) text)
part_utf8 identity out text c zero is inert h = rw append_assoc h
part_utf8 identity out text c (suc n) is inert h =
    let code = take (suc n) text in
    let rest = drop (bytes_behind (suc n)) text in
    let outer = seam out ((code ++ 125 ∷ []) ++ rest) 123 (omega arith) h in
    let regrouped : IsUtf8 (code ++ 125 ∷ rest) = rw append_assoc at outer.1 in
    let inner = seam code rest 125 (omega arith) regrouped in
    let value = IsUtf8-from_ascii (stands_for identity (place code)) (inert_ascii (stands_for identity (place code)) inert) in
    IsUtf8-append (out ++ stands_for identity (place code)) rest (IsUtf8-append out (stands_for identity (place code)) outer.0 value) inner.1

-- ---- a filled template

module _ (identity : Elements) (href out new : List ℕ) (i c : ℕ) (within : i < length href) (at : c ≡ get_or href i 0) where
  pub filled_skip : (further less : ℕ) → 0 < further → less ≡ further - 1 → IsFilledTo identity href out i further → IsFilledTo identity href out (i + 1) less
  filled_skip zero less h e so_far = absurd (omega arith)
  filled_skip (suc further) less h e so_far =
      let same : less ≡ further = omega (arith, e) in
      rw same (so_far ∙ ap (λ xs. out ++ flat_map (stands_for identity) (parts_behind (suc further) xs)) (drop_from href i c within at))

  pub keeps_skip : (further less : ℕ) → 0 < further → less ≡ further - 1 → KeepsTo href out i further → KeepsTo href out (i + 1) less
  keeps_skip zero less h e so_far = absurd (omega arith)
  keeps_skip (suc further) less h e so_far =
      let same : less ≡ further = omega (arith, e) in
      rw same (rw (drop_from href i c within at) at so_far)

  pub filled_step : (n further : ℕ) → place_size c (drop (i + 1) href) ≡ n → further ≡ bytes_behind n
      → new ≡ out ++ stands_for identity (part_of c (drop (i + 1) href) n) → IsFilledTo identity href out i 0
      → IsFilledTo identity href new (i + 1) further
  filled_step n further is e added so_far =
      so_far
      ∙ ap (λ xs. out ++ flat_map (stands_for identity) (parts_behind 0 xs)) (drop_from href i c within at)
      ∙ rw (is, e, added) (sym (append_assoc out (stands_for identity (part_of c (drop (i + 1) href) n)) (flat_map (stands_for identity) (parts_behind (bytes_behind n) (drop (i + 1) href)))))

  whole : (n : ℕ) → place_size c (drop (i + 1) href) ≡ n → KeepsTo href out i 0
      → (filter is_delimiter (out ++ (raw (part_of c (drop (i + 1) href) n) ++ drop (bytes_behind n) (drop (i + 1) href))) ≡ filter is_delimiter href) × (is_utf8 href ≡ true → is_utf8 (out ++ (raw (part_of c (drop (i + 1) href) n) ++ drop (bytes_behind n) (drop (i + 1) href))) ≡ true)
  whole n is so_far = rw (cut_of c (drop (i + 1) href) n is, ← drop_from href i c within at, ← drop_zero (drop i href)) so_far

  pub keeps_step : (n further : ℕ) → place_size c (drop (i + 1) href) ≡ n → further ≡ bytes_behind n
      → new ≡ out ++ stands_for identity (part_of c (drop (i + 1) href) n) → is_inert identity (part_of c (drop (i + 1) href) n) ≡ true
      → KeepsTo href out i 0 → KeepsTo href new (i + 1) further
  keeps_step n further is e added inert so_far =
      let text = drop (i + 1) href in
      let own = stands_for identity (part_of c text n) in
      let rest = drop (bytes_behind n) text in
      let all = whole n is so_far in
      let same = same_delimiters identity c text n is inert in
      let delimiters : filter is_delimiter ((out ++ own) ++ rest) ≡ filter is_delimiter (out ++ (raw (part_of c text n) ++ rest)) =
      rw (filter-append is_delimiter (out ++ own) rest, filter-append is_delimiter out own, filter-append is_delimiter out (raw (part_of c text n) ++ rest), filter-append is_delimiter (raw (part_of c text n)) rest, same)
      (append_assoc (filter is_delimiter out) (filter is_delimiter (raw (part_of c text n))) (filter is_delimiter rest)) in
      rw (e, added) (
        delimiters ∙ all.0,
        λ h. is_utf8-from_IsUtf8 ((out ++ own) ++ rest) (part_utf8 identity out text c n is inert (IsUtf8-from_is_utf8 (out ++ (raw (part_of c text n) ++ rest)) (all.1 h))),
      )

-- ---- the law of the whole reference

module _ (identity : Elements) (bytes : HoldsBytes identity) where
  inert : (part : Part) → is_inert identity part ≡ true
  inert (itself c) = refl
  inert (place code) = encoded_plain (value_under identity code) (bytes code)

  filled_delimiters : (n : ℕ) (text : List ℕ) → filter is_delimiter (flat_map (stands_for identity) (parts_behind n text)) ≡ filter is_delimiter (drop n text)
  filled_delimiters zero [] = refl
  filled_delimiters (suc n) [] = refl
  filled_delimiters (suc n) (c ∷ text) = filled_delimiters n text
  filled_delimiters zero (c ∷ text) =
      let n = place_size c text in
      let part = part_of c text n in
      filter-append is_delimiter (stands_for identity part) (flat_map (stands_for identity) (parts_behind (bytes_behind n) text))
      ∙ rw (filled_delimiters (bytes_behind n) text, same_delimiters identity c text n refl (inert part))
      (sym (filter-append is_delimiter (raw part) (drop (bytes_behind n) text)))
      ∙ ap (filter is_delimiter) (cut_of c text n refl)

  pub same_whole : (href : List ℕ) → filter is_delimiter (filled href identity) ≡ filter is_delimiter href
  same_whole href = filled_delimiters 0 href ∙ ap (filter is_delimiter) (drop_zero href)

-- ---- values

pub value_in_front : (identity : Elements) (code : List ℕ) (pair : Pair) → false ≡ is_coded code identity.key
    → Some pair ≡ find (is_coded code) identity.qualifiers → pair.value ≡ value_under identity code
value_in_front identity code pair other found =
    rw (← other, find-append (is_coded code) identity.qualifiers identity.attributes, ← found) refl

pub value_behind : (identity : Elements) (code : List ℕ) → false ≡ is_coded code identity.key
    → None ≡ find (is_coded code) identity.qualifiers → value_of (find (is_coded code) identity.attributes) ≡ value_under identity code
value_behind identity code other none =
    rw (← other, find-append (is_coded code) identity.qualifiers identity.attributes, ← none) refl
