-- Places by the JSON Pointers of `serde_json`.
use Rattle.std.proofs.Common.{◌≡◌, ◌≢◌, ℕ, zero, suc, ◌^◌, ◌<◌, ◌==◌, ◌||◌, not, Bool, true, false, cond, List, [], ◌∷◌, ◌++◌, length, get_or, take, ◌+◌, Option, Some, None, option_and_then, decimal, inl, inr, refl, sym, ap, ◌∙◌, arith, append-nil, lt-ltb, ne_eqb}
use Rattle.std.proofs.lemmas.Bool.{cases_eq, eq-eqb}
use Rattle.std.proofs.Math.Bool.{or-true}
use Rattle.std.proofs.lemmas.Grind.{flat_map-append}
use Rattle.std.proofs.lemmas.List.{append_assoc, take_more}
use Rattle.std.proofs.lemmas.Float.Parse.{scan_numeral-text_of}
use Rattle.std.proofs.lemmas.Fmt.{decimal_digit, decimal_is_IsNumeral, decimal_nonempty, first_decimal}
use Rattle.std.specs.Char.{digit_value}
use Rattle.std.specs.Float.Numeral.{Parts, IsWellFormed, scan_numeral}
use Rattle.std.specs.Str.Parse.{AllDigits}
use Rattle.serde_json.specs.Data.{Data, null, boolean, number, string, array, object}
use Rattle.serde_json.specs.Find.{at, get, get_item, get_member, index_of, pointer, step, unescape, walk}
use Rattle.serde_json.proofs.Paths.{Lacks, walk_last}
use Rattle.gs_json.specs.Places.{escaped, escaped_byte, item_place, member_place}

-- ---- a name, byte by byte

pub escaped_more : (place name : List ℕ) (i other : ℕ) (old new : List ℕ) → i < length name → old ≡ member_place place (take i name)
    → new ≡ old ++ escaped_byte (get_or name i other) → new ≡ member_place place (take (i + 1) name)
escaped_more place name i other old new low so_far e =
    rw (e, so_far, take_more name i other low, flat_map-append escaped_byte (take i name) (get_or name i other ∷ []), append-nil (escaped_byte (get_or name i other)))
    (append_assoc place (47 ∷ escaped (take i name)) (escaped_byte (get_or name i other)))

-- ---- a part more

then_walked : (rest part : List ℕ) (o : Option Data) → ((d : Data) → walk [] (rest ++ 47 ∷ part) d ≡ option_and_then (walk [] part) (walk [] rest d))
    → option_and_then (walk [] (rest ++ 47 ∷ part)) o ≡ option_and_then (walk [] part) (option_and_then (walk [] rest) o)
then_walked rest part (Some d) h = h d
then_walked rest part None h = refl

walk_end : (so_far rest part : List ℕ) (d : Data) → walk so_far (rest ++ 47 ∷ part) d ≡ option_and_then (walk [] part) (walk so_far rest d)
unfolding walk
walk_end so_far [] part d = refl
walk_end so_far (x ∷ rest) part d =
    elim (x == 47) as (λ b. cond b (option_and_then (walk [] (rest ++ 47 ∷ part)) (step so_far d)) (walk (so_far ++ x ∷ []) (rest ++ 47 ∷ part) d)
    ≡ option_and_then (walk [] part) (cond b (option_and_then (walk [] rest) (step so_far d)) (walk (so_far ++ x ∷ []) rest d))) [
      | true ↦ then_walked rest part (step so_far d) (λ e. walk_end [] rest part e)
      | false ↦ walk_end (so_far ++ x ∷ []) rest part d
    ]

found_at : (b : Bool) (o : Option Data) (d : Data) (w : Option Data) (more : Option Data) → cond b o None ≡ Some d → (o ≡ Some d → more ≡ w)
    → cond b more None ≡ w
found_at true o d w more h k = k h
found_at false o d w more h k = cc h

pointer_end : (place part : List ℕ) (d here : Data) → pointer place d ≡ Some here → pointer (place ++ 47 ∷ part) d ≡ walk [] part here
pointer_end [] part d here h = let same : d ≡ here = cc in ap (walk [] part) same
pointer_end (x ∷ rest) part d here h =
    found_at (x == 47) (walk [] rest d) here (walk [] part here) (walk [] (rest ++ 47 ∷ part) d) h
    (λ found. walk_end [] rest part d ∙ ap (option_and_then (walk [] part)) found)

-- ---- names

lacks_none : Lacks 47 []
lacks_none i h = absurd (omega arith)

lacks_more : (x : ℕ) (xs : List ℕ) → x ≢ 47 → Lacks 47 xs → Lacks 47 (x ∷ xs)
lacks_more x xs other h zero within = other
lacks_more x xs other h (suc i) within = h i (omega arith)

unescape_other : (c : ℕ) (rest : List ℕ) → (c == 126) ≡ false → unescape (c ∷ rest) ≡ c ∷ unescape rest
unfolding unescape
unescape_other c [] h = refl
unescape_other c (y ∷ rest) h = rw h refl

unescape_byte : (c : ℕ) (rest : List ℕ) → unescape (escaped_byte c ++ rest) ≡ c ∷ unescape rest
unfolding unescape
unescape_byte c rest =
    elim (cases_eq c 126) [
      | inl tilde ↦ rw tilde refl
      | inr no_tilde ↦
          elim (cases_eq c 47) [
            | inl slash ↦ rw slash refl
            | inr no_slash ↦ rw (ne_eqb c 126 no_tilde, ne_eqb c 47 no_slash) (unescape_other c rest (ne_eqb c 126 no_tilde))
          ]
    ]

unescape_escaped : (name : List ℕ) → unescape (escaped name) ≡ name
unfolding unescape
unescape_escaped [] = refl
unescape_escaped (c ∷ name) = unescape_byte c (escaped name) ∙ ap (λ w. c ∷ w) (unescape_escaped name)

lacks_byte : (c : ℕ) (rest : List ℕ) → Lacks 47 rest → Lacks 47 (escaped_byte c ++ rest)
lacks_byte c rest h =
    elim (cases_eq c 126) [
      | inl tilde ↦ rw tilde (lacks_more 126 (48 ∷ rest) (λ e. omega arith) (lacks_more 48 rest (λ e. omega arith) h))
      | inr no_tilde ↦
          elim (cases_eq c 47) [
            | inl slash ↦ rw slash (lacks_more 126 (49 ∷ rest) (λ e. omega arith) (lacks_more 49 rest (λ e. omega arith) h))
            | inr no_slash ↦ rw (ne_eqb c 126 no_tilde, ne_eqb c 47 no_slash) (lacks_more c rest no_slash h)
          ]
    ]

lacks_escaped : (name : List ℕ) → Lacks 47 (escaped name)
lacks_escaped [] = lacks_none
lacks_escaped (c ∷ name) = lacks_byte c (escaped name) (lacks_escaped name)

step_to_member : (part e : Data) (name : List ℕ) → get name part ≡ Some e → step (escaped name) part ≡ Some e
step_to_member null e name h = cc h
step_to_member (boolean b) e name h = cc h
step_to_member (number n) e name h = cc h
step_to_member (string s) e name h = cc h
step_to_member (array items) e name h = cc h
step_to_member (object members) e name h = ap (λ w. get_member w members) (unescape_escaped name) ∙ h

pub member_pointed_to : (place name : List ℕ) (d part e : Data) → pointer place d ≡ Some part → get name part ≡ Some e
    → pointer (member_place place name) d ≡ Some e
member_pointed_to place name d part e here found =
    pointer_end place (escaped name) d part here ∙ walk_last (escaped name) part (lacks_escaped name) ∙ step_to_member part e name found

-- ---- items

lacks_digits : (digits : List ℕ) → AllDigits 10 digits → Lacks 47 digits
lacks_digits [] h = lacks_none
lacks_digits (c ∷ digits) h =
    let digit : digit_value c < 10 = h.0 in
    lacks_more c digits (λ e. grind arith) (lacks_digits digits h.1)

abbrev whole : List ℕ → Parts
whole digits = record { whole = digits; point = false; fraction = []; exponent_negative = false; exponent = []; len = length (digits ++ []) }

scan_decimal : (i : ℕ) → i < 2 ^ 64 → scan_numeral (decimal i) ≡ whole (decimal i)
scan_decimal i h =
    let e = decimal_is_IsNumeral i h in
    let formed : IsWellFormed (whole (decimal i)) = record { whole_digits = e.0.1; fraction_digits = tt; exponent_digits = tt; no_point = λ _. refl; no_exponent = λ _. refl; len_is = refl } in
    ap scan_numeral (sym (append-nil (decimal i))) ∙ scan_numeral-text_of (whole (decimal i)) formed

no_leading_zero : (i : ℕ) → i < 2 ^ 64 → ((length (decimal i) == 1) || not (get_or (decimal i) 0 0 == 48)) ≡ true
no_leading_zero i h =
    elim (cases_eq i 0) [
      | inl none ↦ rw (none, decimal_digit 0 (omega arith)) refl
      | inr some ↦
          let first = first_decimal i (omega arith) h in
          rw (ne_eqb (get_or (decimal i) 0 0) 48 (λ e. omega arith), or-true) refl
    ]

index_of-decimal : (i : ℕ) → i < 2 ^ 64 → index_of (decimal i) ≡ Some i
unfolding index_of
index_of-decimal i h =
    let e = decimal_is_IsNumeral i h in
    let some = decimal_nonempty i h in
    let start = no_leading_zero i h in
    let size = eq-eqb (length (decimal i)) (length (decimal i)) refl in
    rw (scan_decimal i h, append-nil, lt-ltb _ _ some, size, e.1, lt-ltb _ _ h, start) refl

step_to_item : (part e : Data) (i : ℕ) → i < 2 ^ 64 → at i part ≡ Some e → step (decimal i) part ≡ Some e
step_to_item null e i small h = cc h
step_to_item (boolean b) e i small h = cc h
step_to_item (number n) e i small h = cc h
step_to_item (string s) e i small h = cc h
step_to_item (array items) e i small h = ap (option_and_then (λ k. get_item k items)) (index_of-decimal i small) ∙ h
step_to_item (object members) e i small h = cc h

pub item_pointed_to : (place : List ℕ) (i : ℕ) (d part e : Data) → i < 2 ^ 64 → pointer place d ≡ Some part → at i part ≡ Some e
    → pointer (item_place place i) d ≡ Some e
item_pointed_to place i d part e small here found =
    let digits = lacks_digits (decimal i) (decimal_is_IsNumeral i small).0.1 in
    pointer_end place (decimal i) d part here ∙ walk_last (decimal i) part digits ∙ step_to_item part e i small found
