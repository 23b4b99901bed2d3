-- The parts of a template are the one cut of it into places and single bytes.
use Rattle.std.proofs.Common.{◌≡◌, ℕ, zero, suc, ◌==◌, ◌&&◌, Bool, true, false, if◌then◌else◌, List, [], ◌∷◌, ◌++◌, length, take, drop, refl, sym, ap, ◌∙◌, subst, arith}
use Rattle.std.specs.Prelude.{nat_le, slice_get}
use Rattle.std.specs.Option.{option_map_or}
use Rattle.std.proofs.lemmas.List.{append_assoc, length-take-le, take_at}
use Rattle.std.proofs.lemmas.Bool.{eqb-true}
use Rattle.std.proofs.lemmas.Bool.Decides.{nat_tests}
use Rattle.gs_chars.proofs.TruthsAndLists.{and_first, and_second}
use Rattle.gs_chars.specs.Characters.{are_digits, is_digit}
use Rattle.gs_ai.specs.Tables.{is_code}
use Rattle.gs_template.proofs.TemplateLemmas.{closed_at, closed_within, drop_over, drop_zero, size_is}
use Rattle.gs_template.specs.Templates.{AreParts, IsPart, Part, bytes_behind, code_size, is_closed, itself, part_of, parts, parts_behind, place, place_size}

-- ---- a code before a closing brace

closing_open : (c : ℕ) → is_digit c ≡ true → (c == 125) ≡ false
closing_open c h = by (c == 125) refl
  where
    by : (b : Bool) → (c == 125) ≡ b → b ≡ false
    by false e = refl
    by true e = absurd (let k : false ≡ true = subst (λ n. is_digit n ≡ true) (eqb-true c 125 e) h in cc)

not_long : (n : ℕ) → nat_le (suc (suc (suc (suc (suc n))))) 4 ≡ true → ⊥
not_long n h = grind (arith, nat_tests)

-- a code has the size of its digits
size_here : (code rest : List ℕ) → is_code code ≡ true → code_size (code ++ 125 ∷ rest) ≡ length code
unfolding code_size
size_here [] rest h = absurd (let k : false ≡ true = h in cc)
size_here (a ∷ []) rest h = absurd (let k : false ≡ true = and_second (are_digits (a ∷ [])) false (and_first (are_digits (a ∷ []) && false) true h) in cc)
size_here (a ∷ b ∷ []) rest h =
    let digits = and_first (are_digits (a ∷ b ∷ [])) true (and_first (are_digits (a ∷ b ∷ []) && true) true h) in
    rw digits refl
size_here (a ∷ b ∷ d ∷ []) rest h =
    let all = a ∷ b ∷ d ∷ [] in
    let digits = and_first (are_digits all) true (and_first (are_digits all && true) true h) in
    let third = and_first (is_digit d) true (and_second (is_digit b) (is_digit d && true) (and_second (is_digit a) (is_digit b && (is_digit d && true)) digits)) in
    rw (closing_open d third, digits) refl
size_here (a ∷ b ∷ d ∷ e ∷ []) rest h =
    let all = a ∷ b ∷ d ∷ e ∷ [] in
    let digits = and_first (are_digits all) true (and_first (are_digits all && true) true h) in
    let behind = and_second (is_digit b) (is_digit d && (is_digit e && true)) (and_second (is_digit a) (is_digit b && (is_digit d && (is_digit e && true))) digits) in
    let third = and_first (is_digit d) (is_digit e && true) behind in
    let fourth = and_first (is_digit e) true (and_second (is_digit d) (is_digit e && true) behind) in
    rw (closing_open d third, closing_open e fourth, digits) refl
size_here (a ∷ b ∷ d ∷ e ∷ f ∷ code) rest h =
    let all = a ∷ b ∷ d ∷ e ∷ f ∷ code in
    absurd (not_long (length code) (and_second (are_digits all && nat_le 2 (length all)) (nat_le (length all) 4) h))

code_at : (text : List ℕ) (k : ℕ) → is_closed k text ≡ true → nat_le 2 k ≡ true → nat_le k 4 ≡ true → is_code (take k text) ≡ true
code_at text k h low high =
    let closed = and_first (option_map_or (λ c. c == 125) (slice_get text k) false) (are_digits (take k text)) h in
    let digits = and_second (option_map_or (λ c. c == 125) (slice_get text k) false) (are_digits (take k text)) h in
    let within = closed_within text k closed in
    let size = length-take-le k text (omega (arith, within)) in
    rw (digits, size, low, high) refl

-- the meaning of a size: that many digits, which are a code
code_here : (text : List ℕ) (n : ℕ) → code_size text ≡ suc n → is_code (take (suc n) text) ≡ true
unfolding code_size
code_here text n h = by (is_closed 2 text) (is_closed 3 text) (is_closed 4 text) refl refl refl h
  where
    by : (a b d : Bool) → is_closed 2 text ≡ a → is_closed 3 text ≡ b → is_closed 4 text ≡ d
        → (if a then 2 else if b then 3 else if d then 4 else 0) ≡ suc n → is_code (take (suc n) text) ≡ true
    by true b d e f g h = subst (λ m. is_code (take m text) ≡ true) h (code_at text 2 e refl refl)
    by false true d e f g h = subst (λ m. is_code (take m text) ≡ true) h (code_at text 3 f refl refl)
    by false false true e f g h = subst (λ m. is_code (take m text) ≡ true) h (code_at text 4 g refl refl)
    by false false false e f g h = absurd (let k : 0 ≡ suc n = h in cc)

-- a code has digits
has_digits : (code : List ℕ) → is_code code ≡ true → length code ≡ 0 → ⊥
has_digits code is none =
    let low = and_second (are_digits code) (nat_le 2 (length code)) (and_first (are_digits code && nat_le 2 (length code)) (nat_le (length code) 4) is) in
    let k : false ≡ true = rw none at low in cc

-- ---- one part

behind_drop : (n : ℕ) (text : List ℕ) → parts_behind n text ≡ parts (drop n text)
behind_drop zero [] = refl
behind_drop zero (c ∷ text) = refl
behind_drop (suc n) [] = refl
behind_drop (suc n) (c ∷ text) = behind_drop n text

part_here : (c : ℕ) (text : List ℕ) (n : ℕ) → place_size c text ≡ n → IsPart (part_of c text n) (c ∷ text) (drop (bytes_behind n) text)
part_here c text zero h = (rw (drop_zero text) refl, none)
  where
    head : List ℕ → ℕ
    head [] = 0
    head (x ∷ xs) = x

    tail : List ℕ → List ℕ
    tail [] = []
    tail (x ∷ xs) = xs

    none : (code after : List ℕ) → c ∷ text ≡ 123 ∷ (code ++ 125 ∷ after) → is_code code ≡ true → ⊥
    none code after e is =
        let brace : c ≡ 123 = ap head e in
        let behind : text ≡ code ++ 125 ∷ after = ap tail e in
        let size : code_size (code ++ 125 ∷ after) ≡ 0 = rw (brace, behind) at h in
        has_digits code is (sym (size_here code after is) ∙ size)
part_here c text (suc n) h =
    let found = size_is c text n h in
    let brace = found.0 in
    let code = take (suc n) text in
    let rest = drop (bytes_behind (suc n)) text in
    let size : code_size text ≡ suc n = rw brace at h in
    let closed = closed_at text (suc n) (and_first (option_map_or (λ c. c == 125) (slice_get text (suc n)) false) (are_digits code) found.1) in
    let text_is : text ≡ code ++ 125 ∷ rest = sym closed ∙ append_assoc code (125 ∷ []) rest in
    (ap (λ x. x ∷ text) brace ∙ ap (λ xs. 123 ∷ xs) text_is, code_here text n size)

-- no place begins at a byte that stands for itself
no_size : (c : ℕ) (rest : List ℕ) (n : ℕ) → place_size c rest ≡ n
    → ((code after : List ℕ) → c ∷ rest ≡ 123 ∷ (code ++ 125 ∷ after) → is_code code ≡ true → ⊥) → n ≡ 0
no_size c rest zero h none = refl
no_size c rest (suc n) h none =
    let part = part_here c rest (suc n) h in
    absurd (none (take (suc n) rest) (drop (bytes_behind (suc n)) rest) part.0 part.1)

first_itself : (c : ℕ) (rest : List ℕ) → place_size c rest ≡ 0 → itself c ∷ parts rest ≡ parts (c ∷ rest)
first_itself c rest h = rw h refl

first_by : (code rest : List ℕ) (n : ℕ) → n ≡ length code → is_code code ≡ true
    → place code ∷ parts rest ≡ part_of 123 (code ++ 125 ∷ rest) n ∷ parts_behind (bytes_behind n) (code ++ 125 ∷ rest)
first_by code rest zero e is = absurd (has_digits code is (sym e))
first_by code rest (suc n) e is =
    rw (behind_drop (suc (suc n)) (code ++ 125 ∷ rest), e, take_at code (125 ∷ rest) (length code) refl, drop_over code 125 rest) refl

first_place : (code rest : List ℕ) → is_code code ≡ true → place code ∷ parts rest ≡ parts (123 ∷ (code ++ 125 ∷ rest))
first_place code rest is = rw (size_here code rest is) (first_by code rest (length code) refl is)

-- ---- all parts

parts_from : (n : ℕ) (text : List ℕ) → AreParts (parts_behind n text) (drop n text)
parts_from zero [] = refl
parts_from (suc n) [] = refl
parts_from (suc n) (c ∷ text) = parts_from n text
parts_from zero (c ∷ text) =
    let n = place_size c text in
    (drop (bytes_behind n) text, part_here c text n refl, parts_from (bytes_behind n) text)

pub parts_are : (text : List ℕ) → AreParts (parts text) text
parts_are text = rw (drop_zero text) at (parts_from 0 text)

pub parts_unique : (found : List Part) (text : List ℕ) → AreParts found text → found ≡ parts text
parts_unique [] text is = rw is refl
parts_unique (itself c ∷ found) text (rest, one, more) =
    let size = no_size c rest (place_size c rest) refl (λ code after e is. one.1 code after (one.0 ∙ e) is) in
    ap (λ ps. itself c ∷ ps) (parts_unique found rest more) ∙ first_itself c rest size ∙ ap (λ xs. parts xs) (sym one.0)
parts_unique (place code ∷ found) text (rest, one, more) =
    ap (λ ps. place code ∷ ps) (parts_unique found rest more) ∙ first_place code rest one.1 ∙ ap (λ xs. parts xs) (sym one.0)
