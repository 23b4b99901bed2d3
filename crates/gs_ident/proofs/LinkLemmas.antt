-- Two identities of one table have one link only if they are one identity.
use Rattle.std.proofs.Common.{◌≡◌, ℕ, zero, suc, ◌/◌, ◌%◌, ◌<◌, ◌≤◌, ◌==◌, ◌||◌, not, nat_lt, Bool, true, false, List, [], ◌∷◌, ◌++◌, Some, None, refl, sym, ap, subst, ◌∙◌, arith, ◌⊎◌, inl, inr, true≢false, append_assoc, ◌↔◌}
use Rattle.std.specs.List.{flat_map, list_all}
use Rattle.std.proofs.lemmas.List.{append_cancel_left}
use Rattle.std.proofs.lemmas.Bool.Decides.{nat_tests}
use Rattle.gs_chars.specs.Characters.{is_digit, are_digits}
use Rattle.gs_chars.specs.Escapes.{hex_digit}
use Rattle.gs_ai.specs.declared.pair.Pair.{Pair}
use Rattle.gs_ai.specs.declared.row.AiRow.{AiRow}
use Rattle.gs_ai.specs.declared.errors.ValueFault.TheVariants.{Unknown}
use Rattle.gs_ai.specs.Tables.{is_row, KeepsRules}
use Rattle.gs_ai.specs.Values.{has_code}
use Rattle.gs_chars.proofs.TruthsAndLists.{and_first, and_second, equal_bytes}
use Rattle.gs_ai.proofs.RowLemmas.{row_code, code_digits}
use Rattle.gs_ident.specs.Elements.{Elements, pairs_of}
use Rattle.gs_ident.specs.Identities.{IsInOrder, IsMadeWith}
use Rattle.gs_ident.specs.Links.{is_unescaped, escaped_byte, percent_encoded, path_step, query_part, query_of, spelled, canonical_stem, canonical_link}
use Rattle.gs_ident.proofs.PairLemmas.{two_ways, Each, each_from_all, found_passes, found_each, find_by_cases, place_left, place_right, pair_same}
use Rattle.std.proofs.lemmas.Bool.{and_from, not_from_false, false_from_ne_true}

-- ---- the four bytes that separate the pieces of a link

abbrev separates : ℕ → Bool
separates c = c == 47 || c == 63 || c == 38 || c == 61

abbrev is_free : List ℕ → Bool
is_free text = list_all (λ c. not (separates c)) text

-- the text is empty or goes on with a byte that separates
abbrev is_cut : List ℕ → Bool
is_cut [] = true
is_cut (c ∷ _) = separates c

clash_of : (c : ℕ) → not (separates c) ≡ true → separates c ≡ true → ⊥
clash_of c h k = true≢false (sym h ∙ ap not k)

cut : (a b x y : List ℕ) → is_free a ≡ true → is_free b ≡ true → is_cut x ≡ true → is_cut y ≡ true → a ++ x ≡ b ++ y → (a ≡ b) × (x ≡ y)
cut [] [] x y fa fb cx cy e = (refl, e)
cut [] (d ∷ b) x y fa fb cx cy e = absurd (clash_of d (and_first _ _ fb) (let f = rw e at cx in f))
cut (c ∷ a) [] x y fa fb cx cy e = absurd (clash_of c (and_first _ _ fa) (let f = rw (← e) at cy in f))
cut (c ∷ a) (d ∷ b) x y fa fb cx cy e =
    let head : c ≡ d = cc in
    let tail : a ++ x ≡ b ++ y = cc in
    let rest = cut a b x y (and_second _ _ fa) (and_second _ _ fb) cx cy tail in
    let same = rest.0 in
    (cc, rest.1)

-- ---- bytes that are not separators

digit_free : (c : ℕ) → is_digit c ≡ true → separates c ≡ false
digit_free c h = grind (arith, nat_tests)

digits_free : (text : List ℕ) → are_digits text ≡ true → is_free text ≡ true
digits_free [] h = refl
digits_free (c ∷ text) h = and_from _ _ (not_from_false _ (digit_free c (and_first _ _ h))) (digits_free text (and_second _ _ h))

four : (c : ℕ) → separates c ≡ true → (c ≡ 47) ⊎ ((c ≡ 63) ⊎ ((c ≡ 38) ⊎ (c ≡ 61)))
four c h = elim (two_ways (c == 47)) [
  | inl a ↦ inl (grind (arith, nat_tests))
  | inr a ↦ elim (two_ways (c == 63)) [
    | inl b ↦ inr (inl (grind (arith, nat_tests)))
    | inr b ↦ elim (two_ways (c == 38)) [
      | inl d ↦ inr (inr (inl (grind (arith, nat_tests))))
      | inr d ↦ inr (inr (inr (grind (arith, nat_tests))))
    ]
  ]
]

escaped_separators : (is_unescaped 47 ≡ false) × (is_unescaped 63 ≡ false) × (is_unescaped 38 ≡ false) × (is_unescaped 61 ≡ false)
unfolding is_unescaped
escaped_separators = (refl, refl, refl, refl)

pub escaped_percent : is_unescaped 37 ≡ false
unfolding is_unescaped
escaped_percent = refl

escaped_if : (c : ℕ) → separates c ≡ true → is_unescaped c ≡ false
escaped_if c h = elim (four c h) [
  | inl e ↦ ap is_unescaped e ∙ escaped_separators.0
  | inr r ↦ elim r [
    | inl e ↦ ap is_unescaped e ∙ escaped_separators.1
    | inr s ↦ elim s [ inl e ↦ ap is_unescaped e ∙ escaped_separators.2 | inr e ↦ ap is_unescaped e ∙ escaped_separators.3 ]
  ]
]

unescaped_free : (c : ℕ) → is_unescaped c ≡ true → separates c ≡ false
unescaped_free c h = false_from_ne_true (separates c) (λ s. true≢false (sym h ∙ escaped_if c s))

hex_free : (n : ℕ) → separates (hex_digit n) ≡ false
hex_free n = elim (two_ways (nat_lt n 10)) [
  | inl h ↦ rw h (let low : n < 10 = grind (arith, nat_tests) in grind (arith, nat_tests))
  | inr h ↦ rw h (let high : 10 ≤ n = grind (arith, nat_tests) in grind (arith, nat_tests))
]

byte_free : (c : ℕ) → is_free (escaped_byte c) ≡ true
byte_free c = elim (two_ways (is_unescaped c)) [
  | inl h ↦ rw h (and_from _ _ (not_from_false _ (unescaped_free c h)) refl)
  | inr h ↦ rw h (and_from _ _ (not_from_false _ (hex_free (c / 16))) (and_from _ _ (not_from_false _ (hex_free (c % 16))) refl))
]

free_append : (a b : List ℕ) → is_free a ≡ true → is_free b ≡ true → is_free (a ++ b) ≡ true
free_append [] b fa fb = fb
free_append (c ∷ a) b fa fb = and_from _ _ (and_first _ _ fa) (free_append a b (and_second _ _ fa) fb)

encoded_free : (value : List ℕ) → is_free (percent_encoded value) ≡ true
unfolding percent_encoded
encoded_free [] = refl
encoded_free (c ∷ value) = free_append (escaped_byte c) (percent_encoded value) (byte_free c) (encoded_free value)

-- ---- a value is given by its escapes

hex_known : (m n : ℕ) → hex_digit m ≡ hex_digit n → m ≡ n
hex_known m n e = elim (two_ways (nat_lt m 10)) [
  | inl a ↦ elim (two_ways (nat_lt n 10)) [
    | inl b ↦ let f = rw (a, b) at e in omega arith
    | inr b ↦ let f = rw (a, b) at e in let low : m < 10 = grind (arith, nat_tests) in let high : 10 ≤ n = grind (arith, nat_tests) in omega arith
  ]
  | inr a ↦ elim (two_ways (nat_lt n 10)) [
    | inl b ↦ let f = rw (a, b) at e in let high : 10 ≤ m = grind (arith, nat_tests) in let low : n < 10 = grind (arith, nat_tests) in omega arith
    | inr b ↦ let f = rw (a, b) at e in omega arith
  ]
]

same_code : (c d : ℕ) → c / 16 ≡ d / 16 → c % 16 ≡ d % 16 → c ≡ d
same_code c d q r = omega arith

byte_known : (c d : ℕ) (x y : List ℕ) → escaped_byte c ++ x ≡ escaped_byte d ++ y → (c ≡ d) × (x ≡ y)
byte_known c d x y e = elim (two_ways (is_unescaped c)) [
  | inl a ↦ elim (two_ways (is_unescaped d)) [
    | inl b ↦ let f = rw (a, b) at e in let g : c ∷ x ≡ d ∷ y = f in (cc, cc)
    | inr b ↦ let f = rw (a, b) at e in let g : c ∷ x ≡ 37 ∷ hex_digit (d / 16) ∷ hex_digit (d % 16) ∷ y = f in
        let percent : c ≡ 37 = cc in absurd (true≢false (sym a ∙ ap is_unescaped percent ∙ escaped_percent))
  ]
  | inr a ↦ elim (two_ways (is_unescaped d)) [
    | inl b ↦ let f = rw (a, b) at e in let g : 37 ∷ hex_digit (c / 16) ∷ hex_digit (c % 16) ∷ x ≡ d ∷ y = f in
        let percent : d ≡ 37 = cc in absurd (true≢false (sym b ∙ ap is_unescaped percent ∙ escaped_percent))
    | inr b ↦ let f = rw (a, b) at e in
        let g : 37 ∷ hex_digit (c / 16) ∷ hex_digit (c % 16) ∷ x ≡ 37 ∷ hex_digit (d / 16) ∷ hex_digit (d % 16) ∷ y = f in
        let high : hex_digit (c / 16) ≡ hex_digit (d / 16) = cc in
        let low : hex_digit (c % 16) ≡ hex_digit (d % 16) = cc in
        (same_code c d (hex_known (c / 16) (d / 16) high) (hex_known (c % 16) (d % 16) low), cc)
  ]
]

some_byte : (c : ℕ) (x : List ℕ) → escaped_byte c ++ x ≡ [] → ⊥
some_byte c x e = elim (two_ways (is_unescaped c)) [
  | inl a ↦ let f = rw a at e in let g : c ∷ x ≡ [] = f in cc
  | inr a ↦ let f = rw a at e in let g : 37 ∷ hex_digit (c / 16) ∷ hex_digit (c % 16) ∷ x ≡ [] = f in cc
]

value_known : (a b : List ℕ) → percent_encoded a ≡ percent_encoded b → a ≡ b
unfolding percent_encoded
value_known [] [] e = refl
value_known [] (d ∷ b) e = absurd (some_byte d (percent_encoded b) (sym e))
value_known (c ∷ a) [] e = absurd (some_byte c (percent_encoded a) e)
value_known (c ∷ a) (d ∷ b) e =
    let first = byte_known c d (percent_encoded a) (percent_encoded b) e in
    let rest = value_known a b first.1 in
    let head = first.0 in
    cc

-- ---- a pair is given by its code and its escaped value

-- a code, a byte that separates, and the escaped value
abbrev unit : ℕ → Pair → List ℕ
unit s p = p.code ++ s ∷ percent_encoded p.value

unit_known : (s : ℕ) (p q : Pair) (x y : List ℕ) → separates s ≡ true → is_free p.code ≡ true → is_free q.code ≡ true → is_cut x ≡ true
    → is_cut y ≡ true → unit s p ++ x ≡ unit s q ++ y → (p ≡ q) × (x ≡ y)
unit_known s p q x y sep fp fq cx cy e =
    let left : unit s p ++ x ≡ p.code ++ s ∷ (percent_encoded p.value ++ x) = append_assoc p.code (s ∷ percent_encoded p.value) x in
    let right : unit s q ++ y ≡ q.code ++ s ∷ (percent_encoded q.value ++ y) = append_assoc q.code (s ∷ percent_encoded q.value) y in
    let codes = cut p.code q.code (s ∷ (percent_encoded p.value ++ x)) (s ∷ (percent_encoded q.value ++ y)) fp fq sep sep (sym left ∙ e ∙ right) in
    let after = codes.1 in
    let rest : percent_encoded p.value ++ x ≡ percent_encoded q.value ++ y = cc in
    let values = cut (percent_encoded p.value) (percent_encoded q.value) x y (encoded_free p.value) (encoded_free q.value) cx cy rest in
    (pair_same p q codes.0 (value_known p.value q.value values.0), values.1)

-- each pair's code is free of bytes that separate
abbrev AllFree : List Pair → Type 0
AllFree [] = Unit {0}
AllFree (p ∷ ps) = (is_free p.code ≡ true) × AllFree ps

-- ---- the query

abbrev tails : List Pair → List ℕ
tails ps = flat_map (λ p. 38 ∷ query_part p) ps

tails_cut : (ps : List Pair) → is_cut (tails ps) ≡ true
tails_cut [] = refl
tails_cut (p ∷ ps) = refl

cons_same : (p q : Pair) (ps qs : List Pair) → p ≡ q → ps ≡ qs → p ∷ ps ≡ q ∷ qs
cons_same p q ps qs e f = λ i. e i ∷ f i

tails_known : (ps qs : List Pair) → AllFree ps → AllFree qs → tails ps ≡ tails qs → ps ≡ qs
tails_known [] [] fp fq e = refl
tails_known [] (q ∷ qs) fp fq e = absurd (let g : [] ≡ 38 ∷ (query_part q ++ tails qs) = e in cc)
tails_known (p ∷ ps) [] fp fq e = absurd (let g : 38 ∷ (query_part p ++ tails ps) ≡ [] = e in cc)
tails_known (p ∷ ps) (q ∷ qs) fp fq e =
    let g : 38 ∷ (query_part p ++ tails ps) ≡ 38 ∷ (query_part q ++ tails qs) = e in
    let inner : query_part p ++ tails ps ≡ query_part q ++ tails qs = cc in
    let known = unit_known 61 p q (tails ps) (tails qs) refl fp.0 fq.0 (tails_cut ps) (tails_cut qs) inner in
    cons_same p q ps qs known.0 (tails_known ps qs fp.1 fq.1 known.1)

query_known : (ps qs : List Pair) → AllFree ps → AllFree qs → query_of ps ≡ query_of qs → ps ≡ qs
query_known [] [] fp fq e = refl
query_known [] (q ∷ qs) fp fq e = absurd (let g : [] ≡ 63 ∷ (query_part q ++ tails qs) = e in cc)
query_known (p ∷ ps) [] fp fq e = absurd (let g : 63 ∷ (query_part p ++ tails ps) ≡ [] = e in cc)
query_known (p ∷ ps) (q ∷ qs) fp fq e =
    let g : 63 ∷ (query_part p ++ tails ps) ≡ 63 ∷ (query_part q ++ tails qs) = e in
    let inner : query_part p ++ tails ps ≡ query_part q ++ tails qs = cc in
    let known = unit_known 61 p q (tails ps) (tails qs) refl fp.0 fq.0 (tails_cut ps) (tails_cut qs) inner in
    cons_same p q ps qs known.0 (tails_known ps qs fp.1 fq.1 known.1)

-- ---- the path

abbrev steps : List Pair → List ℕ
steps ps = flat_map path_step ps

rest_cut : (ps us : List Pair) → is_cut (steps ps ++ query_of us) ≡ true
rest_cut [] [] = refl
rest_cut [] (a ∷ us) = refl
rest_cut (p ∷ ps) us = refl

step_out : (p : Pair) (ps us : List Pair) → steps (p ∷ ps) ++ query_of us ≡ 47 ∷ (unit 47 p ++ (steps ps ++ query_of us))
step_out p ps us = append_assoc (path_step p) (steps ps) (query_of us)

no_step : (q : Pair) (qs us vs : List Pair) → query_of us ≡ steps (q ∷ qs) ++ query_of vs → ⊥
no_step q qs [] vs e = let g : [] ≡ 47 ∷ (unit 47 q ++ (steps qs ++ query_of vs)) = e ∙ step_out q qs vs in cc
no_step q qs (a ∷ us) vs e = let g : 63 ∷ (query_part a ++ tails us) ≡ 47 ∷ (unit 47 q ++ (steps qs ++ query_of vs)) = e ∙ step_out q qs vs in
    let bad : 63 ≡ 47 = cc in absurd (true≢false (ap (λ (n : ℕ). n == 63) bad))

path_known : (ps qs us vs : List Pair) → AllFree ps → AllFree qs → steps ps ++ query_of us ≡ steps qs ++ query_of vs → (ps ≡ qs) × (query_of us ≡ query_of vs)
path_known [] [] us vs fp fq e = (refl, e)
path_known [] (q ∷ qs) us vs fp fq e = absurd (no_step q qs us vs e)
path_known (p ∷ ps) [] us vs fp fq e = absurd (no_step p ps vs us (sym e))
path_known (p ∷ ps) (q ∷ qs) us vs fp fq e =
    let g : 47 ∷ (unit 47 p ++ (steps ps ++ query_of us)) ≡ 47 ∷ (unit 47 q ++ (steps qs ++ query_of vs)) = sym (step_out p ps us) ∙ e ∙ step_out q qs vs in
    let inner : unit 47 p ++ (steps ps ++ query_of us) ≡ unit 47 q ++ (steps qs ++ query_of vs) = cc in
    let known = unit_known 47 p q (steps ps ++ query_of us) (steps qs ++ query_of vs) refl fp.0 fq.0 (rest_cut ps us) (rest_cut qs vs) inner in
    let rest = path_known ps qs us vs fp.1 fq.1 known.1 in
    (cons_same p q ps qs known.0 rest.0, rest.1)

-- ---- the link

in_shape : (stem : List ℕ) (a : Elements) → spelled stem a ≡ stem ++ (steps (a.key ∷ a.qualifiers) ++ query_of a.attributes)
in_shape stem a =
    append_assoc (stem ++ path_step a.key) (steps a.qualifiers) (query_of a.attributes)
    ∙ append_assoc stem (path_step a.key) (steps a.qualifiers ++ query_of a.attributes)
    ∙ ap (λ (text : List ℕ). stem ++ text) (sym (append_assoc (path_step a.key) (steps a.qualifiers) (query_of a.attributes)))

elements_same : (a b : Elements) → a.key ≡ b.key → a.qualifiers ≡ b.qualifiers → a.attributes ≡ b.attributes → a ≡ b
elements_same a b e f g = λ i. record { key = e i; qualifiers = f i; attributes = g i }

link_known : (stem : List ℕ) (a b : Elements) → AllFree (a.key ∷ a.qualifiers) → AllFree (b.key ∷ b.qualifiers) → AllFree a.attributes
    → AllFree b.attributes → spelled stem a ≡ spelled stem b → a ≡ b
link_known stem a b pa pb qa qb e =
    let body = append_cancel_left stem _ _ (sym (in_shape stem a) ∙ e ∙ in_shape stem b) in
    let known = path_known (a.key ∷ a.qualifiers) (b.key ∷ b.qualifiers) a.attributes b.attributes pa pb body in
    let paths = known.0 in
    let keys : a.key ≡ b.key = cc in
    let qualifiers : a.qualifiers ≡ b.qualifiers = cc in
    elements_same a b keys qualifiers (query_known a.attributes b.attributes qa qb known.1)

-- ---- the codes of a table

free_code : (rows : List AiRow) → KeepsRules rows → (pair : Pair) → IsInOrder rows pair → is_free pair.code ≡ true
free_code rows rules pair h = elim (find_by_cases (has_code pair.code) rows) [
  | inl found ↦
      let ok = found_each (λ row. is_row row ≡ true) (has_code pair.code) rows found.0 found.1 (λ j row at. (rules.rows_in_order j row at).0) in
      let same = equal_bytes pair.code found.0.code (found_passes (has_code pair.code) rows found.0 found.1) in
      let digits = code_digits found.0.code (row_code found.0 ok) in
      digits_free pair.code (subst (λ (code : List ℕ). are_digits code ≡ true) (sym same) digits)
  | inr none ↦ absurd (let f = rw none at h.fits in let g : Some Unknown ≡ None = f in cc)
]

all_free : (ps : List Pair) → Each (λ p. is_free p.code ≡ true) ps → AllFree ps
all_free [] a = tt
all_free (p ∷ ps) a = (a zero p refl, all_free ps (λ j q at. a (suc j) q at))

module _ (rows : List AiRow) (rules : KeepsRules rows) where
  free_each : (a : Elements) → IsMadeWith rows a → Each (λ p. is_free p.code ≡ true) (pairs_of a)
  free_each a made j pair at = free_code rows rules pair (each_from_all (IsInOrder rows) (pairs_of a) made.in_order j pair at)

  free_path : (a : Elements) → IsMadeWith rows a → AllFree (a.key ∷ a.qualifiers)
  free_path a made = (free_each a made zero a.key refl, all_free a.qualifiers (λ j pair at. free_each a made (suc j) pair (place_left a.qualifiers a.attributes j pair at)))

  free_query : (a : Elements) → IsMadeWith rows a → AllFree a.attributes
  free_query a made = all_free a.attributes (λ j pair at. let place = place_right a.qualifiers a.attributes j pair at in free_each a made (suc place.0) pair place.1)

  pub one_link_each : (a b : Elements) → IsMadeWith rows a → IsMadeWith rows b → (a ≡ b) ↔ (canonical_link a ≡ canonical_link b)
  one_link_each a b made_a made_b =
      (λ e. ap canonical_link e, λ e. link_known canonical_stem a b (free_path a made_a) (free_path b made_b) (free_query a made_a) (free_query b made_b) e)
