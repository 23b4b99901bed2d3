-- Elements with their codes in brackets: each is given by the text that it is before.
use Rattle.std.proofs.Common.{◌≡◌, ℕ, suc, ◌+◌, ◌<◌, ◌≤◌, ◌==◌, ◌&&◌, not, true, false, List, [], ◌∷◌, ◌++◌, length, take, drop, Option, Some, None, refl, sym, ap, ◌∙◌, append_assoc, arith, ◌⊎◌, inl, inr, true≢false}
use Rattle.std.specs.List.{position_or_len, take_while}
use Rattle.std.proofs.lemmas.Bool.Decides.{nat_tests}
use Rattle.std.proofs.Math.Seq.{drop-append_seam}
use Rattle.std.proofs.lemmas.List.{append_cancel_left}
use Rattle.std.proofs.lemmas.List.Sums.{take_while-cons}
use Rattle.memchr.specs.Find.{is_byte2}
use Rattle.gs_chars.specs.Characters.{are_digits, are_in_set82, is_digit, is_in_set82}
use Rattle.gs_chars.proofs.TruthsAndLists.{and_first, and_second, true_or_false, equal_number}
use Rattle.gs_ai.specs.declared.errors.ElementFault.{ElementFault}
use Rattle.gs_ai.specs.declared.errors.ElementWhy.TheVariants.{Value, Bracket}
use Rattle.gs_ai.specs.declared.errors.ValueFault.{ValueFault}
use Rattle.gs_ai.specs.declared.pair.Pair.{Pair}
use Rattle.gs_ai.specs.declared.row.AiRow.{AiRow}
use Rattle.gs_ai.specs.Tables.{is_code, is_empty, KeepsRules}
use Rattle.gs_ai.specs.Values.{value_error}
use Rattle.gs_ai.proofs.RowLemmas.{code_digits, code_long}
use Rattle.gs_ai.proofs.ValueLemmas.{code_of_row, value_in_set82}
use Rattle.gs_element.specs.BracketedTexts.{bracketed_element, bracketed_error, closed_code, code_front, front_error, is_cut, value_before, written_character, written_value, IsBracketedElement}
use Rattle.gs_element.specs.BracketedSupport.{is_escape}
use Rattle.gs_element.proofs.JoinLemmas.{IsBlocked, IsGreedy, IsKnown}
use Rattle.std.proofs.lemmas.Bool.{or_parts, false_from_ne_true}

-- ---- codes

-- digits up to a character that is not a digit
digits_before : (code : List ℕ) (c : ℕ) (after : List ℕ) → are_digits code ≡ true → is_digit c ≡ false → take_while is_digit (code ++ c ∷ after) ≡ code
digits_before [] c after digits other = take_while-cons is_digit c after ∙ (rw other refl)
digits_before (d ∷ code) c after digits other =
    let first : is_digit d ≡ true = and_first _ _ digits in
    take_while-cons is_digit d (code ++ c ∷ after) ∙ (rw first (ap (λ (x : List ℕ). d ∷ x) (digits_before code c after (and_second _ _ digits) other)))

no_end : is_digit 41 ≡ false
no_end = refl

some_code : (code : List ℕ) → is_code code ≡ true → is_empty code ≡ false
some_code code ok = by code (code_long code ok)
  where
    by : (code : List ℕ) → 2 ≤ length code → is_empty code ≡ false
    by [] long = absurd (omega arith)
    by (c ∷ code) long = refl

closed_known : (code text : List ℕ) → is_empty code ≡ false → closed_code code (41 ∷ text) ≡ Some (code, text)
closed_known code text some = rw some refl

-- the code is the start of the text
pub code_known : (code text : List ℕ) → is_code code ≡ true → code_front (40 ∷ (code ++ 41 ∷ text)) ≡ Some (code, text)
code_known code text ok =
    let front = digits_before code 41 text (code_digits code ok) no_end in
    rw (front, drop-append_seam code (41 ∷ text)) (closed_known code text (some_code code ok))

-- ---- values

backslash_outside : is_in_set82 92 ≡ false
unfolding is_in_set82
backslash_outside = refl

no_backslash : (c : ℕ) → is_in_set82 c ≡ true → (c == 92) ≡ false
no_backslash c h = false_from_ne_true (c == 92) (λ e. let same : c ≡ 92 = grind (arith, nat_tests) in true≢false (sym h ∙ ap is_in_set82 same ∙ backslash_outside))

pub value_none : (after : List ℕ) → is_cut after ≡ true → value_before after ≡ []
value_none [] cut = refl
value_none (c ∷ []) cut = rw cut refl
value_none (c ∷ d ∷ after) cut = rw cut refl

-- one character, and then the others
value_one : (c : ℕ) (text : List ℕ) → (c == 40) ≡ false → (c == 92) ≡ false → value_before (c ∷ text) ≡ c ∷ value_before text
value_one c [] other plain = rw other refl
value_one c (d ∷ text) other plain = rw (other, plain) refl

-- ---- the next character of a value

other_number : (a b : ℕ) → (a ≡ b → ⊥) → (a == b) ≡ false
other_number a b h = grind (arith, nat_tests)

pub none_next : (text : List ℕ) → length text ≡ 0 → (value_before text ≡ []) × (is_cut text ≡ true)
none_next [] none = (refl, refl)
none_next (c ∷ text) none = absurd (omega arith)

pub bracket_next : (text : List ℕ) (c : ℕ) (rest : List ℕ) → text ≡ c ∷ rest → c ≡ 40 → (value_before text ≡ []) × (is_cut text ≡ true)
bracket_next text c rest e is =
    let whole : text ≡ 40 ∷ rest = e ∙ ap (λ (x : ℕ). x ∷ rest) is in
    let cut : is_cut text ≡ true = rw whole refl in
    (value_none text cut, cut)

pub some_behind : (c : ℕ) (rest : List ℕ) → is_escape c rest ≡ true → 1 ≤ length rest
some_behind c [] h = absurd (true≢false (sym h))
some_behind c (d ∷ rest) h = omega arith

pub escape_next : (text : List ℕ) (c : ℕ) (rest left : List ℕ) → text ≡ c ∷ rest → is_escape c rest ≡ true → left ≡ drop 1 rest
    → (value_before text ≡ 40 ∷ value_before left) × (text ≡ 92 ∷ 40 ∷ left)
escape_next text c [] left e h l = absurd (true≢false (sym h))
escape_next text c (d ∷ rest) left e h l =
    let first : c ≡ 92 = equal_number c 92 (and_first (c == 92) (d == 40) h) in
    let second : d ≡ 40 = equal_number d 40 (and_second (c == 92) (d == 40) h) in
    let whole : text ≡ 92 ∷ 40 ∷ rest = e ∙ ap (λ (x : ℕ). x ∷ d ∷ rest) first ∙ ap (λ (x : ℕ). 92 ∷ x ∷ rest) second in
    let same : left ≡ rest = l in
    rw (whole, same) (refl, refl)

pub plain_next : (text : List ℕ) (c : ℕ) (rest : List ℕ) → text ≡ c ∷ rest → (c ≡ 40 → ⊥) → is_escape c rest ≡ false
    → (value_before text ≡ c ∷ value_before rest) × (text ≡ written_character c ++ rest)
plain_next text c [] e other plain = let o = other_number c 40 other in rw e (rw o (refl, refl))
plain_next text c (d ∷ rest) e other plain = let o = other_number c 40 other in rw e (rw (o, plain) (refl, refl))

-- the characters before the first opening bracket or backslash stand for themselves
pub plain_front : (text : List ℕ)
    → (value_before text ≡ take (position_or_len (is_byte2 40 92) text) text ++ value_before (drop (position_or_len (is_byte2 40 92) text) text)) × (text ≡ written_value (take (position_or_len (is_byte2 40 92) text) text) ++ drop (position_or_len (is_byte2 40 92) text) text)
plain_front [] = (refl, refl)
plain_front (c ∷ text) = elim (true_or_false (is_byte2 40 92 c)) [
  | inl ends ↦ rw ends (refl, refl)
  | inr plain ↦
      let both = or_parts (c == 40) (c == 92) plain in
      let rest = plain_front text in
      let e : 1 + position_or_len (is_byte2 40 92) text ≡ suc (position_or_len (is_byte2 40 92) text) = omega arith in
      rw (plain, e, both.0) (value_one c text both.0 both.1 ∙ ap (λ (x : List ℕ). c ∷ x) rest.0, ap (λ (x : List ℕ). c ∷ x) rest.1)
]

-- the written form of a value is read as the value
pub value_known : (value after : List ℕ) → are_in_set82 value ≡ true → is_cut after ≡ true → value_before (written_value value ++ after) ≡ value
value_known [] after plain cut = value_none after cut
value_known (c ∷ value) after plain cut =
    let rest = value_known value after (and_second _ _ plain) cut in
    elim (true_or_false (c == 40)) [
      | inl is ↦
          let same : c ≡ 40 = grind (arith, nat_tests) in
          rw is (ap (λ (x : List ℕ). 40 ∷ x) rest ∙ ap (λ (d : ℕ). d ∷ value) (sym same))
      | inr other ↦ rw other (value_one c (written_value value ++ after) other (no_backslash c (and_first _ _ plain)) ∙ ap (λ (x : List ℕ). c ∷ x) rest)
    ]

-- a text is the written form of the value at its start, and then a cut
pub record IsValueFront (text : List ℕ) : Type 0 where
  pub after : List ℕ
  pub text_is : text ≡ written_value (value_before text) ++ after
  pub cut : is_cut after ≡ true

pub value_front : (text : List ℕ) → IsValueFront text
value_front [] = record { after = []; text_is = refl; cut = refl }
value_front (c ∷ []) = elim (true_or_false (c == 40)) [
  | inl is ↦ record { after = c ∷ []; text_is = rw is refl; cut = is }
  | inr other ↦ record { after = []; text_is = rw (other, other) refl; cut = refl }
]
value_front (c ∷ d ∷ text) =
    let rest = value_front (d ∷ text) in
    let later = value_front text in
    elim (true_or_false (c == 40)) [
      | inl is ↦ record { after = c ∷ d ∷ text; text_is = rw is refl; cut = is }
      | inr other ↦ elim (true_or_false ((c == 92) && (d == 40))) [
        | inl pair ↦
            let first : c ≡ 92 = grind (arith, nat_tests) in
            let second : d ≡ 40 = grind (arith, nat_tests) in
            record {
              after = later.after;
              text_is = rw (other, pair) (ap (λ (x : ℕ). x ∷ d ∷ text) first ∙ ap (λ (x : ℕ). 92 ∷ x ∷ text) second ∙ ap (λ (x : List ℕ). 92 ∷ 40 ∷ x) later.text_is);
              cut = later.cut;
            }
        | inr apart ↦ record {
          after = rest.after;
          text_is = rw (other, apart, other) (ap (λ (x : List ℕ). c ∷ x) rest.text_is);
          cut = rest.cut;
        }
      ]
    ]

-- ---- elements

module _ (rows : List AiRow) (rules : KeepsRules rows) where
  abbrev Element : Pair → List ℕ → List ℕ → Type 0
  Element = IsBracketedElement rows

  in_shape : (pair : Pair) (text after : List ℕ) → Element pair text after → text ≡ 40 ∷ (pair.code ++ 41 ∷ (written_value pair.value ++ after))
  in_shape pair text after h = h.text_is ∙ ap (λ (x : List ℕ). 40 ∷ x) (append_assoc pair.code (41 ∷ written_value pair.value) after)

  code_is : (pair : Pair) (text after : List ℕ) → Element pair text after → code_front text ≡ Some (pair.code, written_value pair.value ++ after)
  code_is pair text after h = ap code_front (in_shape pair text after h) ∙ code_known pair.code (written_value pair.value ++ after)
      (code_of_row rows rules pair.code pair.value h.in_order.fits)

  value_is : (pair : Pair) (text after : List ℕ) → Element pair text after → value_before (written_value pair.value ++ after) ≡ pair.value
  value_is pair text after h = value_known pair.value after (value_in_set82 rows pair.code pair.value h.in_order.fits) h.cut

  ends : (pair : Pair) (text after : List ℕ) → Element pair text after → (before : List ℕ) × (text ≡ before ++ after) × (0 < length before)
  ends pair text after h = (bracketed_element pair, h.text_is, omega arith)

  -- both parts of the text after a bracket
  record SameFront (p q : Pair) (a b : List ℕ) : Type 0 where
    codes : p.code ≡ q.code
    texts : written_value p.value ++ a ≡ written_value q.value ++ b

  same_parts : (x y : List ℕ × List ℕ) → Some x ≡ Some y → (x.0 ≡ y.0) × (x.1 ≡ y.1)
  same_parts x y e = let f : x ≡ y = cc in (ap (λ (z : List ℕ × List ℕ). z.0) f, ap (λ (z : List ℕ × List ℕ). z.1) f)

  same_known : (text : List ℕ) (p q : Pair) (a b : List ℕ) → Element p text a → Element q text b → SameFront p q a b
  same_known text p q a b h k =
      let both = same_parts (p.code, written_value p.value ++ a) (q.code, written_value q.value ++ b) (sym (code_is p text a h) ∙ code_is q text b k) in
      record { codes = both.0; texts = both.1 }

  same_value : (text : List ℕ) (p q : Pair) (a b : List ℕ) → Element p text a → Element q text b → p.value ≡ q.value
  same_value text p q a b h k = sym (value_is p text a h) ∙ ap value_before (same_known text p q a b h k).texts ∙ value_is q text b k

  same_pair : (text : List ℕ) (p q : Pair) (a b : List ℕ) → Element p text a → Element q text b → p ≡ q
  same_pair text p q a b h k =
      let codes = (same_known text p q a b h k).codes in
      let values = same_value text p q a b h k in
      λ i. record { code = codes i; value = values i }

  same_rest : (text : List ℕ) (p q : Pair) (a b : List ℕ) → Element p text a → Element q text b → b ≡ a
  same_rest text p q a b h k =
      let texts = (same_known text p q a b h k).texts in
      let values = same_value text p q a b h k in
      sym (append_cancel_left (written_value p.value) a b (texts ∙ ap (λ (v : List ℕ). written_value v ++ b) (sym values)))

  pub greedy_known : (p : Pair) (text a : List ℕ) → Element p text a → IsGreedy Element text a
  greedy_known p text a h q b k = inl (same_rest text p q a b h k)

  -- ---- errors

  empty_blocked : IsBlocked Element []
  empty_blocked pair after h = absurd (let e : [] ≡ 40 ∷ (pair.code ++ 41 ∷ (written_value pair.value ++ after)) = in_shape pair [] after h in cc)

  error_known : (pair : Pair) (c : ℕ) (text after : List ℕ) → Element pair (c ∷ text) after → bracketed_error rows (c ∷ text) ≡ None
  error_known pair c text after h =
      let front = ap (front_error rows) (code_is pair (c ∷ text) after h) in
      let value = value_is pair (c ∷ text) after h in
      front ∙ (rw (value, h.in_order.fits) refl)

  pub blocked : (text : List ℕ) (error : ElementFault) → bracketed_error rows text ≡ Some error → IsBlocked Element text
  blocked [] error e = empty_blocked
  blocked (c ∷ text) error e = λ pair after h. absurd (let f : None ≡ Some error = sym (error_known pair c text after h) ∙ e in cc)

  -- ---- an element is cut

  closed_shape : (digits text code after : List ℕ) → closed_code digits text ≡ Some (code, after) → (digits ≡ code) × (text ≡ 41 ∷ after)
  closed_shape digits [] code after e = absurd (let f : None ≡ Some (code, after) = e in cc)
  closed_shape digits (c ∷ text) code after e = elim (true_or_false (not (is_empty digits) && (c == 41))) [
    | inl h ↦
        let f = rw h at e in
        let both = same_parts (digits, text) (code, after) f in
        let last = and_second (not (is_empty digits)) (c == 41) h in
        let same : c ≡ 41 = grind (arith, nat_tests) in
        (both.0, ap (λ (x : ℕ). x ∷ text) same ∙ ap (λ (x : List ℕ). 41 ∷ x) both.1)
    | inr h ↦ absurd (let f = rw h at e in let g : None ≡ Some (code, after) = f in cc)
  ]

  -- a code at the start is written so
  pub code_shape : (text code after : List ℕ) → code_front text ≡ Some (code, after) → text ≡ 40 ∷ (code ++ 41 ∷ after)
  code_shape [] code after e = absurd (let f : None ≡ Some (code, after) = e in cc)
  code_shape (c ∷ text) code after e = elim (true_or_false (c == 40)) [
    | inl h ↦
        let f = rw h at e in
        let same : c ≡ 40 = grind (arith, nat_tests) in
        let digits = take_while is_digit text in
        let parts = closed_shape digits (drop (length digits) text) code after f in
        let whole : digits ++ drop (length digits) text ≡ text = digits_split text in
        ap (λ (x : ℕ). x ∷ text) same ∙ ap (λ (x : List ℕ). 40 ∷ x) (sym whole ∙ ap (λ (x : List ℕ). x ++ drop (length digits) text) parts.0 ∙ ap (λ (x : List ℕ). code ++ x) parts.1)
    | inr h ↦ absurd (let f = rw h at e in let g : None ≡ Some (code, after) = f in cc)
  ]
    where
      digits_split : (xs : List ℕ) → take_while is_digit xs ++ drop (length (take_while is_digit xs)) xs ≡ xs
      digits_split [] = refl
      digits_split (x ∷ xs) = elim (true_or_false (is_digit x)) [
        | inl h ↦ rw (take_while-cons is_digit x xs, h) (ap (λ (ys : List ℕ). x ∷ ys) (digits_split xs))
        | inr h ↦ rw (take_while-cons is_digit x xs, h) refl
      ]

  pub cut_is : (text code value behind after : List ℕ) → code_front text ≡ Some (code, behind) → value_error rows code value ≡ None
      → behind ≡ written_value value ++ after → is_cut after ≡ true → Element (record { code = code; value = value }) text after
  cut_is text code value behind after front fits value_text cut = record {
    text_is = code_shape text code behind front ∙ ap (λ (x : List ℕ). 40 ∷ (code ++ 41 ∷ x)) value_text ∙ sym
        (ap (λ (x : List ℕ). 40 ∷ x) (append_assoc code (41 ∷ written_value value) after));
    in_order = record { fits = fits };
    cut = cut;
  }

  abbrev GoesOn : List ℕ → Type 0
  GoesOn text = ((error : ElementFault) × (bracketed_error rows text ≡ Some error)) ⊎ ((pair : Pair) × ((next : List ℕ) × (Element pair text next × IsGreedy Element text next)))

  goes_by_value : (c : ℕ) (text code behind : List ℕ) → code_front (c ∷ text) ≡ Some (code, behind) → (f : Option ValueFault)
      → value_error rows code (value_before behind) ≡ f → GoesOn (c ∷ text)
  goes_by_value c text code behind e (Some f) h = inl (record { at = 1; why = Value f }, ap (front_error rows) e ∙ (rw h refl))
  goes_by_value c text code behind e None h =
      let value = value_front behind in
      let element = cut_is (c ∷ text) code (value_before behind) behind value.after e h value.text_is value.cut in
      inr (record { code = code; value = value_before behind }, (value.after, (element, greedy_known (record { code = code; value = value_before behind }) (c ∷ text) value.after element)))

  goes_by_code : (c : ℕ) (text : List ℕ) (r : Option (List ℕ × List ℕ)) → code_front (c ∷ text) ≡ r → GoesOn (c ∷ text)
  goes_by_code c text None e = inl (record { at = 0; why = Bracket }, ap (front_error rows) e)
  goes_by_code c text (Some front) e = goes_by_value c text front.0 front.1 e (value_error rows front.0 (value_before front.1)) refl

  goes_on : (c : ℕ) (text : List ℕ) → GoesOn (c ∷ text)
  goes_on c text = goes_by_code c text (code_front (c ∷ text)) refl

  pub bracketed_known : IsKnown Element (bracketed_error rows)
  bracketed_known = record { ends = ends; same_pair = same_pair; blocked = blocked; goes_on = goes_on; greedy = λ p text a h. inl (greedy_known p text a h); none_at_end = refl }

-- no code at the start
pub no_code : (rows : List AiRow) (text : List ℕ) → 0 < length text → None ≡ code_front text → bracketed_error rows text ≡ Some
    (record { at = 0; why = Bracket })
no_code rows [] some e = absurd (omega arith)
no_code rows (c ∷ text) some e = ap (front_error rows) (sym e)

-- an error of the value after the code at the start
pub no_value : (rows : List AiRow) (text code behind value : List ℕ) (error : ValueFault) → 0 < length text → Some
    (code, behind) ≡ code_front text → value ≡ value_before behind → value_error rows code value ≡ Some error
    → bracketed_error rows text ≡ Some (record { at = 1; why = Value error })
no_value rows [] code behind value error some e v f = absurd (omega arith)
no_value rows (c ∷ text) code behind value error some e v f = ap (front_error rows) (sym e) ∙ (rw (← v, f) refl)
