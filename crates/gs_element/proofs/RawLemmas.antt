-- Elements in a symbol: each is determined by the text at which it begins.
use Rattle.std.proofs.Common.{◌≡◌, ℕ, zero, suc, ◌+◌, ◌-◌, ◌<◌, ◌≤◌, ◌==◌, not, Bool, true, false, List, [], ◌∷◌, ◌++◌, length, take, drop, position, find, Option, Some, None, IsSome, get_or, slice_get, refl, sym, ap, subst, ◌∙◌, append_assoc, arith, ◌⊎◌, inl, inr, true≢false, length-append}
use Rattle.std.specs.List.{before_first}
use Rattle.std.specs.Option.{option_and_then, option_map_or}
use Rattle.std.proofs.Math.Seq.{drop-append_seam, take-append_seam}
use Rattle.std.proofs.lemmas.Bool.Decides.{nat_tests}
use Rattle.std.proofs.lemmas.List.{length-take, take-append-drop}
use Rattle.std.proofs.lemmas.List.Sums.{take_while-cons}
use Rattle.gs_chars.specs.Characters.{are_digits, are_in_set82, is_digit, is_in_set82}
use Rattle.gs_chars.proofs.TruthsAndLists.{and_first, and_second, equal_bytes, read_at, same_bytes, true_or_false}
use Rattle.gs_ai.specs.declared.errors.ElementFault.{ElementFault}
use Rattle.gs_ai.specs.declared.errors.ElementWhy.TheVariants.{Value}
use Rattle.gs_ai.specs.declared.errors.ValueFault.{ValueFault}
use Rattle.gs_ai.specs.declared.errors.ValueFault.TheVariants.{Unknown}
use Rattle.gs_ai.specs.declared.pair.Pair.{Pair}
use Rattle.gs_ai.specs.declared.row.AiRow.{AiRow}
use Rattle.gs_ai.specs.PredefinedLengths.{predefined_length}
use Rattle.gs_ai.specs.Tables.{begins, is_code, row_at, KeepsRules}
use Rattle.gs_ai.specs.Values.{has_code, row_error, value_error}
use Rattle.gs_ai.proofs.RowLemmas.{code_digits, code_long}
use Rattle.gs_ai.proofs.TableLemmas.{begun, one_begins}
use Rattle.gs_ai.proofs.ValueLemmas.{code_of_row, of_row, predefined_kept, value_in_set82}
use Rattle.gs_ident.proofs.PairLemmas.{found_passes, pair_same}
use Rattle.gs_element.specs.Raw.{raw_error, raw_value, raw_value_error, IsRawElement}
use Rattle.gs_element.specs.RawSupport.{without_separator, IsCutFrom}
use Rattle.gs_element.proofs.JoinLemmas.{IsBlocked, IsGreedy, IsKnown}
use Rattle.gs_chars.proofs.Searches.{find_at_place, find_none, find_read, position_is, position_some, position_within}
use Rattle.std.proofs.lemmas.Bool.{false_from_ne_true}

-- ---- codes and values

pub begins_append : (a b : List ℕ) → begins a (a ++ b) ≡ true
begins_append a b = rw (take-append_seam a b) (same_bytes a)

-- the first character of a code is a digit
pub record IsDigitFront (code : List ℕ) : Type 0 where
  pub digit : ℕ
  pub others : List ℕ
  pub is : code ≡ digit ∷ others
  pub of_digits : is_digit digit ≡ true

pub digit_front : (code : List ℕ) → is_code code ≡ true → IsDigitFront code
digit_front code ok = by code (code_long code ok) (code_digits code ok)
  where
    by : (code : List ℕ) → 2 ≤ length code → are_digits code ≡ true → IsDigitFront code
    by [] long digits = absurd (omega arith)
    by (d ∷ rest) long digits = record { digit = d; others = rest; is = refl; of_digits = and_first _ _ digits }

separator_outside : is_in_set82 29 ≡ false
unfolding is_in_set82
separator_outside = refl

no_separator : (c : ℕ) → is_in_set82 c ≡ true → (c == 29) ≡ false
no_separator c h = false_from_ne_true (c == 29) (λ e. let same : c ≡ 29 = grind (arith, nat_tests) in true≢false (sym h ∙ ap is_in_set82 same ∙ separator_outside))

-- the text ends, or goes on with a byte 29
abbrev is_closed : List ℕ → Bool
is_closed [] = true
is_closed (c ∷ _) = c == 29

-- all before the next byte 29
pub before_closed : (value after : List ℕ) → are_in_set82 value ≡ true → is_closed after ≡ true → before_first (λ c. c == 29) (value ++ after) ≡ value
before_closed [] [] plain closed = refl
before_closed [] (c ∷ after) plain closed = take_while-cons (λ d. not (d == 29)) c after ∙ (rw closed refl)
before_closed (c ∷ value) after plain closed =
    let differs = no_separator c (and_first _ _ plain) in
    take_while-cons (λ d. not (d == 29)) c (value ++ after) ∙ (rw differs (ap (λ (v : List ℕ). c ∷ v) (before_closed value after (and_second _ _ plain) closed)))

module _ (rows : List AiRow) (rules : KeepsRules rows) where
  abbrev Element : Pair → List ℕ → List ℕ → Type 0
  Element = IsRawElement rows

  -- ---- the facts of an element by the text

  -- the row whose code begins the text has the code
  record IsOfFront (pair : Pair) (text : List ℕ) : Type 0 where
    row : AiRow
    found : find (λ r. begins r.code text) rows ≡ Some row
    code_is : row.code ≡ pair.code

  found_front : (text : List ℕ) (i : ℕ) (row : AiRow) → slice_get rows i ≡ Some row → begins row.code text ≡ true
      → find (λ r. begins r.code text) rows ≡ Some row
  found_front text i row at front =
      let place = position_is (λ r. begins r.code text) rows i row at front (λ j other low there. false_from_ne_true (begins other.code text) (λ too.
      let e = one_begins rows rules text j i other row there at too front in
      absurd (omega arith))) in
      find_at_place (λ r. begins r.code text) rows i row place at

  of_front : (pair : Pair) (text after : List ℕ) → Element pair text after → IsOfFront pair text
  of_front pair text after h =
      let of = of_row rows pair.code pair.value h.in_order.fits in
      let front : begins of.row.code text ≡ true = rw (h.text_is, of.code_is) (begins_append pair.code (pair.value ++ (h.closing ++ after))) in
      record { row = of.row; found = found_front text of.index of.row of.at front; code_is = of.code_is }

  behind_code : (pair : Pair) (text after : List ℕ) (h : Element pair text after) → drop (length pair.code) text ≡ pair.value ++ (h.closing ++ after)
  behind_code pair text after h = ap (drop (length pair.code)) h.text_is ∙ drop-append_seam pair.code (pair.value ++ (h.closing ++ after))

  behind_value : (pair : Pair) (text after : List ℕ) (h : Element pair text after)
      → drop (length pair.value) (drop (length pair.code) text) ≡ h.closing ++ after
  behind_value pair text after h = ap (drop (length pair.value)) (behind_code pair text after h) ∙ drop-append_seam pair.value (h.closing ++ after)

  cut_by : (code value left : List ℕ) (r : Option ℕ) → predefined_length code ≡ r
      → ((n : ℕ) → predefined_length code ≡ Some n → length code + length value ≡ n) → are_in_set82 value ≡ true
      → (r ≡ None → is_closed left ≡ true)
      → option_map_or (λ n. take (n - length code) (value ++ left)) r (before_first (λ c. c == 29) (value ++ left)) ≡ value
  cut_by code value left (Some n) e size plain closed =
      let sum = size n e in
      let long : n - length code ≡ length value = omega arith in
      rw long (take-append_seam value left)
  cut_by code value left None e size plain closed = before_closed value left plain (closed refl)

  closed_left : (pair : Pair) (text after : List ℕ) (h : Element pair text after) → predefined_length pair.code ≡ None → is_closed (h.closing ++ after) ≡ true
  closed_left pair text after h unlisted = elim h.closed [
    | inl one ↦ rw one refl
    | inr none ↦ elim none.1 [
      | inl some ↦ absurd (let f = rw unlisted at some in let g : false ≡ true = f in cc)
      | inr end ↦ rw (none.0, end) refl
    ]
  ]

  value_cut : (pair : Pair) (text after : List ℕ) → Element pair text after → pair.value ≡ raw_value pair.code (drop (length pair.code) text)
  value_cut pair text after h =
      let cut = cut_by pair.code pair.value (h.closing ++ after) (predefined_length pair.code) refl h.predefined (value_in_set82 rows pair.code pair.value h.in_order.fits) (closed_left pair text after h) in
      sym (rw (behind_code pair text after h) cut)

  same_pair : (text : List ℕ) (p q : Pair) (a b : List ℕ) → Element p text a → Element q text b → p ≡ q
  same_pair text p q a b h k =
      let one = of_front p text a h in
      let two = of_front q text b k in
      let e : Some one.row ≡ Some two.row = sym one.found ∙ two.found in
      let row : one.row ≡ two.row = cc in
      let code : p.code ≡ q.code = sym one.code_is ∙ ap (λ (r : AiRow). r.code) row ∙ two.code_is in
      let value : p.value ≡ q.value = value_cut p text a h ∙ ap (λ (c : List ℕ). raw_value c (drop (length c) text)) code ∙ sym (value_cut q text b k) in
      pair_same p q code value

  ends : (pair : Pair) (text after : List ℕ) → Element pair text after → (before : List ℕ) × (text ≡ before ++ after) × (0 < length before)
  ends pair text after h =
      let digit = digit_front pair.code (code_of_row rows rules pair.code pair.value h.in_order.fits) in
      let whole : text ≡ (pair.code ++ (pair.value ++ h.closing)) ++ after =
      h.text_is ∙ ap (λ (x : List ℕ). pair.code ++ x) (sym (append_assoc pair.value h.closing after)) ∙ sym
      (append_assoc pair.code (pair.value ++ h.closing) after) in
      let size : length pair.code ≡ suc (length digit.others) = ap length digit.is in
      (pair.code ++ (pair.value ++ h.closing), whole, omega (arith, length-append pair.code (pair.value ++ h.closing)))

  -- ---- no element begins with a byte 29

  separator_blocked : (text : List ℕ) → IsBlocked Element (29 ∷ text)
  separator_blocked text pair after h =
      let digit = digit_front pair.code (code_of_row rows rules pair.code pair.value h.in_order.fits) in
      let e : 29 ∷ text ≡ digit.digit ∷ (digit.others ++ (pair.value ++ (h.closing ++ after))) = h.text_is ∙ ap (λ (x : List ℕ). x ++ (pair.value ++ (h.closing ++ after))) digit.is in
      let same : 29 ≡ digit.digit = cc in
      let bad : false ≡ true = subst (λ (d : ℕ). is_digit d ≡ true) (sym same) digit.of_digits in
      true≢false (sym bad)

  empty_blocked : IsBlocked Element []
  empty_blocked pair after h =
      let part = ends pair [] after h in
      let size = ap length part.1 in
      let some = part.2 in
      absurd (omega (arith, length-append part.0 after))

  -- ---- the rest after code and value

  -- each element at the start of the text is followed by these bytes
  abbrev Leaves : List ℕ → List ℕ → Type 0
  Leaves text left = (pair : Pair) (after : List ℕ) → Element pair text after
      → (closing : List ℕ) × (left ≡ closing ++ after) × ((closing ≡ 29 ∷ []) ⊎ (closing ≡ []))

  leaves : (p : Pair) (text a : List ℕ) (h : Element p text a) → Leaves text (h.closing ++ a)
  leaves p text a h q b k =
      let same = same_pair text p q a b h k in
      let left = sym (behind_value p text a h) ∙ ap (λ (r : Pair). drop (length r.value) (drop (length r.code) text)) same ∙ behind_value q text b k in
      (k.closing, left, elim k.closed [ inl one ↦ inl one | inr none ↦ inr none.0 ])

  greedy_left : (text left : List ℕ) → Leaves text left → IsGreedy Element text (without_separator left)
  greedy_left text [] own pair after h =
      let of = own pair after h in
      inl (elim of.2 [
        | inl one ↦ absurd (let f : [] ≡ 29 ∷ after = of.1 ∙ ap (λ (x : List ℕ). x ++ after) one in cc)
        | inr none ↦ sym (of.1 ∙ ap (λ (x : List ℕ). x ++ after) none)
      ])
  greedy_left text (c ∷ left) own pair after h = elim (true_or_false (c == 29)) [
    | inl is ↦
        let of = own pair after h in
        let same : c ≡ 29 = grind (arith, nat_tests) in
        elim of.2 [
          | inl one ↦ inl (rw is (let f : c ∷ left ≡ 29 ∷ after = of.1 ∙ ap (λ (x : List ℕ). x ++ after) one in let g : left ≡ after = cc in sym g))
          | inr none ↦
              let f : c ∷ left ≡ after = of.1 ∙ ap (λ (x : List ℕ). x ++ after) none in
              let g : 29 ∷ left ≡ after = ap (λ (d : ℕ). d ∷ left) (sym same) ∙ f in
              let size = ap length g in
              inr (rw is (subst (λ (x : List ℕ). IsBlocked Element x) g (separator_blocked left), omega arith))
        ]
    | inr other ↦
        let of = own pair after h in
        inl (rw other (elim of.2 [
          | inl one ↦ absurd (let f : c ∷ left ≡ 29 ∷ after = of.1 ∙ ap (λ (x : List ℕ). x ++ after) one in let g : c ≡ 29 = cc in let k : (c == 29) ≡ true = rw g refl in true≢false (sym k ∙ other))
          | inr none ↦ sym (of.1 ∙ ap (λ (x : List ℕ). x ++ after) none)
        ]))
  ]

  greedy : (p : Pair) (text a : List ℕ) → Element p text a → IsGreedy Element text a ⊎ IsBlocked Element a
  greedy p text a h = elim h.closed [
    | inl one ↦ inl (subst (λ (x : List ℕ). IsGreedy Element text (without_separator (x ++ a))) one (greedy_left text (h.closing ++ a) (leaves p text a h)))
    | inr none ↦ by a (subst (λ (x : List ℕ). IsGreedy Element text (without_separator (x ++ a))) none.0 (greedy_left text (h.closing ++ a) (leaves p text a h)))
  ]
    where
      by : (b : List ℕ) → IsGreedy Element text (without_separator b) → IsGreedy Element text b ⊎ IsBlocked Element b
      by [] g = inl g
      by (c ∷ b) g = elim (true_or_false (c == 29)) [
        | inl is ↦ let same : c ≡ 29 = grind (arith, nat_tests) in inr (subst (λ (d : ℕ). IsBlocked Element (d ∷ b)) (sym same) (separator_blocked b))
        | inr other ↦ inl (rw other at g)
      ]

  -- ---- the row at a place

  -- the row with this index is the one whose code begins the text
  pub record IsFrontRow (text : List ℕ) (index : ℕ) (row : AiRow) : Type 0 where
    pub at : slice_get rows index ≡ Some row
    pub found : find (λ r. begins r.code text) rows ≡ Some row
    pub front : row.code ≡ take (length row.code) text
    pub fits : length row.code ≤ length text

  pub front_row : (text : List ℕ) (index : ℕ) (row : AiRow) → Some index ≡ row_at rows text → row ≡ get_or rows index row → IsFrontRow text index row
  front_row text index row e read =
      let within = position_within (λ r. begins r.code text) rows index (sym e) in
      let found = find_read (λ r. begins r.code text) rows index row (sym e) read in
      let front = begun row.code text (found_passes (λ r. begins r.code text) rows row found) in
      let size = ap length front ∙ length-take (length row.code) text in
      record { at = read_at rows index row within read; found = found; front = front; fits = omega arith }

  pub judged : (text : List ℕ) (index : ℕ) (row : AiRow) (code after value : List ℕ) → IsFrontRow text index row → code ≡ row.code
      → after ≡ drop (length row.code) text → value ≡ raw_value code after → raw_value_error rows text ≡ row_error rows index value
  judged text index row code after value is c a v = rw (is.found, is.at, v, c, a) refl

  -- the value that is cut by that row
  pub cut_at : (text : List ℕ) (index : ℕ) (row : AiRow) (code after value rest : List ℕ) → IsFrontRow text index row → code ≡ row.code
      → after ≡ drop (length row.code) text → value ≡ raw_value code after → row_error rows index value ≡ None
      → rest ≡ without_separator (drop (length value) after) → IsCutFrom rows text code value rest
  cut_at text index row code after value rest is c a v fits r =
      let behind : after ≡ drop (length code) text = a ∙ ap (λ (x : List ℕ). drop (length x) text) (sym c) in
      record {
        row = row;
        found = is.found;
        code_is = c;
        value_is = v ∙ ap (raw_value code) behind;
        fits = let f = rw is.at at fits in rw c f;
        rest_is = r ∙ ap (λ (x : List ℕ). without_separator (drop (length value) x)) behind;
      }

  -- ---- errors

  error_known : (pair : Pair) (text after : List ℕ) → Element pair text after → raw_value_error rows text ≡ None
  error_known pair text after h =
      let front = of_front pair text after h in
      let value = value_cut pair text after h in
      rw (front.found, front.code_is, ← value) h.in_order.fits

  blocked : (text : List ℕ) (error : ElementFault) → raw_error rows text ≡ Some error → IsBlocked Element text
  blocked [] error e = empty_blocked
  blocked (c ∷ text) error e = λ pair after h. absurd (let f = rw (error_known pair (c ∷ text) after h) at e in let g : None ≡ Some error = f in cc)

  -- ---- an element is cut

  -- the value is a prefix of the text after the code
  value_front : (code after : List ℕ) → raw_value code after ≡ take (length (raw_value code after)) after
  value_front code after = by (predefined_length code)
    where
      fronts : (n : ℕ) (xs : List ℕ) → take n xs ≡ take (length (take n xs)) xs
      fronts zero xs = refl
      fronts (suc n) [] = refl
      fronts (suc n) (x ∷ xs) = ap (λ (ys : List ℕ). x ∷ ys) (fronts n xs)

      by : (r : Option ℕ)
          → option_map_or (λ n. take (n - length code) after) r (before_first (λ c. c == 29) after) ≡ take (length (option_map_or (λ n. take (n - length code) after) r (before_first (λ c. c == 29) after))) after
      by (Some n) = fronts (n - length code) after
      by None = fronts _ after

  -- the rest, if the value ends before a byte 29 or at the end
  stopped : (after : List ℕ) → is_closed (drop (length (before_first (λ c. c == 29) after)) after) ≡ true
  stopped [] = refl
  stopped (c ∷ after) = elim (true_or_false (c == 29)) [
    | inl is ↦ rw (take_while-cons (λ d. not (d == 29)) c after, is) is
    | inr other ↦ rw (take_while-cons (λ d. not (d == 29)) c after, other) (stopped after)
  ]

  open_left : (code after : List ℕ) → predefined_length code ≡ None → is_closed (drop (length (raw_value code after)) after) ≡ true
  open_left code after e = rw e (stopped after)

  some_or_none : (r : Option ℕ) → IsSome r ⊎ (r ≡ None)
  some_or_none None = inr refl
  some_or_none (Some n) = inl refl

  -- the bytes after a value, and the rest after them
  record IsClosing (code left : List ℕ) : Type 0 where
    closing : List ℕ
    parts : left ≡ closing ++ without_separator left
    closed : (closing ≡ 29 ∷ []) ⊎ ((closing ≡ []) × (IsSome (predefined_length code) ⊎ (without_separator left ≡ [])))

  closing_of : (code left : List ℕ) → (predefined_length code ≡ None → is_closed left ≡ true) → IsClosing code left
  closing_of code [] stop = record { closing = []; parts = refl; closed = inr (refl, inr refl) }
  closing_of code (c ∷ left) stop = elim (true_or_false (c == 29)) [
    | inl is ↦
        let same : c ≡ 29 = grind (arith, nat_tests) in
        record { closing = 29 ∷ []; parts = rw is (ap (λ (d : ℕ). d ∷ left) same); closed = inl refl }
    | inr other ↦ record {
      closing = [];
      parts = rw other refl;
      closed = inr (
        refl,
        inl (elim (some_or_none (predefined_length code)) [
          | inl some ↦ some
          | inr none ↦ absurd (true≢false (sym (stop none) ∙ other))
        ]),
      );
    }
  ]

  module _ (text code value rest : List ℕ) (cut : IsCutFrom rows text code value rest) where
    begun_by : code ≡ take (length code) text
    begun_by = rw cut.code_is (begun cut.row.code text (found_passes (λ r. begins r.code text) rows cut.row cut.found))

    abbrev left : List ℕ
    left = drop (length value) (drop (length code) text)

    value_begun : value ≡ take (length value) (drop (length code) text)
    value_begun = rw cut.value_is (value_front code (drop (length code) text))

    stop : predefined_length code ≡ None → is_closed left ≡ true
    stop unlisted = rw cut.value_is (open_left code (drop (length code) text) unlisted)

    text_parts : text ≡ code ++ (value ++ left)
    text_parts =
        let outer : text ≡ code ++ drop (length code) text = sym (take-append-drop (length code) text) ∙ ap (λ (x : List ℕ). x ++ drop (length code) text) (sym begun_by) in
        let inner : drop (length code) text ≡ value ++ left = sym (take-append-drop (length value) (drop (length code) text)) ∙ ap (λ (x : List ℕ). x ++ left) (sym value_begun) in
        outer ∙ ap (λ (x : List ℕ). code ++ x) inner

    pub cut_is : Element (record { code = code; value = value }) text rest
    cut_is =
        let behind = closing_of code left stop in
        subst (λ (x : List ℕ). Element (record { code = code; value = value }) text x) (sym cut.rest_is) (record {
          closing = behind.closing;
          text_is = text_parts ∙ ap (λ (x : List ℕ). code ++ (value ++ x)) behind.parts;
          in_order = record { fits = cut.fits };
          predefined = predefined_kept rows rules code value cut.fits;
          closed = behind.closed;
        })

    pub cut_greedy : IsGreedy Element text rest
    cut_greedy =
        let own = cut_is in
        let left_is : own.closing ++ rest ≡ left = sym (behind_value (record { code = code; value = value }) text rest own) in
        subst (λ (x : List ℕ). IsGreedy Element text x) (sym cut.rest_is)
        (greedy_left text left (subst (λ (x : List ℕ). Leaves text x) left_is (leaves (record { code = code; value = value }) text rest own)))

  -- an error at the start of the text, or an element
  abbrev GoesOn : List ℕ → Type 0
  GoesOn text = ((error : ElementFault) × (raw_error rows text ≡ Some error)) ⊎ ((pair : Pair) × ((next : List ℕ) × (Element pair text next × IsGreedy Element text next)))

  goes_by_value : (c : ℕ) (text : List ℕ) (row : AiRow) → find (λ r. begins r.code (c ∷ text)) rows ≡ Some row → (f : Option ValueFault)
      → value_error rows row.code (raw_value row.code (drop (length row.code) (c ∷ text))) ≡ f → GoesOn (c ∷ text)
  goes_by_value c text row e (Some f) h = inl (record { at = 0; why = Value f }, rw (e, h) refl)
  goes_by_value c text row e None h =
      let value = raw_value row.code (drop (length row.code) (c ∷ text)) in
      let rest = without_separator (drop (length value) (drop (length row.code) (c ∷ text))) in
      let cut : IsCutFrom rows (c ∷ text) row.code value rest = record { row = row; found = e; code_is = refl; value_is = refl; fits = h; rest_is = refl } in
      inr (record { code = row.code; value = value }, (rest, (cut_is (c ∷ text) row.code value rest cut, cut_greedy (c ∷ text) row.code value rest cut)))

  goes_by_row : (c : ℕ) (text : List ℕ) (r : Option AiRow) → find (λ r. begins r.code (c ∷ text)) rows ≡ r → GoesOn (c ∷ text)
  goes_by_row c text None e = inl (record { at = 0; why = Value Unknown }, rw e refl)
  goes_by_row c text (Some row) e = goes_by_value c text row e (value_error rows row.code (raw_value row.code (drop (length row.code) (c ∷ text)))) refl

  goes_on : (c : ℕ) (text : List ℕ) → GoesOn (c ∷ text)
  goes_on c text = goes_by_row c text (find (λ r. begins r.code (c ∷ text)) rows) refl

  pub raw_known : IsKnown Element (raw_error rows)
  raw_known = record { ends = ends; same_pair = same_pair; blocked = blocked; goes_on = goes_on; greedy = greedy; none_at_end = refl }

-- an error of the value at the start
pub front_error : (rows : List AiRow) (text : List ℕ) (error : ValueFault) → 0 < length text → raw_value_error rows text ≡ Some error
    → raw_error rows text ≡ Some (record { at = 0; why = Value error })
front_error rows [] error some e = absurd (omega arith)
front_error rows (c ∷ text) error some e = rw e refl

-- the cut value is a part of the text after the code
pub value_within : (code after value : List ℕ) → value ≡ raw_value code after → length value ≤ length after
value_within code after value e = rw e (by (predefined_length code))
  where
    few : (n : ℕ) (xs : List ℕ) → length (take n xs) ≤ length xs
    few zero xs = omega arith
    few (suc n) [] = omega arith
    few (suc n) (x ∷ xs) = omega (arith, few n xs)

    by : (r : Option ℕ) → length (option_map_or (λ n. take (n - length code) after) r (before_first (λ c. c == 29) after)) ≤ length after
    by None = few _ after
    by (Some n) = few (n - length code) after

-- ---- the predefined length by the row of a code

pub length_by_row : (rows : List AiRow) (code : List ℕ) (index : ℕ) → Some index ≡ position (has_code code) rows
    → option_and_then (λ r. predefined_length r.code) (slice_get rows index) ≡ predefined_length code
length_by_row rows code index e =
    let place = position_some (has_code code) rows index (sym e) in
    let same : code ≡ place.0.code = equal_bytes code place.0.code place.2 in
    rw (place.1, ← same) refl

pub some_row : (rows : List AiRow) (code value : List ℕ) → None ≡ position (has_code code) rows → value_error rows code value ≡ None → ⊥
some_row rows code value e fits = let f = rw (find_none (has_code code) rows (sym e)) at fits in absurd (let g : Some Unknown ≡ None = f in cc)
