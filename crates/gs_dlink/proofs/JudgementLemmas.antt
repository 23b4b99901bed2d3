-- The result for a pair, and for pairs, by the rows that were found.
use Rattle.std.proofs.Common.{◌≡◌, ◌≢◌, ℕ, zero, suc, ◌+◌, ◌<◌, ◌≤◌, true, false, List, [], ◌∷◌, ◌++◌, length, map, take, find, position, slice_get, get_or, Option, Some, None, option_map, All, refl, sym, ap, ◌∙◌, inl, inr, arith}
use Rattle.std.specs.Prelude.{Result, Ok, Err}
use Rattle.std.proofs.lemmas.List.{map-append, take_all}
use Rattle.std.proofs.lemmas.List.Elements.{All-cons, All-nil}
use Rattle.percent_encoding.specs.Percent.{percent_decode}
use Rattle.gs_chars.proofs.TruthsAndLists.{equal_bytes, read_at, true_or_false}
use Rattle.gs_ai.specs.declared.errors.ElementWhy.TheVariants.{Value, Escape}
use Rattle.gs_ai.specs.declared.errors.ValueFault.{ValueFault}
use Rattle.gs_ai.specs.declared.errors.ValueFault.TheVariants.{Unknown}
use Rattle.gs_ai.specs.declared.pair.Pair.{Pair}
use Rattle.gs_ai.specs.declared.row.AiRow.{AiRow}
use Rattle.gs_ai.specs.Values.{has_code, row_error, value_error}
use Rattle.gs_ident.specs.Identities.{IsInOrder}
use Rattle.gs_ident.proofs.PairLemmas.{found_passes}
use Rattle.gs_dlink.specs.declared.error.LinkFault.{LinkFault}
use Rattle.gs_dlink.specs.declared.error.LinkFault.TheVariants.{Element, Memory}
use Rattle.gs_dlink.specs.Answers.{then_pairs, written_answer}
use Rattle.gs_dlink.specs.Uris.{Written}
use Rattle.gs_dlink.specs.Values.{are_escapes, by_row, by_value, padded, pair_answer, value_of}
use Rattle.gs_dlink.specs.ValuesSupport.{unescaped}
use Rattle.gs_dlink.proofs.PlainValues.{spelled}
use Rattle.gs_chars.proofs.Searches.{find_read, position_within}
use Rattle.gs_chars.specs.Answers.{OrError}
use Rattle.std.specs.Result.{result_err}

module _ (table : List AiRow) (pair : Written) where
  pub unknown : None ≡ find (has_code pair.code) table → Err (Element (record { at = pair.at; why = Value Unknown })) ≡ pair_answer table pair
  unfolding pair_answer
  unknown h = rw (← h) refl

  pub no_escape : (row : AiRow) → Some row ≡ find (has_code pair.code) table → are_escapes pair.value ≡ false → Err
      (Element (record { at = pair.at; why = Escape })) ≡ pair_answer table pair
  unfolding pair_answer
  no_escape row h other = rw (← h, other) refl

  pub valued : (row : AiRow) (value : List ℕ) (error : Option ValueFault) → Some row ≡ find (has_code pair.code) table
      → are_escapes pair.value ≡ true → value ≡ padded row.short (percent_decode pair.value) → value_error table pair.code value ≡ error
      → by_value pair value (option_map Value error) ≡ pair_answer table pair
  unfolding pair_answer
  valued row value error h escapes e f = let g : value_error table pair.code (value_of row pair.value) ≡ error = rw e at f in rw (← h, escapes, g, e) refl

-- the row at the place of a pair's code, which judges the pair's value as the code does
module _ (table : List AiRow) (pair : Written) (i : ℕ) (row : AiRow) (place : Some i ≡ position (has_code pair.code) table)
    (read : row ≡ get_or table i row) where
  pub row_found : Some row ≡ find (has_code pair.code) table
  row_found = sym (find_read (has_code pair.code) table i row (sym place) read)

  same_error : (value : List ℕ) → row_error table i value ≡ value_error table pair.code value
  same_error value =
      let own : pair.code ≡ row.code = equal_bytes pair.code row.code (found_passes (has_code pair.code) table row (sym row_found)) in
      let low = position_within (has_code pair.code) table i (sym place) in
      rw (read_at table i row low read, own) refl

  pub judged : (text value : List ℕ) (error : Option ValueFault) → Some text ≡ unescaped pair.value → value ≡ padded row.short text
      → row_error table i value ≡ error → by_value pair value (option_map Value error) ≡ pair_answer table pair
  judged text value error spells e f =
      let own = spelled pair.value text spells in
      valued table pair row value error row_found own.0 (rw own.1 at e) (sym (same_error value) ∙ f)

module _ (table : List AiRow) where
  pub answer_append : (xs ys : List Written) (ps : List Pair) → written_answer table xs ≡ Ok ps → (qs : List Pair)
      → written_answer table ys ≡ Ok qs → written_answer table (xs ++ ys) ≡ Ok (ps ++ qs)
  answer_append [] ys ps h qs k = let same : [] ≡ ps = cc in rw (← same) k
  answer_append (x ∷ xs) ys ps h qs k = by (pair_answer table x) (written_answer table xs) refl refl h (λ os e. answer_append xs ys os e qs k)
    where
      by : (a : Result Pair LinkFault) (b : Result (List Pair) LinkFault) → pair_answer table x ≡ a → written_answer table xs ≡ b
          → then_pairs a b ≡ Ok ps → ((os : List Pair) → written_answer table xs ≡ Ok os → written_answer table (xs ++ ys) ≡ Ok (os ++ qs))
          → then_pairs (pair_answer table x) (written_answer table (xs ++ ys)) ≡ Ok (ps ++ qs)
      by (Err e) b f g h rest = absurd (let bad : Err e ≡ Ok ps = h in cc)
      by (Ok p) (Err e) f g h rest = absurd (let bad : Err e ≡ Ok ps = h in cc)
      by (Ok p) (Ok os) f g h rest = let same : p ∷ os ≡ ps = cc in rw (f, rest os g, ← same) refl

  -- the first error after pairs without one
  pub answer_rejected : (xs ys : List Written) (x : Written) (ps : List Pair) (e : LinkFault) → written_answer table xs ≡ Ok ps
      → pair_answer table x ≡ Err e → written_answer table (xs ++ x ∷ ys) ≡ Err e
  answer_rejected [] ys x ps e h f = rw f refl
  answer_rejected (w ∷ xs) ys x ps e h f = by (pair_answer table w) (written_answer table xs) refl refl h (λ os g. answer_rejected xs ys x os e g f)
    where
      by : (a : Result Pair LinkFault) (b : Result (List Pair) LinkFault) → pair_answer table w ≡ a → written_answer table xs ≡ b
          → then_pairs a b ≡ Ok ps → ((os : List Pair) → written_answer table xs ≡ Ok os → written_answer table (xs ++ x ∷ ys) ≡ Err e)
          → then_pairs (pair_answer table w) (written_answer table (xs ++ x ∷ ys)) ≡ Err e
      by (Err d) b f g h rest = absurd (let bad : Err d ≡ Ok ps = h in cc)
      by (Ok p) (Err d) f g h rest = absurd (let bad : Err d ≡ Ok ps = h in cc)
      by (Ok p) (Ok os) f g h rest = rw (f, rest os g) refl

  -- ---- in a loop

  split_at : {X : Type 0} (xs : List X) (i : ℕ) (x : X) → slice_get xs i ≡ Some x
      → (rest : List X) × (xs ≡ take i xs ++ x ∷ rest) × (take (i + 1) xs ≡ take i xs ++ x ∷ [])
  split_at [] i x h = absurd (let g : None ≡ Some x = h in cc)
  split_at (y ∷ xs) zero x h = let same : y ≡ x = cc in rw same (xs, refl, refl)
  split_at (y ∷ xs) (suc i) x h =
      let rest = split_at xs i x h in
      let e : suc i + 1 ≡ suc (i + 1) = omega arith in
      (rest.0, ap (λ zs. y ∷ zs) rest.1, rw e (ap (λ zs. y ∷ zs) rest.2))

  got : {X : Type 0} (xs : List X) (i : ℕ) (d : X) → i < length xs → slice_get xs i ≡ Some (get_or xs i d)
  got [] i d low = absurd (omega arith)
  got (y ∷ xs) zero d low = refl
  got (y ∷ xs) (suc i) d low = got xs i d (omega arith)

  module _ {X : Type 0} (f : X → Written) (xs : List X) (i : ℕ) (d : X) (ps : List Pair) (low : i < length xs)
      (so_far : written_answer table (map f (take i xs)) ≡ Ok ps) where
    pub pair_rejected : (e : LinkFault) → OrError Memory (Err e) (pair_answer table (f (get_or xs i d))) → OrError Memory (Err e) (written_answer table (map f xs))
    pair_rejected e (inl m) = let same : e ≡ Memory = cc in inl (ap Err same)
    pair_rejected e (inr h) =
        let split = split_at xs i (get_or xs i d) (got xs i d low) in
        inr (sym (ap (λ zs. written_answer table (map f zs)) split.1 ∙ ap (written_answer table) (map-append f (take i xs) (get_or xs i d ∷ split.0)) ∙ answer_rejected (map f (take i xs)) (map f split.0) (f (get_or xs i d)) ps e so_far (sym h)))

    pub pair_more : (p : Pair) (new : List Pair) → OrError Memory (Ok p) (pair_answer table (f (get_or xs i d))) → new ≡ ps ++ p ∷ []
        → written_answer table (map f (take (i + 1) xs)) ≡ Ok new
    pair_more p new (inl m) e = absurd (let bad : Ok p ≡ Err Memory = m in cc)
    pair_more p new (inr h) e =
        let split = split_at xs i (get_or xs i d) (got xs i d low) in
        let one : written_answer table (f (get_or xs i d) ∷ []) ≡ Ok (p ∷ []) = rw (← h) refl in
        ap (λ zs. written_answer table (map f zs)) split.2 ∙ ap (written_answer table)
        (map-append f (take i xs) (get_or xs i d ∷ [])) ∙ answer_append (map f (take i xs)) (f (get_or xs i d) ∷ []) ps so_far
        (p ∷ []) one ∙ ap Ok (sym e)

pub all_pairs : {X : Type 0} (table : List AiRow) (f : X → Written) (xs : List X) (i : ℕ) (ps : List Pair) → length xs ≤ i
    → written_answer table (map f (take i xs)) ≡ Ok ps → OrError Memory (Ok ps) (written_answer table (map f xs))
all_pairs table f xs i ps all h = inr (sym (rw (take_all i xs all) at h))

-- ---- the answer of a public call

pub answer_pairs : (answer : Result (List Pair) LinkFault) (ps : List Pair) → OrError Memory (Ok ps) answer → answer ≡ Ok ps
answer_pairs answer ps (inl m) = absurd (let bad : Ok ps ≡ Err Memory = m in cc)
answer_pairs answer ps (inr h) = sym h

pub answer_error : (answer : Result (List Pair) LinkFault) (e : LinkFault) → OrError Memory (Err e) answer → e ≢ Memory → result_err answer ≡ Some e
answer_error answer e (inl m) other = absurd (other (let same : e ≡ Memory = cc in same))
answer_error answer e (inr h) other = rw (← h) refl

-- ---- pairs that are read are valid

pub pair_in_order : (table : List AiRow) (w : Written) (p : Pair) → pair_answer table w ≡ Ok p → IsInOrder table p
unfolding pair_answer
pair_in_order table w p h = by_found (find (has_code w.code) table) h
  where
    by_error : (value : List ℕ) (o : Option ValueFault) → value_error table w.code value ≡ o → by_value w value (option_map Value o) ≡ Ok p → IsInOrder table p
    by_error value (Some error) e f = absurd (let bad : Err (Element (record { at = w.at; why = Value error })) ≡ Ok p = f in cc)
    by_error value None e f = let own : record { code = w.code; value = value } ≡ p = cc in record { fits = rw (← own) e }

    by_found : (o : Option AiRow) → by_row table w o ≡ Ok p → IsInOrder table p
    by_found None f = absurd (let bad : Err (Element (record { at = w.at; why = Value Unknown })) ≡ Ok p = f in cc)
    by_found (Some row) f = elim (true_or_false (are_escapes w.value)) [
      | inl t ↦ let g = rw t at f in by_error (value_of row w.value) (value_error table w.code (value_of row w.value)) refl g
      | inr t ↦ absurd (let g = rw t at f in let bad : Err (Element (record { at = w.at; why = Escape })) ≡ Ok p = g in cc)
    ]

pub written_in_order : (table : List AiRow) (ws : List Written) (ps : List Pair) → written_answer table ws ≡ Ok ps → All (IsInOrder table) ps
written_in_order table [] ps h = let same : [] ≡ ps = cc in rw (← same) (All-nil (IsInOrder table))
written_in_order table (w ∷ ws) ps h = by (pair_answer table w) (written_answer table ws) refl refl h (λ os e. written_in_order table ws os e)
  where
    by : (a : Result Pair LinkFault) (b : Result (List Pair) LinkFault) → pair_answer table w ≡ a → written_answer table ws ≡ b
        → then_pairs a b ≡ Ok ps → ((os : List Pair) → written_answer table ws ≡ Ok os → All (IsInOrder table) os)
        → All (IsInOrder table) ps
    by (Err e) b f g h rest = absurd (let bad : Err e ≡ Ok ps = h in cc)
    by (Ok p) (Err e) f g h rest = absurd (let bad : Err e ≡ Ok ps = h in cc)
    by (Ok p) (Ok os) f g h rest = let same : p ∷ os ≡ ps = cc in rw (← same) (All-cons (IsInOrder table) p os (pair_in_order table w p f) (rest os g))
