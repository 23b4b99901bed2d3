-- Joins of elements, whatever an element is.
use Rattle.std.proofs.Common.{◌≡◌, ℕ, zero, suc, ◌+◌, ◌-◌, ◌<◌, ◌≤◌, List, [], ◌∷◌, ◌++◌, length, Option, Some, None, All, refl, sym, ap, subst, ◌∙◌, append_assoc, arith, ◌⊎◌, inl, inr, length-append}
use Rattle.std.proofs.lemmas.List.Elements.{All-cons, All-nil}
use Rattle.gs_ai.specs.declared.errors.ElementFault.{ElementFault}
use Rattle.gs_ai.specs.declared.pair.Pair.{Pair}
use Rattle.gs_element.specs.Joins.{Form, Joined, IsFirstError}

-- no element is at the start of the text
abbrev pub IsBlocked : Form → List ℕ → Type 0
IsBlocked Element text = (pair : Pair) (after : List ℕ) → Element pair text after → ⊥

-- each element at the start of the text leaves this, or more with no element at its start
abbrev pub IsGreedy : Form → List ℕ → List ℕ → Type 0
IsGreedy Element text next = (pair : Pair) (after : List ℕ) → Element pair text after
    → (after ≡ next) ⊎ (IsBlocked Element after × (length next < length after))

-- The reasons why joins and errors of a form are unique.
pub record IsKnown (Element : Form) (error_of : List ℕ → Option ElementFault) : Type 0 where
  -- an element is a part of the text that is not empty
  pub ends : (pair : Pair) (text after : List ℕ) → Element pair text after → (before : List ℕ) × (text ≡ before ++ after) × (0 < length before)
  pub same_pair : (text : List ℕ) (p q : Pair) (a b : List ℕ) → Element p text a → Element q text b → p ≡ q
  -- an error at the start, or an element
  pub blocked : (text : List ℕ) (error : ElementFault) → error_of text ≡ Some error → IsBlocked Element text
  pub goes_on : (c : ℕ) (text : List ℕ)
      → ((error : ElementFault) × (error_of (c ∷ text) ≡ Some error)) ⊎ ((pair : Pair) × ((next : List ℕ) × (Element pair (c ∷ text) next × IsGreedy Element (c ∷ text) next)))
  pub greedy : (pair : Pair) (text after : List ℕ) → Element pair text after → IsGreedy Element text after ⊎ IsBlocked Element after
  pub none_at_end : error_of [] ≡ None

module _ (Element : Form) where
  -- the prefixes that are joins are no longer than that which ends before the rest, or they go on from there
  abbrev pub Reaches : List ℕ → List ℕ → Type 0
  Reaches text rest = (others : List Pair) (after : List ℕ) → Joined Element others text after
      → (length rest ≤ length after) ⊎ ((later : List Pair) × Joined Element later rest after)

  pub reaches_start : (text : List ℕ) → Reaches text text
  reaches_start text others after joined = inr (others, joined)

  pub reaches_next : (text rest next : List ℕ) → length next ≤ length rest → IsGreedy Element rest next → Reaches text rest → Reaches text next
  reaches_next text rest next less greedy reaches others after joined = elim (reaches others after joined) [
    | inl h ↦ inl (omega arith)
    | inr later ↦ go_on later.0 later.1
  ]
    where
      go_on : (later : List Pair) → Joined Element later rest after → (length next ≤ length after) ⊎ ((ps : List Pair) × Joined Element ps next after)
      go_on [] e = inl (let f = ap length e in omega arith)
      go_on (p ∷ ps) j = elim (greedy p j.0 j.1) [
        | inl same ↦ inr (ps, subst (λ (x : List ℕ). Joined Element ps x after) same j.2)
        | inr b ↦ inl (elim ps as (λ qs. Joined Element qs j.0 after → length next ≤ length after) [
          | [] ↦ λ e. let f = ap length e in let g = b.1 in omega arith
          | q ∷ qs ↦ λ k. absurd (b.0 q k.0 k.1)
        ] j.2)
      ]

  pub reaches_stop : (text rest : List ℕ) → IsBlocked Element rest → Reaches text rest → (others : List Pair) (after : List ℕ)
      → Joined Element others text after → length rest ≤ length after
  reaches_stop text rest blocked reaches others after joined = elim (reaches others after joined) [
    | inl h ↦ h
    | inr later ↦ elim later.0 as (λ qs. Joined Element qs rest after → length rest ≤ length after) [
      | [] ↦ λ e. let f = ap length e in omega arith
      | q ∷ qs ↦ λ k. absurd (blocked q k.0 k.1)
    ] later.1
  ]

  -- one element more at the end
  pub joined_more : (pairs : List Pair) (pair : Pair) (text rest next : List ℕ) → Joined Element pairs text rest → Element pair rest next
      → Joined Element (pairs ++ pair ∷ []) text next
  joined_more [] pair text rest next e h = (next, subst (λ (x : List ℕ). Element pair x next) (sym e) h, refl)
  joined_more (p ∷ pairs) pair text rest next j h = (j.0, j.1, joined_more pairs pair j.0 rest next j.2 h)

  -- a fact of the pair of each element holds for all pairs
  pub all_joined : (P : Pair → Type 0) → ((pair : Pair) (text after : List ℕ) → Element pair text after → P pair)
      → (pairs : List Pair) (text rest : List ℕ) → Joined Element pairs text rest → All P pairs
  all_joined P each [] text rest j = All-nil P
  all_joined P each (p ∷ pairs) text rest j = All-cons P p pairs (each p text j.0 j.1) (all_joined P each pairs j.0 rest j.2)

same_ends : (a b x y : List ℕ) → a ++ x ≡ b ++ y → length x ≡ length y → x ≡ y
same_ends [] [] x y e l = e
same_ends [] (d ∷ b) x y e l = absurd (let f : length x ≡ length ((d ∷ b) ++ y) = ap length e in omega (arith, length-append (d ∷ b) y))
same_ends (c ∷ a) [] x y e l = absurd (let f : length ((c ∷ a) ++ x) ≡ length y = ap length e in omega (arith, length-append (c ∷ a) x))
same_ends (c ∷ a) (d ∷ b) x y e l = same_ends a b x y (let f : c ∷ (a ++ x) ≡ d ∷ (b ++ y) = e in cc) l

error_same : (f g : ElementFault) → f.at ≡ g.at → f.why ≡ g.why → f ≡ g
error_same f g e h = λ i. record { at = e i; why = h i }

module _ (Element : Form) (error_of : List ℕ → Option ElementFault) (known : IsKnown Element error_of) where
  pub shorter : (pair : Pair) (text after : List ℕ) → Element pair text after → length after < length text
  shorter pair text after h =
      let part = known.ends pair text after h in
      let size = ap length part.1 in
      let some = part.2 in
      omega (arith, length-append part.0 after)

  pub joined_ends : (pairs : List Pair) (text rest : List ℕ) → Joined Element pairs text rest → (before : List ℕ) × (text ≡ before ++ rest)
  joined_ends [] text rest e = ([], e)
  joined_ends (p ∷ pairs) text rest j =
      let part = known.ends p text j.0 j.1 in
      let others = joined_ends pairs j.0 rest j.2 in
      (part.0 ++ others.0, part.1 ∙ ap (λ (x : List ℕ). part.0 ++ x) others.1 ∙ sym (append_assoc part.0 others.0 rest))

  pub joined_shorter : (pairs : List Pair) (text rest : List ℕ) → Joined Element pairs text rest → length rest ≤ length text
  joined_shorter pairs text rest j =
      let part = joined_ends pairs text rest j in
      let size = ap length part.1 in
      omega (arith, length-append part.0 rest)

  -- ---- one list of pairs

  -- an end that elements are read to is not an end of text with no element at its start
  no_more : (pairs : List Pair) (after : List ℕ) → IsBlocked Element after → 0 < length after → Joined Element pairs after [] → ⊥
  no_more [] after blocked some e = let f = ap length e in absurd (omega arith)
  no_more (p ∷ pairs) after blocked some j = blocked p j.0 j.1

  blocked_end : (pairs : List Pair) (after : List ℕ) → IsBlocked Element after → Joined Element pairs after [] → after ≡ []
  blocked_end [] after blocked e = e
  blocked_end (p ∷ pairs) after blocked j = absurd (blocked p j.0 j.1)

  ends_alike : (text : List ℕ) (p q : Pair) (a b : List ℕ) (ps qs : List Pair) → Element p text a → Element q text b
      → Joined Element ps a [] → Joined Element qs b [] → a ≡ b
  ends_alike text p q a b ps qs e f j k = elim (known.greedy p text a e) [
    | inl g ↦ elim (g q b f) [
      | inl same ↦ sym same
      | inr more ↦ let low = more.1 in absurd (no_more qs b more.0 (omega arith) k)
    ]
    | inr at_end ↦ elim (known.greedy q text b f) [
      | inl g ↦ elim (g p a e) [
        | inl same ↦ same
        | inr more ↦ let low = more.1 in absurd (no_more ps a more.0 (omega arith) j)
      ]
      | inr too ↦ blocked_end ps a at_end j ∙ sym (blocked_end qs b too k)
    ]
  ]

  pub one_list : (ps qs : List Pair) (text : List ℕ) → Joined Element ps text [] → Joined Element qs text [] → ps ≡ qs
  one_list [] [] text j k = refl
  one_list [] (q ∷ qs) text j k = absurd (let low = shorter q text k.0 k.1 in let e = ap length j in omega arith)
  one_list (p ∷ ps) [] text j k = absurd (let low = shorter p text j.0 j.1 in let e = ap length k in omega arith)
  one_list (p ∷ ps) (q ∷ qs) text j k =
      let same : p ≡ q = known.same_pair text p q j.0 k.0 j.1 k.1 in
      let rest : j.0 ≡ k.0 = ends_alike text p q j.0 k.0 ps qs j.1 k.1 j.2 k.2 in
      let others = one_list ps qs k.0 (subst (λ (x : List ℕ). Joined Element ps x []) rest j.2) k.2 in
      λ i. same i ∷ others i

  -- ---- one error

  pub one_error : (whole text : List ℕ) (f g : ElementFault) → IsFirstError Element error_of whole text f → IsFirstError Element error_of whole text g → f ≡ g
  one_error whole text f g a b =
      let less = a.longest b.pairs b.rest b.joined in
      let more = b.longest a.pairs a.rest a.joined in
      let size : length a.rest ≡ length b.rest = omega arith in
      let front = joined_ends a.pairs text a.rest a.joined in
      let other = joined_ends b.pairs text b.rest b.joined in
      let rest = same_ends front.0 other.0 a.rest b.rest (sym front.1 ∙ other.1) size in
      let own : Some a.own ≡ Some b.own = sym a.at_front ∙ ap error_of rest ∙ b.at_front in
      let same : a.own ≡ b.own = cc in
      let place : a.own.at ≡ b.own.at = ap (λ (x : ElementFault). x.at) same in
      let at : f.at ≡ g.at = omega (arith, a.place, b.place) in
      error_same f g at (a.why ∙ ap (λ (x : ElementFault). x.why) same ∙ sym b.why)

  pub no_error : (pairs : List Pair) (whole text : List ℕ) (f : ElementFault) → Joined Element pairs text [] → IsFirstError Element error_of whole text f → ⊥
  no_error pairs whole text f j a = by a.rest (a.longest pairs [] j) a.at_front
    where
      by : (rest : List ℕ) → length rest ≤ 0 → error_of rest ≡ Some a.own → ⊥
      by [] h e = let g : None ≡ Some a.own = sym known.none_at_end ∙ e in absurd (cc)
      by (c ∷ rest) h e = absurd (omega arith)

  -- ---- one element more, and an error

  -- one element is read
  pub record IsRead (text : List ℕ) (pairs : List Pair) (rest : List ℕ) : Type 0 where
    pub joined : Joined Element pairs text rest
    pub reaches : Reaches Element text rest

  pub next_read : (text : List ℕ) (pairs : List Pair) (pair : Pair) (rest next : List ℕ) → Element pair rest next
      → IsGreedy Element rest next → Joined Element pairs text rest → Reaches Element text rest → IsRead text (pairs ++ pair ∷ []) next
  next_read text pairs pair rest next element greedy joined reaches =
      let less = shorter pair rest next element in
      record { joined = joined_more Element pairs pair text rest next joined element; reaches = reaches_next Element text rest next (omega arith) greedy reaches }

  pub first_error : (whole text : List ℕ) (pairs : List Pair) (rest : List ℕ) (own error : ElementFault) → length text ≤ length whole
      → error_of rest ≡ Some own → error.at ≡ (length whole - length rest) + own.at → error.why ≡ own.why → Joined Element pairs text rest
      → Reaches Element text rest → IsFirstError Element error_of whole text error
  first_error whole text pairs rest own error fits e place why joined reaches = record {
    pairs = pairs;
    rest = rest;
    joined = joined;
    longest = reaches_stop Element text rest (known.blocked rest own e) reaches;
    own = own;
    at_front = e;
    place = let less = joined_shorter pairs text rest joined in omega arith;
    why = why;
  }

  -- ---- some answer

  abbrev pub Answered : List ℕ → List ℕ → Type 0
  Answered whole text = ((pairs : List Pair) × Joined Element pairs text []) ⊎ ((error : ElementFault) × IsFirstError Element error_of whole text error)

  answered_from : (whole text : List ℕ) → length text ≤ length whole → (n : ℕ) (done : List Pair) (rest : List ℕ) → length rest ≤ n
      → Joined Element done text rest → Reaches Element text rest → Answered whole text
  answered_from whole text fits n done [] h j reaches = inl (done, j)
  answered_from whole text fits zero done (c ∷ rest) h j reaches = absurd (omega arith)
  answered_from whole text fits (suc n) done (c ∷ rest) h j reaches = elim (known.goes_on c rest) [
    | inl error ↦ inr (record { at = (length whole - length (c ∷ rest)) + error.0.at; why = error.0.why }, first_error whole text done (c ∷ rest) error.0 (record { at = (length whole - length (c ∷ rest)) + error.0.at; why = error.0.why }) fits error.1 refl refl j reaches)
    | inr step ↦
        let less = shorter step.0 (c ∷ rest) step.1.0 step.1.1.0 in
        let read = next_read text done step.0 (c ∷ rest) step.1.0 step.1.1.0 step.1.1.1 j reaches in
        answered_from whole text fits n (done ++ step.0 ∷ []) step.1.0 (omega arith) read.joined read.reaches
  ]

  pub answered : (whole text : List ℕ) → length text ≤ length whole → Answered whole text
  answered whole text fits = answered_from whole text fits (length text) [] text (omega arith) refl (reaches_start Element text)
