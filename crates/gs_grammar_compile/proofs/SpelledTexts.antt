-- The table of characters in the spellings of EPC URIs reads the lists that spell that many.
use Rattle.std.proofs.Common.{◌≡◌, ℕ, ◌<◌, ◌≤◌, ◌+◌, ◌-◌, ◌*◌, Bool, true, false, List, [], ◌∷◌, ◌++◌, length, zero, suc, refl, sym, ◌∙◌, ap, subst, inl, inr, arith}
use Rattle.std.specs.Prelude.{nat_le}
use Rattle.std.proofs.lemmas.Bool.{leb-true}
use Rattle.std.proofs.lemmas.Bool.Decides.{nat_tests}
use Rattle.gs_chars.specs.Escapes.{Spells}
use Rattle.gs_grammar.specs.declared.item.Item.TheVariants.{Esc}
use Rattle.gs_grammar.specs.Words.{IsWord, SpellsEach, no_more, one_more}
use Rattle.gs_grammar.proofs.ItemWords.{esc_word}
use Rattle.gs_ambig.specs.declared.machine.Edge.{Edge}
use Rattle.gs_ambig.specs.Walks.{edges_at}
use Rattle.gs_grammar_compile.specs.Readers.{Reads}
use Rattle.gs_grammar_compile.specs.Tables.{edge}
use Rattle.gs_grammar_compile.specs.EscapeTables.{with_ranges, plain_ranges, two_ranges, three_ranges, last_or_next, esc_table}
use Rattle.gs_grammar_compile.proofs.WalkLemmas.{Ascends}
use Rattle.gs_grammar_compile.proofs.Arms.{Arms, Begins, ByEdge, Either, IsEmpty, reads_end, reads_state, reads_as, arms_as, arms_one, arms_cons}
use Rattle.gs_grammar_compile.proofs.Blocks.{Has, has_head, has_tail}
use Rattle.gs_grammar_compile.proofs.Spread.{InRanges, ByRanges, arms_spread, arms_both}
use Rattle.gs_grammar_compile.proofs.EscapedDigits.{AreDigits, digits_spelt, escaped_digits, range_plain, plain_range, percent_not_plain}

-- the list spells at least one character, at least lo and at most n
pub record SpellsSome (lo n : ℕ) (w : List ℕ) : Type 0 where
  pub value : List ℕ
  pub spelled : SpellsEach value w
  pub some : 1 ≤ length value
  pub least : lo ≤ length value
  pub most : length value ≤ n

-- the list spells the characters that may follow one: with it at least lo, and at most n more
pub record SpellsRest (lo n : ℕ) (w : List ℕ) : Type 0 where
  pub value : List ℕ
  pub spelled : SpellsEach value w
  pub least : lo ≤ length value + 1
  pub most : length value ≤ n

none_spelled : (value w : List ℕ) → SpellsEach value w → length value ≡ 0 → w ≡ []
none_spelled value w no_more e = refl
none_spelled value w (one_more c v s rest p t) e = absurd (omega arith)

some_spelled : (value w : List ℕ) → SpellsEach value w → 1 ≤ length value → w ≡ [] → ⊥
some_spelled value w no_more l e = absurd (omega arith)
some_spelled value w (one_more c v s rest (inl p) t) l e = let f : c ∷ rest ≡ [] = sym (ap (λ (x : List ℕ). x ++ rest) p.1) ∙ e in cc
some_spelled value w (one_more c v s rest (inr p) t) l e = let q = p.1 in let f : 37 ∷ q.high ∷ q.low ∷ rest ≡ [] = sym
    (ap (λ (x : List ℕ). x ++ rest) q.text) ∙ e in cc

-- the edges after a character

rest_end : (lo : ℕ) → lo ≤ 1 → (w : List ℕ) → IsEmpty w → (n : ℕ) → SpellsRest lo n w
rest_end lo l w e n = record { value = []; spelled = rw e no_more; least = omega arith; most = omega arith }

rest_more : (lo n : ℕ) (w : List ℕ) → SpellsSome (lo - 1) n w → SpellsRest lo n w
rest_more lo n w s = let least = s.least in record { value = s.value; spelled = s.spelled; least = omega arith; most = s.most }

more_rest : (lo n : ℕ) (w : List ℕ) (r : SpellsRest lo n w) → 1 ≤ length r.value → SpellsSome (lo - 1) n w
more_rest lo n w r l = let least = r.least in record { value = r.value; spelled = r.spelled; some = l; least = omega arith; most = r.most }

last_arms : (table : List (List Edge)) (lo : ℕ) (ranges : List (ℕ × ℕ)) (next q : ℕ) → lo ≤ 1 → Ascends table
    → Arms table (with_ranges ranges q) q (ByRanges ranges (SpellsRest lo 0))
last_arms table lo ranges next q l a =
    arms_as table (with_ranges ranges q) q (ByRanges ranges IsEmpty) (ByRanges ranges (SpellsRest lo 0))
    (arms_spread table ranges q q IsEmpty (reads_end table q q a refl))
    (λ s w h. (h.0, rest_end lo l w h.1 0))
    (λ s w h. let most = h.1.most in (h.0, none_spelled h.1.value w h.1.spelled (omega arith)))

abbrev LastOrNext : ℕ → ℕ → List (ℕ × ℕ) → ℕ → List ℕ → Type 0
LastOrNext lo n ranges = Either (ByRanges ranges IsEmpty) (ByRanges ranges (SpellsSome (lo - 1) n))

either_there : (lo n : ℕ) (ranges : List (ℕ × ℕ)) (s : ℕ) (w : List ℕ) → lo ≤ 1 → LastOrNext lo n ranges s w → ByRanges ranges (SpellsRest lo n) s w
either_there lo n ranges s w l (inl h) = (h.0, rest_end lo l w h.1 n)
either_there lo n ranges s w l (inr h) = (h.0, rest_more lo n w h.1)

rest_cases : (lo n : ℕ) (ranges : List (ℕ × ℕ)) (s : ℕ) (w value : List ℕ) → InRanges ranges s → SpellsEach value w → lo ≤ length value + 1
    → length value ≤ n → LastOrNext lo n ranges s w
rest_cases lo n ranges s w [] i h l m = inl (i, none_spelled [] w h refl)
rest_cases lo n ranges s w (c ∷ value) i h l m = inr (i, record { value = c ∷ value; spelled = h; some = omega arith; least = omega arith; most = m })

next_apart : (lo n : ℕ) (ranges : List (ℕ × ℕ)) (s : ℕ) (w : List ℕ) → ByRanges ranges IsEmpty s w → ByRanges ranges (SpellsSome (lo - 1) n) s w → ⊥
next_apart lo n ranges s w h k = some_spelled k.1.value w k.1.spelled k.1.some h.1

some_more : (lo n : ℕ) (w : List ℕ) → 1 < lo → SpellsRest lo n w → SpellsSome (lo - 1) n w
some_more lo n w l r = let least = r.least in more_rest lo n w r (omega arith)

next_arms : (table : List (List Edge)) (lo more : ℕ) (ranges : List (ℕ × ℕ)) (next q : ℕ) (b : Bool) → nat_le lo 1 ≡ b → Ascends table
    → Reads table next q (SpellsSome (lo - 1) (suc more))
    → Arms table (last_or_next lo (suc more) ranges next q) q (ByRanges ranges (SpellsRest lo (suc more)))
next_arms table lo more ranges next q true t a r =
    let low = leb-true lo 1 t in
    let end = arms_spread table ranges q q IsEmpty (reads_end table q q a refl) in
    let on = arms_spread table ranges next q (SpellsSome (lo - 1) (suc more)) r in
    let both = arms_both table (with_ranges ranges q) (with_ranges ranges next) q (ByRanges ranges IsEmpty) (ByRanges ranges (SpellsSome (lo - 1) (suc more))) end on (next_apart lo (suc more) ranges) in
    let whole = arms_as table (with_ranges ranges q ++ with_ranges ranges next) q (LastOrNext lo (suc more) ranges) (ByRanges ranges (SpellsRest lo (suc more))) both (λ s w h. either_there lo (suc more) ranges s w low h) (λ s w h. rest_cases lo (suc more) ranges s w h.1.value h.0 h.1.spelled h.1.least h.1.most) in
    rw t whole
next_arms table lo more ranges next q false t a r =
    let high : 1 < lo = grind (arith, nat_tests) in
    let on = arms_spread table ranges next q (SpellsSome (lo - 1) (suc more)) r in
    let whole = arms_as table (with_ranges ranges next) q (ByRanges ranges (SpellsSome (lo - 1) (suc more))) (ByRanges ranges (SpellsRest lo (suc more))) on (λ s w h. (h.0, rest_more lo (suc more) w h.1)) (λ s w h. (h.0, some_more lo (suc more) w high h.1)) in
    rw t whole

-- the lists that the next character reads, if one may follow
abbrev NextReads : List (List Edge) → ℕ → ℕ → ℕ → ℕ → Type 0
NextReads table lo zero next q = lo ≤ 1
NextReads table lo (suc more) next q = Reads table next q (SpellsSome (lo - 1) (suc more))

behind_arms : (table : List (List Edge)) (lo more : ℕ) (ranges : List (ℕ × ℕ)) (next q : ℕ) → Ascends table → NextReads table lo more next q
    → Arms table (last_or_next lo more ranges next q) q (ByRanges ranges (SpellsRest lo more))
behind_arms table lo zero ranges next q a r = last_arms table lo ranges next q r a
behind_arms table lo (suc more) ranges next q a r = next_arms table lo more ranges next q (nat_le lo 1) refl a r

-- after a percent sign
abbrev BehindPercent : ℕ → ℕ → ℕ → ℕ → List ℕ → Type 0
BehindPercent lo more two three = Begins (Either (ByEdge (edge 50 50 two) (Begins (ByRanges two_ranges (SpellsRest lo more)))) (ByEdge (edge 51 51 three) (Begins (ByRanges three_ranges (SpellsRest lo more)))))

percent_apart : (lo more two three s : ℕ) (w : List ℕ) → ByEdge (edge 50 50 two) (Begins (ByRanges two_ranges (SpellsRest lo more))) s w
    → ByEdge (edge 51 51 three) (Begins (ByRanges three_ranges (SpellsRest lo more))) s w → ⊥
percent_apart lo more two three s w h k = let a = h.1 in let b = k.0 in omega arith

-- a whole character
abbrev ByCharacter : ℕ → ℕ → ℕ → ℕ → ℕ → ℕ → List ℕ → Type 0
ByCharacter lo more percent two three = Either (ByRanges plain_ranges (SpellsRest lo more)) (ByEdge (edge 37 37 percent) (BehindPercent lo more two three))

joined : (lo more c : ℕ) (spelling rest w : List ℕ) → Spells c spelling → SpellsRest lo more rest → w ≡ spelling ++ rest → SpellsSome lo (suc more) w
joined lo more c spelling rest w p r e =
    let least = r.least in
    let most = r.most in
    record { value = c ∷ r.value; spelled = rw e (one_more c r.value spelling rest p r.spelled); some = omega arith; least = omega arith; most = omega arith }

escape_there : (lo more percent two three : ℕ) (w : List ℕ) → BehindPercent lo more two three w → SpellsSome lo (suc more) (37 ∷ w)
escape_there lo more percent two three [] h = absurd h
escape_there lo more percent two three (s ∷ []) (inl h) = absurd h.2
escape_there lo more percent two three (s ∷ []) (inr h) = absurd h.2
escape_there lo more percent two three (s ∷ l ∷ rest) (inl h) =
    let first : s ≡ 50 = let a = h.0 in let b = h.1 in omega arith in
    let c = digits_spelt s l (inl (first, h.2.0)) in
    joined lo more c.0 (37 ∷ s ∷ l ∷ []) rest (37 ∷ s ∷ l ∷ rest) c.1 h.2.1 refl
escape_there lo more percent two three (s ∷ l ∷ rest) (inr h) =
    let first : s ≡ 51 = let a = h.0 in let b = h.1 in omega arith in
    let c = digits_spelt s l (inr (first, h.2.0)) in
    joined lo more c.0 (37 ∷ s ∷ l ∷ []) rest (37 ∷ s ∷ l ∷ rest) c.1 h.2.1 refl

at_percent : (lo n s : ℕ) (w : List ℕ) → s ≡ 37 → SpellsSome lo n (37 ∷ w) → SpellsSome lo n (s ∷ w)
at_percent lo n s w e h = rw e h

character_there : (lo more percent two three : ℕ) (w : List ℕ) → Begins (ByCharacter lo more percent two three) w → SpellsSome lo (suc more) w
character_there lo more percent two three [] h = absurd h
character_there lo more percent two three (s ∷ w) (inl h) = joined lo more s (s ∷ []) w (s ∷ w) (inl (range_plain s h.0, refl)) h.1 refl
character_there lo more percent two three (s ∷ w) (inr h) =
    let first : s ≡ 37 = let a = h.0 in let b = h.1 in omega arith in
    at_percent lo (suc more) s w first (escape_there lo more percent two three w h.2)

digits_back : (lo more percent two three h l : ℕ) (rest : List ℕ) → AreDigits h l → SpellsRest lo more rest → BehindPercent lo more two three (h ∷ l ∷ rest)
digits_back lo more percent two three h l rest (inl d) r = let e = d.0 in inl (omega arith, omega arith, (d.1, r))
digits_back lo more percent two three h l rest (inr d) r = let e = d.0 in inr (omega arith, omega arith, (d.1, r))

first_back : (lo more percent two three c : ℕ) (spelling rest : List ℕ) → Spells c spelling → SpellsRest lo more rest
    → Begins (ByCharacter lo more percent two three) (spelling ++ rest)
first_back lo more percent two three c spelling rest (inl p) r =
    let here : Begins (ByCharacter lo more percent two three) (c ∷ rest) = inl (plain_range c p.0, r) in
    subst (λ (x : List ℕ). Begins (ByCharacter lo more percent two three) (x ++ rest)) (sym p.1) here
first_back lo more percent two three c spelling rest (inr p) r =
    let q = p.1 in
    let d = escaped_digits c q.high q.low p.0 q.high_digit q.low_digit in
    let here : Begins (ByCharacter lo more percent two three) (37 ∷ q.high ∷ q.low ∷ rest) = inr (omega arith, omega arith, digits_back lo more percent two three q.high q.low rest d r) in
    subst (λ (x : List ℕ). Begins (ByCharacter lo more percent two three) (x ++ rest)) (sym q.text) here

some_back : (lo more percent two three : ℕ) (value w : List ℕ) → SpellsEach value w → 1 ≤ length value → lo ≤ length value
    → length value ≤ suc more → Begins (ByCharacter lo more percent two three) w
some_back lo more percent two three value w no_more s l m = absurd (omega arith)
some_back lo more percent two three value w (one_more c v spelling rest p t) s l m =
    first_back lo more percent two three c spelling rest p (record { value = v; spelled = t; least = omega arith; most = omega arith })

character_apart : (lo more percent two three s : ℕ) (w : List ℕ) → ByRanges plain_ranges (SpellsRest lo more) s w
    → ByEdge (edge 37 37 percent) (BehindPercent lo more two three) s w → ⊥
character_apart lo more percent two three s w h k =
    let same : s ≡ 37 = let a = k.0 in let b = k.1 in omega arith in
    percent_not_plain (rw same at h.0)

-- the four states of a character
reads_character : (table : List (List Edge)) (lo more base q : ℕ) (block : List (List Edge))
    → Has table base ((last_or_next lo more plain_ranges (base + 4) q ++ edge 37 37 (base + 1) ∷ []) ∷ (edge 50 50 (base + 2) ∷ edge 51 51 (base + 3) ∷ []) ∷ last_or_next lo more two_ranges (base + 4) q ∷ last_or_next lo more three_ranges (base + 4) q ∷ block)
    → Ascends table → base + 3 < q → NextReads table lo more (base + 4) q → Reads table base q (SpellsSome lo (suc more))
reads_character table lo more base q block h a l next =
    let r0 : List Edge = last_or_next lo more plain_ranges (base + 4) q ++ edge 37 37 (base + 1) ∷ [] in
    let r1 : List Edge = edge 50 50 (base + 2) ∷ edge 51 51 (base + 3) ∷ [] in
    let r2 : List Edge = last_or_next lo more two_ranges (base + 4) q in
    let r3 : List Edge = last_or_next lo more three_ranges (base + 4) q in
    let h1 = has_tail table base r0 (r1 ∷ r2 ∷ r3 ∷ block) h in
    let h2 = has_tail table (base + 1) r1 (r2 ∷ r3 ∷ block) h1 in
    let h3 = has_tail table (base + 1 + 1) r2 (r3 ∷ block) h2 in
    let p2 : base + 1 + 1 ≡ base + 2 = omega arith in
    let p3 : base + 1 + 1 + 1 ≡ base + 3 = omega arith in
    let e2 : edges_at table (base + 2) ≡ r2 = rw p2 at (has_head table (base + 1 + 1) r2 (r3 ∷ block) h2) in
    let e3 : edges_at table (base + 3) ≡ r3 = rw p3 at (has_head table (base + 1 + 1 + 1) r3 block h3) in
    let two = reads_state table (base + 2) q r2 (ByRanges two_ranges (SpellsRest lo more)) e2 (omega arith) (behind_arms table lo more two_ranges (base + 4) q a next) in
    let three = reads_state table (base + 3) q r3 (ByRanges three_ranges (SpellsRest lo more)) e3 (omega arith) (behind_arms table lo more three_ranges (base + 4) q a next) in
    let digits = arms_cons table (edge 50 50 (base + 2)) (edge 51 51 (base + 3) ∷ []) q (Begins (ByRanges two_ranges (SpellsRest lo more))) (ByEdge (edge 51 51 (base + 3)) (Begins (ByRanges three_ranges (SpellsRest lo more)))) two (arms_one table (edge 51 51 (base + 3)) q (Begins (ByRanges three_ranges (SpellsRest lo more))) three) (percent_apart lo more (base + 2) (base + 3)) in
    let percent = reads_state table (base + 1) q r1 (Either (ByEdge (edge 50 50 (base + 2)) (Begins (ByRanges two_ranges (SpellsRest lo more)))) (ByEdge (edge 51 51 (base + 3)) (Begins (ByRanges three_ranges (SpellsRest lo more))))) (has_head table (base + 1) r1 (r2 ∷ r3 ∷ block) h1) (omega arith) digits in
    let escape = arms_one table (edge 37 37 (base + 1)) q (BehindPercent lo more (base + 2) (base + 3)) percent in
    let arms = arms_both table (last_or_next lo more plain_ranges (base + 4) q) (edge 37 37 (base + 1) ∷ []) q (ByRanges plain_ranges (SpellsRest lo more)) (ByEdge (edge 37 37 (base + 1)) (BehindPercent lo more (base + 2) (base + 3))) (behind_arms table lo more plain_ranges (base + 4) q a next) escape (character_apart lo more (base + 1) (base + 2) (base + 3)) in
    let state = reads_state table base q r0 (ByCharacter lo more (base + 1) (base + 2) (base + 3)) (has_head table base r0 (r1 ∷ r2 ∷ r3 ∷ block) h) (omega arith) arms in
    reads_as table base q (Begins (ByCharacter lo more (base + 1) (base + 2) (base + 3))) (SpellsSome lo (suc more)) state
    (character_there lo more (base + 1) (base + 2) (base + 3)) (λ w s. some_back lo more (base + 1) (base + 2) (base + 3) s.value w s.spelled s.some s.least s.most)

pub reads_spelled : (table : List (List Edge)) (more lo base q : ℕ) → Has table base (esc_table lo (suc more) base q) → Ascends table
    → lo ≤ suc more → q ≡ base + 4 * suc more → Reads table base q (SpellsSome lo (suc more))
reads_spelled table zero lo base q h a l e = reads_character table lo zero base q [] h a (omega arith) l
reads_spelled table (suc more) lo base q h a l e =
    let r0 : List Edge = last_or_next lo (suc more) plain_ranges (base + 4) q ++ edge 37 37 (base + 1) ∷ [] in
    let r1 : List Edge = edge 50 50 (base + 2) ∷ edge 51 51 (base + 3) ∷ [] in
    let r2 : List Edge = last_or_next lo (suc more) two_ranges (base + 4) q in
    let r3 : List Edge = last_or_next lo (suc more) three_ranges (base + 4) q in
    let block : List (List Edge) = esc_table (lo - 1) (suc more) (base + 4) q in
    let h1 = has_tail table base r0 (r1 ∷ r2 ∷ r3 ∷ block) h in
    let h2 = has_tail table (base + 1) r1 (r2 ∷ r3 ∷ block) h1 in
    let h3 = has_tail table (base + 1 + 1) r2 (r3 ∷ block) h2 in
    let h4 = has_tail table (base + 1 + 1 + 1) r3 block h3 in
    let place : base + 1 + 1 + 1 + 1 ≡ base + 4 = omega arith in
    let here : Has table (base + 4) block = subst (λ (k : ℕ). Has table k block) place h4 in
    let rest = reads_spelled table more (lo - 1) (base + 4) q here a (omega arith) (omega arith) in
    reads_character table lo (suc more) base q block h a (omega arith) rest

pub reads_esc : (table : List (List Edge)) (lo hi base q : ℕ) → Has table base (esc_table lo hi base q) → Ascends table → 1 ≤ lo → lo ≤ hi
    → q ≡ base + 4 * hi → Reads table base q (IsWord (Esc lo hi))
reads_esc table lo zero base q h a some l e = absurd (omega arith)
reads_esc table lo (suc more) base q h a some l e =
    reads_as table base q (SpellsSome lo (suc more)) (IsWord (Esc lo (suc more))) (reads_spelled table more lo base q h a l e)
    (λ w s. (esc_word lo (suc more) w).1 (record { count = length s.value; spelled = record { value = s.value; spelled = s.spelled; count = refl }; least = s.least; most = s.most }))
    (λ w i. let s = (esc_word lo (suc more) w).0 i in
    let c = s.spelled.count in
    let least = s.least in
    let most = s.most in
    record { value = s.spelled.value; spelled = s.spelled.spelled; some = omega arith; least = omega arith; most = omega arith })
