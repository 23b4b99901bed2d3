-- Values that a list of symbols spells, character by character.
use Rattle.std.proofs.Common.{◌≡◌, ℕ, ◌<◌, ◌≤◌, ◌+◌, ◌*◌, List, [], ◌∷◌, ◌++◌, length, take, drop, refl, sym, ◌∙◌, ap, inl, inr, arith}
use Rattle.std.proofs.lemmas.List.{append_cancel_left, take-append-drop, length-append, length-drop, append_assoc, append-nil, take_at, length-take-le, nil_from_length}
use Rattle.gs_chars.specs.Escapes.{Spells, BeginsWithSpelling}
use Rattle.gs_chars.proofs.Spellings.{one_spelling}
use Rattle.gs_grammar.specs.Words.{SpellsEach, SpellsMany, no_more, one_more}

-- a spelling is not empty, and has at most three bytes
pub spelling_bounds : (c : ℕ) (s : List ℕ) → Spells c s → (0 < length s) × (length s ≤ 3)
spelling_bounds c s (inl p) = rw p.1 (omega arith, omega arith)
spelling_bounds c s (inr q) = rw q.1.text (omega arith, omega arith)

-- a list that begins with a spelling goes on with the rest of the value
pub record GoesOn (u : List ℕ) (c : ℕ) (rest : List ℕ) : Type 0 where
  pub value : List ℕ
  pub whole : u ≡ c ∷ value
  pub spelled : SpellsEach value rest

unspell : (u w s rest : List ℕ) (c : ℕ) → SpellsEach u w → Spells c s → w ≡ s ++ rest → GoesOn u c rest
unspell u w s rest c no_more q e = absurd (let b = spelling_bounds c s q in let l = ap length e in let m = length-append s rest in omega arith)
unspell u w s rest c (one_more d value spelling v p t) q e =
    let same = one_spelling d c spelling s v rest p q e in
    let tail : v ≡ rest = append_cancel_left s v rest (rw same.1 at e) in
    record { value = value; whole = ap (λ x. x ∷ value) same.0; spelled = rw tail at t }

-- a list that is spelled and not empty begins with a spelling
record Begins (w : List ℕ) : Type 0 where
  c : ℕ
  len : ℕ
  begins : BeginsWithSpelling w c len

first_spelling : (u w w' : List ℕ) → SpellsEach u w → w ≡ w' → 0 < length w → Begins w'
first_spelling u w w' no_more e h = absurd (omega arith)
first_spelling u w w' (one_more d value spelling v p t) e h =
    let front : take (length spelling) w' ≡ spelling = rw (← e) (take_at spelling v (length spelling) refl) in
    let within : length spelling ≤ length w' = rw (← e) (omega (arith, length-append spelling v)) in
    record { c = d; len = length spelling; begins = record { within = within; spelled = rw front p } }

-- the value that a list spells is the only one
pub spelled_fixes : (u v w w' : List ℕ) → SpellsEach u w → SpellsEach v w' → w ≡ w' → u ≡ v
spelled_fixes u v w w' no_more no_more e = refl
spelled_fixes u v w w' no_more (one_more d value spelling x p t) e = absurd
    (let b = spelling_bounds d spelling p in let l = ap length e in let m = length-append spelling x in omega arith)
spelled_fixes u v w w' (one_more d value spelling x p t) s e =
    let g = unspell v w' spelling x d s p (sym e) in
    ap (λ y. d ∷ y) (spelled_fixes value g.value x x t g.spelled refl) ∙ sym g.whole

-- a list has from one to three symbols for each character that it spells
pub spelled_length : (v w : List ℕ) → SpellsEach v w → (length v ≤ length w) × (length w ≤ 3 * length v)
spelled_length v w no_more = (omega arith, omega arith)
spelled_length v w (one_more d value spelling x p t) =
    let b = spelling_bounds d spelling p in
    let l = spelled_length value x t in
    let m = length-append spelling x in
    (omega arith, omega arith)

-- a list of as many symbols as it spells characters is their value
pub spelled_alike : (v w : List ℕ) → SpellsEach v w → length v ≡ length w → v ≡ w
spelled_alike v w no_more e = refl
spelled_alike v w (one_more c value spelling x (inl p) t) e =
    let m = length-append spelling x in
    let one = ap length p.1 in
    let rest = spelled_alike value x t (omega arith) in
    rw (p.1, rest) refl
spelled_alike v w (one_more c value spelling x (inr q) t) e = absurd
    (let l = spelled_length value x t in let three = ap length q.1.text in let m = length-append spelling x in omega arith)

-- one more character at the start
one_in_front : (c used : ℕ) (v rest : List ℕ) → BeginsWithSpelling rest c used → SpellsEach v (drop used rest) → SpellsEach (c ∷ v) rest
one_in_front c used v rest b s =
    let more = one_more c v (take used rest) (drop used rest) b.spelled s in
    rw take-append-drop at more

one_behind : (c used : ℕ) (u rest : List ℕ) → BeginsWithSpelling rest c used → SpellsEach u rest → GoesOn u c (drop used rest)
one_behind c used u rest b s = unspell u rest (take used rest) (drop used rest) c s b.spelled (sym (take-append-drop used rest))

-- the rest of a list, after n characters
pub record RestOf (u rest : List ℕ) (n : ℕ) : Type 0 where
  pub value : List ℕ
  pub spelled : SpellsEach value rest
  pub count : length u ≡ n + length value

-- the facts of a count of n characters, with the rest still to come
pub record Counts (w rest : List ℕ) (n : ℕ) : Type 0 where
  pub back : (v : List ℕ) → SpellsEach v rest → SpellsMany (n + length v) w
  pub forth : (u : List ℕ) → SpellsEach u w → RestOf u rest n
  pub small : n + length rest ≤ length w

pub counts_start : (w : List ℕ) → Counts w w 0
counts_start w = record {
  back = λ v s. record { value = v; spelled = s; count = omega arith };
  forth = λ u s. record { value = u; spelled = s; count = omega arith };
  small = omega arith;
}

used_bound : (c used : ℕ) (rest : List ℕ) → BeginsWithSpelling rest c used → 0 < used
used_bound c used rest b =
    let p = spelling_bounds c (take used rest) b.spelled in
    let l = length-take-le used rest b.within in
    omega arith

pub counts_step : (w rest : List ℕ) (n c used : ℕ) → Counts w rest n → BeginsWithSpelling rest c used → Counts w (drop used rest) (n + 1)
counts_step w rest n c used k b = record {
  back = λ v s.
      let r = k.back (c ∷ v) (one_in_front c used v rest b s) in
      record { value = r.value; spelled = r.spelled; count = let e = r.count in omega arith };
  forth = λ u s.
      let r = k.forth u s in
      let g = one_behind c used r.value rest b r.spelled in
      record { value = g.value; spelled = g.spelled; count = let e = r.count in let l = ap length g.whole in omega arith };
  small = let p = used_bound c used rest b in let l = length-drop used rest in let q = k.small in let i = b.within in omega arith;
}

pub counts_end : (w rest : List ℕ) (n : ℕ) → Counts w rest n → length rest ≡ 0 → SpellsMany n w
counts_end w rest n k e =
    let nil : rest ≡ [] = nil_from_length rest e in
    let r = k.back [] (rw nil no_more) in
    record { value = r.value; spelled = r.spelled; count = let l = r.count in omega arith }

pub counts_none : (w rest : List ℕ) (n : ℕ) → Counts w rest n → 0 < length rest → ((c len : ℕ) → BeginsWithSpelling rest c len → ⊥)
    → (u : List ℕ) → SpellsEach u w → ⊥
counts_none w rest n k h none u s =
    let r = k.forth u s in
    let b = first_spelling r.value rest rest r.spelled refl h in
    none b.c b.len b.begins

-- the characters so far, and the start of the symbols that spells them
pub record Gathers (w rest out : List ℕ) : Type 0 where
  pub back : (v : List ℕ) → SpellsEach v rest → SpellsEach (out ++ v) w
  pub counts : Counts w rest (length out)

pub gathers_step : (w rest out : List ℕ) (c used : ℕ) → Gathers w rest out → BeginsWithSpelling rest c used → Gathers w (drop used rest) (out ++ c ∷ [])
gathers_step w rest out c used k b = record {
  back = λ v s. let t = k.back (c ∷ v) (one_in_front c used v rest b s) in rw append_assoc t;
  counts = rw (length-append out (c ∷ [])) (counts_step w rest (length out) c used k.counts b);
}

pub gathers_end : (w rest out : List ℕ) → Gathers w rest out → length rest ≡ 0 → SpellsEach out w
gathers_end w rest out k e =
    let nil : rest ≡ [] = nil_from_length rest e in
    let t = k.back [] (rw nil no_more) in
    rw append-nil at t

pub gathers_none : (w rest out : List ℕ) → Gathers w rest out → 0 < length rest → ((c len : ℕ) → BeginsWithSpelling rest c len → ⊥)
    → (u : List ℕ) → SpellsEach u w → ⊥
gathers_none w rest out k = counts_none w rest (length out) k.counts

-- a value has more characters than those so far if the rest is not empty
pub gathers_more : (w rest out : List ℕ) (count : ℕ) → Gathers w rest (take count out) → length out ≡ 64 → count ≡ 64 → 0 < length rest
    → (u : List ℕ) → length u ≤ 64 → SpellsEach u w → ⊥
gathers_more w rest out count k room full some u few s =
    let r = k.counts.forth u s in
    let long = length-take-le count out (omega arith) in
    let l = (spelled_length r.value rest r.spelled).1 in
    let c = r.count in
    omega arith
