-- Bits of numbers and of packed characters.
use Rattle.std.proofs.Common.{◌≡◌, ℕ, ◌<◌, ◌≤◌, ◌+◌, ◌*◌, ◌^◌, ◌&&◌, true, false, List, [], ◌∷◌, ◌++◌, length, take, drop, replicate, refl, sym, ◌∙◌, ap, subst, arith, add-one, get_or, length-append, All, eqb, leb, inl, inr}
use Rattle.std.specs.List.{list_all, list_any, flat_map}
use Rattle.std.proofs.Math.Nat.{mod-eq_of_lt, pow-succ'}
use Rattle.std.proofs.lemmas.Bool.{leb-true, and_parts}
use Rattle.std.proofs.lemmas.Bool.Decides.{eqb_tells}
use Rattle.std.proofs.lemmas.List.{take_more, take_at, drop_at, take-append-drop, append_assoc, length-drop, length-replicate, append-nil, take_all}
use Rattle.std.proofs.lemmas.List.Elements.{All-append, All-get_or, All-cons, All-nil, All-head, All-tail, All-take, All-replicate}
use Rattle.gs_chars.specs.Characters.{is_in_set82, are_in_set82, set82}
use Rattle.gs_bits.specs.Bits.{AreBits, number_of, bits_of}
use Rattle.gs_bits.specs.BitLaws.{length-bits_of, AreBits-bits_of, number_of-bits_of, number_of-append, number_of-below, bits_of-number_of}
use Rattle.gs_grammar.specs.Words.{WritesNumber, IsPacked, PacksMany}
use Rattle.gs_grammar.specs.NumeralsSupport.{HasCode, NoCode}

pub writes_length : (bits number : ℕ) (w : List ℕ) → WritesNumber bits number w → length w ≡ bits
writes_length bits number w h = ap length h.written ∙ length-bits_of bits number

pub writes_bits : (bits number : ℕ) (w : List ℕ) → WritesNumber bits number w → AreBits w
writes_bits bits number w h = rw h.written (AreBits-bits_of bits number)

pub writes_number : (bits number : ℕ) (w : List ℕ) → WritesNumber bits number w → number_of w ≡ number
writes_number bits number w h = ap number_of h.written ∙ number_of-bits_of bits number ∙ mod-eq_of_lt h.fits

pub writes_one : (bits m n : ℕ) (w : List ℕ) → WritesNumber bits m w → WritesNumber bits n w → m ≡ n
writes_one bits m n w h k = sym (writes_number bits m w h) ∙ writes_number bits n w k

pub written_number : (bits : ℕ) (w : List ℕ) → AreBits w → length w ≡ bits → WritesNumber bits (number_of w) w
written_number bits w b l =
    let below = number_of-below w b in
    let whole = bits_of-number_of w b in
    record { fits = rw (← l) below; written = sym (rw l at whole) }

-- the number so far of the bits of a list
pub record NumberSoFar (w : List ℕ) (i number : ℕ) : Type 0 where
  pub bits : AreBits (take i w)
  pub value : number ≡ number_of (take i w)
  pub small : number < 2 ^ i

pub number_step : (w : List ℕ) (i number : ℕ) → i < length w → get_or w i 0 < 2 → NumberSoFar w i number → NumberSoFar w (i + 1) (2 * number + get_or w i 0)
number_step w i number l b h =
    let more = take_more w i 0 l in
    let bits : AreBits (take i w ++ get_or w i 0 ∷ []) = All-append (λ b. b < 2) (take i w) (get_or w i 0 ∷ []) h.bits (All-cons (λ b. b < 2) (get_or w i 0) [] b (All-nil (λ b. b < 2))) in
    let push = number_of-append (take i w) (get_or w i 0 ∷ []) in
    let value : number_of (take i w ++ get_or w i 0 ∷ []) ≡ 2 * number + get_or w i 0 = let v = h.value in omega arith in
    let power : 2 ^ (i + 1) ≡ 2 * 2 ^ i = rw add-one (pow-succ' 2 i) in
    record { bits = rw more bits; value = rw more (sym value); small = let s = h.small in omega arith }

pub number_not_bit : (bits : ℕ) (w : List ℕ) (i : ℕ) → i < length w → 1 < get_or w i 0 → (number : ℕ) → WritesNumber bits number w → ⊥
number_not_bit bits w i l h number k = let b = All-get_or (λ b. b < 2) w i 0 l (writes_bits bits number w k) in omega arith

pub number_end : (bits : ℕ) (w : List ℕ) (i number : ℕ) → length w ≡ bits → length w ≤ i → NumberSoFar w i number → WritesNumber bits number w
number_end bits w i number l e h =
    let all = take_all i w e in
    let b : AreBits w = rw all at h.bits in
    let v : number ≡ number_of w = rw all at h.value in
    rw v (written_number bits w b l)

-- codes of 7 bits

within_set : (xs : List ℕ) (c : ℕ) → list_all (λ x. leb 1 x && leb x 127) xs ≡ true → list_any (λ x. eqb x c) xs ≡ true → (0 < c) × (c < 128)
within_set [] c h k = let f : false ≡ true = k in cc
within_set (x ∷ xs) c h k =
    let b = and_parts (leb 1 x && leb x 127) (list_all (λ x. leb 1 x && leb x 127) xs) h in
    let l = and_parts (leb 1 x) (leb x 127) b.0 in
    let low = leb-true 1 x l.0 in
    let high = leb-true x 127 l.1 in
    elim (eqb_tells x c) as (λ _. (0 < c) × (c < 128)) [
      | inl e ↦ let same = e.1 in (omega arith, omega arith)
      | inr e ↦ within_set xs c b.1 (rw e.0 at k)
    ]

-- a character of the set has a code from 1 to 127
pub set82_bounds : (c : ℕ) → is_in_set82 c ≡ true → (0 < c) × (c < 128)
unfolding is_in_set82
set82_bounds c h = within_set set82 c refl h

zeros_number : (xs : List ℕ) → All (λ b. b ≡ 0) xs → number_of xs ≡ 0
zeros_number [] h = refl
zeros_number (x ∷ xs) h =
    let first : x ≡ 0 = All-head (λ b. b ≡ 0) x xs h in
    let rest = zeros_number xs (All-tail (λ b. b ≡ 0) x xs h) in
    rw (first, rest) (omega arith)

pub code_number : (c : ℕ) → c < 128 → number_of (bits_of 7 c) ≡ c
code_number c h = number_of-bits_of 7 c ∙ mod-eq_of_lt h

-- zeros begin only with the code 0
zeros_no_code : (p c : ℕ) (rest : List ℕ) → 0 < c → c < 128 → replicate p 0 ≡ bits_of 7 c ++ rest → ⊥
zeros_no_code p c rest h k e =
    let front : take 7 (replicate p 0) ≡ bits_of 7 c = ap (take 7) e ∙ take_at (bits_of 7 c) rest 7 (length-bits_of 7 c) in
    let zeros : All (λ (b : ℕ). b ≡ 0) (take 7 (replicate p 0)) = All-take (λ b. b ≡ 0) 7 (replicate p 0) (All-replicate (λ b. b ≡ 0) p 0 refl) in
    let none : number_of (take 7 (replicate p 0)) ≡ 0 = zeros_number (take 7 (replicate p 0)) zeros in
    let number = ap number_of front ∙ code_number c k in
    omega arith

same_code : (c d : ℕ) (x y : List ℕ) → c < 128 → d < 128 → bits_of 7 c ++ x ≡ bits_of 7 d ++ y → (c ≡ d) × (x ≡ y)
same_code c d x y h k e =
    let front : bits_of 7 c ≡ bits_of 7 d = sym (take_at (bits_of 7 c) x 7 (length-bits_of 7 c)) ∙ ap (take 7) e ∙ take_at (bits_of 7 d) y 7 (length-bits_of 7 d) in
    let back : x ≡ y = sym (drop_at (bits_of 7 c) x 7 (length-bits_of 7 c)) ∙ ap (drop 7) e ∙ drop_at (bits_of 7 d) y 7 (length-bits_of 7 d) in
    (sym (code_number c h) ∙ ap number_of front ∙ code_number d k, back)

split_front : (c p : ℕ) (v : List ℕ) → flat_map (bits_of 7) (c ∷ v) ++ replicate p 0 ≡ bits_of 7 c ++ (flat_map (bits_of 7) v ++ replicate p 0)
split_front c p v = append_assoc (bits_of 7 c) (flat_map (bits_of 7) v) (replicate p 0)

-- a list that begins with a code goes on with the rest of the value
pub record PackGoesOn (u : List ℕ) (c : ℕ) (rest : List ℕ) : Type 0 where
  pub value : List ℕ
  pub whole : u ≡ c ∷ value
  pub packed : IsPacked value rest
  pub in_set : is_in_set82 c ≡ true

pub unpack : (u w rest : List ℕ) (c : ℕ) → IsPacked u w → 0 < c → c < 128 → w ≡ bits_of 7 c ++ rest → PackGoesOn u c rest
unpack [] w rest c p h k e = absurd (zeros_no_code p.padding c rest h k (sym p.packed ∙ e))
unpack (d ∷ v) w rest c p h k e =
    let b = and_parts (is_in_set82 d) (are_in_set82 v) p.characters in
    let s = set82_bounds d b.0 in
    let whole : bits_of 7 d ++ (flat_map (bits_of 7) v ++ replicate p.padding 0) ≡ bits_of 7 c ++ rest = sym (split_front d p.padding v) ∙ sym p.packed ∙ e in
    let same = same_code d c (flat_map (bits_of 7) v ++ replicate p.padding 0) rest s.1 k whole in
    record {
      value = v;
      whole = ap (λ x. x ∷ v) same.0;
      packed = record { characters = b.1; padding = p.padding; packed = sym same.1 };
      in_set = rw same.0 at b.0;
    }

pub pack_cons : (c : ℕ) (v rest : List ℕ) → is_in_set82 c ≡ true → IsPacked v rest → IsPacked (c ∷ v) (bits_of 7 c ++ rest)
pack_cons c v rest h p =
    let d = p.characters in
    record { characters = rw (h, d) refl; padding = p.padding; packed = ap (λ r. bits_of 7 c ++ r) p.packed ∙ sym (split_front c p.padding v) }

-- a value that is not empty begins with its first character's code
first_code : (u w : List ℕ) → IsPacked u w → NoCode w → u ≡ []
first_code [] w p none = refl
first_code (d ∷ v) w p none =
    let b = and_parts (is_in_set82 d) (are_in_set82 v) p.characters in
    let s = set82_bounds d b.0 in
    absurd (none d (flat_map (bits_of 7) v ++ replicate p.padding 0) s.0 s.1 (p.packed ∙ split_front d p.padding v))

pub packed_nil : (w : List ℕ) → IsPacked [] w → w ≡ replicate (length w) 0
packed_nil w p =
    let count : length w ≡ p.padding = ap length p.packed ∙ length-replicate p.padding 0 in
    rw count p.packed

-- the value that a list packs is the only one
pub packed_fixes : (u v w : List ℕ) → IsPacked u w → IsPacked v w → u ≡ v
packed_fixes [] [] w p q = refl
packed_fixes [] (d ∷ v) w p q =
    let b = and_parts (is_in_set82 d) (are_in_set82 v) q.characters in
    let s = set82_bounds d b.0 in
    absurd (zeros_no_code p.padding d (flat_map (bits_of 7) v ++ replicate q.padding 0) s.0 s.1 (sym p.packed ∙ q.packed ∙ split_front d q.padding v))
packed_fixes (c ∷ u) v w p q =
    let b = and_parts (is_in_set82 c) (are_in_set82 u) p.characters in
    let s = set82_bounds c b.0 in
    let rest : List ℕ = flat_map (bits_of 7) u ++ replicate p.padding 0 in
    let g = unpack v w rest c q s.0 s.1 (p.packed ∙ split_front c p.padding u) in
    let tail = packed_fixes u g.value rest (record { characters = b.1; padding = p.padding; packed = refl }) g.packed in
    ap (λ x. c ∷ x) tail ∙ sym g.whole

-- the first 7 symbols

pub code_length : (w : List ℕ) (c : ℕ) → HasCode w c → 7 ≤ length w
code_length w c h = let l = ap length h.front in let m = length-append (bits_of 7 c) (drop 7 w) in let n = length-bits_of 7 c in omega arith

pub short_no_code : (w : List ℕ) → length w < 7 → NoCode w
short_no_code w h c rest a b e = let l = ap length e in let m = length-append (bits_of 7 c) rest in let n = length-bits_of 7 c in omega arith

front_writes : (w rest : List ℕ) (c : ℕ) → c < 128 → w ≡ bits_of 7 c ++ rest → WritesNumber 7 c (take 7 w)
front_writes w rest c h e = record { fits = omega arith; written = ap (take 7) e ∙ take_at (bits_of 7 c) rest 7 (length-bits_of 7 c) }

pub unwritten_no_code : (w : List ℕ) → ((number : ℕ) → WritesNumber 7 number (take 7 w) → ⊥) → NoCode w
unwritten_no_code w none c rest a b e = none c (front_writes w rest c b e)

pub zero_no_code : (w : List ℕ) (number : ℕ) → WritesNumber 7 number (take 7 w) → number ≡ 0 → NoCode w
zero_no_code w number h z c rest a b e = let s = writes_one 7 number c (take 7 w) h (front_writes w rest c b e) in omega arith

pub has_code : (w : List ℕ) (number : ℕ) → WritesNumber 7 number (take 7 w) → (number ≡ 0 → ⊥) → HasCode w number
has_code w number h n =
    let f = h.fits in
    record { some = omega arith; small = omega arith; front = sym (take-append-drop 7 w) ∙ ap (λ x. x ++ drop 7 w) h.written }

-- counting and collecting characters

pub record PackRest (u rest : List ℕ) (n : ℕ) : Type 0 where
  pub value : List ℕ
  pub packed : IsPacked value rest
  pub count : length u ≡ n + length value

pub record PackCounts (w rest : List ℕ) (n : ℕ) : Type 0 where
  pub back : (v : List ℕ) → IsPacked v rest → PacksMany (n + length v) w
  pub forth : (u : List ℕ) → IsPacked u w → PackRest u rest n
  pub small : n + length rest ≤ length w

pub pack_counts_start : (w : List ℕ) → PackCounts w w 0
pack_counts_start w = record {
  back = λ v p. record { value = v; packed = p; count = omega arith };
  forth = λ u p. record { value = u; packed = p; count = omega arith };
  small = omega arith;
}

pub pack_counts_step : (w rest : List ℕ) (n c : ℕ) → PackCounts w rest n → HasCode rest c → is_in_set82 c ≡ true → PackCounts w (drop 7 rest) (n + 1)
pack_counts_step w rest n c k h i = record {
  back = λ v p.
      let q = pack_cons c v (drop 7 rest) i p in
      let whole : IsPacked (c ∷ v) rest = subst (λ (x : List ℕ). IsPacked (c ∷ v) x) (sym h.front) q in
      let r = k.back (c ∷ v) whole in
      record { value = r.value; packed = r.packed; count = let e = r.count in omega arith };
  forth = λ u p.
      let r = k.forth u p in
      let g = unpack r.value rest (drop 7 rest) c r.packed h.some h.small h.front in
      record { value = g.value; packed = g.packed; count = let e = r.count in let l = ap length g.whole in omega arith };
  small = let l = length-drop 7 rest in let m = code_length rest c h in let q = k.small in omega arith;
}

pub pack_counts_end : (w rest : List ℕ) (n : ℕ) → PackCounts w rest n → rest ≡ replicate (length rest) 0 → PacksMany n w
pack_counts_end w rest n k e =
    let r = k.back [] (record { characters = refl; padding = length rest; packed = e }) in
    record { value = r.value; packed = r.packed; count = let l = r.count in omega arith }

pub pack_counts_none : (w rest : List ℕ) (n : ℕ) → PackCounts w rest n → NoCode rest → (rest ≡ replicate (length rest) 0 → ⊥) → (u : List ℕ) → IsPacked u w → ⊥
pack_counts_none w rest n k none bad u p =
    let r = k.forth u p in
    let nil = first_code r.value rest r.packed none in
    let empty : IsPacked [] rest = subst (λ (x : List ℕ). IsPacked x rest) nil r.packed in
    bad (packed_nil rest empty)

pub pack_counts_bad : (w rest : List ℕ) (n c : ℕ) → PackCounts w rest n → HasCode rest c → is_in_set82 c ≡ false → (u : List ℕ) → IsPacked u w → ⊥
pack_counts_bad w rest n c k h i u p =
    let r = k.forth u p in
    let g = unpack r.value rest (drop 7 rest) c r.packed h.some h.small h.front in
    let x : true ≡ false = sym g.in_set ∙ i in cc

pub record PackCollects (w rest out : List ℕ) : Type 0 where
  pub back : (v : List ℕ) → IsPacked v rest → IsPacked (out ++ v) w
  pub value : List ℕ
  pub packed : IsPacked value rest

pub pack_collects_step : (w rest out : List ℕ) (c : ℕ) → PackCollects w rest out → HasCode rest c → PackCollects w (drop 7 rest) (out ++ c ∷ [])
pack_collects_step w rest out c k h =
    let g = unpack k.value rest (drop 7 rest) c k.packed h.some h.small h.front in
    record {
      back = λ v p.
          let q = pack_cons c v (drop 7 rest) g.in_set p in
          let whole : IsPacked (c ∷ v) rest = subst (λ (x : List ℕ). IsPacked (c ∷ v) x) (sym h.front) q in
          rw append_assoc (k.back (c ∷ v) whole);
      value = g.value;
      packed = g.packed;
    }

pub pack_collects_end : (w rest out : List ℕ) → PackCollects w rest out → NoCode rest → IsPacked out w
pack_collects_end w rest out k none =
    let nil = first_code k.value rest k.packed none in
    let empty : IsPacked [] rest = subst (λ (x : List ℕ). IsPacked x rest) nil k.packed in
    let t = k.back [] empty in
    rw append-nil at t
