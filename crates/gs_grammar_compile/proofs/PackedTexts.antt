-- The table of packed characters reads the lists that pack that many.
use Rattle.std.proofs.Common.{◌≡◌, ℕ, ◌<◌, ◌≤◌, ◌+◌, ◌-◌, ◌*◌, ◌^◌, true, List, [], ◌∷◌, ◌++◌, length, replicate, zero, suc, refl, sym, ◌∙◌, ap, subst, inl, inr, arith, length-append}
use Rattle.std.specs.List.{flat_map}
use Rattle.std.proofs.lemmas.Bool.{cases_eq}
use Rattle.std.proofs.lemmas.List.{length-replicate, append_assoc}
use Rattle.gs_chars.specs.Characters.{is_in_set82, are_in_set82}
use Rattle.gs_chars.proofs.TruthsAndLists.{and_first, and_second}
use Rattle.gs_bits.specs.Bits.{AreBits, bits_of, number_of}
use Rattle.gs_bits.specs.BitLaws.{length-bits_of, AreBits-bits_of, bits_of-number_of}
use Rattle.gs_grammar.specs.declared.item.Item.TheVariants.{Ascii7}
use Rattle.gs_grammar.specs.Words.{IsWord, IsPacked}
use Rattle.gs_grammar.specs.Languages.{PacksWithin}
use Rattle.gs_grammar.proofs.ItemWords.{ascii_word}
use Rattle.gs_grammar.proofs.Packs.{pack_cons, packed_fixes, packed_nil, set82_bounds, code_number as number_is}
use Rattle.gs_ambig.specs.declared.machine.Edge.{Edge}
use Rattle.gs_ambig.specs.Walks.{edges_at}
use Rattle.gs_grammar_compile.specs.Readers.{Reads}
use Rattle.gs_grammar_compile.specs.Tables.{edge, run_table}
use Rattle.gs_grammar_compile.specs.CodeTables.{code_block, code_states, root_edges, next_character, characters_table, ascii_table}
use Rattle.gs_grammar_compile.proofs.WalkLemmas.{Ascends}
use Rattle.gs_grammar_compile.proofs.Arms.{Begins, ByEdge, Either, reads_state, reads_as, arms_one, arms_cons}
use Rattle.gs_grammar_compile.proofs.Blocks.{Has, has_head, has_tail, has_left, has_right}
use Rattle.gs_grammar_compile.proofs.Runs.{IsRun, reads_run, zeros_run, run_zeros}
use Rattle.gs_grammar_compile.proofs.Codes.{Code, Coded, Fork, arms_fork, HasCode, reads_low, reads_high, length_block, count_states, code_there, code_back}

-- the list packs from lo to n characters, and has that many bits
pub record PacksIn (lo n bits : ℕ) (w : List ℕ) : Type 0 where
  pub value : List ℕ
  pub packed : IsPacked value w
  pub least : lo ≤ length value
  pub most : length value ≤ n
  pub count : length w ≡ bits

zeros_packed : (n bits : ℕ) (w : List ℕ) → w ≡ replicate bits 0 → PacksIn 0 n bits w
zeros_packed n bits w e = record {
  value = [];
  packed = record { characters = refl; padding = bits; packed = e };
  least = omega arith;
  most = omega arith;
  count = ap length e ∙ length-replicate bits 0;
}

packed_zeros : (bits : ℕ) (w : List ℕ) → PacksIn 0 0 bits w → w ≡ replicate bits 0
packed_zeros bits w p = no_value p.value w p.packed (let m = p.most in omega arith) ∙ ap (λ (k : ℕ). replicate k 0) p.count
  where
    no_value : (value v : List ℕ) → IsPacked value v → length value ≡ 0 → v ≡ replicate (length v) 0
    no_value [] v q l = packed_nil v q
    no_value (c ∷ value) v q l = absurd (omega arith)

-- one character at the start

bits_are : (bits : List ℕ) (c : ℕ) → AreBits bits → length bits ≡ 7 → c ≡ number_of bits → bits ≡ bits_of 7 c
bits_are bits c b l e =
    let whole = bits_of-number_of bits b in
    sym whole ∙ ap (λ (k : ℕ). bits_of k (number_of bits)) l ∙ ap (bits_of 7) (sym e)

coded_packed : (lo n bits : ℕ) (w : List ℕ) → 7 ≤ bits → Coded 7 0 (PacksIn (lo - 1) n (bits - 7)) w → PacksIn lo (suc n) bits w
coded_packed lo n bits w few c =
    let r = c.behind in
    let count = c.count in
    let rest_count = r.count in
    let number : 0 * 2 ^ 7 + number_of c.bits ≡ number_of c.bits = omega arith in
    let character : is_in_set82 (number_of c.bits) ≡ true = ap is_in_set82 (sym number) ∙ c.character in
    let same = bits_are c.bits (number_of c.bits) c.are_bits count refl in
    let front : IsPacked (number_of c.bits ∷ r.value) (bits_of 7 (number_of c.bits) ++ c.rest) = pack_cons (number_of c.bits) r.value c.rest character r.packed in
    let joined : w ≡ bits_of 7 (number_of c.bits) ++ c.rest = c.whole ∙ ap (λ (x : List ℕ). x ++ c.rest) same in
    let l = ap length c.whole in
    let a = length-append c.bits c.rest in
    let least = r.least in
    let most = r.most in
    record { value = number_of c.bits ∷ r.value; packed = subst (λ (x : List ℕ). IsPacked (number_of c.bits ∷ r.value) x) (sym joined) front; least = omega arith; most = omega arith; count = omega arith }

-- the start of a packed value that is not empty
pub record Fronted (c : ℕ) (value w : List ℕ) : Type 0 where
  pub rest : List ℕ
  pub whole : w ≡ bits_of 7 c ++ rest
  pub packed : IsPacked value rest
  pub character : is_in_set82 c ≡ true

fronted : (c : ℕ) (value w : List ℕ) → IsPacked (c ∷ value) w → Fronted c value w
fronted c value w p = record {
  rest = flat_map (bits_of 7) value ++ replicate p.padding 0;
  whole = p.packed ∙ append_assoc (bits_of 7 c) (flat_map (bits_of 7) value) (replicate p.padding 0);
  packed = record { characters = and_second (is_in_set82 c) (are_in_set82 value) p.characters; padding = p.padding; packed = refl };
  character = and_first (is_in_set82 c) (are_in_set82 value) p.characters;
}

packed_coded : (lo n bits c : ℕ) (value w : List ℕ) → Fronted c value w → lo ≤ suc (length value) → length value ≤ n → length w ≡ bits
    → Code 7 0 (PacksIn (lo - 1) n (bits - 7)) w
packed_coded lo n bits c value w f least most count =
    let small = set82_bounds c f.character in
    let seven = length-bits_of 7 c in
    let l = ap length f.whole in
    let a = length-append (bits_of 7 c) f.rest in
    let number : 0 * 2 ^ 7 + number_of (bits_of 7 c) ≡ c = omega arith ∙ number_is c small.1 in
    let behind : PacksIn (lo - 1) n (bits - 7) f.rest = record { value = value; packed = f.packed; least = omega arith; most = most; count = omega arith } in
    let code = code_back 7 0 (PacksIn (lo - 1) n (bits - 7)) (bits_of 7 c) f.rest (AreBits-bits_of 7 c) seven (ap is_in_set82 number ∙ f.character) behind in
    subst (λ (x : List ℕ). Code 7 0 (PacksIn (lo - 1) n (bits - 7)) x) (sym f.whole) code

-- at a character's first bit

abbrev Root : ℕ → ℕ → ℕ → ℕ → ℕ → ℕ → List ℕ → Type 0
Root lo n bits a b = Fork a b (Code 6 0 (PacksIn (lo - 1) n (bits - 7))) (Code 6 1 (PacksIn (lo - 1) n (bits - 7)))

root_code : (lo n bits a b s : ℕ) (w : List ℕ) → Root lo n bits a b s w → Code 7 0 (PacksIn (lo - 1) n (bits - 7)) (s ∷ w)
root_code lo n bits a b s w (inl h) = inl (let x = h.1 in omega arith, h.2)
root_code lo n bits a b s w (inr h) = inr (let x = h.0 in let y = h.1 in omega arith, h.2)

code_root : (lo n bits a b s : ℕ) (w : List ℕ) → Code 7 0 (PacksIn (lo - 1) n (bits - 7)) (s ∷ w) → Root lo n bits a b s w
code_root lo n bits a b s w (inl h) = let x = h.0 in inl (omega arith, omega arith, h.1)
code_root lo n bits a b s w (inr h) = let x = h.0 in inr (omega arith, omega arith, h.1)

root_packed : (lo n bits a b : ℕ) → 7 ≤ bits → (s : ℕ) (w : List ℕ) → Root lo n bits a b s w → PacksIn lo (suc n) bits (s ∷ w)
root_packed lo n bits a b few s w h = coded_packed lo n bits (s ∷ w) few
    (code_there 7 0 (PacksIn (lo - 1) n (bits - 7)) (s ∷ w) (root_code lo n bits a b s w h))

some_code : (lo n bits : ℕ) (value w : List ℕ) → IsPacked value w → 1 ≤ length value → lo ≤ length value → length value ≤ suc n
    → length w ≡ bits → Code 7 0 (PacksIn (lo - 1) n (bits - 7)) w
some_code lo n bits [] w p some least most count = absurd (omega arith)
some_code lo n bits (c ∷ value) w p some least most count = packed_coded lo n bits c value w (fronted c value w p) (omega arith) (omega arith) count

-- if more characters must follow
must_there : (lo n bits a b : ℕ) → 7 ≤ bits → (w : List ℕ) → Begins (Root (suc lo) n bits a b) w → PacksIn (suc lo) (suc n) bits w
must_there lo n bits a b few [] h = absurd h
must_there lo n bits a b few (s ∷ w) h = root_packed (suc lo) n bits a b few s w h

must_back : (lo n bits a b : ℕ) → 7 ≤ bits → (w : List ℕ) → PacksIn (suc lo) (suc n) bits w → Begins (Root (suc lo) n bits a b) w
must_back lo n bits a b few [] p = absurd (let c = p.count in omega arith)
must_back lo n bits a b few (s ∷ w) p =
    let least = p.least in
    code_root (suc lo) n bits a b s w (some_code (suc lo) n bits p.value (s ∷ w) p.packed (omega arith) p.least p.most p.count)

-- if the zeros may begin
abbrev Zeros : ℕ → ℕ → ℕ → List ℕ → Type 0
Zeros bits next = ByEdge (edge 0 0 next) (IsRun 0 0 (bits - 1))

zeros_here : (bits s : ℕ) (w : List ℕ) (next : ℕ) → 7 ≤ bits → Zeros bits next s w → s ∷ w ≡ replicate bits 0
zeros_here bits s w next few h =
    let first : s ≡ 0 = let x = h.1 in omega arith in
    let rest = run_zeros (bits - 1) w h.2 in
    let count : suc (bits - 1) ≡ bits = omega arith in
    let whole : s ∷ w ≡ 0 ∷ replicate (bits - 1) 0 = cc in
    whole ∙ ap (λ (k : ℕ). replicate k 0) count

abbrev RootOrZeros : ℕ → ℕ → ℕ → ℕ → ℕ → ℕ → List ℕ → Type 0
RootOrZeros n bits a b next = Either (ByEdge (edge 0 0 a) (Code 6 0 (PacksIn 0 n (bits - 7))))
    (Either (ByEdge (edge 1 1 b) (Code 6 1 (PacksIn 0 n (bits - 7)))) (Zeros bits next))

may_there : (n bits a b next : ℕ) → 7 ≤ bits → (w : List ℕ) → Begins (RootOrZeros n bits a b next) w → PacksIn 0 (suc n) bits w
may_there n bits a b next few [] h = absurd h
may_there n bits a b next few (s ∷ w) (inl h) = root_packed 0 n bits a b few s w (inl h)
may_there n bits a b next few (s ∷ w) (inr (inl h)) = root_packed 0 n bits a b few s w (inr h)
may_there n bits a b next few (s ∷ w) (inr (inr h)) = zeros_packed (suc n) bits (s ∷ w) (zeros_here bits s w next few h)

from_root : (n bits a b next s : ℕ) (w : List ℕ) → Root 0 n bits a b s w → RootOrZeros n bits a b next s w
from_root n bits a b next s w (inl h) = inl h
from_root n bits a b next s w (inr h) = inr (inl h)

zeros_back : (n bits a b next s : ℕ) (w : List ℕ) → 7 ≤ bits → s ∷ w ≡ replicate bits 0 → RootOrZeros n bits a b next s w
zeros_back n bits a b next s w few e =
    let count : bits ≡ suc (bits - 1) = omega arith in
    let f : s ∷ w ≡ 0 ∷ replicate (bits - 1) 0 = e ∙ ap (λ (k : ℕ). replicate k 0) count in
    let first : s ≡ 0 = cc in
    let rest : w ≡ replicate (bits - 1) 0 = cc in
    inr (inr (omega arith, omega arith, zeros_run (bits - 1) w rest))

by_value : (n bits a b next s : ℕ) (value w : List ℕ) → 7 ≤ bits → IsPacked value (s ∷ w) → length value ≤ suc n → length (s ∷ w) ≡ bits
    → RootOrZeros n bits a b next s w
by_value n bits a b next s [] w few p most count = zeros_back n bits a b next s w few (packed_nil (s ∷ w) p ∙ ap (λ (k : ℕ). replicate k 0) count)
by_value n bits a b next s (c ∷ value) w few p most count =
    from_root n bits a b next s w (code_root 0 n bits a b s w (some_code 0 n bits (c ∷ value) (s ∷ w) p (omega arith) (omega arith) most count))

may_back : (n bits a b next : ℕ) → 7 ≤ bits → (w : List ℕ) → PacksIn 0 (suc n) bits w → Begins (RootOrZeros n bits a b next) w
may_back n bits a b next few [] p = absurd (let c = p.count in omega arith)
may_back n bits a b next few (s ∷ w) p = by_value n bits a b next s p.value w few p.packed p.most p.count

-- zeros pack no character
zeros_apart : (n bits a b next s : ℕ) (w : List ℕ) → 7 ≤ bits → Root 0 n bits a b s w → Zeros bits next s w → ⊥
zeros_apart n bits a b next s w few h k =
    let c = code_there 7 0 (PacksIn 0 n (bits - 7)) (s ∷ w) (root_code 0 n bits a b s w h) in
    let p = coded_value n bits (s ∷ w) c in
    let z = zeros_packed 0 bits (s ∷ w) (zeros_here bits s w next few k) in
    let empty = packed_fixes p.0 [] (s ∷ w) p.1.0 (record { characters = refl; padding = bits; packed = zeros_here bits s w next few k }) in
    let l = ap length empty in
    let some = p.1.1 in
    omega arith
  where
    coded_value : (m k : ℕ) (v : List ℕ) → Coded 7 0 (PacksIn 0 m (k - 7)) v → (value : List ℕ) × (IsPacked value v × (1 ≤ length value))
    coded_value m k v c =
        let number : 0 * 2 ^ 7 + number_of c.bits ≡ number_of c.bits = omega arith in
        let character : is_in_set82 (number_of c.bits) ≡ true = ap is_in_set82 (sym number) ∙ c.character in
        let same = bits_are c.bits (number_of c.bits) c.are_bits c.count refl in
        let front : IsPacked (number_of c.bits ∷ c.behind.value) (bits_of 7 (number_of c.bits) ++ c.rest) = pack_cons (number_of c.bits) c.behind.value c.rest character c.behind.packed in
        let joined : v ≡ bits_of 7 (number_of c.bits) ++ c.rest = c.whole ∙ ap (λ (x : List ℕ). x ++ c.rest) same in
        (number_of c.bits ∷ c.behind.value, (subst (λ (x : List ℕ). IsPacked (number_of c.bits ∷ c.behind.value) x) (sym joined) front, omega arith))

-- the state of a character's first bit

reads_must : (table : List (List Edge)) (lo n bits base q : ℕ) → 7 ≤ bits → edges_at table base ≡ root_edges (suc lo) bits base q → base < q
    → Reads table (base + 1) q (Code 6 0 (PacksIn lo n (bits - 7))) → Reads table (base + 2) q (Code 6 1 (PacksIn lo n (bits - 7)))
    → Reads table base q (PacksIn (suc lo) (suc n) bits)
reads_must table lo n bits base q few e l r s =
    let less : suc lo - 1 ≡ lo = omega arith in
    let low : Reads table (base + 1) q (Code 6 0 (PacksIn (suc lo - 1) n (bits - 7))) = subst (λ (k : ℕ). Reads table (base + 1) q (Code 6 0 (PacksIn k n (bits - 7)))) (sym less) r in
    let high : Reads table (base + 2) q (Code 6 1 (PacksIn (suc lo - 1) n (bits - 7))) = subst (λ (k : ℕ). Reads table (base + 2) q (Code 6 1 (PacksIn k n (bits - 7)))) (sym less) s in
    let arms = arms_fork table (base + 1) (base + 2) q (Code 6 0 (PacksIn (suc lo - 1) n (bits - 7))) (Code 6 1 (PacksIn (suc lo - 1) n (bits - 7))) low high in
    let state = reads_state table base q (edge 0 0 (base + 1) ∷ edge 1 1 (base + 2) ∷ []) (Root (suc lo) n bits (base + 1) (base + 2)) e l arms in
    reads_as table base q (Begins (Root (suc lo) n bits (base + 1) (base + 2))) (PacksIn (suc lo) (suc n) bits) state
    (must_there lo n bits (base + 1) (base + 2) few) (must_back lo n bits (base + 1) (base + 2) few)

first_apart : (n bits a b next : ℕ) → 7 ≤ bits → (s : ℕ) (w : List ℕ) → ByEdge (edge 0 0 a) (Code 6 0 (PacksIn 0 n (bits - 7))) s w
    → Either (ByEdge (edge 1 1 b) (Code 6 1 (PacksIn 0 n (bits - 7)))) (Zeros bits next) s w → ⊥
first_apart n bits a b next few s w h (inl k) = let x = h.1 in let y = k.0 in omega arith
first_apart n bits a b next few s w h (inr k) = zeros_apart n bits a b next s w few (inl h) k

reads_may : (table : List (List Edge)) (n bits base q : ℕ) → 7 ≤ bits → edges_at table base ≡ root_edges 0 bits base q → base < q
    → Reads table (base + 1) q (Code 6 0 (PacksIn 0 n (bits - 7))) → Reads table (base + 2) q (Code 6 1 (PacksIn 0 n (bits - 7)))
    → Reads table (q - (bits - 1)) q (IsRun 0 0 (bits - 1)) → Reads table base q (PacksIn 0 (suc n) bits)
reads_may table n bits base q few e l r s z =
    let zeros = arms_one table (edge 0 0 (q - (bits - 1))) q (IsRun 0 0 (bits - 1)) z in
    let ones = arms_cons table (edge 1 1 (base + 2)) (edge 0 0 (q - (bits - 1)) ∷ []) q (Code 6 1 (PacksIn 0 n (bits - 7))) (Zeros bits (q - (bits - 1))) s zeros (λ x w h k. let a = h.0 in let b = k.1 in omega arith) in
    let arms = arms_cons table (edge 0 0 (base + 1)) (edge 1 1 (base + 2) ∷ edge 0 0 (q - (bits - 1)) ∷ []) q (Code 6 0 (PacksIn 0 n (bits - 7))) (Either (ByEdge (edge 1 1 (base + 2)) (Code 6 1 (PacksIn 0 n (bits - 7)))) (Zeros bits (q - (bits - 1)))) r ones (first_apart n bits (base + 1) (base + 2) (q - (bits - 1)) few) in
    let state = reads_state table base q (edge 0 0 (base + 1) ∷ edge 1 1 (base + 2) ∷ edge 0 0 (q - (bits - 1)) ∷ []) (RootOrZeros n bits (base + 1) (base + 2) (q - (bits - 1))) e l arms in
    reads_as table base q (Begins (RootOrZeros n bits (base + 1) (base + 2) (q - (bits - 1)))) (PacksIn 0 (suc n) bits) state
    (may_there n bits (base + 1) (base + 2) (q - (bits - 1)) few) (may_back n bits (base + 1) (base + 2) (q - (bits - 1)) few)

-- the chain of zeros
abbrev ZerosFrom : List (List Edge) → ℕ → ℕ → Type 0
ZerosFrom table n q = (j : ℕ) → j ≤ n → Reads table (q - j) q (IsRun 0 0 j)

zeros_at : (table : List (List Edge)) (n base q j : ℕ) → Has table base (run_table 0 0 n base) → q ≡ base + n → j ≤ n
    → Has table (q - j) (run_table 0 0 j (q - j))
zeros_at table zero base q j h e m =
    let none : j ≡ 0 = omega arith in
    let place : base ≡ q - j = omega arith in
    subst (λ (k : ℕ). Has table (q - j) (run_table 0 0 k (q - j))) (sym none) (subst (λ (b : ℕ). Has table b []) place h)
zeros_at table (suc n) base q j h e m = elim (cases_eq j (suc n)) as (λ _. Has table (q - j) (run_table 0 0 j (q - j))) [
  | inl all ↦
      let place : base ≡ q - j = omega arith in
      subst (λ (k : ℕ). Has table (q - j) (run_table 0 0 k (q - j))) (sym all) (subst (λ (b : ℕ). Has table b (run_table 0 0 (suc n) b)) place h)
  | inr less ↦ zeros_at table n (base + 1) q j (has_tail table base (edge 0 0 (base + 1) ∷ []) (run_table 0 0 n (base + 1)) h) (omega arith) (omega arith)
]

zeros_from : (table : List (List Edge)) (n base q : ℕ) → Has table base (run_table 0 0 n base) → Ascends table → q ≡ base + n → ZerosFrom table n q
zeros_from table n base q h a e j m = reads_run table 0 0 j (q - j) q (zeros_at table n base q j h e m) a (omega arith)

-- no more characters
reads_zeros : (table : List (List Edge)) (lo bits n q : ℕ) → ZerosFrom table n q → lo ≡ 0 → bits ≤ n → Reads table (q - bits) q (PacksIn lo 0 bits)
reads_zeros table lo bits n q z none l =
    subst (λ (k : ℕ). Reads table (q - bits) q (PacksIn k 0 bits)) (sym none)
    (reads_as table (q - bits) q (IsRun 0 0 bits) (PacksIn 0 0 bits) (z bits l) (λ w r. zeros_packed 0 bits w (run_zeros bits w r)) (λ w p. zeros_run bits w (packed_zeros bits w p)))

pub length_code : (next base : ℕ) → length (code_block code_states base next) ≡ 23
length_code next base = length_block code_states base next ∙ count_states

-- the states below the first bit
pub record ReadsCode (table : List (List Edge)) (lo n bits base q : ℕ) : Type 0 where
  pub low : Reads table (base + 1) q (Code 6 0 (PacksIn (lo - 1) n (bits - 7)))
  pub high : Reads table (base + 2) q (Code 6 1 (PacksIn (lo - 1) n (bits - 7)))

reads_code : (table : List (List Edge)) (lo n bits base next q : ℕ) → Has table (base + 1) (code_block code_states (base + 1) next)
    → base + 24 ≤ q → Reads table next q (PacksIn (lo - 1) n (bits - 7)) → ReadsCode table lo n bits base q
reads_code table lo n bits base next q h l r =
    let code : HasCode table (base + 1) next q (PacksIn (lo - 1) n (bits - 7)) = record { states = h; room = omega arith; end = r } in
    let first : base + 1 + 0 ≡ base + 1 = omega arith in
    let second : base + 1 + 1 ≡ base + 2 = omega arith in
    record {
      low = subst (λ (k : ℕ). Reads table k q (Code 6 0 (PacksIn (lo - 1) n (bits - 7)))) first
          (reads_low table (base + 1) next q (PacksIn (lo - 1) n (bits - 7)) code);
      high = subst (λ (k : ℕ). Reads table k q (Code 6 1 (PacksIn (lo - 1) n (bits - 7)))) second
          (reads_high table (base + 1) next q (PacksIn (lo - 1) n (bits - 7)) code);
    }

reads_root : (table : List (List Edge)) (lo n bits base q chain : ℕ) → 7 ≤ bits → edges_at table base ≡ root_edges lo bits base q → base < q
    → ZerosFrom table chain q → bits ≤ chain + 7 * lo → ReadsCode table lo n bits base q → Reads table base q (PacksIn lo (suc n) bits)
reads_root table zero n bits base q chain few e l z c r = reads_may table n bits base q few e l r.low r.high (z (bits - 1) (omega arith))
reads_root table (suc lo) n bits base q chain few e l z c r =
    let less : suc lo - 1 ≡ lo = omega arith in
    let low : Reads table (base + 1) q (Code 6 0 (PacksIn lo n (bits - 7))) = subst (λ (k : ℕ). Reads table (base + 1) q (Code 6 0 (PacksIn k n (bits - 7)))) less r.low in
    let high : Reads table (base + 2) q (Code 6 1 (PacksIn lo n (bits - 7))) = subst (λ (k : ℕ). Reads table (base + 2) q (Code 6 1 (PacksIn k n (bits - 7)))) less r.high in
    reads_must table lo n bits base q few e l low high

pub reads_characters : (table : List (List Edge)) (n lo bits base q chain : ℕ) → Has table base (characters_table lo (suc n) bits base q)
    → lo ≤ suc n → 7 * suc n ≤ bits → bits ≤ chain + 7 * lo → base + 24 * suc n ≤ q → ZerosFrom table chain q
    → Reads table base q (PacksIn lo (suc n) bits)
reads_characters table zero lo bits base q chain h l few most room z =
    let next : ℕ = q - (bits - 7) in
    let row : List Edge = root_edges lo bits base q in
    let states : List (List Edge) = code_block code_states (base + 1) next in
    let behind = has_tail table base row (states ++ []) h in
    let here = has_left table (base + 1) states [] behind in
    let rest = reads_zeros table (lo - 1) (bits - 7) chain q z (omega arith) (omega arith) in
    let both = reads_code table lo 0 bits base next q here (omega arith) rest in
    reads_root table lo 0 bits base q chain (omega arith) (has_head table base row (states ++ []) h) (omega arith) z most both
reads_characters table (suc n) lo bits base q chain h l few most room z =
    let next : ℕ = base + 24 in
    let row : List Edge = root_edges lo bits base q in
    let states : List (List Edge) = code_block code_states (base + 1) next in
    let others : List (List Edge) = characters_table (lo - 1) (suc n) (bits - 7) (base + 24) q in
    let behind = has_tail table base row (states ++ others) h in
    let count = length_code next (base + 1) in
    let place : base + 1 + length states ≡ base + 24 = omega arith in
    let block : Has table (base + 24) others = subst (λ (k : ℕ). Has table k others) place (has_right table (base + 1) states others behind) in
    let rest = reads_characters table n (lo - 1) (bits - 7) (base + 24) q chain block (omega arith) (omega arith) (omega arith) (omega arith) z in
    let both = reads_code table lo (suc n) bits base next q (has_left table (base + 1) states others behind) (omega arith) rest in
    reads_root table lo (suc n) bits base q chain (omega arith) (has_head table base row (states ++ others) h) (omega arith) z most both

pub length_characters : (hi lo bits base q : ℕ) → length (characters_table lo hi bits base q) ≡ 24 * hi
length_characters zero lo bits base q = omega arith
length_characters (suc n) lo bits base q =
    let row = length_code (next_character n bits base q) (base + 1) in
    let rest = length_characters n (lo - 1) (bits - 7) (base + 24) q in
    let both = length-append (code_block code_states (base + 1) (next_character n bits base q)) (characters_table (lo - 1) n (bits - 7) (base + 24) q) in
    omega arith

packs_within : (lo hi bits : ℕ) (w : List ℕ) → PacksIn lo hi bits w → (length w ≡ bits) × PacksWithin lo hi w
packs_within lo hi bits w p = (p.count, record { count = length p.value; packed = record { value = p.value; packed = p.packed; count = refl }; least = p.least; most = p.most })

within_packs : (lo hi bits : ℕ) (w : List ℕ) → (length w ≡ bits) × PacksWithin lo hi w → PacksIn lo hi bits w
within_packs lo hi bits w h =
    let c = h.1.packed.count in
    let least = h.1.least in
    let most = h.1.most in
    record { value = h.1.packed.value; packed = h.1.packed.packed; least = omega arith; most = omega arith; count = h.0 }

pub reads_ascii : (table : List (List Edge)) (lo hi bits base q : ℕ) → Has table base (ascii_table lo hi bits base) → Ascends table → 1 ≤ lo
    → lo ≤ hi → 7 * hi ≤ bits → q ≡ base + 24 * hi + (bits - 7 * lo) → Reads table base q (IsWord (Ascii7 lo hi bits))
reads_ascii table lo zero bits base q h a some l few e = absurd (omega arith)
reads_ascii table lo (suc n) bits base q h a some l few e =
    let end : ℕ = base + 24 * suc n + (bits - 7 * lo) in
    let front : List (List Edge) = characters_table lo (suc n) bits base end in
    let tail : List (List Edge) = run_table 0 0 (bits - 7 * lo) (base + 24 * suc n) in
    let count = length_characters (suc n) lo bits base end in
    let place : base + length front ≡ base + 24 * suc n = omega arith in
    let chain : Has table (base + 24 * suc n) tail = subst (λ (k : ℕ). Has table k tail) place (has_right table base front tail h) in
    let zeros = zeros_from table (bits - 7 * lo) (base + 24 * suc n) end chain a refl in
    let whole = reads_characters table n lo bits base end (bits - 7 * lo) (has_left table base front tail h) l few (omega arith) (omega arith) zeros in
    let here : Reads table base q (PacksIn lo (suc n) bits) = subst (λ (k : ℕ). Reads table base k (PacksIn lo (suc n) bits)) (sym e) whole in
    reads_as table base q (PacksIn lo (suc n) bits) (IsWord (Ascii7 lo (suc n) bits)) here
    (λ w p. (ascii_word lo (suc n) bits w).1 (packs_within lo (suc n) bits w p))
    (λ w i. within_packs lo (suc n) bits w ((ascii_word lo (suc n) bits w).0 i))
