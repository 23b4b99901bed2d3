use Rattle.std.proofs.Common.{◌≡◌, ℕ, ◌+◌, ◌<◌, ◌≤◌, List, [], ◌∷◌, ◌++◌, length, get_or, map, take}
use Rattle.std.proofs.lemmas.List.{map_more, take_all}
use Rattle.gs_grammar_level.proofs.share.digits_of.Goals as goal

one_more : (bits digits new : List ℕ) (i : ℕ) → i < length bits → digits ≡ map (λ bit. bit + 48) (take i bits) → new ≡ digits ++ (get_or bits i 0 + 48) ∷ [] →
    new ≡ map (λ bit. bit + 48) (take (i + 1) bits)
one_more bits digits new i h so_far e = rw (map_more (λ bit. bit + 48) bits i 0 h) (rw so_far at e)

whole : (bits digits : List ℕ) (i : ℕ) → length bits ≤ i → digits ≡ map (λ bit. bit + 48) (take i bits) → digits ≡ map (λ bit. bit + 48) bits
whole bits digits i all so_far = let e : take i bits ≡ bits = take_all i bits all in rw e at so_far

pub loop-bit-preserved : goal.loop-bit-preserved
loop-bit-preserved c = one_more c.args.bits.now c.loop-bit.digits.items c.push.new.self.items c.loop-bit.bit-index c.loop-bit-test.true c.loop-bit.invariant c.in_ok-push.ensures.items

pub returns : goal.returns
returns c = rw c.from_vec.ensures (whole c.args.bits.now c.loop-bit.digits.items c.loop-bit.bit-index c.loop-bit-test.false c.loop-bit.invariant)
