-- Bits in bytes: the place of a number of bits, and the bits that a write changes.
use Rattle.std.proofs.Common.{◌≡◌, ℕ, zero, suc, ◌+◌, ◌-◌, ◌*◌, ◌/◌, ◌%◌, ◌^◌, ◌<◌, ◌≤◌, List, [], ◌∷◌, ◌++◌, length, take, drop, slice_index, slice_set, refl, sym, ap, ap₂, ◌∙◌, arith, length-append, length-take-le}
use Rattle.std.proofs.Math.Seq.{take-append-add, drop-append-add, take-add}
use Rattle.std.proofs.lemmas.List.{append_assoc, append-nil, drop_all, drop-drop, drop-take, drop_at, length-drop, length-take, take_all, take_at, take_more, take-take}
use Rattle.std.proofs.lemmas.Slice.{take-put_mid}
use borrow.Rule.Slice.PartMut.{put_mid}
use Rattle.std.proofs.lemmas.Nat.{shr-shr, shr_high, shr_below, shr_split, shl_below, shl_whole, pow-add, pow_pos, mod_below, mul-add-lt}
use Rattle.std.proofs.lemmas.List.Elements.{All-append, All-nil, All-take}
use Rattle.gs_bits.specs.Bits.{AreBits, bits_of, number_of}
use Rattle.gs_bits.specs.BitLaws.{length-bits_of, AreBits-bits_of, bits_of-append, bits_of-low, number_of-bits_of, number_of-append}
use Rattle.gs_bits.specs.PackedBits.{bits_of_bytes, packed_bits}

pub length-bits_of_bytes : (bytes : List ℕ) → length (bits_of_bytes bytes) ≡ 8 * length bytes
unfolding bits_of_bytes
length-bits_of_bytes [] = refl
length-bits_of_bytes (byte ∷ bytes) =
    let first = length-bits_of 8 byte in
    let rest = length-bits_of_bytes bytes in
    let sum = length-append (bits_of 8 byte) (bits_of_bytes bytes) in
    omega arith

pub AreBits-bits_of_bytes : (bytes : List ℕ) → AreBits (bits_of_bytes bytes)
unfolding bits_of_bytes
AreBits-bits_of_bytes [] = All-nil (λ b. b < 2)
AreBits-bits_of_bytes (byte ∷ bytes) = All-append (λ b. b < 2) (bits_of 8 byte) (bits_of_bytes bytes) (AreBits-bits_of 8 byte) (AreBits-bits_of_bytes bytes)

-- the bits of a byte in three parts
byte_parts : (a b c byte : ℕ) → a + b + c ≡ 8 → bits_of 8 byte ≡ bits_of a (byte / 2 ^ (b + c)) ++ (bits_of b (byte / 2 ^ c) ++ bits_of c byte)
byte_parts a b c byte e =
    ap (λ n. bits_of n byte) (sym e ∙ omega arith) ∙ bits_of-append a (b + c) byte ∙ ap (λ w. bits_of a (byte / 2 ^ (b + c)) ++ w) (bits_of-append b c byte)

drop_past : (n k : ℕ) (xs ys : List ℕ) → length xs ≡ n → drop (n + k) (xs ++ ys) ≡ drop k ys
drop_past n k xs ys e = rw (← e) (drop-append-add xs ys k)

take_past : (n k : ℕ) (xs ys : List ℕ) → length xs ≡ n → take (n + k) (xs ++ ys) ≡ xs ++ take k ys
take_past n k xs ys e = rw (← e) (take-append-add xs ys k)

-- a byte's bits in three parts, with more bits after them
parts_before : (a b c byte : ℕ) (ys : List ℕ) → a + b + c ≡ 8
    → bits_of 8 byte ++ ys ≡ bits_of a (byte / 2 ^ (b + c)) ++ (bits_of b (byte / 2 ^ c) ++ (bits_of c byte ++ ys))
parts_before a b c byte ys e =
    ap (λ w. w ++ ys) (byte_parts a b c byte e)
    ∙ append_assoc (bits_of a (byte / 2 ^ (b + c))) (bits_of b (byte / 2 ^ c) ++ bits_of c byte) ys
    ∙ ap (λ w. bits_of a (byte / 2 ^ (b + c)) ++ w) (append_assoc (bits_of b (byte / 2 ^ c)) (bits_of c byte) ys)

within_first : (r step rest byte : ℕ) (ys : List ℕ) → r + step + rest ≡ 8
    → take step (drop r (bits_of 8 byte ++ ys)) ≡ bits_of step (byte / 2 ^ rest)
within_first r step rest byte ys e =
    let parts = parts_before r step rest byte ys e in
    let front = drop_at (bits_of r (byte / 2 ^ (step + rest))) (bits_of step (byte / 2 ^ rest) ++ (bits_of rest byte ++ ys)) r (length-bits_of r _) in
    rw (parts, front) (take_at (bits_of step (byte / 2 ^ rest)) (bits_of rest byte ++ ys) step (length-bits_of step _))

-- some bits within one byte
pub bits_within_byte : (q r step rest : ℕ) (bytes : List ℕ) → q < length bytes → r + step + rest ≡ 8
    → take step (drop (8 * q + r) (bits_of_bytes bytes)) ≡ bits_of step (slice_index bytes q / 2 ^ rest)
unfolding bits_of_bytes
bits_within_byte q r step rest [] h e = absurd (omega arith)
bits_within_byte zero r step rest (byte ∷ bytes) h e =
    let place : 8 * zero + r ≡ r = omega arith in
    rw place (within_first r step rest byte (bits_of_bytes bytes) e)
bits_within_byte (suc q) r step rest (byte ∷ bytes) h e =
    let place : 8 * suc q + r ≡ 8 + (8 * q + r) = omega arith in
    let past = drop_past 8 (8 * q + r) (bits_of 8 byte) (bits_of_bytes bytes) (length-bits_of 8 byte) in
    rw (place, past) (bits_within_byte q r step rest bytes (omega arith) e)

after_first : (r step rest changed piece byte : ℕ) (ys : List ℕ) → r + step + rest ≡ 8 → piece < 2 ^ step
    → changed / 2 ^ rest ≡ byte / 2 ^ (step + rest) * 2 ^ step + piece
    → take (r + step) (bits_of 8 changed ++ ys) ≡ take r (bits_of 8 byte ++ ys) ++ bits_of step piece
after_first r step rest changed piece byte ys e small c =
    let before = parts_before r step rest byte ys e in
    let after = parts_before r step rest changed ys e in
    let order : step + rest ≡ rest + step = omega arith in
    let high : changed / 2 ^ (step + rest) ≡ byte / 2 ^ (step + rest) =
    ap (λ k. changed / 2 ^ k) order ∙ sym (shr-shr changed rest step) ∙ ap (λ v. v / 2 ^ step) c
    ∙ shr_high (byte / 2 ^ (step + rest)) step piece small in
    let low : bits_of step (changed / 2 ^ rest) ≡ bits_of step piece =
    ap (bits_of step) c ∙ bits_of-low (byte / 2 ^ (step + rest)) step piece step (omega arith) in
    let old = take_at (bits_of r (byte / 2 ^ (step + rest))) (bits_of step (byte / 2 ^ rest) ++ (bits_of rest byte ++ ys)) r (length-bits_of r _) in
    let past = take_past r step (bits_of r (changed / 2 ^ (step + rest))) (bits_of step (changed / 2 ^ rest) ++ (bits_of rest changed ++ ys)) (length-bits_of r _) in
    let new = take_at (bits_of step (changed / 2 ^ rest)) (bits_of rest changed ++ ys) step (length-bits_of step _) in
    ap (take (r + step)) after ∙ past ∙ ap (λ w. bits_of r (changed / 2 ^ (step + rest)) ++ w) (new ∙ low)
    ∙ ap (λ v. bits_of r v ++ bits_of step piece) high ∙ ap (λ w. w ++ bits_of step piece) (sym old ∙ sym (ap (take r) before))

-- bits written into one byte after the first bits
pub bits_after_write : (q r step rest changed piece : ℕ) (bytes : List ℕ) → q < length bytes → r + step + rest ≡ 8
    → piece < 2 ^ step
    → changed / 2 ^ rest ≡ slice_index bytes q / 2 ^ (step + rest) * 2 ^ step + piece
    → take (8 * q + r + step) (bits_of_bytes (slice_set bytes q changed)) ≡ take (8 * q + r) (bits_of_bytes bytes) ++ bits_of step piece
unfolding bits_of_bytes
bits_after_write q r step rest changed piece [] h e small c = absurd (omega arith)
bits_after_write zero r step rest changed piece (byte ∷ bytes) h e small c =
    let place : 8 * zero + r ≡ r = omega arith in
    rw place (after_first r step rest changed piece byte (bits_of_bytes bytes) e small c)
bits_after_write (suc q) r step rest changed piece (byte ∷ bytes) h e small c =
    let place : 8 * suc q + r ≡ 8 + (8 * q + r) = omega arith in
    let behind : 8 * suc q + r + step ≡ 8 + (8 * q + r + step) = omega arith in
    let past = take_past 8 (8 * q + r) (bits_of 8 byte) (bits_of_bytes bytes) (length-bits_of 8 byte) in
    let written = take_past 8 (8 * q + r + step) (bits_of 8 byte) (bits_of_bytes (slice_set bytes q changed)) (length-bits_of 8 byte) in
    let step_on = bits_after_write q r step rest changed piece bytes (omega arith) e small c in
    ap (λ k. take k (bits_of 8 byte ++ bits_of_bytes (slice_set bytes q changed))) behind ∙ written
    ∙ ap (λ w. bits_of 8 byte ++ w) step_on ∙ sym (append_assoc (bits_of 8 byte) (take (8 * q + r) (bits_of_bytes bytes)) (bits_of step piece))
    ∙ ap (λ w. w ++ bits_of step piece) (sym past ∙ sym (ap (λ k. take k (bits_of 8 byte ++ bits_of_bytes bytes)) place))

-- one more piece of a number that is read
pub read_step : (from n at d step number piece : ℕ) (bytes : List ℕ) → at / 8 < length bytes → step ≤ 8 - at % 8
    → at ≡ from + d → n ≡ d + step
    → number ≡ number_of (take d (drop from (bits_of_bytes bytes)))
    → piece ≡ slice_index bytes (at / 8) / 2 ^ (8 - at % 8 - step) % 2 ^ step
    → number * 2 ^ step + piece ≡ number_of (take n (drop from (bits_of_bytes bytes)))
read_step from n at d step number piece bytes h within same count taken p =
    let bits = bits_of_bytes bytes in
    let rest = 8 - at % 8 - step in
    let whole : at % 8 + step + rest ≡ 8 = omega arith in
    let place : from + d ≡ 8 * (at / 8) + at % 8 = omega arith in
    let both = take-add d step (drop from bits) in
    let next : take step (drop d (drop from bits)) ≡ bits_of step (slice_index bytes (at / 8) / 2 ^ rest) =
    ap (take step) (drop-drop d from bits ∙ ap (λ k. drop k bits) place) ∙ bits_within_byte (at / 8) (at % 8) step rest bytes h whole in
    let size = length-bits_of step (slice_index bytes (at / 8) / 2 ^ rest) in
    let value = number_of-bits_of step (slice_index bytes (at / 8) / 2 ^ rest) in
    rw (count, both, next, number_of-append, size, value, taken, p) refl

pub with_piece_below : (d step number piece : ℕ) → number < 2 ^ d → piece < 2 ^ step → number * 2 ^ step + piece < 2 ^ (d + step)
with_piece_below d step number piece small p =
    let power = pow-add 2 d step in
    let below : number * 2 ^ step + piece < 2 ^ step * 2 ^ d = mul-add-lt number (2 ^ step) piece (2 ^ d) small p in
    omega arith

-- the bits of a number are those of its rest modulo 2 to their count
pub bits_of-mod : (n number : ℕ) → bits_of n (number % 2 ^ n) ≡ bits_of n number
bits_of-mod n number =
    sym (bits_of-low (number / 2 ^ n) n (number % 2 ^ n) n (omega arith)) ∙ ap (bits_of n) (shr_split number n)

-- the bits of a number down to a place, with a piece of those below it
pub bits_and_piece : (d step below value piece : ℕ) → piece ≡ value / 2 ^ below % 2 ^ step
    → bits_of (d + step) (value / 2 ^ below) ≡ bits_of d (value / 2 ^ (below + step)) ++ bits_of step piece
bits_and_piece d step below value piece p =
    bits_of-append d step (value / 2 ^ below)
    ∙ ap₂ (λ (high low : List ℕ). high ++ low) (ap (bits_of d) (shr-shr value below step)) (sym (ap (bits_of step) p ∙ bits_of-mod step (value / 2 ^ below)))

-- one more piece of a number that is written
pub write_step : (n at d step left below value piece changed : ℕ) (bytes front : List ℕ) → at / 8 < length bytes → step ≤ 8 - at % 8
    → left ≡ below + step → n ≡ d + step
    → piece ≡ value / 2 ^ below % 2 ^ step
    → changed / 2 ^ (8 - at % 8 - step) ≡ slice_index bytes (at / 8) / 2 ^ (8 - at % 8) * 2 ^ step + piece
    → take at (bits_of_bytes bytes) ≡ front ++ bits_of d (value / 2 ^ left)
    → take (at + step) (bits_of_bytes (slice_set bytes (at / 8) changed)) ≡ front ++ bits_of n (value / 2 ^ below)
write_step n at d step left below value piece changed bytes front h within split count p c written =
    let rest = 8 - at % 8 - step in
    let whole : at % 8 + step + rest ≡ 8 = omega arith in
    let room : 8 - at % 8 ≡ step + rest = omega arith in
    let place : 8 * (at / 8) + at % 8 ≡ at = omega arith in
    let small : piece < 2 ^ step = rw p (mod_below (value / 2 ^ below) (2 ^ step) (pow_pos step)) in
    let byte : changed / 2 ^ rest ≡ slice_index bytes (at / 8) / 2 ^ (step + rest) * 2 ^ step + piece =
    c ∙ ap (λ k. slice_index bytes (at / 8) / 2 ^ k * 2 ^ step + piece) room in
    let one : take (at + step) (bits_of_bytes (slice_set bytes (at / 8) changed)) ≡ take at (bits_of_bytes bytes) ++ bits_of step piece =
    ap (λ k. take (k + step) (bits_of_bytes (slice_set bytes (at / 8) changed))) (sym place)
    ∙ bits_after_write (at / 8) (at % 8) step rest changed piece bytes h whole small byte
    ∙ ap (λ k. take k (bits_of_bytes bytes) ++ bits_of step piece) place in
    let number : bits_of n (value / 2 ^ below) ≡ bits_of d (value / 2 ^ left) ++ bits_of step piece =
    ap (λ k. bits_of k (value / 2 ^ below)) count ∙ bits_and_piece d step below value piece p
    ∙ ap (λ k. bits_of d (value / 2 ^ k) ++ bits_of step piece) (sym split) in
    one ∙ ap (λ w. w ++ bits_of step piece) written ∙ append_assoc front (bits_of d (value / 2 ^ left)) (bits_of step piece)
    ∙ ap (λ w. front ++ w) (sym number)

-- the bits of a byte with a piece put after its used ones
pub byte_with_piece : (byte room width piece : ℕ) → byte < 2 ^ 8 → room ≤ 8 → width ≤ room → piece < 2 ^ width
    → (byte / 2 ^ room * 2 ^ width % 2 ^ 64 ≡ byte / 2 ^ room * 2 ^ width)
    × ((byte / 2 ^ room * 2 ^ width + piece) * 2 ^ (room - width) % 2 ^ 64 ≡ (byte / 2 ^ room * 2 ^ width + piece) * 2 ^ (room - width))
    × ((byte / 2 ^ room * 2 ^ width + piece) * 2 ^ (room - width) < 2 ^ 8)
byte_with_piece byte room width piece b free fits small =
    let whole : 8 - room + room ≡ 8 = omega arith in
    let below : byte < 2 ^ (8 - room + room) = rw whole b in
    let used : byte / 2 ^ room < 2 ^ (8 - room) = shr_below byte (8 - room) room below in
    let front : byte / 2 ^ room * 2 ^ width + piece < 2 ^ (8 - room + width) = with_piece_below (8 - room) width (byte / 2 ^ room) piece used small in
    let sum : 8 - room + width + (room - width) ≡ 8 = omega arith in (
      shl_whole (byte / 2 ^ room) (8 - room) width 64 used (omega arith),
      shl_whole (byte / 2 ^ room * 2 ^ width + piece) (8 - room + width) (room - width) 64 front (omega arith),
      rw sum at (shl_below (byte / 2 ^ room * 2 ^ width + piece) (8 - room + width) (room - width) front),
    )

-- the bits that a buffer holds
pub length-packed : (len : ℕ) (bytes : List ℕ) → len ≤ 8 * length bytes → length (packed_bits len bytes) ≡ len
length-packed len bytes h = length-take-le len (bits_of_bytes bytes) (rw length-bits_of_bytes h)

pub AreBits-packed : (len : ℕ) (bytes : List ℕ) → AreBits (packed_bits len bytes)
AreBits-packed len bytes = All-take (λ b. b < 2) len (bits_of_bytes bytes) (AreBits-bits_of_bytes bytes)

-- bits within the first ones are those of all
pub within_packed : (from n len : ℕ) (bytes : List ℕ) → from + n ≤ len
    → take n (drop from (packed_bits len bytes)) ≡ take n (drop from (bits_of_bytes bytes))
within_packed from n len bytes h =
    let bits = bits_of_bytes bytes in
    let split : len ≡ from + (n + (len - from - n)) = omega arith in
    ap (λ k. take n (drop from (take k bits))) split ∙ ap (take n) (drop-take from (n + (len - from - n)) bits)
    ∙ take-take n (n + (len - from - n)) (drop from bits) (omega arith)

-- whole bytes from the start
pub bits_of_front : (q : ℕ) (bytes : List ℕ) → bits_of_bytes (take q bytes) ≡ take (8 * q) (bits_of_bytes bytes)
unfolding bits_of_bytes
bits_of_front zero bytes = refl
bits_of_front (suc q) [] = sym (take_all (8 * suc q) [] (omega arith))
bits_of_front (suc q) (byte ∷ bytes) =
    let more : 8 * suc q ≡ 8 + 8 * q = omega arith in
    let past = take_past 8 (8 * q) (bits_of 8 byte) (bits_of_bytes bytes) (length-bits_of 8 byte) in
    rw (more, past) (ap (λ w. bits_of 8 byte ++ w) (bits_of_front q bytes))

-- the bits after whole bytes
pub bits_of_back : (q : ℕ) (bytes : List ℕ) → bits_of_bytes (drop q bytes) ≡ drop (8 * q) (bits_of_bytes bytes)
unfolding bits_of_bytes
bits_of_back zero bytes = refl
bits_of_back (suc q) [] = sym (drop_all (8 * suc q) [] (omega arith))
bits_of_back (suc q) (byte ∷ bytes) =
    let more : 8 * suc q ≡ 8 + 8 * q = omega arith in
    let past = drop_past 8 (8 * q) (bits_of 8 byte) (bits_of_bytes bytes) (length-bits_of 8 byte) in
    rw (more, past) (bits_of_back q bytes)

pub bits_of_bytes-append : (xs ys : List ℕ) → bits_of_bytes (xs ++ ys) ≡ bits_of_bytes xs ++ bits_of_bytes ys
unfolding bits_of_bytes
bits_of_bytes-append [] ys = refl
bits_of_bytes-append (x ∷ xs) ys =
    ap (λ w. bits_of 8 x ++ w) (bits_of_bytes-append xs ys) ∙ sym (append_assoc (bits_of 8 x) (bits_of_bytes xs) (bits_of_bytes ys))

-- the bits of one byte more, written after those before
pub spread_step : (place : ℕ) (bytes symbols one new : List ℕ) → place < length bytes → 8 * length bytes ≤ length symbols
    → take (8 * place) symbols ≡ bits_of_bytes (take place bytes) → one ≡ bits_of 8 (slice_index bytes place)
    → new ≡ put_mid (8 * place) 8 symbols one
    → (length new ≡ length symbols) × (take (8 * (place + 1)) new ≡ bits_of_bytes (take (place + 1) bytes))
unfolding bits_of_bytes
spread_step place bytes symbols one new l room before is e =
    let size : length one ≡ 8 = ap length is ∙ length-bits_of 8 (slice_index bytes place) in
    let front : take (8 * (place + 1)) (put_mid (8 * place) 8 symbols one) ≡ take (8 * place) symbols ++ one = take-put_mid (8 * place) 8 symbols one (8 * (place + 1)) (omega arith) (omega arith) in
    let more : take (place + 1) bytes ≡ take place bytes ++ slice_index bytes place ∷ [] = take_more bytes place 0 l in
    let last : bits_of_bytes (slice_index bytes place ∷ []) ≡ one = append-nil (bits_of 8 (slice_index bytes place)) ∙ sym is in
    let back : bits_of_bytes (take (place + 1) bytes) ≡ bits_of_bytes (take place bytes) ++ one =
    ap bits_of_bytes more ∙ bits_of_bytes-append (take place bytes) (slice_index bytes place ∷ []) ∙ ap (λ w. bits_of_bytes (take place bytes) ++ w) last in
    let count : length (put_mid (8 * place) 8 symbols one) ≡ length symbols =
    let all = length-append (take (8 * place) symbols) (one ++ drop 8 (drop (8 * place) symbols)) in
    let rest = length-append one (drop 8 (drop (8 * place) symbols)) in
    let first = length-take-le (8 * place) symbols (omega arith) in
    let left = length-drop 8 (drop (8 * place) symbols) in
    let behind = length-drop (8 * place) symbols in
    omega arith in
    rw e (
      count,
      front ∙ ap (λ w. w ++ one) before ∙ sym back,
    )

pub spread_none : [] ≡ bits_of_bytes []
unfolding bits_of_bytes
spread_none = refl

-- the bits of a buffer are before those of its bytes
pub front_spread : (len q : ℕ) (bytes symbols : List ℕ) → len ≤ 8 * length bytes → len ≤ 8 * q
    → take (8 * length (take q bytes)) symbols ≡ bits_of_bytes (take q bytes)
    → take len symbols ≡ packed_bits len bytes
front_spread len q bytes symbols l m e =
    let count = length-take q bytes in
    let small : len ≤ 8 * length (take q bytes) = grind arith in
    sym (take-take len (8 * length (take q bytes)) symbols small) ∙ ap (take len) (e ∙ bits_of_front q bytes) ∙ take-take len (8 * q) (bits_of_bytes bytes) m
