-- The words of an item, without their values.
use Rattle.std.specs.Prelude.{◌≡◌, ℕ, ◌*◌, ◌^◌, ◌<◌, ◌≤◌, ◌⊎◌, List, length, IsTrue, replicate}
use Rattle.gs_chars.specs.Characters.{are_digits}
use Rattle.gs_grammar.specs.declared.item.Item.{Item}
use Rattle.gs_grammar.specs.declared.item.Item.TheVariants.{Lit, Pad, Digits, Int, Esc, NumPad, Num, NumStr, Ascii7, Fill}
use Rattle.gs_grammar.specs.Words.{HasLength, IsNumeral, SpellsMany, WritesNumber, PacksMany}

-- trusted, own: holds if `w` spells from `lo` to `hi` characters
pub record SpellsWithin (lo hi : ℕ) (w : List ℕ) : Type 0 where
  pub count : ℕ
  pub spelled : SpellsMany count w
  pub least : lo ≤ count
  pub most : count ≤ hi

-- trusted, own: holds if `w` packs from `lo` to `hi` characters
pub record PacksWithin (lo hi : ℕ) (w : List ℕ) : Type 0 where
  pub count : ℕ
  pub packed : PacksMany count w
  pub least : lo ≤ count
  pub most : count ≤ hi

-- trusted, own: holds if `w` is a number up to `greatest`, in `bits` bits
pub record IsNumberWithin (bits greatest : ℕ) (w : List ℕ) : Type 0 where
  pub number : ℕ
  pub small : number ≤ greatest
  pub written : WritesNumber bits number w

-- trusted, own: holds if `w` is a number of at most `n` digits, in `bits` bits
pub record IsNumberOfDigits (bits n : ℕ) (w : List ℕ) : Type 0 where
  pub number : ℕ
  pub small : number < 10 ^ n
  pub written : WritesNumber bits number w

-- trusted, own: holds if the digits of `number` are a 1 and `count` digits after it
pub record IsOneBehind (count number : ℕ) : Type 0 where
  pub from : 10 ^ count ≤ number
  pub below : number < 2 * 10 ^ count

-- trusted, own: holds if `w` is a number whose digits are a 1 and from 1 to `hi` after it, in `bits` bits
pub record IsOneAndDigits (bits hi : ℕ) (w : List ℕ) : Type 0 where
  pub count : ℕ
  pub number : ℕ
  pub least : 1 ≤ count
  pub most : count ≤ hi
  pub digits : IsOneBehind count number
  pub written : WritesNumber bits number w

-- trusted, own: holds if `w` is a word of the item
abbrev pub Language : Item → List ℕ → Type 0
Language (Lit literal) w = w ≡ literal
Language (Pad n) w = (length w ≡ n) × IsTrue (are_digits w)
Language (Digits lo hi) w = HasLength lo hi w × IsTrue (are_digits w)
Language (Int greatest) w = (number : ℕ) × IsNumeral greatest number w
Language (Esc lo hi) w = SpellsWithin lo hi w
Language (NumPad bits n) w = IsNumberOfDigits bits n w
Language (Num bits greatest) w = IsNumberWithin bits greatest w
Language (NumStr bits hi) w = IsOneAndDigits bits hi w
Language (Ascii7 lo hi bits) w = (length w ≡ bits) × PacksWithin lo hi w
Language (Fill a b) w = (w ≡ replicate a 0) ⊎ (w ≡ replicate b 0)
