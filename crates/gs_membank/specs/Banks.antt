-- The EPC memory bank from its protocol control word on. It follows TDS 2.0, sections 9 (the word), 11 (attribute bits) and 15
-- (the contents of the bank).
use Rattle.std.specs.Prelude.{◌≡◌, ◌<◌, ℕ, Bool, false, if◌then◌else◌, List, ◌∷◌, ◌++◌}
use Rattle.gs_bits.specs.Bits.{bits_of}
use Rattle.gs_membank.specs.declared.dump.ControlWord.{ControlWord}

-- trusted, own: the bit 1 if it is set, otherwise 0
abbrev pub bit_of : Bool → ℕ
bit_of set = if set then 1 else 0

-- trusted, TDS 2.0, section 9: The bits of a control word. They are 5 bits of the encoding's length in words, the user memory
-- bit, the extended bit, the toggle bit, and 8 attribute bits.
abbrev pub control_bits : ControlWord → List ℕ
control_bits word =
    bits_of 5 word.words ++ bit_of word.user ∷ bit_of word.extended ∷ bit_of word.toggle ∷ bits_of 8 word.attributes

-- trusted, TDS 2.0, section 9: holds if `bits` are those of the control word `word`, whose numbers they hold, and then `behind`
pub record BeginsWith (bits : List ℕ) (word : ControlWord) (behind : List ℕ) : Type 0 where
  pub words : word.words < 32
  pub attributes : word.attributes < 256
  pub joined : bits ≡ control_bits word ++ behind

-- trusted, TDS 2.0, section 9: holds if `word` is that of an EPC without an extended word
pub record IsPlain (word : ControlWord) : Type 0 where
  pub extended : word.extended ≡ false
  pub toggle : word.toggle ≡ false
