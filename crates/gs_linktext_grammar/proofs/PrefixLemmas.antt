-- The bytes of a kind at the start of a text, and the rest, by the number of bytes.
use Rattle.std.proofs.Common.{◌≡◌, ℕ, suc, ◌+◌, Bool, List, [], ◌∷◌, ◌++◌, Option, Some, None, take, drop, refl, ap, sym, ◌∙◌, inl, inr, arith, append_assoc}
use Rattle.std.specs.List.{prefix_len}
use Rattle.gs_linktext_grammar.specs.Prefixes.{said_from, with_bytes}
use Rattle.gs_linktext_grammar.specs.Bytes.{after_prefix, prefix_of}
use Rattle.gs_linktext_grammar.specs.Lexemes.{unquoted, with_byte}
use Rattle.gs_chars.proofs.TruthsAndLists.{true_or_false}

take_more : (c n : ℕ) (rest : List ℕ) → take (1 + n) (c ∷ rest) ≡ c ∷ take n rest
take_more c n rest = let e : 1 + n ≡ suc n = omega arith in rw e refl

drop_more : (c n : ℕ) (rest : List ℕ) → drop (1 + n) (c ∷ rest) ≡ drop n rest
drop_more c n rest = let e : 1 + n ≡ suc n = omega arith in rw e refl

pub take_prefix : (test : ℕ → Bool) (text : List ℕ) → take (prefix_len test text) text ≡ prefix_of test text
take_prefix test [] = refl
take_prefix test (c ∷ rest) = elim (true_or_false (test c)) [
  | inl t ↦ rw t (take_more c (prefix_len test rest) rest ∙ ap (λ (xs : List ℕ). c ∷ xs) (take_prefix test rest))
  | inr f ↦ rw f refl
]

pub drop_prefix : (test : ℕ → Bool) (text : List ℕ) → drop (prefix_len test text) text ≡ after_prefix test text
drop_prefix test [] = refl
drop_prefix test (c ∷ rest) = elim (true_or_false (test c)) [
  | inl t ↦ rw t (drop_more c (prefix_len test rest) rest ∙ drop_prefix test rest)
  | inr f ↦ rw f refl
]

-- ---- a quoted string, byte by byte

pub no_bytes : (read : Option (List ℕ × List ℕ)) → with_bytes [] read ≡ read
no_bytes None = refl
no_bytes (Some pair) = refl

pub byte_more : (value : List ℕ) (c : ℕ) (read : Option (List ℕ × List ℕ)) → with_bytes value (with_byte c read) ≡ with_bytes (value ++ c ∷ []) read
byte_more value c None = refl
byte_more value c (Some pair) = ap (λ (xs : List ℕ). Some (xs, pair.1)) (sym (append_assoc value (c ∷ []) pair.0))

pub quoted_more : (whole value pushed rest behind : List ℕ) (c : ℕ) (byte : Option ℕ) → unquoted whole ≡ with_bytes value (unquoted rest)
    → unquoted rest ≡ said_from byte behind → byte ≡ Some c → pushed ≡ value ++ c ∷ []
    → unquoted whole ≡ with_bytes pushed (unquoted behind)
quoted_more whole value pushed rest behind c byte h step is push =
    rw push (h ∙ ap (with_bytes value) (step ∙ ap (λ o. said_from o behind) is) ∙ byte_more value c (unquoted behind))
