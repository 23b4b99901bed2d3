-- The value of a key, written piece by piece with its escapes.
use Rattle.std.proofs.Common.{◌≡◌, ◌==◌, ℕ, true, false, List, [], ◌∷◌, ◌++◌, length, suc, append_assoc, append-nil, refl, sym, arith, is_some}
use Rattle.std.proofs.lemmas.Bool.{and_from}
use Rattle.std.proofs.lemmas.Bool.Decides.{nat_tests}
use Rattle.std.proofs.lemmas.List.Concat.{flat_map-append}
use Rattle.std.specs.List.{list_all}
use Rattle.gs_ai.specs.declared.part.Part.{Part}
use Rattle.gs_ai.specs.declared.part.Part.TheVariants.{Set, Zero}
use Rattle.gs_chars.specs.Characters.{is_digit}
use Rattle.gs_chars.specs.CheckDigits.{check_digit_of}
use Rattle.gs_ident.specs.Links.{escaped_byte, percent_encoded}
use Rattle.gs_ident.proofs.ValueEscapes.{digits_unescaped, plain_text}
use Rattle.gs_tables.specs.Forms.{characters_of}
use Rattle.gs_tables_document.specs.declared.document.Kind.{Kind}
use Rattle.gs_epc.specs.Layout.{KeyFields, key_value, with_check, zero_in_front}
use Rattle.gs_epc.proofs.LayoutParts.{both_pass, check_is_digit}

encoded_both : (a b : List ℕ) → percent_encoded (a ++ b) ≡ percent_encoded a ++ percent_encoded b
unfolding percent_encoded
encoded_both a b = flat_map-append escaped_byte a b

encoded_none : percent_encoded [] ≡ []
unfolding percent_encoded
encoded_none = refl

-- ---- pieces

not_none : (n : ℕ) → (suc n == 0) ≡ false
not_none n = grind (arith, nat_tests)

pub nothing_written : (out value : List ℕ) → (length value == 0) ≡ true → out ≡ out ++ percent_encoded value
nothing_written out [] h = rw encoded_none (sym (append-nil out))
nothing_written out (x ∷ value) h = absurd (let f : (length (x ∷ value) == 0) ≡ false = not_none (length value) in cc)

pub two_written : (out a b one two : List ℕ) → one ≡ out ++ percent_encoded a → two ≡ one ++ percent_encoded b
    → two ≡ out ++ percent_encoded (a ++ b)
two_written out a b one two x y = rw (y, x, encoded_both a b) (append_assoc out (percent_encoded a) (percent_encoded b))

pub three_written : (out a b c one two three : List ℕ) → one ≡ out ++ percent_encoded a → two ≡ one ++ percent_encoded b
    → three ≡ two ++ percent_encoded c → three ≡ out ++ percent_encoded (a ++ (b ++ c))
three_written out a b c one two three x y z =
    rw (z, y, x, encoded_both a (b ++ c), encoded_both b c) (simp append_assoc)

-- ---- a key of digits

zero_digits : (parts : List Part) → list_all is_digit (zero_in_front parts) ≡ true
zero_digits (Zero ∷ parts) = refl
zero_digits parts = refl

pub digits_written : (parts : List Part) (out digits behind one two three : List ℕ) → list_all is_digit digits ≡ true
    → one ≡ out ++ zero_in_front parts → two ≡ one ++ with_check digits → three ≡ two ++ percent_encoded behind
    → three ≡ out ++ percent_encoded (zero_in_front parts ++ with_check digits ++ behind)
digits_written parts out digits behind one two three all x y z =
    let front = zero_in_front parts ++ with_check digits in
    let check : list_all is_digit (check_digit_of digits ∷ []) ≡ true = and_from _ _ (check_is_digit digits) refl in
    let digits_all : list_all is_digit front ≡ true = both_pass is_digit (zero_in_front parts) (with_check digits) (zero_digits parts) (both_pass is_digit digits (check_digit_of digits ∷ []) all check) in
    let plain : percent_encoded front ≡ front = plain_text front (digits_unescaped front digits_all) in
    rw (z, y, x, encoded_both front behind, plain) (simp append_assoc)

-- ---- a key of characters

pub characters_value : (parts : List Part) (kind : Kind) (fields : KeyFields) → is_some (characters_of parts) ≡ true
    → key_value parts kind fields ≡ fields.prefix ++ fields.rest
characters_value (Set most ∷ []) kind fields are = refl
characters_value parts kind fields are = absurd (let e : false ≡ true = are in cc)
