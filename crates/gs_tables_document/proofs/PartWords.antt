-- A text writes one part of the value of an application identifier, or none, and so it is of roles.
use Rattle.std.proofs.Common.{◌≡◌, ◌≢◌, ℕ, zero, suc, ◌+◌, ◌-◌, ◌*◌, ◌<◌, ◌==◌, ◌&&◌, nat_le, if◌then◌else◌, Bool, true, false, List, [], ◌∷◌, codes, bytes_eq, refl, sym, ap, ◌∙◌, ◌⊎◌, inl, inr, arith}
use Rattle.std.specs.List.{list_any}
use Rattle.std.proofs.lemmas.Bool.Decides.{nat_tests}
use Rattle.gs_chars.specs.Characters.{is_digit}
use Rattle.gs_chars.proofs.TruthsAndLists.{and_first, and_second, equal_bytes, same_bytes, true_or_false, equal_number}
use Rattle.gs_ai.specs.declared.part.Part.{Part}
use Rattle.gs_ai.specs.declared.part.Part.TheVariants.{Zero, Num, NumCheck, NumUpTo, NumOpt, Set, SetOpt, Date, Other}
use Rattle.gs_ai.specs.declared.part.Role.{Role}
use Rattle.gs_ai.specs.declared.part.Role.TheVariants as role
use Rattle.gs_ai.specs.Parts.{is_part, part_text, role_text}
use Rattle.gs_tables_document.specs.Documents.{IsPart, IsRole}
use Rattle.std.proofs.lemmas.Bool.{and_from}

-- ---- the part that a text can only be that of

-- the number of the digits of a text, with other characters left out
abbrev number_in_text : ℕ → List ℕ → ℕ
number_in_text n [] = n
number_in_text n (c ∷ cs) = number_in_text (if is_digit c then n * 10 + (c - 48) else n) cs

abbrev last_of : ℕ → List ℕ → ℕ
last_of c [] = c
last_of c (d ∷ cs) = last_of d cs

abbrev first_of : List ℕ → ℕ
first_of [] = 0
first_of (c ∷ cs) = c

-- by `..`, a question mark and a `c` at the end, and an `x` at the beginning
abbrev by_marks : Bool → Bool → Bool → Bool → ℕ → Part
by_marks true true end true n = SetOpt n
by_marks true true end false n = NumOpt n
by_marks true false end true n = Set n
by_marks true false end false n = NumUpTo n
by_marks false mark true start n = NumCheck n
by_marks false mark false start n = Num n

abbrev only_part : List ℕ → Part
only_part text =
    if bytes_eq text (codes "zero") then Zero
    else if bytes_eq text (codes "date") then Date
    else by_marks (list_any (λ c. c == 46) text) (last_of 0 text == 63) (last_of 0 text == 99) (first_of text == 120) (number_in_text 0 text)

abbrev is_same : Part → Part → Bool
is_same Zero Zero = true
is_same Date Date = true
is_same (Num a) (Num b) = a == b
is_same (NumCheck a) (NumCheck b) = a == b
is_same (NumUpTo a) (NumUpTo b) = a == b
is_same (NumOpt a) (NumOpt b) = a == b
is_same (Set a) (Set b) = a == b
is_same (SetOpt a) (SetOpt b) = a == b
is_same _ _ = false

same_part : (p q : Part) → is_same p q ≡ true → p ≡ q
same_part Zero Zero h = refl
same_part Date Date h = refl
same_part (Num a) (Num b) h = ap Num (equal_number a b h)
same_part (NumCheck a) (NumCheck b) h = ap NumCheck (equal_number a b h)
same_part (NumUpTo a) (NumUpTo b) h = ap NumUpTo (equal_number a b h)
same_part (NumOpt a) (NumOpt b) h = ap NumOpt (equal_number a b h)
same_part (Set a) (Set b) h = ap Set (equal_number a b h)
same_part (SetOpt a) (SetOpt b) h = ap SetOpt (equal_number a b h)
same_part p q h = absurd (let e : false ≡ true = h in cc)

-- ---- a test of the numbers below 91

abbrev all_below : (ℕ → Bool) → ℕ → Bool
all_below test zero = true
all_below test (suc n) = test n && all_below test n

below : (test : ℕ → Bool) (n k : ℕ) → all_below test n ≡ true → k < n → test k ≡ true
below test zero k all low = absurd (omega arith)
below test (suc n) k all low = by (true_or_false (k == n)) (λ lower. below test n k (and_second (test n) (all_below test n) all) lower)
  where
    by : ((k == n) ≡ true) ⊎ ((k == n) ≡ false) → (k < n → test k ≡ true) → test k ≡ true
    by (inl e) less = ap test (equal_number k n e) ∙ and_first (test n) (all_below test n) all
    by (inr e) less = less (grind (arith, nat_tests))

small : (least most k : ℕ) → (nat_le least k && nat_le k most) ≡ true → most < 91 → k < 91
small least most k h few = let s = and_second (nat_le least k) (nat_le k most) h in grind (arith, nat_tests)

kept : (make : ℕ → Part) (k : ℕ) → all_below (λ n. is_same (only_part (part_text (make n))) (make n)) 91 ≡ true → k < 91
    → only_part (part_text (make k)) ≡ make k
kept make k all low = same_part (only_part (part_text (make k))) (make k) (below (λ n. is_same (only_part (part_text (make n))) (make n)) 91 k all low)

-- the text of a part of the list is of that part
read_back : (p : Part) → is_part p ≡ true → only_part (part_text p) ≡ p
read_back Zero h = refl
read_back Date h = refl
read_back (Num k) h = kept Num k refl (small 1 18 k h (omega arith))
read_back (NumCheck k) h = kept NumCheck k refl (small 2 18 k h (omega arith))
read_back (NumUpTo k) h = kept NumUpTo k refl (small 1 18 k h (omega arith))
read_back (NumOpt k) h = kept NumOpt k refl (small 1 18 k h (omega arith))
read_back (Set k) h = kept Set k refl (small 1 90 k h (omega arith))
read_back (SetOpt k) h = kept SetOpt k refl (small 1 90 k h (omega arith))
read_back Other h = absurd (let e : false ≡ true = h in cc)

-- ---- one part

only : (text : List ℕ) (p : Part) → is_part p ≡ true → part_text p ≡ text → only_part text ≡ p
only text p is same = ap only_part (sym same) ∙ read_back p is

other_or_not : (p : Part) → (p ≡ Other) ⊎ (p ≢ Other)
other_or_not Zero = inr (λ e. cc)
other_or_not Date = inr (λ e. cc)
other_or_not (Num k) = inr (λ e. cc)
other_or_not (NumCheck k) = inr (λ e. cc)
other_or_not (NumUpTo k) = inr (λ e. cc)
other_or_not (NumOpt k) = inr (λ e. cc)
other_or_not (Set k) = inr (λ e. cc)
other_or_not (SetOpt k) = inr (λ e. cc)
other_or_not Other = inl refl

pub one_part : (text : List ℕ) (p q : Part) → IsPart text p → IsPart text q → p ≡ q
one_part text p q one two = by (other_or_not p) (other_or_not q)
  where
    by : (p ≡ Other) ⊎ (p ≢ Other) → (q ≡ Other) ⊎ (q ≢ Other) → p ≡ q
    by (inl e) (inl f) = e ∙ sym f
    by (inl e) (inr g) = let w = two.written g in absurd (one.other e q w.0 w.1)
    by (inr g) (inl f) = let w = one.written g in absurd (two.other f p w.0 w.1)
    by (inr g) (inr k) = let w = one.written g in let v = two.written k in sym (only text p w.0 w.1) ∙ only text q v.0 v.1

not_other : (p : Part) → is_part p ≡ true → p ≡ Other → ⊥
not_other p is e = let f : false ≡ true = rw e at is in cc

pub some_part : (text : List ℕ) → (p : Part) × IsPart text p
some_part text = by (true_or_false (is_part (only_part text) && bytes_eq (part_text (only_part text)) text))
  where
    by : ((is_part (only_part text) && bytes_eq (part_text (only_part text)) text) ≡ true) ⊎ ((is_part (only_part text) && bytes_eq (part_text (only_part text)) text) ≡ false)
        → (p : Part) × IsPart text p
    by (inl e) =
        let is = and_first (is_part (only_part text)) (bytes_eq (part_text (only_part text)) text) e in
        let same = equal_bytes (part_text (only_part text)) text (and_second (is_part (only_part text)) (bytes_eq (part_text (only_part text)) text) e) in
        (only_part text, record { written = λ _. (is, same); other = λ o q _ _. not_other (only_part text) is o })
    by (inr e) = (Other, record { written = λ g. absurd (g refl); other = λ _ q is same. none q is same })
      where
        none : (q : Part) → is_part q ≡ true → part_text q ≡ text → ⊥
        none q is same =
            let here = only text q is same in
            let listed : is_part (only_part text) ≡ true = ap is_part here ∙ is in
            let shown : bytes_eq (part_text (only_part text)) text ≡ true = rw (here, same) (same_bytes text) in
            let holds = and_from (is_part (only_part text)) (bytes_eq (part_text (only_part text)) text) listed shown in
            cc

-- ---- one role

only_role : List ℕ → Role
only_role text =
    if bytes_eq text (codes "key") then role.Key
    else if bytes_eq text (codes "qualifier") then role.Qualifier
    else if bytes_eq text (codes "attribute") then role.Attribute
    else role.Other

role_back : (r : Role) → only_role (role_text r) ≡ r
unfolding only_role
role_back role.Key = refl
role_back role.Qualifier = refl
role_back role.Attribute = refl
role_back role.Other = refl

other_role_or_not : (r : Role) → (r ≡ role.Other) ⊎ (r ≢ role.Other)
other_role_or_not role.Key = inr (λ e. cc)
other_role_or_not role.Qualifier = inr (λ e. cc)
other_role_or_not role.Attribute = inr (λ e. cc)
other_role_or_not role.Other = inl refl

of_role : (text : List ℕ) (r : Role) → role_text r ≡ text → only_role text ≡ r
of_role text r same = ap only_role (sym same) ∙ role_back r

pub one_role : (text : List ℕ) (r s : Role) → IsRole text r → IsRole text s → r ≡ s
one_role text r s one two = by (other_role_or_not r) (other_role_or_not s)
  where
    by : (r ≡ role.Other) ⊎ (r ≢ role.Other) → (s ≡ role.Other) ⊎ (s ≢ role.Other) → r ≡ s
    by (inl e) (inl f) = e ∙ sym f
    by (inl e) (inr g) = absurd (one.other e s g (two.written g))
    by (inr g) (inl f) = absurd (two.other f r g (one.written g))
    by (inr g) (inr k) = sym (of_role text r (one.written g)) ∙ of_role text s (two.written k)

pub some_role : (text : List ℕ) → (r : Role) × IsRole text r
some_role text = by (true_or_false (bytes_eq (role_text (only_role text)) text))
  where
    by : (bytes_eq (role_text (only_role text)) text ≡ true) ⊎ (bytes_eq (role_text (only_role text)) text ≡ false) → (r : Role) × IsRole text r
    by (inl e) = named (other_role_or_not (only_role text))
      where
        named : (only_role text ≡ role.Other) ⊎ (only_role text ≢ role.Other) → (r : Role) × IsRole text r
        named (inl o) = (role.Other, record { written = λ g. absurd (g refl); other = λ _ q g same. g (sym (of_role text q same) ∙ o) })
        named (inr g) = (only_role text, record { written = λ _. equal_bytes (role_text (only_role text)) text e; other = λ o q _ _. g o })
    by (inr e) = (role.Other, record { written = λ g. absurd (g refl); other = λ _ q g same. none q same })
      where
        none : (q : Role) → role_text q ≡ text → ⊥
        none q same =
            let here = of_role text q same in
            let shown : bytes_eq (role_text (only_role text)) text ≡ true = rw (here, same) (same_bytes text) in
            cc
