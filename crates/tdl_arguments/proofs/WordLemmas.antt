-- Arguments of a command line, one by one.
use Rattle.std.specs.Prelude.{IfNone, IfSome}
use Rattle.std.proofs.Common.{◌≡◌, ℕ, List, [], ◌∷◌, Option, None, Some, length, get_or, map, refl, arith, ◌<◌, ◌≤◌, ◌-◌, drop, take}
use Rattle.std.proofs.lemmas.List.{take_all}

-- the first word, and the others
pub first_word : {S : Type 0} (bytes : S → List ℕ) (words : List S) (first : S) (a : List ℕ) → 0 < length words
    → first ≡ get_or words 0 first → bytes first ≡ a → map bytes words ≡ a ∷ map bytes (take (length words - 1) (drop 1 words))
first_word bytes [] first a n e p = absurd (omega arith)
first_word bytes (x ∷ words) first a n e p =
    let one : bytes x ≡ a = cc in
    let count : length (x ∷ words) - 1 ≡ length words = omega arith in
    let whole : take (length words) words ≡ words = take_all (length words) words (omega arith) in
    rw (one, count, whole) refl

-- the first two arguments, and the others
pub first_words : {S : Type 0} (bytes : S → List ℕ) (words : List S) (first second : S) (a b : List ℕ) → 2 ≤ length words
    → first ≡ get_or words 0 first → second ≡ get_or words 1 second → bytes first ≡ a → bytes second ≡ b
    → map bytes words ≡ a ∷ b ∷ map bytes (take (length words - 2) (drop 2 words))
first_words bytes [] first second a b n e f p q = absurd (omega arith)
first_words bytes (x ∷ []) first second a b n e f p q = absurd (omega arith)
first_words bytes (x ∷ y ∷ words) first second a b n e f p q =
    let one : bytes x ≡ a = cc in
    let two : bytes y ≡ b = cc in
    let count : length (x ∷ y ∷ words) - 2 ≡ length words = omega arith in
    let whole : take (length words) words ≡ words = take_all (length words) words (omega arith) in
    rw (one, two, count, whole) refl

-- the only argument
pub only_word : {S : Type 0} (bytes : S → List ℕ) (words : List S) (first : S) (a : List ℕ) → length words ≡ 1
    → first ≡ get_or words 0 first → bytes first ≡ a → map bytes words ≡ a ∷ []
only_word bytes [] first a n e p = absurd (omega arith)
only_word bytes (x ∷ []) first a n e p = let one : bytes x ≡ a = cc in rw one refl
only_word bytes (x ∷ y ∷ words) first a n e p = absurd (omega arith)

-- the only two arguments
pub only_words : {S : Type 0} (bytes : S → List ℕ) (words : List S) (first second : S) (a b : List ℕ) → length words ≡ 2
    → first ≡ get_or words 0 first → second ≡ get_or words 1 second → bytes first ≡ a → bytes second ≡ b
    → map bytes words ≡ a ∷ b ∷ []
only_words bytes [] first second a b n e f p q = absurd (omega arith)
only_words bytes (x ∷ []) first second a b n e f p q = absurd (omega arith)
only_words bytes (x ∷ y ∷ []) first second a b n e f p q =
    let one : bytes x ≡ a = cc in
    let two : bytes y ≡ b = cc in
    rw (one, two) refl
only_words bytes (x ∷ y ∷ z ∷ words) first second a b n e f p q = absurd (omega arith)

-- a fact about no result, and one about a result, follow from others
pub if_none_map : {X A B : Type 0} (o : Option X) → (A → B) → IfNone o A → IfNone o B
if_none_map None f a = f a
if_none_map (Some x) f a = tt

pub if_some_map : {X : Type 0} {A B : X → Type 0} (o : Option X) → ((x : X) → A x → B x) → IfSome o A → IfSome o B
if_some_map None f a = tt
if_some_map (Some x) f a = f x a

-- a fact that holds whatever there is
pub if_none_always : {X : Type 0} {A : Type 0} (o : Option X) → A → IfNone o A
if_none_always None a = a
if_none_always (Some x) a = tt
