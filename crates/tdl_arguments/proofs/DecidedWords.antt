-- Arguments ask for something, or for nothing.
use Rattle.std.proofs.Common.{◌≡◌, ◌⊎◌, inl, inr, ℕ, true, false, List, [], ◌∷◌, Option, None, Some, refl, sym, ◌∙◌, ap}
use Rattle.gs_chars.proofs.TruthsAndLists.{true_or_false}
use Rattle.gs_translate.specs.StepsSupport.{HasSome}
use Rattle.tdl_arguments.specs.declared.command.Command.{Command}
use Rattle.tdl_arguments.specs.declared.name.NameRow.{NameRow}
use Rattle.tdl_arguments.specs.CommandReads.{command_of}
use Rattle.tdl_arguments.specs.Commands.{names_of}
use Rattle.tdl_arguments.specs.Names.{AreOfRows, has_required, takes}
use Rattle.tdl_arguments.specs.Requests.{Asked, Asks, WordsInOrder, asked_of, may_have, named_values}
use Rattle.tdl_arguments.proofs.PairLemmas.{TakesBeside, not_behind, not_taken, of_no_word, of_one_word, one_more, same_pairs}
use Rattle.tdl_arguments.proofs.RequestLemmas.{asks_of, not_in_order, order_of}

-- a value with the property, or none
abbrev pub Decided : {X : Type 0} → (X → Type 0) → Type 0
Decided {X = X} Fact = HasSome Fact ⊎ ((x : X) → Fact x → ⊥)

-- ---- pairs

abbrev ArePairsOf : List NameRow → List (List ℕ) → Type 0
ArePairsOf rows words = Decided (λ (pairs : List (List ℕ × List ℕ)). AreOfRows rows words pairs)

-- a name is taken next to all lists of pairs that the arguments form, since they are one list
taken_beside : (rows : List NameRow) (n v : List ℕ) (words : List (List ℕ)) (pairs : List (List ℕ × List ℕ)) → AreOfRows rows words pairs
    → TakesBeside rows n v words (takes rows n v pairs)
taken_beside rows n v words pairs of others are = ap (takes rows n v) (same_pairs words pairs others of.are are)

first_pair : (rows : List NameRow) (n v : List ℕ) (words : List (List ℕ)) (behind : HasSome (λ (pairs : List (List ℕ × List ℕ)). AreOfRows rows words pairs))
    → ArePairsOf rows (n ∷ v ∷ words)
first_pair rows n v words behind = elim (true_or_false (takes rows n v behind.0)) as (λ _. ArePairsOf rows (n ∷ v ∷ words)) [
  | inl first ↦ inl (one_more rows n v words (takes rows n v behind.0) behind first (taken_beside rows n v words behind.0 behind.1))
  | inr none ↦ inr (λ pairs. not_taken rows n v words pairs (takes rows n v behind.0) none (taken_beside rows n v words behind.0 behind.1))
]

pairs_or_none : (rows : List NameRow) (words : List (List ℕ)) → ArePairsOf rows words
pairs_or_none rows [] = inl ([], of_no_word rows)
pairs_or_none rows (x ∷ []) = inr (λ pairs. of_one_word rows (x ∷ []) pairs refl)
pairs_or_none rows (n ∷ v ∷ words) = elim (pairs_or_none rows words) as (λ _. ArePairsOf rows (n ∷ v ∷ words)) [
  | inl behind ↦ first_pair rows n v words behind
  | inr none ↦ inr (λ pairs. not_behind rows n v words pairs none)
]

-- ---- the request

lacks : (command : Command) (words : List (List ℕ)) (pairs : List (List ℕ × List ℕ)) → AreOfRows (names_of command) words pairs
    → has_required (names_of command) pairs ≡ false → (asked : Asked) → Asks command words asked → ⊥
lacks command words pairs of lacking asked a =
    let same = same_pairs words pairs a.pairs of.are a.of_rows.are in
    let has = a.required in
    let f : false ≡ true = sym lacking ∙ ap (has_required (names_of command)) same ∙ has in
    cc

unfit : (command : Command) (words : List (List ℕ)) (pairs : List (List ℕ × List ℕ)) → AreOfRows (names_of command) words pairs
    → may_have command (named_values pairs) ≡ false → (asked : Asked) → Asks command words asked → ⊥
unfit command words pairs of unfitting asked a =
    let same = same_pairs words pairs a.pairs of.are a.of_rows.are in
    let fits = a.fits in
    let f : false ≡ true = sym unfitting ∙ ap (λ ps. may_have command (named_values ps)) same ∙ fits in
    cc

asks_of_pairs : (command : Command) (words : List (List ℕ))
    → HasSome (λ (pairs : List (List ℕ × List ℕ)). AreOfRows (names_of command) words pairs) → Decided (Asks command words)
asks_of_pairs command words pairs = elim (true_or_false (has_required (names_of command) pairs.0)) as (λ _. Decided (Asks command words)) [
  | inl all ↦ elim (true_or_false (may_have command (named_values pairs.0))) as (λ _. Decided (Asks command words)) [
    | inl fits ↦ inl (asked_of command pairs.0, record { pairs = pairs.0; of_rows = pairs.1; required = all; fits = fits; is = refl })
    | inr other ↦ inr (unfit command words pairs.0 pairs.1 other)
  ]
  | inr none ↦ inr (lacks command words pairs.0 pairs.1 none)
]

asks_or_not : (command : Command) (words : List (List ℕ)) → Decided (Asks command words)
asks_or_not command words = elim (pairs_or_none (names_of command) words) as (λ _. Decided (Asks command words)) [
  | inl pairs ↦ asks_of_pairs command words pairs
  | inr none ↦ inr (λ asked a. none a.pairs a.of_rows)
]

order_by : (words : List (List ℕ)) (parts : Option (Command × List (List ℕ))) → command_of words ≡ parts → Decided (WordsInOrder words)
order_by words None e = inr (not_in_order words e)
order_by words (Some parts) e = elim (asks_or_not parts.0 parts.1) as (λ _. Decided (WordsInOrder words)) [
  | inl a ↦ inl (a.0, order_of words parts a.0 e a.1)
  | inr none ↦ inr (λ asked o. none asked (asks_of words parts asked e o))
]

pub order_or_not : (words : List (List ℕ)) → Decided (WordsInOrder words)
order_or_not words = order_by words (command_of words) refl
