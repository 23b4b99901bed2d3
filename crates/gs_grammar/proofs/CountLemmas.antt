-- The derivations of a list of symbols can be counted if it is decidable whether a list is a word.
use Rattle.std.proofs.Common.{ℕ, ◌≤◌, ◌+◌, ◌⊎◌, List, [], ◌∷◌, ◌++◌, length, take, drop, zero, suc, refl, subst, inl, inr, arith}
use Rattle.std.proofs.lemmas.List.{append_assoc, append-nil}
use Rattle.gs_grammar.specs.declared.item.Item.{Item}
use Rattle.gs_grammar.specs.Words.{IsWord}
use Rattle.gs_grammar.specs.Searches.{AtCut}
use Rattle.gs_grammar.specs.Counts.{Counted, none_of, one_of, two_of}
use Rattle.gs_grammar.proofs.Ways.{Found, Never, Once, Finds, FindsBefore, FoundOption, NoOption, OneOption, TwoReadings, FindsInLevel, joined_found, joined_option}
use Rattle.gs_grammar.proofs.Cuts.{nil_once, nil_never, found_before, found_skip, found_joined}
use Rattle.gs_grammar.proofs.Options.{level_start, level_step}

-- it is decidable of each list whether it is a word of the item
pub record IsDecided (item : Item) : Type 0 where
  pub decide : (w : List ℕ) → IsWord item w ⊎ (IsWord item w → ⊥)

-- the ways of the items to derive a list, counted
pub record Ways (items : List Item) (w : List ℕ) : Type 0 where
  pub found : Found
  pub finds : Finds items w found

-- the number of ways in which the item and then the items derive the list, if the item's word is shorter than the cut
record WaysBefore (item : Item) (items : List Item) (w : List ℕ) (cut : ℕ) : Type 0 where
  found : Found
  finds : FindsBefore item items w cut found

-- the derivations in the level, counted
pub record LevelWays (level : List (List Item)) (w : List ℕ) : Type 0 where
  pub found : FoundOption
  pub finds : FindsInLevel level w found

nil_ways : (w : List ℕ) → Ways [] w
nil_ways [] = record { found = Once; finds = nil_once [] refl }
nil_ways (c ∷ w) = record { found = Never; finds = nil_never (c ∷ w) (omega arith) }

no_word : (item : Item) (items : List Item) (w : List ℕ) (cut : ℕ) → (IsWord item (take cut w) → ⊥) → AtCut item items w cut → ⊥
no_word item items w cut never split = never (split.value, split.word)

more_ways : (item : Item) (items : List Item) (w : List ℕ) (cut : ℕ) → IsWord item (take cut w) ⊎ (IsWord item (take cut w) → ⊥)
    → cut ≤ length w → Ways items (drop cut w) → WaysBefore item items w cut → WaysBefore item items w (cut + 1)
more_ways item items w cut (inl word) within rest before =
    record { found = joined_found before.found rest.found; finds = found_joined item items w cut before.found rest.found before.finds within word rest.finds }
more_ways item items w cut (inr never) within rest before =
    record { found = before.found; finds = found_skip item items w cut before.found before.finds (no_word item items w cut never) }

ways_before : (item : Item) (items : List Item) (w : List ℕ) → IsDecided item → ((v : List ℕ) → Ways items v) → (cut : ℕ)
    → cut ≤ length w + 1 → WaysBefore item items w cut
ways_before item items w decided rest zero h = record { found = Never; finds = λ k l split. absurd (omega arith) }
ways_before item items w decided rest (suc cut) h =
    let more = more_ways item items w cut (decided.decide (take cut w)) (omega arith) (rest (drop cut w)) (ways_before item items w decided rest cut (omega arith)) in
    subst (λ (n : ℕ). WaysBefore item items w n) (omega arith) more

all_ways : (item : Item) (items : List Item) (w : List ℕ) → WaysBefore item items w (length w + 1) → Ways (item ∷ items) w
all_ways item items w before =
    record { found = before.found; finds = found_before item items w (length w + 1) before.found before.finds (λ k split. let l = split.within in omega arith) }

-- the ways of the items, counted by the cuts of the first word
pub count_ways : ((item : Item) → IsDecided item) → (items : List Item) (w : List ℕ) → Ways items w
count_ways decided [] w = nil_ways w
count_ways decided (item ∷ items) w =
    all_ways item items w (ways_before item items w (decided item) (λ v. count_ways decided items v) (length w + 1) (omega arith))

one_more : (level : List (List Item)) (items : List Item) (w : List ℕ) → LevelWays level w → Ways items w → LevelWays (level ++ items ∷ []) w
one_more level items w before ways =
    record { found = joined_option before.found (length level) ways.found; finds = level_step level items w before.found ways.found before.finds ways.finds }

level_from : ((item : Item) → IsDecided item) → (w : List ℕ) (level front : List (List Item)) → LevelWays front w → LevelWays (front ++ level) w
level_from decided w [] front before = rw append-nil before
level_from decided w (items ∷ level) front before =
    rw (← append_assoc front (items ∷ []) level) (level_from decided w level (front ++ items ∷ []) (one_more front items w before (count_ways decided items w)))

count_found : (level : List (List Item)) (w : List ℕ) (found : FoundOption) → FindsInLevel level w found → Counted level w
count_found level w NoOption h = none_of h
count_found level w (OneOption option) h = one_of option h.0 h.1
count_found level w TwoReadings h = two_of h

-- the derivations in a level, counted option by option
pub count_level : ((item : Item) → IsDecided item) → (level : List (List Item)) (w : List ℕ) → Counted level w
count_level decided level w =
    let all = level_from decided w level [] (record { found = NoOption; finds = level_start w }) in
    count_found level w all.found all.finds
