-- The symbols at the first places of the lists that items derive.
use Rattle.std.proofs.Common.{◌≡◌, ℕ, ◌<◌, ◌≤◌, ◌*◌, zero, suc, All, true, List, [], ◌∷◌, ◌++◌, length, map, get_or, replicate, Some, refl, sym, ◌∙◌, ap, subst, inl, inr, arith}
use Rattle.std.specs.List.{slice_get}
use Rattle.std.proofs.lemmas.Bool.Decides.{nat_tests}
use Rattle.std.proofs.lemmas.Option.{slice_get-map}
use Rattle.std.proofs.lemmas.List.{append_assoc}
use Rattle.std.proofs.lemmas.List.Elements.{All-head, All-tail}
use Rattle.gs_chars.proofs.TruthsAndLists.{and_first, and_second, mapped_some}
use Rattle.gs_chars.specs.Characters.{are_digits, is_digit}
use Rattle.gs_bits.specs.Bits.{AreBits}
use Rattle.gs_grammar.specs.declared.item.Item.{Item}
use Rattle.gs_grammar.specs.declared.item.Item.TheVariants.{Lit, Pad, Digits, Int, Esc, NumPad, Num, NumStr, Ascii7, Fill}
use Rattle.gs_grammar.specs.Items.{IsItem, size_of, shortest_of}
use Rattle.gs_grammar.specs.Words.{Word}
use Rattle.gs_grammar.specs.Derivations.{Derives, Derivation, IsDerived}
use Rattle.gs_grammar.specs.Levels.{OptionForm, item_lists}
use Rattle.gs_grammar.proofs.Cuts.{derives_uncons}
use Rattle.gs_grammar.proofs.Numbers.{digits_of_decimal}
use Rattle.gs_grammar.proofs.Packs.{writes_bits}
use Rattle.gs_grammar.proofs.WordLaws.{word_length, int_bounds}
use Rattle.gs_grammar_level.specs.declared.fronts.Place.{Place}
use Rattle.gs_grammar_level.specs.declared.fronts.Front.{Front}
use Rattle.gs_grammar_level.specs.Fronts.{place_of, places_of, MayStand, StandWithin, HavePlaces, AreFrontsOf, AreApart}
use Rattle.gs_grammar_level.specs.ShareSearches.{ShareNoList}
use Rattle.gs_grammar_level.proofs.BitSymbols.{packed_bits}

-- one symbol for each place
abbrev pub StandEach : List Place → List ℕ → Type 0
StandEach [] [] = Unit {0}
StandEach [] (symbol ∷ w) = ⊥
StandEach (place ∷ places) [] = ⊥
StandEach (place ∷ places) (symbol ∷ w) = MayStand place symbol × StandEach places w

each_append : (places others : List Place) (v w : List ℕ) → StandEach places v → StandEach others w → StandEach (places ++ others) (v ++ w)
each_append [] others [] w h k = k
each_append [] others (symbol ∷ v) w h k = absurd h
each_append (place ∷ places) others [] w h k = absurd h
each_append (place ∷ places) others (symbol ∷ v) w h k = (h.0, each_append places others v w h.1 k)

within_each : (places : List Place) (v rest : List ℕ) → StandEach places v → StandWithin places (v ++ rest)
within_each [] v rest h = tt
within_each (place ∷ places) [] rest h = absurd h
within_each (place ∷ places) (symbol ∷ v) rest h = (h.0, within_each places v rest h.1)

within_at : (places : List Place) (w : List ℕ) (k : ℕ) (place : Place) → StandWithin places w → slice_get places k ≡ Some place → MayStand place (get_or w k 0)
within_at [] w k place h e = cc
within_at (first ∷ places) [] k place h e = absurd h
within_at (first ∷ places) (symbol ∷ w) zero place h e = let f : first ≡ place = cc in rw f at h.0
within_at (first ∷ places) (symbol ∷ w) (suc k) place h e = within_at places w k place h.1 e

-- no list is within places that are apart
pub none_within_both : (places others : List Place) (w : List ℕ) → AreApart places others → StandWithin places w → StandWithin others w → ⊥
none_within_both places others w a h k =
    let one = within_at places w a.number a.place h a.place_at in
    let other = within_at others w a.number a.other k a.other_at in
    let low = one.least in
    let high = one.most in
    let low' = other.least in
    let high' = other.most in
    elim a.apart as (λ _. ⊥) [
      | inl l ↦ omega arith
      | inr l ↦ omega arith
    ]

-- the words of an item of one length

literal_each : (w : List ℕ) → StandEach (map (λ symbol. place_of symbol symbol) w) w
literal_each [] = tt
literal_each (symbol ∷ w) = (record { least = omega arith; most = omega arith }, literal_each w)

all_each : (least most : ℕ) (w : List ℕ) (n : ℕ) → All (λ s. (least ≤ s) × (s ≤ most)) w → length w ≡ n → StandEach (replicate n (place_of least most)) w
all_each least most [] zero h e = tt
all_each least most [] (suc n) h e = absurd (omega arith)
all_each least most (s ∷ w) zero h e = absurd (omega arith)
all_each least most (s ∷ w) (suc n) h e =
    let first = All-head (λ s. (least ≤ s) × (s ≤ most)) s w h in
    (record { least = first.0; most = first.1 }, all_each least most w n (All-tail (λ s. (least ≤ s) × (s ≤ most)) s w h) (omega arith))

digit_range : (s : ℕ) → is_digit s ≡ true → (48 ≤ s) × (s ≤ 57)
digit_range s h = (grind (arith, nat_tests), grind (arith, nat_tests))

digits_each : (w : List ℕ) (n : ℕ) → are_digits w ≡ true → length w ≡ n → StandEach (replicate n (place_of 48 57)) w
digits_each [] zero h e = tt
digits_each [] (suc n) h e = absurd (omega arith)
digits_each (s ∷ w) zero h e = absurd (omega arith)
digits_each (s ∷ w) (suc n) h e =
    let first = digit_range s (and_first (is_digit s) (are_digits w) h) in
    (record { least = first.0; most = first.1 }, digits_each w n (and_second (is_digit s) (are_digits w) h) (omega arith))

bits_each : (w : List ℕ) (n : ℕ) → AreBits w → length w ≡ n → StandEach (replicate n (place_of 0 1)) w
bits_each [] zero h e = tt
bits_each [] (suc n) h e = absurd (omega arith)
bits_each (s ∷ w) zero h e = absurd (omega arith)
bits_each (s ∷ w) (suc n) h e =
    let first = All-head (λ b. b < 2) s w h in
    (record { least = omega arith; most = omega arith }, bits_each w n (All-tail (λ b. b < 2) s w h) (omega arith))

zeros_each : (n : ℕ) → StandEach (replicate n (place_of 0 0)) (replicate n 0)
zeros_each zero = tt
zeros_each (suc n) = (record { least = omega arith; most = omega arith }, zeros_each n)

esc_open : (lo hi : ℕ) → IsItem (Esc lo hi) → lo ≡ 3 * hi → ⊥
esc_open lo hi i e =
    let some : 1 ≤ lo = grind (arith, nat_tests) in
    let order : lo ≤ hi = grind (arith, nat_tests) in
    omega arith

word_each : (item : Item) (value w : List ℕ) → IsItem item → shortest_of item ≡ size_of item → length w ≡ size_of item → Word item value w
    → StandEach (places_of item) w
word_each (Lit literal) value w i s l h = rw h.1 (literal_each literal)
word_each (Pad n) value w i s l h = digits_each w n (ap are_digits h.2 ∙ h.1) l
word_each (Digits lo hi) value w i s l h = digits_each w hi (ap are_digits h.2 ∙ h.1) l
word_each (Int greatest) value w i s l h =
    let g = int_bounds greatest i in
    let small = h.0.1.small in
    digits_each w (size_of (Int greatest)) (ap are_digits (h.1 ∙ h.0.1.text) ∙ digits_of_decimal h.0.0 (omega arith)) l
word_each (Esc lo hi) value w i s l h = absurd (esc_open lo hi i s)
word_each (NumPad bits n) value w i s l h = bits_each w bits (writes_bits bits _ w h.2) l
word_each (Num bits greatest) value w i s l h = bits_each w bits (writes_bits bits _ w h.1.1) l
word_each (NumStr bits hi) value w i s l h = bits_each w bits (writes_bits bits _ w h.2) l
word_each (Ascii7 lo hi bits) value w i s l h = bits_each w bits (packed_bits value w h.1) l
word_each (Fill a b) value w i s l h = elim h.1 as (λ _. StandEach (replicate b (place_of 0 0)) w) [
  | inl e ↦ let f : w ≡ replicate b 0 = e ∙ ap (λ (n : ℕ). replicate n 0) s in rw f (zeros_each b)
  | inr e ↦ rw e (zeros_each b)
]

-- the places so far: each list that the items derive begins with symbols at these places, and the items to come derive the rest

pub record BeginsWith (left : List Item) (places : List Place) (w : List ℕ) : Type 0 where
  pub front : List ℕ
  pub rest : List ℕ
  pub whole : w ≡ front ++ rest
  pub stand : StandEach places front
  pub derived : IsDerived left rest

pub record PlacesSoFar (items left : List Item) (places : List Place) : Type 0 where
  pub begins : (w : List ℕ) → IsDerived items w → BeginsWith left places w

pub places_start : (items : List Item) (places : List Place) → places ≡ [] → PlacesSoFar items items places
places_start items places e = rw e (record { begins = λ w d. record { front = []; rest = w; whole = refl; stand = tt; derived = d } })

begins_step : (item : Item) (others : List Item) (places : List Place) (w : List ℕ) → IsItem item → shortest_of item ≡ size_of item
    → BeginsWith (item ∷ others) places w → BeginsWith others (places ++ places_of item) w
begins_step item others places w i s b =
    let f = derives_uncons item others b.rest b.derived.values b.derived.words b.derived.derives in
    let bounds = word_length item f.value f.first i f.word in
    let low = bounds.0 in
    let high = bounds.1 in
    record {
      front = b.front ++ f.first;
      rest = f.rest;
      whole = b.whole ∙ ap (λ (x : List ℕ). b.front ++ x) f.whole ∙ sym (append_assoc b.front f.first f.rest);
      stand = each_append places (places_of item) b.front f.first b.stand (word_each item f.value f.first i s (omega arith) f.word);
      derived = record { values = f.values'; words = f.words'; derives = f.derives };
    }

pub places_step : (items left : List Item) (item : Item) (others : List Item) (places new : List Place) (size : ℕ)
    → PlacesSoFar items left places → left ≡ item ∷ others → IsItem item → size ≡ size_of item → shortest_of item ≡ size
    → new ≡ places ++ places_of item → PlacesSoFar items others new
places_step items left item others places new size h e i is s n = rw n (record {
  begins = λ w d.
      let here : BeginsWith (item ∷ others) places w = rw e at (h.begins w d) in
      begins_step item others places w i (s ∙ is) here;
})

pub have_places : (items left : List Item) (places list : List Place) → PlacesSoFar items left places → list ≡ places → HavePlaces items list
have_places items left places list h e = rw e (record {
  within = λ w d.
      let b = h.begins w d in
      rw b.whole (within_each places b.front b.rest b.stand);
})

-- options that share no list

pub record OptionBy (options : List OptionForm) (i : ℕ) (w : List ℕ) (values words : List (List ℕ)) : Type 0 where
  pub option : OptionForm
  pub at : slice_get options i ≡ Some option
  pub derives : Derives option.items w values words

pub option_by : (options : List OptionForm) (w : List ℕ) (i : ℕ) (d : Derivation (item_lists options) w) → d.option ≡ i → OptionBy options i w d.values d.words
option_by options w i d e =
    let o = mapped_some (λ (option : OptionForm). option.items) (slice_get options d.option) d.items (sym (slice_get-map (λ (option : OptionForm). option.items) options d.option) ∙ d.of_level) in
    record {
      option = o.0;
      at = ap (slice_get options) (sym e) ∙ o.1;
      derives = subst (λ (x : List Item). Derives x w d.values d.words) (sym o.2) d.derives;
    }

pub none_by_places : (fronts : List Front) (options : List OptionForm) (i j : ℕ) (one other : Front) → AreFrontsOf fronts options
    → slice_get fronts i ≡ Some one → slice_get fronts j ≡ Some other → AreApart one.places other.places
    → ShareNoList (item_lists options) i j
none_by_places fronts options i j one other h at at' apart w s =
    let a = option_by options w i s.one s.by_one in
    let b = option_by options w j s.other s.by_other in
    let f = h.each i one a.option at a.at in
    let g = h.each j other b.option at' b.at in
    none_within_both one.places other.places w apart (f.within w (record { values = s.one.values; words = s.one.words; derives = a.derives })) (g.within w (record { values = s.other.values; words = s.other.words; derives = b.derives }))
