-- Words that are their own values, at the places that the sizes of items give.
use Rattle.std.proofs.Common.{◌≡◌, ℕ, ◌≤◌, ◌+◌, ◌-◌, List, [], ◌∷◌, length, take, drop, zero, suc, Some, None, refl, sym, ◌∙◌, ap, arith, length-drop, get_or}
use Rattle.std.specs.List.{slice_get}
use Rattle.std.proofs.lemmas.List.{take_all, drop_all, drop-drop, nil_from_length, take-append-drop, length-take-le}
use Rattle.gs_grammar.specs.declared.item.Item.{Item}
use Rattle.gs_grammar.specs.declared.item.Item.TheVariants.{Lit, Pad, Digits, Int, Esc, NumPad, Num, NumStr, Ascii7, Fill}
use Rattle.gs_grammar.specs.Items.{size_of}
use Rattle.gs_grammar.specs.Words.{Word, own_value}
use Rattle.gs_grammar.specs.Derivations.{Derives, no_item}
use Rattle.gs_grammar.specs.DerivationsSupport.{HasValues}
use Rattle.gs_grammar.proofs.Cuts.{derives_cons}
use Rattle.gs_grammar.specs.Derivations.{OneDerivation}
use Rattle.gs_grammar.specs.Ambiguity.{IsUnambiguous}
use Rattle.gs_grammar.specs.Levels.{OptionForm, item_lists}
use Rattle.gs_grammar_level.specs.Cuttings.{starts_of, IsFixedCut, IsCutAt}
use Rattle.gs_grammar_level.proofs.Readers.{one_derives}
use Rattle.gs_grammar_level.specs.Widths.{HasNextCut, width_by}
use Rattle.gs_grammar_level.specs.OwnWords.{word_at, values_by, own_values}
use Rattle.gs_grammar_level.proofs.Measures.{next_by}

-- the values by their numbers

drop_more : (n : ℕ) (places : List ℕ) → drop n (drop 1 places) ≡ drop (suc n) places
drop_more zero [] = refl
drop_more (suc n) [] = refl
drop_more n (place ∷ places) = refl

pub value_at : (value : Item → List ℕ → List ℕ) (items : List Item) (places w : List ℕ) (n : ℕ) (item : Item) → slice_get items n ≡ Some item
    → get_or (values_by value items places w) n [] ≡ value item (word_at (drop n places) w)
value_at value [] places w n item e = absurd (let f : None ≡ Some item = e in cc)
value_at value (first ∷ items) places w zero item e = let f : Some first ≡ Some item = e in cc
value_at value (first ∷ items) places w (suc n) item e = value_at value items (drop 1 places) w n item e
    ∙ ap (λ (xs : List ℕ). value item (word_at xs w)) (drop_more n places)

pub no_value_at : (value : Item → List ℕ → List ℕ) (items : List Item) (places w : List ℕ) (n : ℕ) → length items ≤ n
    → get_or (values_by value items places w) n [] ≡ []
no_value_at value [] places w n e = refl
no_value_at value (first ∷ items) places w zero e = absurd (omega arith)
no_value_at value (first ∷ items) places w (suc n) e = no_value_at value items (drop 1 places) w n (omega arith)

-- only the value of a literal is not its word

pub literal_at : (items : List Item) (places w literal : List ℕ) (n : ℕ) (item : Item) → slice_get items n ≡ Some item → item ≡ Lit literal
    → get_or (own_values items places w) n [] ≡ []
literal_at items places w literal n item e f = value_at own_value items places w n item e ∙ rw f refl

other_value : (item : Item) (w : List ℕ) → ((literal : List ℕ) → item ≡ Lit literal → ⊥) → own_value item w ≡ w
other_value (Lit literal) w n = absurd (n literal refl)
other_value (Pad n) w _ = refl
other_value (Digits lo hi) w _ = refl
other_value (Int most) w _ = refl
other_value (Esc lo hi) w _ = refl
other_value (NumPad bits n) w _ = refl
other_value (Num bits most) w _ = refl
other_value (NumStr bits hi) w _ = refl
other_value (Ascii7 lo hi bits) w _ = refl
other_value (Fill a b) w _ = refl

pub other_at : (items : List Item) (places w ahead : List ℕ) (n : ℕ) (item : Item) → slice_get items n ≡ Some item
    → ((literal : List ℕ) → item ≡ Lit literal → ⊥) → ahead ≡ drop n places → get_or (own_values items places w) n [] ≡ word_at ahead w
other_at items places w ahead n item e none a = value_at own_value items places w n item e ∙ other_value item (word_at (drop n places) w) none ∙ ap (λ (xs : List ℕ). word_at xs w) (sym a)

-- the items to come begin at the places ahead, and what they derive of the rest belongs to the whole
pub record WordsSoFar (value : Item → List ℕ → List ℕ) (items left : List Item) (places ahead w rest : List ℕ) : Type 0 where
  pub place : ℕ
  pub within : place ≤ length w
  pub ahead_are : ahead ≡ starts_of place left
  pub rest_is : rest ≡ drop place w
  pub back : HasValues left rest (values_by value left ahead w) → HasValues items w (values_by value items places w)

pub words_start : (value : Item → List ℕ → List ℕ) (items : List Item) (places w : List ℕ) → places ≡ starts_of 0 items
    → WordsSoFar value items items places places w w
words_start value items places w e = record { place = 0; within = omega arith; ahead_are = e; rest_is = refl; back = λ h. h }

pub words_cut : (value : Item → List ℕ → List ℕ) (items left : List Item) (item : Item) (others : List Item) (places ahead w rest : List ℕ)
    → left ≡ item ∷ others → WordsSoFar value items left places ahead w rest → (1 ≤ length ahead) × HasNextCut ahead others
words_cut value items left item others places ahead w rest e h =
    let here : ahead ≡ starts_of h.place (item ∷ others) = rw e at h.ahead_are in
    (let l = ap length here in omega arith, next_by item others ahead h.place here)

own_word : (item : Item) (others : List Item) (ahead w rest : List ℕ) (place : ℕ) → ahead ≡ starts_of place (item ∷ others)
    → rest ≡ drop place w → word_at ahead w ≡ take (width_by ahead others rest) rest
own_word item [] ahead w rest place e r = rw (e, r) (sym (take_all (length (drop place w)) (drop place w) (omega arith)))
own_word item (next ∷ others) ahead w rest place e r = rw (e, r) refl

-- the place of the next item, or the end
record NextPlace (others : List Item) (ahead w rest : List ℕ) : Type 0 where
  place : ℕ
  within : place ≤ length w
  ahead_are : drop 1 ahead ≡ starts_of place others
  rest_is : drop (width_by ahead others rest) rest ≡ drop place w

next_place : (item : Item) (others : List Item) (ahead w rest : List ℕ) (place : ℕ) → ahead ≡ starts_of place (item ∷ others)
    → rest ≡ drop place w → place ≤ length w → width_by ahead others rest ≤ length rest → NextPlace others ahead w rest
next_place item [] ahead w rest place e r within l = record {
  place = length w;
  within = omega arith;
  ahead_are = ap (drop 1) e;
  rest_is = drop_all (length rest) rest (omega arith) ∙ sym (drop_all (length w) w (omega arith));
}
next_place item (next ∷ others) ahead w rest place e r within l =
    let ends : place + (place + size_of item - place) ≡ place + size_of item = omega arith in
    let few : place + size_of item - place ≤ length (drop place w) = rw (e, r) at l in
    let count = length-drop place w in
    record {
      place = place + size_of item;
      within = omega arith;
      ahead_are = ap (drop 1) e;
      rest_is = rw (e, r) (drop-drop (place + size_of item - place) place w ∙ ap (λ (k : ℕ). drop k w) ends);
    }

pub words_step : (value : Item → List ℕ → List ℕ) (items left : List Item) (item : Item) (others : List Item) (places ahead w rest : List ℕ)
    → left ≡ item ∷ others → WordsSoFar value items left places ahead w rest → width_by ahead others rest ≤ length rest
    → Word item (value item (take (width_by ahead others rest) rest)) (take (width_by ahead others rest) rest)
    → WordsSoFar value items others places (take (length ahead - 1) (drop 1 ahead)) w (drop (width_by ahead others rest) rest)
words_step value items left item others places ahead w rest e h few word =
    let here : ahead ≡ starts_of h.place (item ∷ others) = rw e at h.ahead_are in
    let next = next_place item others ahead w rest h.place here h.rest_is h.within few in
    let width = width_by ahead others rest in
    let left_are : take (length ahead - 1) (drop 1 ahead) ≡ drop 1 ahead = take_all (length ahead - 1) (drop 1 ahead) (let l = length-drop 1 ahead in omega arith) in
    record {
      place = next.place;
      within = next.within;
      ahead_are = left_are ∙ next.ahead_are;
      rest_is = next.rest_is;
      back = λ g.
          let at : HasValues others (drop width rest) (values_by value others (drop 1 ahead) w) = rw left_are at g in
          let d = derives_cons item others (value item (take width rest)) (take width rest) (drop width rest) (values_by value others (drop 1 ahead) w) at.words word at.derives in
          let whole : Derives (item ∷ others) rest (value item (take width rest) ∷ values_by value others (drop 1 ahead) w) (take width rest ∷ at.words) = rw take-append-drop at d in
          let one : HasValues (item ∷ others) rest (values_by value (item ∷ others) ahead w) = record { words = take width rest ∷ at.words; derives = rw (own_word item others ahead w rest h.place here h.rest_is) whole } in
          h.back (rw e one);
    }

pub words_end : (value : Item → List ℕ → List ℕ) (items left : List Item) (places ahead w rest : List ℕ)
    → WordsSoFar value items left places ahead w rest → length left ≡ 0 → length rest ≡ 0 → HasValues items w (values_by value items places w)
words_end value items left places ahead w rest h l r =
    let nil : left ≡ [] = nil_from_length left l in
    let none : rest ≡ [] = nil_from_length rest r in
    let empty : HasValues [] [] [] = record { words = []; derives = record { each = no_item; joined = refl } } in
    h.back (rw (nil, none) empty)

-- the next word is in the list, at its place
pub record WordThere (from : ℕ) (w word : List ℕ) : Type 0 where
  pub within : from + length word ≤ length w
  pub is : word ≡ take (length word) (drop from w)

pub word_there : (value : Item → List ℕ → List ℕ) (items left : List Item) (item : Item) (others : List Item) (places ahead w rest word : List ℕ)
    (width : ℕ) → left ≡ item ∷ others → WordsSoFar value items left places ahead w rest → width ≤ length rest → word ≡ take width rest
    → WordThere (get_or ahead 0 0) w word
word_there value items left item others places ahead w rest word width e h few is =
    let here : ahead ≡ starts_of h.place (item ∷ others) = rw e at h.ahead_are in
    let from : get_or ahead 0 0 ≡ h.place = ap (λ (xs : List ℕ). get_or xs 0 0) here in
    let long : length word ≡ width = ap length is ∙ length-take-le width rest few in
    let count = ap length h.rest_is ∙ length-drop h.place w in
    let within = h.within in
    record {
      within = omega arith;
      is = rw (long, from) (is ∙ ap (take width) h.rest_is);
    }

-- the words of an option of a level that is not ambiguous
pub cut_reads : (options : List OptionForm) (w : List ℕ) (number : ℕ) (items : List Item) (places : List ℕ) (values : List (List ℕ))
    → IsUnambiguous (item_lists options) → IsFixedCut options number items places → HasValues items w values
    → OneDerivation (item_lists options) w number values
cut_reads options w number items places values clear h v =
    one_derives options w number values clear (record { option = h.option; at = h.at; values_are = rw h.items_are at v })

pub cut_at : (options : List OptionForm) (w : List ℕ) (number : ℕ) (items : List Item) (places : List ℕ) (values : List (List ℕ))
    → IsFixedCut options number items places → HasValues items w values → IsCutAt items places w
cut_at options w number items places values h v = record {
  each = h.each;
  fixed = h.fixed;
  places_are = h.places_are;
  derived = record { values = values; words = v.words; derives = v.derives };
}
