-- Words at the places that the sizes of items give.
use Rattle.std.proofs.Common.{◌≡◌, ℕ, ◌<◌, ◌≤◌, ◌+◌, ◌-◌, List, [], ◌∷◌, ◌++◌, length, get_or, take, drop, refl, sym, ◌∙◌, ap, arith, length-drop}
use Rattle.std.proofs.lemmas.List.{take_at, drop_at, length-append, append_assoc, append-nil, nil_from_length, take-append-drop, take_all}
use Rattle.gs_grammar.specs.declared.item.Item.{Item}
use Rattle.gs_grammar.specs.Items.{IsItem, size_of, shortest_of}
use Rattle.gs_grammar.specs.Words.{IsWord, Word}
use Rattle.gs_grammar.specs.Derivations.{Derives, IsDerived, no_item}
use Rattle.gs_grammar.specs.DerivationsSupport.{HasValues}
use Rattle.gs_grammar.proofs.Cuts.{derives_uncons, derives_cons, derives_nil}
use Rattle.gs_grammar.proofs.WordLaws.{word_length}
use Rattle.gs_grammar_level.specs.Cuttings.{starts_of}
use Rattle.gs_grammar_level.specs.Fronts.{CutsAreFixed}
use Rattle.gs_grammar_level.specs.Widths.{HasWidth, HasNextCut, width_by}

-- the width of one item

one_width : (item : Item) (others : List Item) (w : List ℕ) (size : ℕ) → IsItem item → size ≡ size_of item → shortest_of item ≡ size
    → HasWidth item others w size
one_width item others w size i s b = record {
  is = λ word rest whole h d.
      let bounds = word_length item h.0 word i h.1 in
      let low = bounds.0 in
      let high = bounds.1 in
      omega arith;
}

size_by : (item next : Item) (others : List Item) (rest cuts : List ℕ) (place : ℕ) → cuts ≡ starts_of place (item ∷ next ∷ others)
    → width_by cuts (next ∷ others) rest ≡ size_of item
size_by item next others rest cuts place e =
    let first = ap (λ (xs : List ℕ). get_or xs 0 0) e in
    let other = ap (λ (xs : List ℕ). get_or xs 1 0) e in
    omega arith

pub has_width : (item : Item) (others : List Item) (rest cuts : List ℕ) (place : ℕ) → IsItem item → CutsAreFixed (item ∷ others)
    → cuts ≡ starts_of place (item ∷ others) → HasWidth item others rest (width_by cuts others rest)
has_width item [] rest cuts place i c e = record {
  is = λ word r whole h d.
      let none = ap length (derives_nil r d.values d.words d.derives).0 in
      let all = ap length whole in
      let sum = length-append word r in
      omega arith;
}
has_width item (next ∷ others) rest cuts place i c e =
    let size = size_by item next others rest cuts place e in
    one_width item (next ∷ others) rest (width_by cuts (next ∷ others) rest) i size (c.0 ∙ sym size)

pub next_by : (item : Item) (others : List Item) (cuts : List ℕ) (place : ℕ) → cuts ≡ starts_of place (item ∷ others) → HasNextCut cuts others
next_by item [] cuts place e = tt
next_by item (next ∷ others) cuts place e =
    let count = ap length e in
    let first = ap (λ (xs : List ℕ). get_or xs 0 0) e in
    let other = ap (λ (xs : List ℕ). get_or xs 1 0) e in
    (omega arith, omega arith)

-- the values so far are those of each derivation of the symbols, and the items to come derive the rest, at the places ahead
pub record Measures (items left : List Item) (w rest ahead : List ℕ) (values : List (List ℕ)) : Type 0 where
  pub place : ℕ
  pub ahead_are : ahead ≡ starts_of place left
  pub back : (vs : List (List ℕ)) → HasValues left rest vs → HasValues items w (values ++ vs)
  pub on : IsDerived items w → IsDerived left rest

pub measures_start : (items : List Item) (w places : List ℕ) (values : List (List ℕ)) → places ≡ starts_of 0 items → values ≡ []
    → Measures items items w w places values
measures_start items w places values e f = rw f (record { place = 0; ahead_are = e; back = λ vs h. h; on = λ d. d })

-- the next item, and the cuts that it is at
pub record NextItem (item : Item) (others : List Item) (rest ahead : List ℕ) : Type 0 where
  pub some : 1 ≤ length ahead
  pub next : HasNextCut ahead others
  pub width : HasWidth item others rest (width_by ahead others rest)

pub next_item : (items left : List Item) (item : Item) (others : List Item) (w rest ahead : List ℕ) (values : List (List ℕ))
    → Measures items left w rest ahead values → left ≡ item ∷ others → IsItem item → CutsAreFixed left → NextItem item others rest ahead
next_item items left item others w rest ahead values m e i c =
    let here : ahead ≡ starts_of m.place (item ∷ others) = rw e at m.ahead_are in
    let fixed : CutsAreFixed (item ∷ others) = rw e at c in
    record {
      some = let l = ap length here in omega arith;
      next = next_by item others ahead m.place here;
      width = has_width item others rest ahead m.place i fixed here;
    }

-- the word that begins the rest, if the items derive the symbols
record Front (item : Item) (others : List Item) (rest : List ℕ) (width : ℕ) : Type 0 where
  within : width ≤ length rest
  word : IsWord item (take width rest)
  derived : IsDerived others (drop width rest)

front : (item : Item) (others : List Item) (rest : List ℕ) (width : ℕ) → HasWidth item others rest width → IsDerived (item ∷ others) rest
    → Front item others rest width
front item others rest width h d =
    let f = derives_uncons item others rest d.values d.words d.derives in
    let behind : IsDerived others f.rest = record { values = f.values'; words = f.words'; derives = f.derives } in
    let size : length f.first ≡ width = h.is f.first f.rest f.whole (f.value, f.word) behind in
    let all = ap length f.whole in
    let sum = length-append f.first f.rest in
    let first : take width rest ≡ f.first = ap (take width) f.whole ∙ take_at f.first f.rest width size in
    let back : drop width rest ≡ f.rest = ap (drop width) f.whole ∙ drop_at f.first f.rest width size in
    record {
      within = omega arith;
      word = rw first (f.value, f.word);
      derived = rw back behind;
    }

pub measures_step : (items left : List Item) (item : Item) (others : List Item) (w rest ahead : List ℕ) (values : List (List ℕ)) (width : ℕ) (value : List ℕ)
    → Measures items left w rest ahead values → left ≡ item ∷ others → HasWidth item others rest width → Word item value (take width rest)
    → Measures items others w (drop width rest) (take (length ahead - 1) (drop 1 ahead)) (values ++ value ∷ [])
measures_step items left item others w rest ahead values width value m e h word =
    let here : ahead ≡ starts_of m.place (item ∷ others) = rw e at m.ahead_are in
    let left_are : take (length ahead - 1) (drop 1 ahead) ≡ drop 1 ahead = take_all (length ahead - 1) (drop 1 ahead) (let l = length-drop 1 ahead in omega arith) in
    record {
      place = m.place + size_of item;
      ahead_are = left_are ∙ ap (drop 1) here;
      back = λ vs g.
          let d = derives_cons item others value (take width rest) (drop width rest) vs g.words word g.derives in
          let whole : Derives (item ∷ others) rest (value ∷ vs) (take width rest ∷ g.words) = rw take-append-drop at d in
          let one : HasValues left rest (value ∷ vs) = record { words = take width rest ∷ g.words; derives = rw e whole } in
          rw append_assoc (m.back (value ∷ vs) one);
      on = λ d.
          let one : IsDerived (item ∷ others) rest = rw e at (m.on d) in
          (front item others rest width h one).derived;
    }

pub too_short : (items left : List Item) (item : Item) (others : List Item) (w rest ahead : List ℕ) (values : List (List ℕ)) (width : ℕ)
    → Measures items left w rest ahead values → left ≡ item ∷ others → HasWidth item others rest width → length rest < width
    → IsDerived items w → ⊥
too_short items left item others w rest ahead values width m e h l d =
    let here : IsDerived (item ∷ others) rest = rw e at (m.on d) in
    let within = (front item others rest width h here).within in
    omega arith

pub no_word : (items left : List Item) (item : Item) (others : List Item) (w rest ahead : List ℕ) (values : List (List ℕ)) (width : ℕ) (word : List ℕ)
    → Measures items left w rest ahead values → left ≡ item ∷ others → HasWidth item others rest width → word ≡ take width rest
    → (IsWord item word → ⊥) → IsDerived items w → ⊥
no_word items left item others w rest ahead values width word m e h is none d =
    let here : IsDerived (item ∷ others) rest = rw e at (m.on d) in
    none (rw is (front item others rest width h here).word)

pub measured : (items left : List Item) (w rest ahead : List ℕ) (values list : List (List ℕ)) → Measures items left w rest ahead values
    → length left ≡ 0 → length rest ≡ 0 → list ≡ values → HasValues items w list
measured items left w rest ahead values list m l r e =
    let nil : left ≡ [] = nil_from_length left l in
    let none : rest ≡ [] = nil_from_length rest r in
    let empty : HasValues [] [] [] = record { words = []; derives = record { each = no_item; joined = refl } } in
    let all = m.back [] (rw (nil, none) empty) in
    rw e (rw append-nil at all)

pub some_left : (items left : List Item) (w rest ahead : List ℕ) (values : List (List ℕ)) → Measures items left w rest ahead values
    → length left ≡ 0 → (length rest ≡ 0 → ⊥) → IsDerived items w → ⊥
some_left items left w rest ahead values m l some d =
    let nil : left ≡ [] = nil_from_length left l in
    let here : IsDerived [] rest = rw nil at (m.on d) in
    some (ap length (derives_nil rest here.values here.words here.derives).0)

-- items before the last of one length

pub fixed_others : (left : List Item) (item : Item) (others : List Item) → left ≡ item ∷ others → CutsAreFixed left → CutsAreFixed others
fixed_others left item [] e h = tt
fixed_others left item (next ∷ others) e h = let here : CutsAreFixed (item ∷ next ∷ others) = rw e at h in here.1
