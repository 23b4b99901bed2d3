-- The words between the cuts of a derivation.
use Rattle.std.proofs.Common.{◌≡◌, ℕ, ◌<◌, ◌≤◌, ◌+◌, ◌-◌, List, [], ◌∷◌, ◌++◌, length, get_or, take, drop, refl, sym, ◌∙◌, ap, subst, arith}
use Rattle.std.proofs.lemmas.List.{length-take-le, take-append-drop, append_assoc, append-nil, nil_from_length}
use Rattle.gs_grammar.specs.declared.item.Item.{Item}
use Rattle.gs_grammar.specs.Words.{IsWord, Word}
use Rattle.gs_grammar.specs.Derivations.{Derives, IsDerived}
use Rattle.gs_grammar.specs.DerivationsSupport.{HasValues}
use Rattle.gs_grammar.specs.Searches.{AtCut}
use Rattle.gs_grammar.proofs.Cuts.{to_cut, derives_cons, derives_nil}
use Rattle.gs_grammar_compile.specs.Places.{cuts_from}
use Rattle.gs_grammar_level.specs.Trails.{HasCuts}
use Rattle.gs_grammar_level.proofs.DropLemmas.{part_at}

-- the items to come derive the rest, and the cuts from a number on are those of its words
pub record Ahead (left : List Item) (rest : List ℕ) (place number : ℕ) (cuts : List ℕ) : Type 0 where
  pub values : List (List ℕ)
  pub words : List (List ℕ)
  pub derives : Derives left rest values words
  pub cuts_are : drop number cuts ≡ cuts_from place words

pub derived_by : (items : List Item) (symbols cuts : List ℕ) → HasCuts items symbols cuts → IsDerived items symbols
derived_by items symbols cuts h = record { values = h.values; words = h.words; derives = h.derives }

record Fronted (place : ℕ) (words : List (List ℕ)) : Type 0 where
  rest : List ℕ
  whole : cuts_from place words ≡ place ∷ rest

fronted : (place : ℕ) (words : List (List ℕ)) → Fronted place words
fronted place [] = record { rest = []; whole = refl }
fronted place (w ∷ words) = record { rest = cuts_from (place + length w) words; whole = refl }

-- the next word
pub record NextCut (item : Item) (others : List Item) (rest : List ℕ) (place number next : ℕ) (cuts : List ℕ) : Type 0 where
  pub inside : number < length cuts
  pub low : place ≤ next
  pub within : next - place ≤ length rest
  pub split : AtCut item others rest (next - place)
  pub word : IsWord item (take (next - place) rest)
  pub ahead : Ahead others (drop (next - place) rest) next number cuts

pub next_cut : (left : List Item) (item : Item) (others : List Item) (rest : List ℕ) (place number : ℕ) (cuts : List ℕ)
    → left ≡ item ∷ others → Ahead left rest place number cuts
    → NextCut item others rest place (number + 1) (get_or cuts (number + 1) 0) cuts
next_cut left item others rest place number cuts e h =
    let derives : Derives (item ∷ others) rest h.values h.words = rw e at h.derives in
    let s = to_cut item others rest h.values h.words derives in
    let size : length (take s.place rest) ≡ s.place = length-take-le s.place rest s.split.within in
    let here : place ∷ cuts_from (place + length (take s.place rest)) s.split.words ≡ drop number cuts = sym (h.cuts_are ∙ ap (cuts_from place) s.words_are) in
    let first = part_at cuts (cuts_from (place + length (take s.place rest)) s.split.words) place 0 number here in
    let f = fronted (place + length (take s.place rest)) s.split.words in
    let second = part_at cuts f.rest (place + length (take s.place rest)) 0 (number + 1) (sym f.whole ∙ first.others) in
    let next = get_or cuts (number + 1) 0 in
    let is : next ≡ place + s.place = second.here ∙ ap (λ (n : ℕ). place + n) size in
    let cut : s.place ≡ next - place = omega arith in
    let within = s.split.within in
    record {
      inside = second.within;
      low = omega arith;
      within = omega arith;
      split = subst (AtCut item others rest) cut s.split;
      word = subst (λ (k : ℕ). IsWord item (take k rest)) cut (s.split.value, s.split.word);
      ahead = record {
        values = s.split.values;
        words = s.split.words;
        derives = subst (λ (k : ℕ). Derives others (drop k rest) s.split.values s.split.words) cut s.split.rest;
        cuts_are = sym first.others ∙ ap (λ (p : ℕ). cuts_from p s.split.words) (sym second.here);
      };
    }

-- the values so far, if the items to come derive the rest
pub record Gathers (items : List Item) (w : List ℕ) (left : List Item) (rest : List ℕ) (values : List (List ℕ)) : Type 0 where
  pub back : (vs : List (List ℕ)) → HasValues left rest vs → HasValues items w (values ++ vs)
  pub derived : IsDerived left rest

pub gathers_step : (items : List Item) (w : List ℕ) (left : List Item) (rest : List ℕ) (values : List (List ℕ)) (item : Item) (others : List Item) (cut : ℕ) (value : List ℕ)
    → Gathers items w left rest values → left ≡ item ∷ others → AtCut item others rest cut → Word item value (take cut rest)
    → Gathers items w others (drop cut rest) (values ++ value ∷ [])
gathers_step items w left rest values item others cut value g s split word =
    record {
      back = λ vs h.
          let d = derives_cons item others value (take cut rest) (drop cut rest) vs h.words word h.derives in
          let whole : Derives (item ∷ others) rest (value ∷ vs) (take cut rest ∷ h.words) = rw take-append-drop at d in
          let one : HasValues left rest (value ∷ vs) = record { words = take cut rest ∷ h.words; derives = rw s whole } in
          rw append_assoc (g.back (value ∷ vs) one);
      derived = record { values = split.values; words = split.words; derives = split.rest };
    }

pub gathers_end : (items : List Item) (w : List ℕ) (left : List Item) (rest : List ℕ) (values : List (List ℕ))
    → Gathers items w left rest values → length left ≡ 0 → HasValues items w values
gathers_end items w left rest values g h =
    let nil : left ≡ [] = nil_from_length left h in
    let d : IsDerived [] rest = rw nil at g.derived in
    let n = derives_nil rest d.values d.words d.derives in
    let none : HasValues [] rest [] = record { words = d.words; derives = subst (λ (vs : List (List ℕ)). Derives [] rest vs d.words) n.1 d.derives } in
    let r = g.back [] (rw nil none) in
    rw append-nil at r
