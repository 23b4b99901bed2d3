-- Derivations by the items of an option, one item after the other.
use Rattle.std.proofs.Common.{◌≡◌, ℕ, ◌<◌, ◌≤◌, ◌+◌, ◌⊎◌, ◌↔◌, min, Bool, true, false, IsTrue, nat_eq, All, set, List, [], ◌∷◌, ◌++◌, length, take, drop, refl, sym, ◌∙◌, ap, subst, inl, inr, arith}
use Rattle.std.specs.List.{concat}
use Rattle.std.proofs.lemmas.List.{take-append-drop, take_at, drop_at, length-take-le, length-append, append-nil, append_assoc, nil_from_length, take_more_set}
use Rattle.std.proofs.lemmas.List.Elements.{All-head, All-tail}
use Rattle.std.proofs.lemmas.Bool.{cases_eq}
use Rattle.std.proofs.lemmas.Bool.Decides.{nat_tests}
use Rattle.gs_grammar.specs.declared.item.Item.{Item}
use Rattle.gs_grammar.specs.Items.{IsItem, size_of, shortest_of}
use Rattle.gs_grammar.specs.Words.{Word, IsWord, number_of_word}
use Rattle.gs_grammar.proofs.WordLaws.{word_length}
use Rattle.gs_grammar.specs.Derivations.{EachWord, no_item, one_item, Derives, IsDerived, HasNumbers, numbers_of_words}
use Rattle.gs_grammar.specs.DerivationsSupport.{OneWay, TwoWays}
use Rattle.gs_grammar.specs.Searches.{AtCut}
use Rattle.gs_grammar.proofs.Ways.{Found, Never, Once, Twice, Finds, OneCut, TwoCuts, FindsBefore, joined_found}

-- one word more at the start
pub derives_cons : (item : Item) (items : List Item) (value first rest : List ℕ) (values words : List (List ℕ)) → Word item value first
    → Derives items rest values words → Derives (item ∷ items) (first ++ rest) (value ∷ values) (first ∷ words)
derives_cons item items value first rest values words h d =
    record { each = one_item item value first items values words h d.each; joined = ap (λ r. first ++ r) d.joined }

-- the first word and the others
pub record FirstWord (item : Item) (items : List Item) (w : List ℕ) (values words : List (List ℕ)) : Type 0 where
  pub value : List ℕ
  pub first : List ℕ
  pub rest : List ℕ
  pub values' : List (List ℕ)
  pub words' : List (List ℕ)
  pub word : Word item value first
  pub derives : Derives items rest values' words'
  pub whole : w ≡ first ++ rest
  pub values_are : values ≡ value ∷ values'
  pub words_are : words ≡ first ∷ words'

each_uncons : (item : Item) (items : List Item) (w : List ℕ) (values words : List (List ℕ)) → EachWord (item ∷ items) values words
    → concat words ≡ w → FirstWord item items w values words
each_uncons item items w values words (one_item item' value first items' values' words' h t) e =
    record { value = value; first = first; rest = concat words'; values' = values'; words' = words'; word = h; derives = record { each = t; joined = refl }; whole = sym e; values_are = refl; words_are = refl }

-- the words of an option one by one
pub derives_uncons : (item : Item) (items : List Item) (w : List ℕ) (values words : List (List ℕ)) → Derives (item ∷ items) w values words
    → FirstWord item items w values words
derives_uncons item items w values words d = each_uncons item items w values words d.each d.joined

each_nil : (values words : List (List ℕ)) → EachWord [] values words → (values ≡ []) × (words ≡ [])
each_nil values words no_item = (refl, refl)

-- no items derive only the empty list
pub derives_nil : (w : List ℕ) (values words : List (List ℕ)) → Derives [] w values words → (w ≡ []) × (values ≡ []) × (words ≡ [])
derives_nil w values words d =
    let e = each_nil values words d.each in
    let nil : concat words ≡ [] = rw e.1 refl in
    (sym d.joined ∙ nil, e.0, e.1)

pub nil_once : (w : List ℕ) → length w ≡ 0 → Finds [] w Once
nil_once w h =
    let nil : w ≡ [] = nil_from_length w h in
    record { values = []; words = []; derives = record { each = no_item; joined = sym nil }; only = λ vs ws d. (derives_nil w vs ws d).2 }

pub nil_never : (w : List ℕ) → 0 < length w → Finds [] w Never
nil_never w h d = let e = ap length (derives_nil w d.values d.words d.derives).0 in omega arith

-- a split of a derivation
pub record SplitOf (item : Item) (items : List Item) (w : List ℕ) (words : List (List ℕ)) : Type 0 where
  pub place : ℕ
  pub split : AtCut item items w place
  pub words_are : words ≡ take place w ∷ split.words

split_from : (item : Item) (items : List Item) (w value first rest : List ℕ) (values' words' words : List (List ℕ)) → w ≡ first ++ rest
    → Word item value first → Derives items rest values' words' → words ≡ first ∷ words' → SplitOf item items w words
split_from item items w value first rest values' words' words e h d f =
    let front : take (length first) w ≡ first = rw e (take_at first rest (length first) refl) in
    let back : drop (length first) w ≡ rest = rw e (drop_at first rest (length first) refl) in
    let within : length first ≤ length w = let a = ap length e in let l = length-append first rest in omega arith in
    record {
      place = length first;
      split = record { within = within; value = value; word = rw front h; values = values'; words = words'; rest = rw back d };
      words_are = rw front f;
    }

pub to_cut : (item : Item) (items : List Item) (w : List ℕ) (values words : List (List ℕ)) → Derives (item ∷ items) w values words → SplitOf item items w words
to_cut item items w values words d =
    let f = derives_uncons item items w values words d in
    split_from item items w f.value f.first f.rest f.values' f.words' words f.whole f.word f.derives f.words_are

pub from_cut : (item : Item) (items : List Item) (w : List ℕ) (k : ℕ) (split : AtCut item items w k)
    → Derives (item ∷ items) w (split.value ∷ split.values) (take k w ∷ split.words)
from_cut item items w k split =
    let d = derives_cons item items split.value (take k w) (drop k w) split.values split.words split.word split.rest in
    rw take-append-drop at d

same_place : (w : List ℕ) (j k : ℕ) → j ≤ length w → k ≤ length w → take j w ≡ take k w → j ≡ k
same_place w j k a b e = sym (length-take-le j w a) ∙ ap length e ∙ length-take-le k w b

-- two splits are two derivations
pub two_ways : (item : Item) (items : List Item) (w : List ℕ) → TwoCuts item items w → TwoWays (item ∷ items) w
two_ways item items w h =
    record {
      values = h.split.value ∷ h.split.values;
      words = take h.place w ∷ h.split.words;
      derives = from_cut item items w h.place h.split;
      values' = h.split'.value ∷ h.split'.values;
      words' = take h.place' w ∷ h.split'.words;
      derives' = from_cut item items w h.place' h.split';
      differ = λ e.
          let front : take h.place w ≡ take h.place' w = cc in
          let back : h.split.words ≡ h.split'.words = cc in
          h.differ (same_place w h.place h.place' h.split.within h.split'.within front) back;
    }

-- all splits are shorter than the cut, so those found before it are all of them
pub found_before : (item : Item) (items : List Item) (w : List ℕ) (cut : ℕ) (found : Found) → FindsBefore item items w cut found
    → ((k : ℕ) → AtCut item items w k → k < cut) → Finds (item ∷ items) w found
found_before item items w cut Never h bound = λ d.
    let c = to_cut item items w d.values d.words d.derives in
    h c.place (bound c.place c.split) c.split
found_before item items w cut Once h bound =
    record {
      values = h.split.value ∷ h.split.values;
      words = take h.place w ∷ h.split.words;
      derives = from_cut item items w h.place h.split;
      only = λ vs ws d.
          let c = to_cut item items w vs ws d in
          let o = h.only c.place (bound c.place c.split) c.split in
          let front : take c.place w ≡ take h.place w = ap (λ k. take k w) o.0 in
          let back = o.1 in
          let whole = c.words_are in
          cc;
    }
found_before item items w cut Twice h bound = two_ways item items w h

-- the possible splits
pub record CutBounds (item : Item) (w : List ℕ) (k : ℕ) : Type 0 where
  pub least : shortest_of item ≤ k
  pub most : k ≤ size_of item
  pub within : k ≤ length w

pub cut_bounds : (item : Item) (items : List Item) (w : List ℕ) (k : ℕ) → IsItem item → AtCut item items w k → CutBounds item w k
cut_bounds item items w k i split =
    let l = word_length item split.value (take k w) i split.word in
    let e = length-take-le k w split.within in
    let i = split.within in
    record { least = omega arith; most = omega arith; within = i }

-- no split is shorter than the first cut
pub found_start : (item : Item) (items : List Item) (w : List ℕ) (cut : ℕ) → ((k : ℕ) → AtCut item items w k → cut ≤ k) → FindsBefore item items w cut Never
found_start item items w cut bound k h split = let l = bound k split in omega arith

below_or_at : (k cut : ℕ) → k < cut + 1 → (k < cut) ⊎ (k ≡ cut)
below_or_at k cut h = elim (cases_eq k cut) as (λ _. (k < cut) ⊎ (k ≡ cut)) [ inl e ↦ inr e | inr n ↦ inl (omega arith) ]

-- no split is at the cut
pub found_skip : (item : Item) (items : List Item) (w : List ℕ) (cut : ℕ) (found : Found) → FindsBefore item items w cut found
    → (AtCut item items w cut → ⊥) → FindsBefore item items w (cut + 1) found
found_skip item items w cut Never h none = λ k l split. elim (below_or_at k cut l) as (λ _. ⊥) [ inl b ↦ h k b split | inr e ↦ none (rw e at split) ]
found_skip item items w cut Once h none =
    record {
      place = h.place;
      before = let b = h.before in omega arith;
      split = h.split;
      only = λ k l other. elim (below_or_at k cut l) as (λ _. (k ≡ h.place) × (other.words ≡ h.split.words)) [ inl b ↦ h.only k b other | inr e ↦ absurd (none (rw e at other)) ];
    }
found_skip item items w cut Twice h none = h

-- the splits at the cut, if its symbols are a word: as many as the ways of the items after it
pub at_cut : (item : Item) (items : List Item) (w : List ℕ) (cut : ℕ) → cut ≤ length w → IsWord item (take cut w)
    → IsDerived items (drop cut w) → AtCut item items w cut
at_cut item items w cut l h d = record { within = l; value = h.0; word = h.1; values = d.values; words = d.words; rest = d.derives }

two_at_cut : (item : Item) (items : List Item) (w : List ℕ) (cut : ℕ) → cut ≤ length w → IsWord item (take cut w)
    → TwoWays items (drop cut w) → TwoCuts item items w
two_at_cut item items w cut l h t =
    record {
      place = cut;
      split = record { within = l; value = h.0; word = h.1; values = t.values; words = t.words; rest = t.derives };
      place' = cut;
      split' = record { within = l; value = h.0; word = h.1; values = t.values'; words = t.words'; rest = t.derives' };
      differ = λ e f. t.differ f;
    }

one_at_cut : (item : Item) (items : List Item) (w : List ℕ) (cut : ℕ) → cut ≤ length w → IsWord item (take cut w)
    → OneWay items (drop cut w) → ((k : ℕ) → k < cut → AtCut item items w k → ⊥) → OneCut item items w (cut + 1)
one_at_cut item items w cut l h o none =
    record {
      place = cut;
      before = omega arith;
      split = record { within = l; value = h.0; word = h.1; values = o.values; words = o.words; rest = o.derives };
      only = λ k b other. elim (below_or_at k cut b) as (λ _. (k ≡ cut) × (other.words ≡ o.words)) [
        | inl c ↦ absurd (none k c other)
        | inr e ↦ (e, o.only other.values other.words (rw e at other.rest))
      ];
    }

none_at_cut : (item : Item) (items : List Item) (w : List ℕ) (cut : ℕ) → (IsDerived items (drop cut w) → ⊥) → AtCut item items w cut → ⊥
none_at_cut item items w cut none split = none (record { values = split.values; words = split.words; derives = split.rest })

pub found_joined : (item : Item) (items : List Item) (w : List ℕ) (cut : ℕ) (found more : Found) → FindsBefore item items w cut found
    → cut ≤ length w → IsWord item (take cut w) → Finds items (drop cut w) more
    → FindsBefore item items w (cut + 1) (joined_found found more)
found_joined item items w cut Never Never h l word m = found_skip item items w cut Never h (none_at_cut item items w cut m)
found_joined item items w cut Never Once h l word m = one_at_cut item items w cut l word m h
found_joined item items w cut Never Twice h l word m = two_at_cut item items w cut l word m
found_joined item items w cut Once Never h l word m = found_skip item items w cut Once h (none_at_cut item items w cut m)
found_joined item items w cut Once Once h l word m =
    record {
      place = h.place;
      split = h.split;
      place' = cut;
      split' = at_cut item items w cut l word (record { values = m.values; words = m.words; derives = m.derives });
      differ = λ e f. let b = h.before in omega arith;
    }
found_joined item items w cut Once Twice h l word m = two_at_cut item items w cut l word m
found_joined item items w cut Twice more h l word m = h

-- the search, at the items of an option

derived_nil : (w : List ℕ) → length w ≡ 0 → IsDerived [] w
derived_nil w h = let o = nil_once w h in record { values = o.values; words = o.words; derives = o.derives }

-- if no item is left, only the empty list is derived
pub nil_derived : (items : List Item) (w : List ℕ) (b : Bool) → length items ≡ 0 → b ≡ nat_eq (length w) 0 → IsTrue b ↔ IsDerived items w
nil_derived items w true h e = rw (nil_from_length items h) (λ _. derived_nil w (grind (arith, nat_tests)), λ _. refl)
nil_derived items w false h e = rw (nil_from_length items h) (λ t. let f : false ≡ true = t in cc, λ d. absurd (nil_never w (grind (arith, nat_tests)) d))

-- the last item derives its words

last_word : (item : Item) (w : List ℕ) → IsWord item w → IsDerived (item ∷ []) w
last_word item w h =
    let d = derives_cons item [] h.0 w [] [] [] h.1 (record { each = no_item; joined = refl }) in
    record { values = h.0 ∷ []; words = w ∷ []; derives = rw append-nil at d }

last_derived : (item : Item) (w : List ℕ) → IsDerived (item ∷ []) w → IsWord item w
last_derived item w d =
    let f = derives_uncons item [] w d.values d.words d.derives in
    let n = derives_nil f.rest f.values' f.words' f.derives in
    let first : w ≡ f.first = f.whole ∙ ap (λ r. f.first ++ r) n.0 ∙ append-nil f.first in
    (f.value, subst (λ (x : List ℕ). Word item f.value x) (sym first) f.word)

pub last_found : (items : List Item) (item : Item) (others : List Item) (w : List ℕ) (b : Bool) → items ≡ item ∷ others → length others ≡ 0
    → (IsTrue b ↔ IsWord item w) → IsTrue b ↔ IsDerived items w
last_found items item others w b s h e = rw (s, nil_from_length others h) (λ t. last_word item w (e.0 t), λ d. e.1 (last_derived item w d))

-- a split at the cut is a derivation
pub cut_derived : (items : List Item) (item : Item) (others : List Item) (w : List ℕ) (cut : ℕ) → items ≡ item ∷ others → cut ≤ length w
    → IsWord item (take cut w) → IsDerived others (drop cut w) → IsDerived items w
unfolding at_cut
cut_derived items item others w cut s l h d =
    rw s (record { values = h.0 ∷ d.values; words = take cut w ∷ d.words; derives = from_cut item others w cut (at_cut item others w cut l h d) })

pub no_split : (item : Item) (others : List Item) (w : List ℕ) (cut : ℕ) (b : Bool) → b ≡ false → (IsTrue b ↔ IsWord item (take cut w))
    → AtCut item others w cut → ⊥
no_split item others w cut b f e split = let t = e.1 (split.value, split.word) in let u : false ≡ true = sym f ∙ t in cc

pub not_derived : (item : Item) (others : List Item) (w : List ℕ) (cut : ℕ) (b : Bool) → b ≡ false
    → (IsTrue b ↔ IsDerived others (drop cut w)) → AtCut item others w cut → ⊥
not_derived item others w cut b f e = none_at_cut item others w cut (λ d. let t = e.1 d in let u : false ≡ true = sym f ∙ t in cc)

pub fixed_cut : (item : Item) (others : List Item) (w : List ℕ) (cut : ℕ) → IsItem item → IsDerived (item ∷ others) w
    → cut ≡ shortest_of item → cut ≡ size_of item → AtCut item others w cut
fixed_cut item others w cut i d l m =
    let s = to_cut item others w d.values d.words d.derives in
    let b = cut_bounds item others w s.place i s.split in
    let same : s.place ≡ cut = let x = b.least in let y = b.most in omega arith in
    subst (λ (k : ℕ). AtCut item others w k) same s.split

pub some_cut : (item : Item) (others : List Item) (w : List ℕ) (longest cut : ℕ) → IsItem item → IsDerived (item ∷ others) w
    → ((k : ℕ) → k < cut → AtCut item others w k → ⊥) → longest ≡ min (size_of item) (length w) → longest + 1 ≤ cut → ⊥
some_cut item others w longest cut i d none m b =
    let s = to_cut item others w d.values d.words d.derives in
    let c = cut_bounds item others w s.place i s.split in
    let x = c.most in
    let y = c.within in
    none s.place (omega arith) s.split

-- no cut works, so nothing is derived
pub never_derived : (items : List Item) (item : Item) (others : List Item) (w : List ℕ) (longest cut : ℕ) → IsItem item
    → items ≡ item ∷ others → ((k : ℕ) → k < cut → AtCut item others w k → ⊥) → longest ≡ min (size_of item) (length w) → longest + 1 ≤ cut
    → IsTrue false ↔ IsDerived items w
never_derived items item others w longest cut i s none m b =
    (λ t. let f : false ≡ true = t in cc, λ d. absurd (some_cut item others w longest cut i (rw s at d) none m b))

pub none_below : (item : Item) (others : List Item) (w : List ℕ) (cut : ℕ) → ((k : ℕ) → k < cut → AtCut item others w k → ⊥)
    → (AtCut item others w cut → ⊥) → (k : ℕ) → k < cut + 1 → AtCut item others w k → ⊥
none_below item others w cut h none = found_skip item others w cut Never h none

pub none_first : (item : Item) (others : List Item) (w : List ℕ) (cut : ℕ) → IsItem item → cut ≡ shortest_of item → (k : ℕ) → k < cut
    → AtCut item others w k → ⊥
none_first item others w cut i e = found_start item others w cut (λ k split. let c = cut_bounds item others w k i split in let l = c.least in omega arith)

pub first_item : (items : List Item) (item : Item) (others : List Item) → items ≡ item ∷ others → All IsItem items → IsItem item
first_item items item others e h = All-head IsItem item others (rw e at h)

pub other_items : (items : List Item) (item : Item) (others : List Item) → items ≡ item ∷ others → All IsItem items → All IsItem others
other_items items item others e h = All-tail IsItem item others (rw e at h)

-- the numbers so far, if the items to come derive the rest
pub record Tallies (items : List Item) (w : List ℕ) (left : List Item) (rest : List ℕ) (numbers : List ℕ) : Type 0 where
  pub back : (values words : List (List ℕ)) → Derives left rest values words → HasNumbers items w (numbers ++ numbers_of_words left words)
  pub derived : IsDerived left rest

pub tallies_step : (items : List Item) (w : List ℕ) (left : List Item) (rest : List ℕ) (numbers : List ℕ) (item : Item) (others : List Item) (cut number : ℕ)
    → Tallies items w left rest numbers → left ≡ item ∷ others → AtCut item others rest cut → number ≡ number_of_word item (take cut rest)
    → Tallies items w others (drop cut rest) (numbers ++ number ∷ [])
tallies_step items w left rest numbers item others cut number t s split n =
    record {
      back = λ vs ws e.
          let d = derives_cons item others split.value (take cut rest) (drop cut rest) vs ws split.word e in
          let whole : Derives (item ∷ others) rest (split.value ∷ vs) (take cut rest ∷ ws) = rw take-append-drop at d in
          let more : HasNumbers items w (numbers ++ numbers_of_words left (take cut rest ∷ ws)) = t.back (split.value ∷ vs) (take cut rest ∷ ws) (rw s whole) in
          let here : HasNumbers items w (numbers ++ numbers_of_words (item ∷ others) (take cut rest ∷ ws)) = rw s at more in
          rw (append_assoc, n) here;
      derived = record { values = split.values; words = split.words; derives = split.rest };
    }

pub tallies_end : (items : List Item) (w : List ℕ) (left : List Item) (rest : List ℕ) (numbers : List ℕ) → Tallies items w left rest numbers
    → length left ≡ 0 → HasNumbers items w numbers
tallies_end items w left rest numbers t h =
    let nil : left ≡ [] = nil_from_length left h in
    let r = t.back t.derived.values t.derived.words t.derived.derives in
    let e : HasNumbers items w (numbers ++ numbers_of_words [] t.derived.words) = rw nil at r in
    rw append-nil at e

pub tally_take : (out : List ℕ) (number n : ℕ) → number < length out → take (number + 1) (set out number n) ≡ take number out ++ n ∷ []
tally_take out number n l = take_more_set out number n l
