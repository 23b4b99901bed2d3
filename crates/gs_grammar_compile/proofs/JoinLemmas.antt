-- Items that are read in sequence: their words and the runs through their borders.
use Rattle.std.proofs.Common.{◌≡◌, ℕ, ◌<◌, ◌≤◌, ◌+◌, ◌-◌, ◌||◌, eqb, true, List, [], ◌∷◌, ◌++◌, length, get_or, take, drop, suc, Some, refl, sym, ◌∙◌, ap, inl, inr, arith, add-one}
use Rattle.std.specs.Prelude.{nat_le, nat_lt, ◌&&◌}
use Rattle.std.specs.List.{slice_get, list_all}
use Rattle.std.proofs.lemmas.Bool.Decides.{nat_tests}
use Rattle.std.proofs.lemmas.List.{take_at, drop_at}
use Rattle.std.proofs.lemmas.List.Sums.{AllPass-from_list_all, list_all-from_AllPass}
use Rattle.gs_chars.proofs.TruthsAndLists.{and_first, and_second}
use Rattle.gs_grammar.specs.declared.item.Item.{Item}
use Rattle.gs_grammar.specs.Words.{IsWord}
use Rattle.gs_grammar.specs.Derivations.{Derives, no_item}
use Rattle.gs_grammar.proofs.Cuts.{derives_cons, derives_uncons, derives_nil}
use Rattle.gs_ambig.specs.declared.machine.Edge.{Edge}
use Rattle.gs_ambig.specs.Walks.{Fits, edges_at, Walk}
use Rattle.gs_ambig.specs.Machines.{AutoForm, IsMachine, is_onward}
use Rattle.gs_ambig.proofs.Onward.{goes_on}
use Rattle.gs_grammar_compile.specs.Readers.{Reads, ReadsItems}
use Rattle.gs_grammar_compile.specs.Places.{cuts_from, stands_from, CutsAreThoseOfDerivations}
use Rattle.gs_grammar_compile.proofs.WalkLemmas.{Ascends, Uncrossed, walk_nil, walk_length, walk_append, walk_split}
use Rattle.gs_grammar_compile.proofs.PlaceLemmas.{Rises, From, from_next, stands_append, stands_here, stands_part}

-- each item is read from its border to the next, over which no edge leads
abbrev pub Chain : List (List Edge) → List Item → ℕ → List ℕ → Type 0
Chain table [] border [] = Unit {0}
Chain table [] border (next ∷ borders) = ⊥
Chain table (item ∷ items) border [] = ⊥
Chain table (item ∷ items) border (next ∷ borders) = (border < next) × Reads table border next
    (IsWord item) × Uncrossed table next × Chain table items next borders

abbrev pub last_of : ℕ → List ℕ → ℕ
last_of border [] = border
last_of border (next ∷ borders) = last_of next borders

chain_rises : (table : List (List Edge)) (items : List Item) (border : ℕ) (borders : List ℕ) → Chain table items border borders → Rises border borders
chain_rises table [] border [] h = tt
chain_rises table [] border (next ∷ borders) h = absurd h
chain_rises table (item ∷ items) border [] h = absurd h
chain_rises table (item ∷ items) border (next ∷ borders) h = (h.0, chain_rises table items next borders h.3)

last_high : (border : ℕ) (borders : List ℕ) → Rises border borders → border ≤ last_of border borders
last_high border [] h = omega arith
last_high border (next ∷ borders) h = let r = last_high next borders h.1 in let l = h.0 in omega arith

-- the places of a first part of a run, and then those of the rest
stands_join : (table : List (List Edge)) (all : List ℕ) (border next : ℕ) (borders : List ℕ) (i : ℕ) (front back w : List ℕ)
    → From all border (next ∷ borders) → Rises next borders → Ascends table → border < next → Walk table border front w next
    → stands_from all (i + 1) (front ++ back) ≡ (i + length w) ∷ stands_from all (i + length w + 1) back
stands_join table all border next borders i front back w h r a l walk =
    let count = walk_length table border next front w walk in
    let part = stands_part table all border next borders border (i + 1) (i + length w) front w h r a (omega arith) l walk (omega arith) in
    let place : stands_from all (i + 1 + length front) back ≡ stands_from all (i + length w + 1) back = ap (λ (j : ℕ). stands_from all j back) (omega arith) in
    stands_append all (i + 1) front back ∙ ap (λ (x : List ℕ). x ++ stands_from all (i + 1 + length front) back) part ∙ ap
    (λ (x : List ℕ). (i + length w) ∷ x) place

-- words have a run with their cuts

pub record RunFrom (table : List (List Edge)) (all : List ℕ) (border last place : ℕ) (w : List ℕ) (words : List (List ℕ)) : Type 0 where
  pub run : List ℕ
  pub walk : Walk table border run w last
  pub cuts : place ∷ stands_from all (place + 1) run ≡ cuts_from place words

run_nil : (table : List (List Edge)) (all : List ℕ) (border place : ℕ) (w : List ℕ) (words : List (List ℕ)) → w ≡ [] → words ≡ []
    → RunFrom table all border border place w words
run_nil table all border place w words e f = rw (e, f) (record { run = []; walk = refl; cuts = refl })

run_cons : (table : List (List Edge)) (all : List ℕ) (border next : ℕ) (borders : List ℕ) (last place : ℕ) (first rest : List ℕ) (words : List (List ℕ)) (states : List ℕ)
    → From all border (next ∷ borders) → Rises next borders → Ascends table → border < next → Walk table border states first next
    → RunFrom table all next last (place + length first) rest words → RunFrom table all border last place (first ++ rest) (first ∷ words)
run_cons table all border next borders last place first rest words states h r a l walk more = record {
  run = states ++ more.run;
  walk = walk_append table border next last states more.run first rest walk more.walk;
  cuts = ap (λ (x : List ℕ). place ∷ x) (stands_join table all border next borders place states more.run first h r a l walk ∙ more.cuts);
}

run_moved : (table : List (List Edge)) (all : List ℕ) (border last place : ℕ) (v w : List ℕ) (others words : List (List ℕ)) → w ≡ v
    → words ≡ others → RunFrom table all border last place v others → RunFrom table all border last place w words
run_moved table all border last place v w others words e f r = rw (e, f) r

pub runs : (table : List (List Edge)) (all : List ℕ) (items : List Item) (border : ℕ) (borders : List ℕ) (place : ℕ) (w : List ℕ) (values words : List (List ℕ))
    → Chain table items border borders → From all border borders → Ascends table → Derives items w values words
    → RunFrom table all border (last_of border borders) place w words
runs table all [] border [] place w values words h f a d =
    let n = derives_nil w values words d in
    run_nil table all border place w words n.0 n.2
runs table all [] border (next ∷ borders) place w values words h f a d = absurd h
runs table all (item ∷ items) border [] place w values words h f a d = absurd h
runs table all (item ∷ items) border (next ∷ borders) place w values words h f a d =
    let u = derives_uncons item items w values words d in
    let one = h.1.some u.first (u.value, u.word) in
    let more = runs table all items next borders (place + length u.first) u.rest u.values' u.words' h.3 (from_next all border next borders f h.0) a u.derives in
    let whole = run_cons table all border next borders (last_of next borders) place u.first u.rest u.words' one.0 f (chain_rises table items next borders h.3) a h.0 one.1 more in
    run_moved table all border (last_of next borders) place (u.first ++ u.rest) w (u.first ∷ u.words') words u.whole u.words_are whole

-- a run has words with its cuts

pub record WordsFrom (all : List ℕ) (items : List Item) (place : ℕ) (run w : List ℕ) : Type 0 where
  pub values : List (List ℕ)
  pub words : List (List ℕ)
  pub derives : Derives items w values words
  pub cuts : place ∷ stands_from all (place + 1) run ≡ cuts_from place words

words_nil : (all : List ℕ) (place : ℕ) (run w : List ℕ) → run ≡ [] → w ≡ [] → WordsFrom all [] place run w
words_nil all place run w e f = rw (e, f) (record { values = []; words = []; derives = record { each = no_item; joined = refl }; cuts = refl })

words_cons : (table : List (List Edge)) (all : List ℕ) (item : Item) (items : List Item) (border next : ℕ) (borders : List ℕ) (place : ℕ) (front back word rest : List ℕ)
    → From all border (next ∷ borders) → Rises next borders → Ascends table → border < next → Walk table border front word next
    → IsWord item word → WordsFrom all items (place + length word) back rest
    → WordsFrom all (item ∷ items) place (front ++ back) (word ++ rest)
words_cons table all item items border next borders place front back word rest h r a l walk is more = record {
  values = is.0 ∷ more.values;
  words = word ∷ more.words;
  derives = derives_cons item items is.0 word rest more.values more.words is.1 more.derives;
  cuts = ap (λ (x : List ℕ). place ∷ x) (stands_join table all border next borders place front back word h r a l walk ∙ more.cuts);
}

words_moved : (all : List ℕ) (items : List Item) (place : ℕ) (states run v w : List ℕ) → run ≡ states → w ≡ v
    → WordsFrom all items place states v → WordsFrom all items place run w
words_moved all items place states run v w e f r = rw (e, f) r

pub words_of : (table : List (List Edge)) (all : List ℕ) (items : List Item) (border : ℕ) (borders : List ℕ) (place : ℕ) (run w : List ℕ)
    → Chain table items border borders → From all border borders → Ascends table → Walk table border run w (last_of border borders)
    → WordsFrom all items place run w
words_of table all [] border [] place run w h f a walk =
    let n = walk_nil table border border run w a walk refl in
    words_nil all place run w n.0 n.1
words_of table all [] border (next ∷ borders) place run w h f a walk = absurd h
words_of table all (item ∷ items) border [] place run w h f a walk = absurd h
words_of table all (item ∷ items) border (next ∷ borders) place run w h f a walk =
    let rises = chain_rises table items next borders h.3 in
    let less = h.0 in
    let s = walk_split table border next (last_of next borders) run w h.2 walk (omega arith) (last_high next borders rises) in
    let is = h.1.word s.word s.front s.walk in
    let more = words_of table all items next borders (place + length s.word) s.back s.rest h.3 (from_next all border next borders f h.0) a s.walk_on in
    let whole = words_cons table all item items border next borders place s.front s.back s.word s.rest f rises a h.0 s.walk is more in
    words_moved all (item ∷ items) place (s.front ++ s.back) run (s.word ++ s.rest) w s.states s.symbols whole

-- two runs with the same cuts are the same

pub same_front : (v w x y : List ℕ) → v ++ x ≡ w ++ y → length v ≡ length w → (v ≡ w) × (x ≡ y)
same_front v w x y e l =
    let front : v ≡ w = sym (take_at v x (length v) refl) ∙ ap (λ (z : List ℕ). take (length v) z) e ∙ take_at w y (length v) (sym l) in
    let back : x ≡ y = sym (drop_at v x (length v) refl) ∙ ap (λ (z : List ℕ). drop (length v) z) e ∙ drop_at w y (length v) (sym l) in
    (front, back)

heads : (m n : ℕ) (xs ys : List ℕ) → m ∷ xs ≡ n ∷ ys → m ≡ n
heads m n xs ys e = cc

tails : (m n : ℕ) (xs ys : List ℕ) → m ∷ xs ≡ n ∷ ys → xs ≡ ys
tails m n xs ys e = cc

pub only_run : (table : List (List Edge)) (all : List ℕ) (items : List Item) (border : ℕ) (borders : List ℕ) (place : ℕ) (run other w : List ℕ)
    → Chain table items border borders → From all border borders → Ascends table → Walk table border run w (last_of border borders)
    → Walk table border other w (last_of border borders) → stands_from all (place + 1) run ≡ stands_from all (place + 1) other → run ≡ other
only_run table all [] border [] place run other w h f a walk walk' e =
    (walk_nil table border border run w a walk refl).0 ∙ sym (walk_nil table border border other w a walk' refl).0
only_run table all [] border (next ∷ borders) place run other w h f a walk walk' e = absurd h
only_run table all (item ∷ items) border [] place run other w h f a walk walk' e = absurd h
only_run table all (item ∷ items) border (next ∷ borders) place run other w h f a walk walk' e =
    let rises = chain_rises table items next borders h.3 in
    let less = h.0 in
    let high = last_high next borders rises in
    let s = walk_split table border next (last_of next borders) run w h.2 walk (omega arith) high in
    let t = walk_split table border next (last_of next borders) other w h.2 walk' (omega arith) high in
    let one = stands_join table all border next borders place s.front s.back s.word f rises a h.0 s.walk in
    let two = stands_join table all border next borders place t.front t.back t.word f rises a h.0 t.walk in
    let both : (place + length s.word) ∷ stands_from all (place + length s.word + 1) s.back ≡ (place + length t.word) ∷ stands_from all (place + length t.word + 1) t.back =
    sym one ∙ ap (λ (x : List ℕ). stands_from all (place + 1) x) (sym s.states) ∙ e ∙ ap (λ (x : List ℕ). stands_from all (place + 1) x) t.states ∙ two in
    let place_is = heads (place + length s.word) (place + length t.word) (stands_from all (place + length s.word + 1) s.back) (stands_from all (place + length t.word + 1) t.back) both in
    let rest_is = tails (place + length s.word) (place + length t.word) (stands_from all (place + length s.word + 1) s.back) (stands_from all (place + length t.word + 1) t.back) both in
    let words = same_front s.word t.word s.rest t.rest (sym s.symbols ∙ t.symbols) (omega arith) in
    let fronts : s.front ≡ t.front = h.1.only s.word s.front t.front s.walk (rw words.0 t.walk) in
    let ends : stands_from all (place + length s.word + 1) s.back ≡ stands_from all (place + length s.word + 1) t.back = rest_is ∙ ap (λ (j : ℕ). stands_from all j t.back) (omega arith) in
    let backs : s.back ≡ t.back = only_run table all items next borders (place + length s.word) s.back t.back s.rest h.3 (from_next all border next borders f h.0) a s.walk_on (rw words.1 t.walk_on) ends in
    s.states ∙ ap (λ (x : List ℕ). x ++ s.back) fronts ∙ ap (λ (x : List ℕ). t.front ++ x) backs ∙ sym t.states

-- a machine that reads the items has such a chain

pub chain_of : (table : List (List Edge)) (items : List Item) (border : ℕ) (borders : List ℕ) → length borders ≡ length items
    → ((k : ℕ) → k < length borders → get_or (border ∷ borders) k 0 < get_or borders k 0)
    → ((k : ℕ) (item : Item) → slice_get items k ≡ Some item → Reads table (get_or (border ∷ borders) k 0) (get_or borders k 0) (IsWord item))
    → ((k : ℕ) → k < length borders → Uncrossed table (get_or borders k 0)) → Chain table items border borders
chain_of table [] border [] e rise reads free = tt
chain_of table [] border (next ∷ borders) e rise reads free = absurd (omega arith)
chain_of table (item ∷ items) border [] e rise reads free = absurd (omega arith)
chain_of table (item ∷ items) border (next ∷ borders) e rise reads free = (
  rise 0 (omega arith),
  reads 0 item refl,
  free 0 (omega arith),
  chain_of table items next borders (omega arith) (λ k l. rise (suc k) (omega arith)) (λ k i g. reads (suc k) i g) (λ k l. free (suc k) (omega arith)),
)

fits_uncrossed : (states : ℕ) (borders : List ℕ) (state : ℕ) (edges : List Edge) (symbol next k : ℕ)
    → list_all (is_onward states borders state) edges ≡ true → Fits edges symbol next → k < length borders → state < get_or borders k 0
    → next ≤ get_or borders k 0
fits_uncrossed states borders state [] symbol next k h f l b = absurd f
fits_uncrossed states borders state (edge ∷ edges) symbol next k h (inl f) l b =
    let one = and_first (is_onward states borders state edge) (list_all (is_onward states borders state) edges) h in
    let free = and_second (nat_lt state edge.to && nat_lt edge.to states) (list_all (λ border. nat_le border state || nat_le edge.to border) borders) one in
    let all = AllPass-from_list_all (λ (border : ℕ). nat_le border state || nat_le edge.to border) borders free in
    let here : (nat_le (get_or borders k 0) state || nat_le edge.to (get_or borders k 0)) ≡ true = all k 0 l in
    let e = f.2 in
    grind (arith, nat_tests)
fits_uncrossed states borders state (edge ∷ edges) symbol next k h (inr f) l b =
    fits_uncrossed states borders state edges symbol next k (and_second (is_onward states borders state edge) (list_all (is_onward states borders state) edges) h) f l b

pub uncrossed_at : (form : AutoForm) (k : ℕ) → IsMachine form → k < length form.borders → Uncrossed form.table (get_or form.borders k 0)
uncrossed_at form k m l state symbol next f b =
    fits_uncrossed (length form.table) form.borders state (edges_at form.table state) symbol next k
    (list_all-from_AllPass (is_onward (length form.table) form.borders state) (edges_at form.table state) (m.onward state)) f l b

pub last_is : (border : ℕ) (borders : List ℕ) → get_or (border ∷ borders) (length borders) 0 ≡ last_of border borders
last_is border [] = refl
last_is border (next ∷ borders) = last_is next borders

-- the law, of a table with these borders

from_all : (border : ℕ) (borders : List ℕ) → From (border ∷ borders) border borders
from_all border borders state l = refl

at_start : (border : ℕ) (borders run : List ℕ) → stands_from (border ∷ borders) 0 (border ∷ run) ≡ 0 ∷ stands_from (border ∷ borders) 1 run
at_start border borders run =
    let here : eqb border border ≡ true = grind (arith, nat_tests) in
    stands_here (border ∷ borders) 0 border run (rw here refl)

accept_is : (border : ℕ) (borders : List ℕ) → get_or (border ∷ borders) (length (border ∷ borders) - 1) 0 ≡ last_of border borders
accept_is border borders =
    let count : length (border ∷ borders) - 1 ≡ length borders = omega arith in
    ap (λ (k : ℕ). get_or (border ∷ borders) k 0) count ∙ last_is border borders

abbrev form_of : List (List Edge) → List ℕ → AutoForm
form_of table borders = record { table = table; borders = borders }

the_chain : (table : List (List Edge)) (border : ℕ) (borders : List ℕ) (items : List Item) → IsMachine (form_of table (border ∷ borders))
    → ReadsItems (form_of table (border ∷ borders)) items → Chain table items border borders
the_chain table border borders items m r =
    let count = r.count in
    chain_of table items border borders (omega arith)
    (λ k l. rw add-one at (m.ascend k (omega arith)))
    (λ k item e. rw add-one at (r.reads k item e))
    (λ k l. uncrossed_at (form_of table (border ∷ borders)) (suc k) m (omega arith))

pub law_at : (table : List (List Edge)) (border : ℕ) (borders : List ℕ) (items : List Item) → IsMachine (form_of table (border ∷ borders))
    → ReadsItems (form_of table (border ∷ borders)) items → CutsAreThoseOfDerivations (form_of table (border ∷ borders)) items
law_at table border borders items m r =
    let chain = the_chain table border borders items m r in
    let free = from_all border borders in
    let ascends : Ascends table = λ state symbol next f. (goes_on (form_of table (border ∷ borders)) state symbol next m f).0 in
    let accept = accept_is border borders in
    record {
      run = λ w values words d.
          let a = runs table (border ∷ borders) items border borders 0 w values words chain free ascends d in
          record { run = a.run; accepts = rw accept a.walk; cuts = at_start border borders a.run ∙ a.cuts };
      only = λ w run other one two e.
          let walk : Walk table border run w (last_of border borders) = rw accept at one in
          let other_walk : Walk table border other w (last_of border borders) = rw accept at two in
          let both : 0 ∷ stands_from (border ∷ borders) 1 run ≡ 0 ∷ stands_from (border ∷ borders) 1 other = sym (at_start border borders run) ∙ e ∙ at_start border borders other in
          only_run table (border ∷ borders) items border borders 0 run other w chain free ascends walk other_walk
          (tails 0 0 (stands_from (border ∷ borders) 1 run) (stands_from (border ∷ borders) 1 other) both);
      derivation = λ w run one.
          let walk : Walk table border run w (last_of border borders) = rw accept at one in
          let a = words_of table (border ∷ borders) items border borders 0 run w chain free ascends walk in
          record { values = a.values; words = a.words; derives = a.derives; cuts = at_start border borders run ∙ a.cuts };
    }

no_borders : (table : List (List Edge)) → IsMachine (form_of table []) → ⊥
no_borders table m = let some = m.bordered in omega arith

law_of : (table : List (List Edge)) (borders : List ℕ) (items : List Item) → IsMachine (form_of table borders)
    → ReadsItems (form_of table borders) items → CutsAreThoseOfDerivations (form_of table borders) items
law_of table [] items m r = absurd (no_borders table m)
law_of table (border ∷ borders) items m r = law_at table border borders items m r

pub cuts_law : (form : AutoForm) (items : List Item) → IsMachine form → ReadsItems form items → CutsAreThoseOfDerivations form items
cuts_law form items m r = law_of form.table form.borders items m r
