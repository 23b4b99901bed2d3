-- Literals that are at a place of each text of an option.
use Rattle.std.proofs.Common.{◌≡◌, ℕ, ◌<◌, ◌≤◌, ◌+◌, ◌==◌, not, Bool, false, IsTrue, List, [], ◌∷◌, ◌++◌, length, get_or, take, drop, refl, sym, ◌∙◌, ap, subst, inl, inr, arith}
use Rattle.std.specs.Prelude.{bytes_eq}
use Rattle.std.specs.List.{starts_with}
use Rattle.std.proofs.lemmas.Bool.{cases_eq, not-false}
use Rattle.std.proofs.lemmas.Bool.Decides.{Decides-eqb}
use Rattle.std.proofs.lemmas.Slice.Eq.{starts_is}
use Rattle.std.proofs.lemmas.List.{take_at, drop_at, take-append-drop, drop-drop}
use Rattle.gs_chars.proofs.TruthsAndLists.{same_at, read_at, equal_bytes}
use Rattle.gs_grammar.specs.declared.item.Item.{Item}
use Rattle.gs_grammar.specs.declared.item.Item.TheVariants.{Lit}
use Rattle.gs_grammar.specs.Items.{IsItem, size_of, shortest_of, size_of_all}
use Rattle.gs_grammar.specs.Derivations.{IsDerived}
use Rattle.gs_grammar.specs.Levels.{OptionForm}
use Rattle.gs_grammar.proofs.Cuts.{derives_uncons}
use Rattle.gs_grammar.proofs.WordLaws.{word_length}
use Rattle.gs_grammar_level.specs.declared.fronts.Group.{Group}
use Rattle.gs_grammar_level.specs.Guides.{StandsAt, HasLiteral, BeginAll, AreGroupsFrom}

-- the items to come derive the rest from the place on
pub record Leads (items left : List Item) (place : ℕ) : Type 0 where
  pub leads : (w : List ℕ) → IsDerived items w → IsDerived left (drop place w)

-- the word of the first item, and the symbols after it
record Behind (item : Item) (others : List Item) (w : List ℕ) : Type 0 where
  first : List ℕ
  rest : List ℕ
  whole : w ≡ first ++ rest
  size : (IsItem item → (shortest_of item ≤ length first) × (length first ≤ size_of item))
  derived : IsDerived others rest

behind : (item : Item) (others : List Item) (w : List ℕ) → IsDerived (item ∷ others) w → Behind item others w
behind item others w d =
    let f = derives_uncons item others w d.values d.words d.derives in
    record { first = f.first; rest = f.rest; whole = f.whole; size = λ i. word_length item f.value f.first i f.word; derived = record { values = f.values'; words = f.words'; derives = f.derives } }

pub leads_step : (items left : List Item) (item : Item) (others : List Item) (place size next : ℕ) → Leads items left place
    → left ≡ item ∷ others → IsItem item → size ≡ size_of item → shortest_of item ≡ size → next ≡ place + size → Leads items others next
leads_step items left item others place size next h e i s b n = rw n (record {
  leads = λ w d.
      let here : IsDerived (item ∷ others) (drop place w) = rw e at (h.leads w d) in
      let r = behind item others (drop place w) here in
      let bounds = r.size i in
      let low = bounds.0 in
      let high = bounds.1 in
      let count : size ≡ length r.first = omega arith in
      let back : drop size (drop place w) ≡ r.rest = ap (drop size) r.whole ∙ drop_at r.first r.rest size (sym count) in
      let whole : drop (place + size) w ≡ r.rest = sym (drop-drop size place w) ∙ back in
      rw whole r.derived;
})

literal_first : (literal : List ℕ) (others : List Item) (w : List ℕ) → IsDerived (Lit literal ∷ others) w → take (length literal) w ≡ literal
literal_first literal others w d =
    let f = derives_uncons (Lit literal) others w d.values d.words d.derives in
    let first : f.first ≡ literal = f.word.1 in
    ap (take (length literal)) f.whole ∙ take_at f.first f.rest (length literal) (ap length first) ∙ first

pub leads_literal : (items left : List Item) (item : Item) (others : List Item) (place : ℕ) (literal copy : List ℕ) → Leads items left place
    → left ≡ item ∷ others → item ≡ Lit literal → copy ≡ literal → HasLiteral items place copy
leads_literal items left item others place literal copy h e i c = rw c (record {
  stands = λ w d.
      let here : IsDerived (item ∷ others) (drop place w) = rw e at (h.leads w d) in
      literal_first literal others (drop place w) (rw i at here);
})

-- the sizes of the items to come
pub size_first : (left : List Item) (item : Item) (others : List Item) → left ≡ item ∷ others → size_of_all left ≡ size_of item + size_of_all others
size_first left item others e = ap size_of_all e

-- options that begin with one literal

pub begin_one : (options : List OptionForm) (from : ℕ) (option : OptionForm) (literal : List ℕ) → from < length options
    → option ≡ get_or options from option → HasLiteral option.items 0 literal → BeginAll options from (from + 1) literal
begin_one options from option literal l e h k other low high g =
    let same : k ≡ from = omega arith in
    let is : option ≡ other = same_at options from k option other (read_at options from option l e) g (sym same) in
    subst (λ (o : OptionForm). HasLiteral o.items 0 literal) is h

pub record Beginning (options : List OptionForm) (from to : ℕ) (literal : List ℕ) : Type 0 where
  pub more : from < to
  pub all : BeginAll options from to literal

pub begin_more : (options : List OptionForm) (from to : ℕ) (option : OptionForm) (literal other : List ℕ)
    → Beginning options from to literal → to < length options → option ≡ get_or options to option → HasLiteral option.items 0 other
    → other ≡ literal → Beginning options from (to + 1) literal
begin_more options from to option literal other h l e has same = record {
  more = let m = h.more in omega arith;
  all = λ k o low high g. elim (cases_eq k to) as (λ _. HasLiteral o.items 0 literal) [
    | inl at ↦
        let is : option ≡ o = same_at options to k option o (read_at options to option l e) g (sym at) in
        subst (λ (x : OptionForm). HasLiteral x.items 0 literal) is (rw same at has)
    | inr not_at ↦ h.all k o low (omega arith) g
  ];
}

-- the groups so far, up to an option
abbrev pub GroupsUpTo : ℕ → List Group → ℕ → List OptionForm → Type 0
GroupsUpTo from [] to options = from ≡ to
GroupsUpTo from (group ∷ groups) to options = (group.end ≤ length options) × BeginAll options from group.end group.literal × GroupsUpTo group.end groups to options

pub record GroupsSoFar (groups : List Group) (to : ℕ) (options : List OptionForm) : Type 0 where
  pub upto : GroupsUpTo 0 groups to options

groups_push : (from : ℕ) (groups : List Group) (to : ℕ) (group : Group) (options : List OptionForm) → GroupsUpTo from groups to options
    → group.end ≤ length options → BeginAll options to group.end group.literal → GroupsUpTo from (groups ++ group ∷ []) group.end options
groups_push from [] to group options h l b = rw h (l, b, refl)
groups_push from (first ∷ groups) to group options h l b = (h.0, h.1, groups_push first.end groups to group options h.2 l b)

groups_whole : (from : ℕ) (groups : List Group) (to : ℕ) (options : List OptionForm) → GroupsUpTo from groups to options
    → length options ≤ to → AreGroupsFrom from groups options
groups_whole from [] to options h l = rw h l
groups_whole from (group ∷ groups) to options h l = (h.0, h.1, groups_whole group.end groups to options h.2 l)

pub groups_start : (groups : List Group) (options : List OptionForm) → groups ≡ [] → GroupsSoFar groups 0 options
groups_start groups options e = rw e (record { upto = refl })

pub groups_more : (groups new : List Group) (to end : ℕ) (first literal : List ℕ) (options : List OptionForm)
    → GroupsSoFar groups to options → end ≤ length options → BeginAll options to end first → literal ≡ first
    → new ≡ groups ++ record { literal = literal; end = end } ∷ [] → GroupsSoFar new end options
groups_more groups new to end first literal options h l b same e = rw e (record {
  upto = groups_push 0 groups to (record { literal = literal; end = end }) options h.upto l (rw same b);
})

pub groups_all : (groups list : List Group) (to : ℕ) (options : List OptionForm) → GroupsSoFar groups to options → length options ≤ to
    → list ≡ groups → AreGroupsFrom 0 list options
groups_all groups list to options h l e = rw e (groups_whole 0 groups to options h.upto l)

-- a test of a list for a literal
pub stands_test : (w literal rest : List ℕ) (place : ℕ) (r : Bool) → rest ≡ drop place w → r ≡ starts_with (λ a b. a == b) rest literal
    → (IsTrue r → StandsAt place literal w) × (StandsAt place literal w → IsTrue r)
stands_test w literal rest place r e is =
    let whole : r ≡ starts_with (λ a b. a == b) (drop place w) literal = rw e at is in
    let s = starts_is Decides-eqb (drop place w) literal r whole in (
      λ t. ap (take (length literal)) (s.0 t) ∙ take_at literal (drop (length literal) (drop place w)) (length literal) refl,
      λ h.
          let back : drop place w ≡ take (length literal) (drop place w) ++ drop (length literal) (drop place w) = sym (take-append-drop (length literal) (drop place w)) in
          s.1 (drop (length literal) (drop place w)) (back ∙ ap (λ (x : List ℕ). x ++ drop (length literal) (drop place w)) h),
    )

-- two literals that are not distinguished
pub equal_literals : (a b : List ℕ) (r : Bool) → r ≡ not (bytes_eq a b) → r ≡ false → a ≡ b
equal_literals a b r e f = equal_bytes a b (not-false (bytes_eq a b) (sym e ∙ f))
