-- The answers of reading by one option, by a group and by a level.
use Rattle.std.proofs.Common.{◌≡◌, ℕ, ◌<◌, ◌≤◌, ◌+◌, Bool, true, false, IsTrue, List, [], ◌∷◌, length, get_or, drop, suc, Some, sym, ◌∙◌, ap, inl, inr, arith, add-one}
use Rattle.std.specs.List.{slice_get}
use Rattle.std.specs.Option.{option_map}
use Rattle.std.proofs.lemmas.Bool.{cases_lt}
use Rattle.std.proofs.lemmas.Option.{slice_get-map, slice_get_within}
use Rattle.std.proofs.Math.Seq.{drop-cons}
use Rattle.std.proofs.lemmas.List.{drop_all}
use Rattle.gs_chars.proofs.TruthsAndLists.{mapped_some}
use Rattle.gs_grammar.specs.declared.item.Item.{Item}
use Rattle.gs_grammar.specs.Derivations.{IsDerived, Derivation, OneDerivation}
use Rattle.gs_grammar.specs.Ambiguity.{IsUnambiguous}
use Rattle.gs_grammar.specs.Levels.{OptionForm, item_lists}
use Rattle.gs_grammar.proofs.OneReading.{only_derivation}
use Rattle.gs_ambig.specs.Machines.{AutoForm, IsMachine}
use Rattle.gs_grammar_compile.specs.Readers.{ReadsItems}
use Rattle.gs_grammar_compile.proofs.JoinLemmas.{cuts_law}
use Rattle.gs_grammar_level.specs.declared.fronts.Group.{Group}
use Rattle.gs_grammar_level.specs.Trails.{AreCuts, HasCuts, HasNoRun}
use Rattle.gs_grammar_level.specs.Guides.{StandsAt, HasLiteral, BeginAll, AreGroupsFrom}
use Rattle.gs_grammar_level.specs.Finders.{ReadBy, NoneReads}

-- runs and derivations

pub not_derived : (form : AutoForm) (items : List Item) (symbols : List ℕ) → IsMachine form → ReadsItems form items → HasNoRun form symbols
    → IsDerived items symbols → ⊥
not_derived form items symbols m r none d =
    let law = cuts_law form items m r in
    let run = law.run symbols d.values d.words d.derives in
    none run.run run.accepts

pub cuts_derived : (form : AutoForm) (items : List Item) (symbols cuts list : List ℕ) → IsMachine form → ReadsItems form items
    → AreCuts form symbols cuts → list ≡ cuts → HasCuts items symbols list
cuts_derived form items symbols cuts list m r c e =
    let law = cuts_law form items m r in
    let d = law.derivation symbols c.run c.accepts in
    rw e (record { values = d.values; words = d.words; derives = d.derives; cuts_are = c.cuts_are ∙ d.cuts })

-- one option

pub none_by_probe : (options : List OptionForm) (w : List ℕ) (n place : ℕ) (literal : List ℕ) (b : Bool)
    → ((option : OptionForm) → slice_get options n ≡ Some option → HasLiteral option.items place literal)
    → (StandsAt place literal w → IsTrue b) → b ≡ false → NoneReads options n (n + 1) w
none_by_probe options w n place literal b has test f = record {
  none = λ k option low high g d.
      let same : k ≡ n = omega arith in
      let h = has option (ap (slice_get options) (sym same) ∙ g) in
      let t : IsTrue b = test (h.stands w d) in
      let u : false ≡ true = sym f ∙ t in
      cc;
}

-- a group

pub none_by_group : (options : List OptionForm) (w : List ℕ) (from to : ℕ) (literal : List ℕ) (b : Bool) → BeginAll options from to literal
    → ((IsTrue b → StandsAt 0 literal w) × (StandsAt 0 literal w → IsTrue b)) → b ≡ false → NoneReads options from to w
none_by_group options w from to literal b all test f = record {
  none = λ k option low high g d.
      let h = all k option low high g in
      let t : IsTrue b = test.1 (h.stands w d) in
      let u : false ≡ true = sym f ∙ t in
      cc;
}

pub none_so_far : (options : List OptionForm) (w : List ℕ) (from : ℕ) → NoneReads options from from w
none_so_far options w from = record { none = λ k option low high g d. absurd (omega arith) }

pub none_more : (options : List OptionForm) (w : List ℕ) (from middle to : ℕ) → NoneReads options from middle w
    → NoneReads options middle to w → NoneReads options from to w
none_more options w from middle to a b = record {
  none = λ k option low high g d. elim (cases_lt k middle) as (λ _. ⊥) [
    | inl l ↦ a.none k option low l g d
    | inr m ↦ b.none k option m high g d
  ];
}

pub none_within : (options : List OptionForm) (w : List ℕ) (from to end : ℕ) → NoneReads options from to w → end ≤ to → NoneReads options from end w
none_within options w from to end h l = record { none = λ k option low high g d. h.none k option low (omega arith) g d }

-- the groups of a level

pub record GroupsLeft (from : ℕ) (groups : List Group) (options : List OptionForm) (w : List ℕ) : Type 0 where
  pub left : AreGroupsFrom from groups options
  pub none : NoneReads options 0 from w

pub groups_left : (groups : List Group) (options : List OptionForm) (w : List ℕ) → AreGroupsFrom 0 groups options → GroupsLeft 0 groups options w
groups_left groups options w g = record { left = g; none = none_so_far options w 0 }

pub group_here : (groups : List Group) (n : ℕ) (group : Group) → n < length groups → group ≡ get_or groups n group → drop n groups ≡ group ∷ drop (n + 1) groups
group_here groups n group l e = rw add-one (drop-cons groups n group l ∙ ap (λ (g : Group). g ∷ drop (suc n) groups) (sym e))

pub next_group : (from : ℕ) (left rest : List Group) (group : Group) (options : List OptionForm) (w : List ℕ) → left ≡ group ∷ rest
    → GroupsLeft from left options w → NoneReads options from group.end w → GroupsLeft group.end rest options w
next_group from left rest group options w e h n =
    let g : AreGroupsFrom from (group ∷ rest) options = rw e at h.left in
    record { left = g.2; none = none_more options w 0 from group.end h.none n }

pub group_within : (from : ℕ) (left rest : List Group) (group : Group) (options : List OptionForm) (w : List ℕ) → left ≡ group ∷ rest
    → GroupsLeft from left options w → group.end ≤ length options
group_within from left rest group options w e h = let g : AreGroupsFrom from (group ∷ rest) options = rw e at h.left in g.0

pub group_begins : (from : ℕ) (left rest : List Group) (group : Group) (options : List OptionForm) (w : List ℕ) → left ≡ group ∷ rest
    → GroupsLeft from left options w → BeginAll options from group.end group.literal
group_begins from left rest group options w e h = let g : AreGroupsFrom from (group ∷ rest) options = rw e at h.left in g.1

pub no_group : (from : ℕ) (groups : List Group) (n : ℕ) (options : List OptionForm) (w : List ℕ) → length groups ≤ n
    → GroupsLeft from (drop n groups) options w → NoneReads options 0 (length options) w
no_group from groups n options w l h =
    let g : AreGroupsFrom from [] options = rw (drop_all n groups l) at h.left in
    none_within options w 0 from (length options) h.none g

-- a level that is not ambiguous

option_of : (options : List OptionForm) (k : ℕ) (items : List Item) → slice_get (item_lists options) k ≡ Some items
    → (option : OptionForm) × (slice_get options k ≡ Some option) × (option.items ≡ items)
option_of options k items e = mapped_some (λ (option : OptionForm). option.items) (slice_get options k) items
    (sym (slice_get-map (λ (option : OptionForm). option.items) options k) ∙ e)

pub none_derives : (options : List OptionForm) (w : List ℕ) → NoneReads options 0 (length options) w → Derivation (item_lists options) w → ⊥
none_derives options w none d =
    let o = option_of options d.option d.items d.of_level in
    let l = slice_get_within options d.option o.0 o.1 in
    none.none d.option o.0 (omega arith) l o.1 (rw o.2 (record { values = d.values; words = d.words; derives = d.derives }))

pub one_derives : (options : List OptionForm) (w : List ℕ) (n : ℕ) (values : List (List ℕ)) → IsUnambiguous (item_lists options)
    → ReadBy options w n values → OneDerivation (item_lists options) w n values
one_derives options w n values clear r =
    let at : slice_get (item_lists options) n ≡ Some r.option.items = slice_get-map (λ (option : OptionForm). option.items) options n ∙ ap (option_map (λ (option : OptionForm). option.items)) r.at in
    let found : Derivation (item_lists options) w = record { option = n; items = r.option.items; values = values; words = r.values_are.words; of_level = at; derives = r.values_are.derives } in
    only_derivation (item_lists options) w clear found
