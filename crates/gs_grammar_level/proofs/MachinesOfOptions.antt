-- The machines of the options of a level.
use Rattle.std.proofs.Common.{◌≡◌, ℕ, ◌<◌, Bool, true, List, length, get_or, Some, refl, ◌∙◌, arith}
use Rattle.std.specs.List.{slice_get}
use Rattle.std.proofs.lemmas.Option.{slice_get-map, slice_get_within}
use Rattle.gs_chars.proofs.TruthsAndLists.{read_at}
use Rattle.gs_grammar.specs.declared.item.Item.{Item}
use Rattle.gs_grammar.specs.Levels.{OptionForm, AreOfKind, KeepBounds, item_lists}
use Rattle.gs_grammar.specs.Ambiguity.{ShareList}
use Rattle.gs_bits.specs.Bits.{AreBits}
use Rattle.gs_ambig.specs.Machines.{AutoForm}
use Rattle.gs_grammar_compile.specs.Places.{CutsAreThoseOfDerivations}
use Rattle.gs_grammar_compile.proofs.JoinLemmas.{cuts_law}
use Rattle.gs_grammar_level.specs.OptionMachines.{IsMachineOf, AreMachinesOf}
use Rattle.gs_grammar_level.proofs.BitSymbols.{bits_of_option}
use Rattle.gs_grammar_level.proofs.FitLemmas.{found_at}
use Rattle.gs_grammar_level.proofs.SharedLists.{there}
use Rattle.gs_grammar_level.proofs.DecidedShares.{derives_at}
use Rattle.gs_grammar_level.proofs.SomeAnswer.{length_lists}

-- a machine, and the derivations by its option

pub record LawAt (options : List OptionForm) (k : ℕ) (form : AutoForm) : Type 0 where
  pub items : List Item
  pub at : slice_get (item_lists options) k ≡ Some items
  pub law : CutsAreThoseOfDerivations form items

items_here : (options : List OptionForm) (k : ℕ) (option : OptionForm) → slice_get options k ≡ Some option
    → slice_get (item_lists options) k ≡ Some option.items
items_here options k option e = slice_get-map (λ (option : OptionForm). option.items) options k ∙ rw e refl

pub law_at : (machines : List AutoForm) (options : List OptionForm) (k : ℕ) (form : AutoForm) → AreMachinesOf machines options
    → k < length options → form ≡ get_or machines k form → LawAt options k form
law_at machines options k form h l e =
    let o = there options k l in
    let is : IsMachineOf form o.0 = h.each k form o.0 (found_at IsMachineOf machines options k form h l e) o.1 in
    record { items = o.0.items; at = items_here options k o.0 o.1; law = cuts_law form o.0.items is.rules is.reads }

-- the symbols of a list that options of a bit level share are bits

kind_at : (options : List OptionForm) (bit_level : Bool) (k : ℕ) (option : OptionForm) → AreOfKind bit_level options → k < length options
    → option ≡ get_or options k option → option.bit_level ≡ bit_level
kind_at options bit_level k option kinds l e = rw e (kinds k option l)

pub shared_bits : (options : List OptionForm) (bit_level : Bool) (i j : ℕ) (w : List ℕ) (option : OptionForm) → AreOfKind bit_level options
    → i < length options → option ≡ get_or options i option → KeepBounds option.bit_level option.items
    → ShareList (item_lists options) i j w → bit_level ≡ true → AreBits w
shared_bits options bit_level i j w option kinds l e bounds s bits =
    let at = items_here options i option (read_at options i option l e) in
    let d = derives_at (item_lists options) w i option.items s.one at s.by_one in
    bits_of_option option.bit_level option.items w s.one.values s.one.words (kind_at options bit_level i option kinds l e ∙ bits) bounds d

pub share_inside : (options : List OptionForm) (i j : ℕ) (w : List ℕ) → ShareList (item_lists options) i j w → i < length options
share_inside options i j w s =
    let l = slice_get_within (item_lists options) s.one.option s.one.items s.one.of_level in
    let c = length_lists options in
    let e = s.by_one in
    omega arith
