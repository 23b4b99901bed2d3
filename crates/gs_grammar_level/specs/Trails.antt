-- Trails: the states that a machine can be at after each symbol of a list, each with the one that it was reached from.
use Rattle.std.specs.Prelude.{◌≡◌, ℕ, ◌+◌, ◌<◌, ◌&&◌, ◌≤◌, nat_le, Bool, if◌then◌else◌, List, [], ◌∷◌, ◌++◌, length, drop, slice_index, slice_index_or, zero, suc}
use Rattle.gs_grammar.specs.declared.item.Item.{Item}
use Rattle.gs_grammar.specs.Derivations.{Derives}
use Rattle.gs_ambig.specs.declared.machine.Edge.{Edge}
use Rattle.gs_ambig.specs.Walks.{Fits, edges_at}
use Rattle.gs_ambig.specs.Machines.{AutoForm, states_of, accept_of}
use Rattle.gs_ambig.specs.MachinesSupport.{start_of, Accepts}
use Rattle.gs_grammar_compile.specs.Places.{is_border, run_cuts, word_cuts}
use Rattle.gs_grammar_level.specs.declared.trail.Entry.{Entry}

-- holds if the edge leads with this symbol
abbrev pub leads_with : Edge → ℕ → Bool
leads_with edge symbol = nat_le edge.lo symbol && nat_le symbol edge.hi

-- an entry for each of the edges that leads with this symbol
abbrev pub successors : List Edge → ℕ → ℕ → List Entry
successors [] symbol back = []
successors (edge ∷ edges) symbol back =
    if leads_with edge symbol then record { state = edge.to; back = back } ∷ successors edges symbol back
    else successors edges symbol back

-- those of each of the entries, which are numbered from this number on
abbrev pub layer : List (List Edge) → ℕ → ℕ → List Entry → List Entry
layer table symbol number [] = []
layer table symbol number (entry ∷ entries) =
    successors (edges_at table entry.state) symbol number ++ layer table symbol (number + 1) entries

-- the entries, and after them those that the symbol leads to from the entries of the number `from` on
abbrev pub with_layer : AutoForm → ℕ → ℕ → List Entry → List Entry
with_layer form symbol from trail = trail ++ layer form.table symbol from (drop from trail)

-- the entry of a number
abbrev pub entry_at : List Entry → ℕ → Entry
entry_at trail number = slice_index_or trail number (record { state = 0; back = 0 })

-- holds if the state of each entry is one of the machine
abbrev pub AreInside : AutoForm → List Entry → Type 0
AreInside form trail = (number : ℕ) → number < length trail → (entry_at trail number).state < states_of form

-- holds if the entry of this number, which is `from` or more, has this state
abbrev pub IsEntryOf : List Entry → ℕ → ℕ → ℕ → Type 0
IsEntryOf trail from state number =
    (from ≤ number) × (number < length trail) × ((entry_at trail number).state ≡ state)

-- holds if no entry of the number `from` or more has this state
abbrev pub HasNoEntryOf : List Entry → ℕ → ℕ → Type 0
HasNoEntryOf trail from state =
    (number : ℕ) → from ≤ number → number < length trail → (entry_at trail number).state ≡ state → ⊥

-- holds if the entry of this number was reached from the start over the first n symbols
abbrev pub Came : AutoForm → List Entry → List ℕ → ℕ → ℕ → Type 0
Came form trail symbols zero number = (number < length trail) × ((entry_at trail number).state ≡ start_of form)
Came form trail symbols (suc n) number =
    (number < length trail) × Came form trail symbols n (entry_at trail number).back × Fits (edges_at form.table (entry_at trail (entry_at trail number).back).state) (slice_index symbols n) (entry_at trail number).state

-- holds if the entry of this number was reached over all symbols, and its state is the accepting one
pub record IsTrail (form : AutoForm) (trail : List Entry) (symbols : List ℕ) (number : ℕ) : Type 0 where
  pub came : Came form trail symbols (length symbols) number
  pub accepting : (entry_at trail number).state ≡ accept_of form

-- the cuts, with the place before them if the state is a border
abbrev pub with_cut : List ℕ → ℕ → ℕ → List ℕ → List ℕ
with_cut borders state place cuts = if is_border borders state then place ∷ cuts else cuts

-- holds if these are the cuts of an accepting run on the symbols
pub record AreCuts (form : AutoForm) (symbols cuts : List ℕ) : Type 0 where
  pub run : List ℕ
  pub accepts : Accepts form run symbols
  pub cuts_are : cuts ≡ run_cuts form run

-- holds if the list has no accepting run
abbrev pub HasNoRun : AutoForm → List ℕ → Type 0
HasNoRun form symbols = (run : List ℕ) → Accepts form run symbols → ⊥

-- holds if the items derive the list, and these are the cuts of a derivation
pub record HasCuts (items : List Item) (symbols cuts : List ℕ) : Type 0 where
  pub values : List (List ℕ)
  pub words : List (List ℕ)
  pub derives : Derives items symbols values words
  pub cuts_are : cuts ≡ word_cuts words
