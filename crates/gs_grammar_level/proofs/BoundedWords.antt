-- The lists of symbols that items derive are bounded: in their length, and in their symbols.
use Rattle.std.proofs.Common.{ℕ, ◌<◌, ◌≤◌, ◌+◌, zero, suc, All, List, [], ◌∷◌, length, inl, inr, arith}
use Rattle.gs_grammar.specs.declared.item.Item.{Item}
use Rattle.gs_grammar.specs.Items.{IsItem}
use Rattle.gs_grammar.specs.Derivations.{Derives}
use Rattle.gs_ambig.specs.declared.machine.Edge.{Edge}
use Rattle.gs_ambig.specs.Walks.{Fits, edges_at, Walk}
use Rattle.gs_ambig.specs.Machines.{accept_of}
use Rattle.gs_ambig.specs.MachinesSupport.{start_of}
use Rattle.gs_ambig.proofs.Onward.{goes_on}
use Rattle.gs_grammar_compile.specs.ItemTables.{machine_of}
use Rattle.gs_grammar_compile.proofs.WalkLemmas.{Ascends}
use Rattle.gs_grammar_compile.proofs.JoinLemmas.{cuts_law}
use Rattle.gs_grammar_compile.proofs.WholeMachines.{machine_rules, machine_reads}

-- each symbol is below the bound
abbrev pub AreBelow : ℕ → List ℕ → Type 0
AreBelow bound [] = Unit {0}
AreBelow bound (c ∷ w) = (c < bound) × AreBelow bound w

-- a bound of the symbols of edges
abbrev row_bound : List Edge → ℕ
row_bound [] = 0
row_bound (edge ∷ edges) = suc edge.hi + row_bound edges

abbrev table_bound : List (List Edge) → ℕ
table_bound [] = 0
table_bound (row ∷ rows) = row_bound row + table_bound rows

fits_below : (edges : List Edge) (symbol next : ℕ) → Fits edges symbol next → symbol < row_bound edges
fits_below [] symbol next f = absurd f
fits_below (edge ∷ edges) symbol next (inl f) = let h = f.1 in omega arith
fits_below (edge ∷ edges) symbol next (inr f) = let h = fits_below edges symbol next f in omega arith

row_below : (rows : List (List Edge)) (state : ℕ) → row_bound (edges_at rows state) ≤ table_bound rows
row_below [] state = omega arith
row_below (row ∷ rows) zero = omega arith
row_below (row ∷ rows) (suc state) = let h = row_below rows state in omega arith

walk_below : (table : List (List Edge)) (p q : ℕ) (states w : List ℕ) → Walk table p states w q → AreBelow (table_bound table) w
walk_below table p q [] [] h = tt
walk_below table p q [] (c ∷ w) h = absurd h
walk_below table p q (state ∷ states) [] h = absurd h
walk_below table p q (state ∷ states) (c ∷ w) h =
    let f = fits_below (edges_at table p) c state h.0 in
    let r = row_below table p in
    (omega arith, walk_below table state q states w h.1)

walk_short : (table : List (List Edge)) (p q : ℕ) (states w : List ℕ) → Ascends table → Walk table p states w q → p + length w ≤ q
walk_short table p q [] [] a h = omega arith
walk_short table p q [] (c ∷ w) a h = absurd h
walk_short table p q (state ∷ states) [] a h = absurd h
walk_short table p q (state ∷ states) (c ∷ w) a h =
    let up = a p c state h.0 in
    let rest = walk_short table state q states w a h.1 in
    omega arith

-- a list that the items derive has at most this many symbols, each below the bound
pub record AreBounded (items : List Item) (most bound : ℕ) : Type 0 where
  pub short : (w : List ℕ) (values words : List (List ℕ)) → Derives items w values words → length w ≤ most
  pub below : (w : List ℕ) (values words : List (List ℕ)) → Derives items w values words → AreBelow bound w

pub record Bounded (items : List Item) : Type 0 where
  pub most : ℕ
  pub bound : ℕ
  pub bounded : AreBounded items most bound

pub bounded_of : (items : List Item) → All IsItem items → Bounded items
bounded_of items each =
    let form = machine_of items in
    let rules = machine_rules items each in
    let law = cuts_law form items rules (machine_reads items each) in
    let ascends : Ascends form.table = λ state symbol next f. (goes_on form state symbol next rules f).0 in
    record {
      most = accept_of form;
      bound = table_bound form.table;
      bounded = record {
        short = λ w values words d.
            let r = law.run w values words d in
            let h = walk_short form.table (start_of form) (accept_of form) r.run w ascends r.accepts in
            omega arith;
        below = λ w values words d.
            let r = law.run w values words d in
            walk_below form.table (start_of form) (accept_of form) r.run w r.accepts;
      };
    }
