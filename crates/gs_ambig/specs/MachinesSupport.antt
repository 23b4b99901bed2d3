-- Definitions for proofs and private functions, in addition to those of Machines.antt.
use Rattle.std.specs.Prelude.{ℕ, List, slice_index}
use Rattle.gs_ambig.specs.declared.machine.Edge.{Edge}
use Rattle.gs_ambig.specs.Walks.{Walk}
use Rattle.gs_ambig.specs.Machines.{AutoForm, accept_of}

-- trusted, own: the machine of a table and borders
abbrev pub auto_form : List (List Edge) → List ℕ → AutoForm
auto_form table borders = record { table = table; borders = borders }

-- trusted, own: the start is the first border
abbrev pub start_of : AutoForm → ℕ
start_of form = slice_index form.borders 0

-- trusted, own: holds if `run`, the states after the start, is a walk on `symbols` that ends in the accepting state
abbrev pub Accepts : AutoForm → List ℕ → List ℕ → Type 0
Accepts form run symbols = Walk form.table (start_of form) run symbols (accept_of form)
