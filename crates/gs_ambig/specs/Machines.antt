-- Machines: a table of edges and borders, the rules that they keep, and accepting runs.
use Rattle.std.specs.Prelude.{ℕ, ◌-◌, ◌+◌, ◌<◌, nat_lt, nat_le, ◌&&◌, ◌||◌, Bool, List, length, slice_index}
use Rattle.std.specs.List.{AllPass, list_all}
use Rattle.gs_ambig.specs.declared.machine.Edge.{Edge}
use Rattle.gs_ambig.specs.Walks.{edges_at}

-- trusted, own: the view that contracts have of a machine: the edges that leave each state, and the borders, which are states
pub record AutoForm : Type 0 where
  pub table : List (List Edge)
  pub borders : List ℕ

-- trusted, own: the number of states
abbrev pub states_of : AutoForm → ℕ
states_of form = length form.table

-- trusted, own: the accepting state is the last border
abbrev pub accept_of : AutoForm → ℕ
accept_of form = slice_index form.borders (length form.borders - 1)

-- trusted, own: holds if `edge` leads from `state` to a higher one of the `states` and over no border
abbrev pub is_onward : ℕ → List ℕ → ℕ → Edge → Bool
is_onward states borders state edge = nat_lt state edge.to && nat_lt edge.to states && list_all (λ border. nat_le border state || nat_le edge.to border) borders

-- trusted, own: holds if each edge of each state of `table` leads to a higher existing state and over no border
abbrev pub AreOnward : List ℕ → List (List Edge) → Type 0
AreOnward borders table = (state : ℕ) → AllPass (is_onward (length table) borders state) (edges_at table state)

-- trusted, own: holds if the first `n` of `numbers` ascend strictly
abbrev pub AscendBefore : List ℕ → ℕ → Type 0
AscendBefore numbers n = (k : ℕ) → k + 1 < n → slice_index numbers k < slice_index numbers (k + 1)

-- trusted, own: Holds if each edge leads to a higher existing state and over no border. There is a border; the borders ascend
-- strictly, and the last is a state.
pub record IsMachine (form : AutoForm) : Type 0 where
  pub onward : AreOnward form.borders form.table
  pub bordered : 0 < length form.borders
  pub ascend : AscendBefore form.borders (length form.borders)
  pub inside : accept_of form < length form.table
