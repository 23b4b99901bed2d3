use Rattle.std.proofs.Common.{◌≡◌, ◌≤◌, ◌∙◌, Some, arith, ap, length, slice_get}
use Rattle.gs_chars.proofs.TruthsAndLists.{read_at}
use Rattle.gs_tables.proofs.NumberLemmas.{at_places, past_kinds, past_lengths}
use Rattle.gs_tables.proofs.level_tables.IndexedInfo.numbers.Goals as goal

pub returns-in_default : goal.returns-in_default
returns-in_default c =
    let past = c.in_default.ensures.lookup.3 in
    let bound : length c.self.inside.numbers ≤ c.args.kind = rw c.items.ensures at past in
    rw (← c.self.view_is) (past_kinds _ _ _ _ c.self.invariant.within bound)

pub returns-in-Some-get : goal.returns-in-Some-get
returns-in-Some-get c =
    let lists : slice_get c.items.result.now c.args.kind ≡ Some c.in-Some.lists.now = read_at _ _ _ c.in-Some.ensures.lookup.3.0 c.in-Some.ensures.lookup.1 in
    let numbers : slice_get c.items-2.result.now c.from.result ≡ Some c.in-Some-get.numbers.now = read_at _ _ _ c.in-Some-get.ensures.lookup.3.0 c.in-Some-get.ensures.lookup.1 in
    rw (← c.self.view_is) (c.items-in-Some-get.ensures ∙ at_places _ _ _ _ _ _ c.self.invariant (rw c.items.ensures at lists) (rw (c.items-2.ensures, c.from.ensures) at numbers))

pub returns-in-None : goal.returns-in-None
returns-in-None c =
    let lists : slice_get c.items.result.now c.args.kind ≡ Some c.in-Some.lists.now = read_at _ _ _ c.in-Some.ensures.lookup.3.0 c.in-Some.ensures.lookup.1 in
    let of_kind = c.self.invariant.numbers _ _ (rw c.items.ensures at lists) in
    let count = of_kind.count in
    let past = c.in-None.ensures.lookup.3 in
    let same = ap length c.items-2.ensures in
    let is = c.from.ensures in
    let bound : 13 ≤ c.args.gcp = omega arith in
    rw (← c.self.view_is) (past_lengths _ _ _ _ c.self.invariant.within bound)
