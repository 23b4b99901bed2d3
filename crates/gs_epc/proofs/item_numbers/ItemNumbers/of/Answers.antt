use Rattle.std.proofs.Common.{◌≡◌, get_or, position}
use Rattle.gs_tables.specs.Rules.{is_field}
use Rattle.gs_epc.specs.NumbersOfItems.{number_from}
use Rattle.gs_epc.proofs.NumberSteps.{no_number, one_number}
use Rattle.gs_epc.proofs.item_numbers.ItemNumbers.of.Goals as goal

pub returns-then-number-eq0 : goal.returns-then-number-eq0
returns-then-number-eq0 c =
    let at : get_or c.self.inside.numbers c.index_of.result 0 ≡ number_from 0 (position (is_field c.args.field) c.self.inside.fields.now) = rw c.index_of.ensures.index (c.self.invariant c.args.field) in
    rw (← c.self.view_is) (no_number _ _ at c.if-number-eq0.true)

pub returns-else-number-eq0 : goal.returns-else-number-eq0
returns-else-number-eq0 c =
    let at : get_or c.self.inside.numbers c.index_of.result 0 ≡ number_from 0 (position (is_field c.args.field) c.self.inside.fields.now) = rw c.index_of.ensures.index (c.self.invariant c.args.field) in
    rw (← c.self.view_is) (one_number _ _ at c.if-number-eq0.false)
