use Rattle.std.proofs.Common.{◌≡◌, ◌≤◌, length}
use Rattle.gs_epc.specs.NumbersOfItems.{AreNumbersFrom}
use Rattle.gs_epc.proofs.item_numbers.ItemNumbers.new.Given as goal

abbrev pub invariant-loop-place : goal.invariant-loop-place
invariant-loop-place l = record {
  numbers : AreNumbersFrom l.place l.fields l.numbers;
  within : l.place ≤ length l.fields;
  long : length l.numbers ≡ 6;
}

abbrev pub decreases-loop-place : goal.decreases-loop-place
decreases-loop-place l = l.place
