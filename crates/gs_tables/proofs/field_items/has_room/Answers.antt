use Rattle.std.proofs.Common.{◌≡◌, ◌≤◌, ℕ, nat_le, arith}
use Rattle.std.proofs.lemmas.Bool.Decides.{nat_tests}
use Rattle.gs_grammar.specs.Items.{is_between}
use Rattle.gs_tables.proofs.field_items.has_room.Goals as goal

some_room : (longest most : ℕ) → 1 ≤ longest → nat_le longest most ≡ is_between 1 most longest
some_room longest most one = grind (arith, nat_tests)

pub returns-then-longest-ge1 : goal.returns-then-longest-ge1
returns-then-longest-ge1 c =
    rw (← c.longest_of-longest.ensures) (some_room c.longest_of-longest.result c.args.most c.if-longest-ge1.true)
