-- The plans of objects, as callers write them.
use Rattle.std.specs.Prelude.{ℕ, Bool, List}
use Rattle.std.specs.Borrow.{Bor}
use Rattle.gs_json.specs.declared.plan.Entry.{Entry}
use Rattle.gs_json.specs.declared.plan.Sort.{Sort}

-- trusted, own: the entry of a name, whether the object must have it, and its sort
abbrev pub entry_of : Bor (List ℕ) × Bool × Sort → Entry
entry_of member = record { name = member.0.now; required = member.1; sort = member.2 }
