use Rattle.std.proofs.Common.{◌≡◌, ℕ, Bool, false, List, sym, ◌∙◌}
use Rattle.gs_ai.specs.Tables.{begins, clash}
use Rattle.gs_ai.proofs.rules.clash.Goals as goal

second_begins : (a b : List ℕ) (r : Bool) → begins a b ≡ false → r ≡ begins b a → r ≡ clash a b
unfolding clash
second_begins a b r h e = rw h e

pub returns-else-starts_with : goal.returns-else-starts_with
returns-else-starts_with c =
    second_begins c.args.a.now c.args.b.now _ (sym c.starts_with.ensures.value ∙ c.if-starts_with.false) c.starts_with-else-starts_with.ensures.value
