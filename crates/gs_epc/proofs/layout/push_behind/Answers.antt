use Rattle.std.proofs.Common.{◌≡◌, ℕ, List, ◌++◌, append_assoc}
use Rattle.gs_epc.proofs.layout.push_behind.Goals as goal

behind_written : (value piece total tail one two three : List ℕ) → one ≡ value ++ piece → two ≡ one ++ total → three ≡ two ++ tail
    → three ≡ value ++ (piece ++ (total ++ tail))
behind_written value piece total tail one two three a b d = rw (d, b, a) (simp append_assoc)

pub returns : goal.returns
returns c =
    let tail = rw c.tail_of_key.ensures at c.in_ok-push_some-3.ensures in
    rw (← c.epc.view_is) (behind_written c.args.value.now _ _ _ c.push_some.new.value c.push_some-2.new.value c.push_some-3.new.value c.in_ok-push_some.ensures c.in_ok-push_some-2.ensures tail)
