use Rattle.std.proofs.Common.{◌≡◌, ℕ, List, ◌++◌, append_assoc, take, drop}
use Rattle.gs_epc.specs.Layout.{key_digits}
use Rattle.gs_epc.proofs.layout.push_digits.Goals as goal

key_written : (lead : ℕ) (value prefix rest first others one two three : List ℕ) → first ≡ take lead rest → others ≡ drop lead rest →
    one ≡ value ++ first → two ≡ one ++ prefix → three ≡ two ++ others → three ≡ value ++ key_digits lead prefix rest
key_written lead value prefix rest first others one two three f o a b d = rw (d, b, a, f, o) (simp append_assoc)

pub returns : goal.returns
returns c =
    let front = rw c.from.ensures at c.split_at.ensures.front in
    let back = rw c.from.ensures at c.split_at.ensures.back in
    key_written c.args.lead c.args.value.now c.args.prefix.now c.args.rest.now c.split_at.result.0.now c.split_at.result.1.now c.push_few.new.value c.extend_from_slice.new.self c.extend_from_slice-2.new.self
    front back c.in_ok-push_few.ensures c.in_ok-extend_from_slice.ensures.appended c.in_ok-extend_from_slice-2.ensures.appended
