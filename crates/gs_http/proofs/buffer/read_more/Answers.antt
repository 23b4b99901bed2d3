use Rattle.std.proofs.Common.{rules, ◌≡◌, ◌∙◌, ◌↔◌, ◌++◌, ℕ, List, [], Option, None, Some, IfSome, append-nil, take, arith, refl}
use Rattle.std.proofs.lemmas.Grind.{common_steps}
use Rattle.std.proofs.Math.Seq.{take-append-add}
use Rattle.gs_port.specs.Contents.{prepend_known}
use Rattle.gs_http.specs.ConnectedSupport.{NothingLeft}
use Rattle.gs_http.proofs.Readings.{fetches_none}
use Rattle.gs_http.proofs.buffer.read_more.Goals as goal

-- a read that moved nothing left nothing
none_left : (n : ℕ) (buf : List ℕ) (before after : Option (List ℕ)) → before ≡ prepend_known (take n buf) after
    → IfSome before (λ bytes. (n ≡ 0) ↔ (bytes ≡ [])) → n ≡ 0 → NothingLeft after
none_left n buf before None e h z = tt
none_left n buf before (Some rest) e h z =
    let some = rw (e, z) at h in
    some.0 refl

pub returns-in-Failed-clause-fetches : goal.returns-in-Failed-clause-fetches
returns-in-Failed-clause-fetches g c =
    let same : c.truncate.new.self.items ≡ c.args.bytes.now.items = grind (arith, common_steps) in
    fetches_none _ _ _ _ _ same (rw c.in-Failed.ensures.read at c.in-Failed.ensures.rest)

pub returns-then-moved-eq0-clause-fetches : goal.returns-then-moved-eq0-clause-fetches
returns-then-moved-eq0-clause-fetches g c =
    let grown : c.truncate-in-Got.new.self.items ≡ c.args.bytes.now.items ++ take c.in-Got.moved c.read.new.buf = grind (arith, common_steps, take-append-add) in
    record { bytes = _; grown = grown; moved = c.in-Got.ensures.read.moved; rest = c.in-Got.ensures.rest }

pub returns-then-moved-eq0-clause-comes : goal.returns-then-moved-eq0-clause-comes
returns-then-moved-eq0-clause-comes g c =
    let grown : c.truncate-in-Got.new.self.items ≡ c.args.bytes.now.items ++ take c.in-Got.moved c.read.new.buf = grind (arith, common_steps, take-append-add) in
    (grown ∙ rw c.if-moved-eq0.true (append-nil c.args.bytes.now.items), none_left c.in-Got.moved c.read.new.buf _ _ c.in-Got.ensures.read.moved c.in-Got.ensures.read.end c.if-moved-eq0.true)

pub returns-else-moved-eq0-clause-fetches : goal.returns-else-moved-eq0-clause-fetches
returns-else-moved-eq0-clause-fetches g c =
    let grown : c.truncate-in-Got.new.self.items ≡ c.args.bytes.now.items ++ take c.in-Got.moved c.read.new.buf = search (rules, common_steps, take-append-add) in
    record { bytes = take c.in-Got.moved c.read.new.buf; grown = grown; moved = c.in-Got.ensures.read.moved; rest = c.in-Got.ensures.rest }
