use Rattle.std.proofs.Common.{◌-◌, sym, ◌∙◌, arith}
use Rattle.gs_prefix.proofs.Longest.{length_found, length_few, length_none, none_found}
use Rattle.gs_prefix.proofs.prefix_list.PrefixList.longest.Goals as goal

pub loop-n-init : goal.loop-n-init
loop-n-init c = λ k low high within. absurd (omega arith)

pub returns-then-is_some-clause-length : goal.returns-then-is_some-clause-length
returns-then-is_some-clause-length c =
    let own = rw c.self.view_is at c.self.invariant in
    length_found c.args.self.now c.args.digits.now own (c.loop-n.n - 1) c.length_of-length.result
    (rw c.self.view_is at c.length_of-length.ensures) (sym c.is_some.ensures ∙ c.if-is_some.true)
    c.if-n-digits.true (λ k low high within. c.loop-n.invariant k (omega arith) high within)

pub returns-then-is_some-clause-range : goal.returns-then-is_some-clause-range
returns-then-is_some-clause-range c =
    let own = rw c.self.view_is at c.self.invariant in
    length_few c.args.self.now c.args.digits.now own (c.loop-n.n - 1) c.length_of-length.result
    (rw c.self.view_is at c.length_of-length.ensures) (sym c.is_some.ensures ∙ c.if-is_some.true)

pub loop-n-preserved-else-is_some : goal.loop-n-preserved-else-is_some
loop-n-preserved-else-is_some c =
    none_found c.args.self.now c.args.digits.now c.loop-n.n c.length_of-length.result (omega arith)
    (rw c.self.view_is at c.length_of-length.ensures) (sym c.is_some.ensures ∙ c.if-is_some.false) c.loop-n.invariant

pub loop-n-preserved : goal.loop-n-preserved
loop-n-preserved c = λ k low high within. c.loop-n.invariant k (omega arith) high within

pub returns-clause-length : goal.returns-clause-length
returns-clause-length c =
    let own = rw c.self.view_is at c.self.invariant in
    length_none c.args.self.now c.args.digits.now own (λ k low high within. c.loop-n.invariant k (omega arith) high within)
