use Rattle.std.proofs.Common.{inl, inr, arith}
use Rattle.gs_links.proofs.IndexLemmas.{none_beyond, none_deeper}
use Rattle.gs_links.proofs.choice.+choose_from.Goals as goal

pub returns-in_default-clause-most : goal.returns-in_default-clause-most
returns-in_default-clause-most t c =
    rw c.choose_at.ensures.depth (none_beyond c.args.links.now c.args.identity.now c.args.want c.args.depth (rw c.qualifiers.ensures at c.in_default.ensures.lookup.0))

pub returns-clause-most : goal.returns-clause-most
returns-clause-most t c =
    rw c.choose_at-2.ensures.depth (none_deeper c.args.links.now c.args.identity.now c.args.want c.args.depth c.choose_from-deeper.result.depth c.choose_from-deeper.result.count c.choose_from-deeper.ensures.most c.choose_from-deeper.ensures.some c.choose_from-deeper.ensures.count c.if-deeper-gt0.false)

pub returns-then-deeper-gt0-clause-most : goal.returns-then-deeper-gt0-clause-most
returns-then-deeper-gt0-clause-most t c = omega arith

pub returns-then-deeper-gt0-clause-some : goal.returns-then-deeper-gt0-clause-some
returns-then-deeper-gt0-clause-some t c = inr (omega arith)

pub returns-clause-some : goal.returns-clause-some
returns-clause-some t c = inl (omega arith)
