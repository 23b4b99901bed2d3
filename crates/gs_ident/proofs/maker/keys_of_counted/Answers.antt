use Rattle.std.proofs.Common.{sym, ◌∙◌}
use Rattle.gs_ident.proofs.KeyLemmas.{all_counted}
use Rattle.gs_ident.proofs.maker.keys_of_counted.Goals as goal
use Rattle.std.proofs.lemmas.Bool.{not-true}

pub returns-then-not-keys-clause-counted : goal.returns-then-not-keys-clause-counted
returns-then-not-keys-clause-counted c =
    let none = rw c.as_slice.ensures.value at c.keys_among-keys.ensures.none in
    sym (all_counted c.args.table.now c.args.pairs.now.items (sym none ∙ not-true c.keys_among-keys.result.with_none c.if-not-keys.true))
