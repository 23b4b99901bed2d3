use Rattle.gs_tables_builtin.specs.BuiltIn.{pure_rows}
use Rattle.gs_tables_builtin.proofs.BuiltInLemmas.{flat_whole, rows_more}
use Rattle.gs_tables_builtin.proofs.builtin_options.pure_options.Goals as goal

pub loop-identity-preserved : goal.loop-identity-preserved
loop-identity-preserved c =
    rows_more pure_rows c.args.identities.now c.loop-identity.identity-index c.identity-item.result _ _ c.loop-identity-test.true c.identity-item.is c.loop-identity.invariant c.in_ok-add_pure.ensures

pub returns : goal.returns
returns c =
    rw c.from_vec.ensures (flat_whole pure_rows c.args.identities.now c.loop-identity.identity-index _ c.loop-identity-test.false c.loop-identity.invariant)
