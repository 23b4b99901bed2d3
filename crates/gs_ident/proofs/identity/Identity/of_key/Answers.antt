use Rattle.gs_ident.proofs.KeyPairs.{key_made, key_made_with}
use Rattle.gs_ident.proofs.identity.Identity.of_key.Goals as goal

pub returns-clause-made : goal.returns-clause-made
returns-clause-made c =
    key_made c.args.table.now c.args.key c.args.qualifier c.rows.ensures.kept c.requires _ c.in_ok-qualifiers.qualifiers.items c.in_ok-qualifiers.ensures (rw c.new.ensures.items at c.from_pairs.ensures)

pub returns-clause-with_table : goal.returns-clause-with_table
returns-clause-with_table c =
    key_made_with c.args.table.now c.args.key c.args.qualifier c.rows.ensures.kept c.requires _ c.in_ok-qualifiers.qualifiers.items c.in_ok-qualifiers.ensures (rw c.new.ensures.items at c.from_pairs.ensures)
