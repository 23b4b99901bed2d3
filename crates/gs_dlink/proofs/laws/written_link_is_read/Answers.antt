use Rattle.std.specs.Prelude.{codes}
use Rattle.gs_dlink.proofs.WrittenLinks.{canonical_stem_ok, link_read}
use Rattle.gs_dlink.proofs.laws.written_link_is_read.Goals as goal

pub returns-clause-written : goal.returns-clause-written
returns-clause-written c = λ stem identity ok made. link_read c.args.table.now c.rows.ensures.kept identity made stem ok

pub returns-clause-canonical : goal.returns-clause-canonical
returns-clause-canonical c = λ identity made. link_read c.args.table.now c.rows.ensures.kept identity made (codes "https://id.gs1.org") canonical_stem_ok
