use Rattle.gs_tables.proofs.RejectionLists.{version_first}
use Rattle.gs_tables.proofs.rules.check_version.Goals as goal

pub returns-else-is_version : goal.returns-else-is_version
returns-else-is_version c = version_first c.args.document.now.version c.is_version.result c.is_version.ensures c.if-is_version.false
