use Rattle.gs_linktext.proofs.OneReading.{error_free, same_contexts, same_errors}
use Rattle.gs_linktext.proofs.laws.one_reading.Goals as goal

pub returns-clause-contexts : goal.returns-clause-contexts
returns-clause-contexts c bytes x y p q = same_contexts bytes x y p q

pub returns-clause-read : goal.returns-clause-read
returns-clause-read c bytes x error p q = error_free bytes p.written error p.document p.error_free q

pub returns-clause-rejected : goal.returns-clause-rejected
returns-clause-rejected c bytes e f p q = same_errors bytes e f p q
