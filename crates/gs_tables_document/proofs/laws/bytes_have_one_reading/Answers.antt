use Rattle.gs_tables_document.proofs.OneReading.{not_both, one_error, one_of_bytes, some_reading}
use Rattle.gs_tables_document.proofs.laws.bytes_have_one_reading.Goals as goal

pub returns-clause-some : goal.returns-clause-some
returns-clause-some c = some_reading

pub returns-clause-one_document : goal.returns-clause-one_document
returns-clause-one_document c = one_of_bytes

pub returns-clause-one_error : goal.returns-clause-one_error
returns-clause-one_error c = one_error

pub returns-clause-not_both : goal.returns-clause-not_both
returns-clause-not_both c = not_both
