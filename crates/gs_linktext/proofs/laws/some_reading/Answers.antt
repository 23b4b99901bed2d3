use Rattle.gs_linktext.proofs.SomeReading.{some_reading}
use Rattle.gs_linktext.proofs.laws.some_reading.Goals as goal

pub returns : goal.returns
returns c = some_reading
