use Rattle.std.proofs.lemmas.Str.{is_utf8-from_IsUtf8}
use Rattle.gs_linkset.proofs.read_attrs.TextReadEntry.read.Goals as goal

pub returns-in_ok-from_bytes-in-Some-clause-shape : goal.returns-in_ok-from_bytes-in-Some-clause-shape
returns-in_ok-from_bytes-in-Some-clause-shape c = rw c.in_ok-from_bytes-in-Some.ensures (is_utf8-from_IsUtf8 _ c.as_bytes.ensures.utf8)
