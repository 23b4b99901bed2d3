-- Definitions for proofs and private functions, in addition to Values.antt.
use Rattle.std.specs.Prelude.{ℕ, if◌then◌else◌, List, Option, Some, None}
use Rattle.percent_encoding.specs.Percent.{percent_decode}
use Rattle.gs_dlink.specs.declared.value.WrittenPair.{WrittenPair}
use Rattle.gs_dlink.specs.Uris.{Written}
use Rattle.gs_dlink.specs.Values.{are_escapes}

-- the pair that the code of this crate lends
abbrev pub written_of : WrittenPair → Written
written_of pair = record { at = pair.at; code = pair.code.now; value = pair.value.now }

-- the decoded text, if each percent sign begins an escape
abbrev pub unescaped : List ℕ → Option (List ℕ)
unescaped text = if are_escapes text then Some (percent_decode text) else None
