-- The text of a dump: its control word, and the encoding of its EPC.
use Rattle.std.proofs.Common.{◌≡◌, ◌/◌, ◌<◌, ◌≤◌, ℕ, List, ◌++◌, length, ap, ◌∙◌}
use Rattle.gs_bits.specs.HexText.{hex_of_bits}
use Rattle.gs_tables_document.specs.declared.document.LevelName.TheVariants.{Binary}
use Rattle.gs_tables.specs.Tables.{IsShaped, TableRows}
use Rattle.gs_epc.specs.Writes.{Writes}
use Rattle.gs_membank.specs.declared.dump.Dump.{Dump}
use Rattle.gs_membank.specs.Answers.{IsTooLong, WrittenDump, word_of}
use Rattle.gs_membank.specs.Banks.{control_bits}
use Rattle.gs_membank.proofs.EncodingSizes.{words_count}

pub too_long : (set : TableRows) (dump : Dump) (encoding : List ℕ) → IsShaped set → Writes set Binary dump.epc encoding
    → 31 < length encoding / 4 → IsTooLong set dump
too_long set dump encoding shaped written many =
    record { encoding = encoding; words = length encoding / 4; written = written; size = words_count set dump.epc encoding shaped written; many = many }

pub dump_written : (set : TableRows) (dump : Dump) (encoding digits text : List ℕ) → IsShaped set → Writes set Binary dump.epc encoding
    → length encoding / 4 ≤ 31 → digits ≡ hex_of_bits (control_bits (word_of (length encoding / 4) dump)) → text ≡ digits ++ encoding
    → WrittenDump set dump text
dump_written set dump encoding digits text shaped written few front joined = record {
  encoding = encoding;
  words = length encoding / 4;
  written = written;
  size = words_count set dump.epc encoding shaped written;
  few = few;
  text_is = joined ∙ ap (λ w. w ++ encoding) front;
}
