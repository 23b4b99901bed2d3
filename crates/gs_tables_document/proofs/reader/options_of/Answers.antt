use Rattle.gs_tables_document.proofs.reader.options_of.Goals as goal

pub returns : goal.returns
returns c =
    (rw c.of_bits-bits.ensures at c.in_ok-read_rows.ensures, rw c.of_texts-texts.ensures at c.in_ok-read_rows-2.ensures, rw c.of_texts-texts.ensures at c.in_ok-read_rows-3.ensures)
