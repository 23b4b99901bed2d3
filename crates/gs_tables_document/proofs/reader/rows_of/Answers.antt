use Rattle.gs_tables_document.proofs.reader.rows_of.Goals as goal

pub returns : goal.returns
returns c =
    let options = c.in_ok-binary.ensures in
    record {
      version = c.number_in-version.ensures;
      ais = rw c.of_texts-texts.ensures at c.in_ok-ais.ensures;
      kinds = rw c.of_texts-texts.ensures at c.in_ok-kinds.ensures;
      binary = options.0;
      tag = options.1;
      pure = options.2;
    }
