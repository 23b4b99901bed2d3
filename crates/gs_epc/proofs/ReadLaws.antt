-- A written text is read as the same fields.
use Rattle.std.proofs.Common.{◌≡◌, ℕ, ◌%◌, List, length, Ok, sym, ◌∙◌, arith}
use Rattle.std.proofs.lemmas.List.{length-map}
use Rattle.gs_bits.specs.HexText.{bits_of_hex, hex_of_bits}
use Rattle.gs_tables_document.specs.Documents.{is_bits}
use Rattle.gs_tables_document.specs.declared.document.LevelName.{LevelName}
use Rattle.gs_tables_document.specs.declared.document.LevelName.TheVariants.{Binary, Tag, Pure}
use Rattle.gs_grammar.specs.Items.{size_of_all}
use Rattle.gs_grammar.specs.WrittenWords.{written}
use Rattle.gs_grammar.proofs.WordLaws.{all_items}
use Rattle.gs_grammar.proofs.WritingLemmas.{written_read}
use Rattle.gs_tables.specs.Judgements.{IsLoaded}
use Rattle.gs_tables.specs.Tables.{TableRows}
use Rattle.gs_epc.specs.declared.epc.Epc.{Epc}
use Rattle.gs_epc.specs.Candidates.{Candidate, HasFilterOn, value_for, values_for}
use Rattle.gs_epc.specs.Epcs.{options_of}
use Rattle.gs_epc.specs.Readings.{IsHex, Says}
use Rattle.gs_epc.specs.Writes.{HoldsAll, ReadsText, Writes, same_fields}
use Rattle.gs_epc.proofs.HexRead.{hex_digits, hex_read, written_bits}
use Rattle.gs_epc.proofs.ReadBack.{said_back}
use Rattle.gs_epc.proofs.Tries.{as_many, candidate_kept, whole}
use Rattle.gs_epc.proofs.WrittenSizes.{written_count}

module _ (set : TableRows) (level : LevelName) (epc : Epc) (i : ℕ) (candidate : Candidate set level epc i)
    (holds : HoldsAll set level epc candidate) (loaded : IsLoaded set) where
  abbrev values : List (List ℕ)
  values = values_for level epc candidate.info

  count : length values ≡ length candidate.items
  count = length-map candidate.info.fields (value_for level epc) ∙ as_many set level candidate.items candidate.info
      (candidate_kept set level epc i candidate loaded.shaped)

  -- symbols that a candidate writes say the same fields
  says_back : HasFilterOn level epc.filter → Says set level (written candidate.items values) (same_fields level candidate.info epc)
  says_back has =
      let kept = candidate_kept set level epc i candidate loaded.shaped in
      let items = all_items (is_bits level) candidate.items kept.bounds.none_bad in
      record {
        option = i;
        values = values;
        info = candidate.info;
        read = written_read (options_of level set) i candidate.items values (loaded.clear level) candidate.of_level items count holds.held;
        said = candidate.said;
        fields = sym (said_back set level candidate.items candidate.info epc kept candidate.passes has holds.whole);
      }

-- the digits of bits that a candidate writes are hexadecimal digits, and are read as those bits
record BitsBack (set : TableRows) (epc : Epc) (i : ℕ) (candidate : Candidate set Binary epc i) : Type 0 where
  hex : IsHex (hex_of_bits (written candidate.items (values_for Binary epc candidate.info)))
  bits : bits_of_hex (hex_of_bits (written candidate.items (values_for Binary epc candidate.info))) ≡ written candidate.items (values_for Binary epc candidate.info)

bits_back : (set : TableRows) (epc : Epc) (i : ℕ) (candidate : Candidate set Binary epc i) → HoldsAll set Binary epc candidate
    → IsLoaded set → BitsBack set epc i candidate
bits_back set epc i candidate holds loaded =
    let kept = candidate_kept set Binary epc i candidate loaded.shaped in
    let symbols = written candidate.items (values_for Binary epc candidate.info) in
    let size = written_count candidate.items (values_for Binary epc candidate.info) kept.bounds.none_bad (count set Binary epc i candidate holds loaded) holds.held in
    let bytes = whole set candidate.items candidate.info kept in
    let small = kept.bounds.small in
    let four : length symbols % 4 ≡ 0 = rw size (let e : size_of_all candidate.items % 4 ≡ 0 = omega arith in e) in
    let are = written_bits candidate.items (values_for Binary epc candidate.info) kept.bounds.none_bad in
    let digits = hex_digits symbols are four in
    let number = digits.count in
    record {
      hex = record { even = omega arith; short = omega arith; digits = digits.digits };
      bits = hex_read symbols are four;
    }

pub read_back : (set : TableRows) (level : LevelName) (epc : Epc) (text : List ℕ) → IsLoaded set → HasFilterOn level epc.filter
    → (writes : Writes set level epc text) → ReadsText set level text (Ok (same_fields level writes.candidate.info epc))
read_back set Tag epc text loaded has writes = rw writes.text_is (says_back set Tag epc writes.option writes.candidate writes.holds loaded has)
read_back set Pure epc text loaded has writes = rw writes.text_is (says_back set Pure epc writes.option writes.candidate writes.holds loaded has)
read_back set Binary epc text loaded has writes =
    let back = bits_back set epc writes.option writes.candidate writes.holds loaded in
    rw writes.text_is (back.hex, rw back.bits (says_back set Binary epc writes.option writes.candidate writes.holds loaded has))
