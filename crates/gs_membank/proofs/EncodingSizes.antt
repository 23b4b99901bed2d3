-- An EPC is written in whole words of bits, four digits each.
use Rattle.std.proofs.Common.{◌≡◌, ◌*◌, ◌/◌, ◌%◌, ◌==◌, ◌&&◌, ℕ, not, true, List, length, ap, ◌∙◌, arith}
use Rattle.std.proofs.lemmas.Bool.Decides.{nat_tests}
use Rattle.std.proofs.lemmas.List.{length-map}
use Rattle.gs_ai.specs.Tables.{is_empty}
use Rattle.gs_chars.proofs.TruthsAndLists.{and_second}
use Rattle.gs_bits.specs.HexText.{hex_of_bits}
use Rattle.gs_grammar.specs.declared.item.Item.{Item}
use Rattle.gs_grammar.specs.Items.{size_of_all}
use Rattle.gs_grammar.specs.WrittenWords.{written}
use Rattle.gs_tables_document.specs.declared.document.Field.TheVariants.{Filter}
use Rattle.gs_tables_document.specs.declared.document.LevelName.TheVariants.{Binary}
use Rattle.gs_tables_document.specs.declared.document.OptInfo.{OptInfo}
use Rattle.gs_tables_document.specs.Items.{alone}
use Rattle.gs_tables.specs.KeptRules.{KeptOption}
use Rattle.gs_tables.specs.Rules.{is_filter, is_one, items_of_field, keeps_level}
use Rattle.gs_tables.specs.Tables.{IsShaped, TableRows}
use Rattle.gs_epc.specs.declared.epc.Epc.{Epc}
use Rattle.gs_epc.specs.Candidates.{value_for, values_for}
use Rattle.gs_epc.specs.Writes.{Writes}
use Rattle.gs_epc.proofs.HexRead.{hex_digits, written_bits}
use Rattle.gs_epc.proofs.Tries.{as_many, candidate_kept}
use Rattle.gs_epc.proofs.WrittenSizes.{written_count}

sixteenth : (n : ℕ) → (n % 16 == 0) ≡ true → n % 16 ≡ 0
sixteenth n h = grind (arith, nat_tests)

whole_words : (set : TableRows) (items : List Item) (info : OptInfo) → KeptOption set Binary items info → size_of_all items % 16 ≡ 0
unfolding keeps_level
whole_words set items info kept =
    rw kept.items_are (sixteenth (size_of_all (alone kept.parts)) (and_second (not (is_empty info.encoding) && is_one is_filter (items_of_field Filter kept.parts)) (size_of_all (alone kept.parts) % 16 == 0) kept.of_level))

-- the digits are a fourth of the bits of the items
pub digits_count : (set : TableRows) (epc : Epc) (text : List ℕ) → IsShaped set → (writes : Writes set Binary epc text)
    → 4 * length text ≡ size_of_all writes.candidate.items
digits_count set epc text shaped writes =
    let kept = candidate_kept set Binary epc writes.option writes.candidate shaped in
    let items = writes.candidate.items in
    let info = writes.candidate.info in
    let values = values_for Binary epc info in
    let count : length values ≡ length items = length-map info.fields (value_for Binary epc) ∙ as_many set Binary items info kept in
    let size = written_count items values kept.bounds.none_bad count writes.holds.held in
    let whole = whole_words set items info kept in
    let four : length (written items values) % 4 ≡ 0 = omega arith in
    let digits = hex_digits (written items values) (written_bits items values kept.bounds.none_bad) four in
    let made : length text ≡ length (hex_of_bits (written items values)) = ap length writes.text_is in
    let each = digits.count in
    omega arith

pub words_count : (set : TableRows) (epc : Epc) (text : List ℕ) → IsShaped set → Writes set Binary epc text → length text ≡ 4 * (length text / 4)
words_count set epc text shaped writes =
    let kept = candidate_kept set Binary epc writes.option writes.candidate shaped in
    let whole = whole_words set writes.candidate.items writes.candidate.info kept in
    let count = digits_count set epc text shaped writes in
    omega arith
