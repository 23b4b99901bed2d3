-- Two options of a level differ in their kind, their encoding or their prefix length.
use Rattle.std.proofs.Common.{◌≡◌, ◌==◌, ◌&&◌, ◌+◌, ◌<◌, ℕ, nat_lt, not, true, false, List, [], ◌++◌, take, map, position, Some, None, slice_get, bytes_eq, refl, sym, ap, ◌∙◌, arith, option_map}
use Rattle.std.specs.Prelude.{option_to_list}
use Rattle.std.proofs.lemmas.Bool.Decides.{nat_tests}
use Rattle.std.proofs.lemmas.Option.{slice_get-map}
use Rattle.gs_chars.specs.Answers.{error_if}
use Rattle.gs_chars.proofs.TruthsAndLists.{equal_bytes, get_take, mapped_some, nil_parts, none_behind, same_at, same_bytes}
use Rattle.gs_ai.specs.declared.row.AiRow.{AiRow}
use Rattle.gs_ai.specs.Tables.{table_errors}
use Rattle.gs_ai.proofs.RuleLemmas.{none_at}
use Rattle.gs_grammar.specs.Items.{size_of_all}
use Rattle.gs_grammar.specs.Limits.{most_symbols}
use Rattle.gs_tables_document.specs.declared.document.Document.{Document}
use Rattle.gs_tables_document.specs.declared.document.KindRow.{KindRow}
use Rattle.gs_tables_document.specs.declared.document.OptionRow.{OptionRow}
use Rattle.gs_tables_document.specs.declared.error.LimitName.TheVariants.{Size}
use Rattle.gs_tables_document.specs.declared.error.LoadFault.TheVariants.{Ai, BadItem, Duplicate, Limit, Mismatch}
use Rattle.gs_tables_document.specs.declared.document.LevelName.TheVariants.{Binary}
use Rattle.gs_tables_document.specs.declared.document.OptInfo.{OptInfo}
use Rattle.gs_tables_document.specs.Documents.{is_bits}
use Rattle.gs_tables.specs.Rules.{has_name}
use Rattle.gs_tables.specs.Tables.{IsShaped, TableRows, fits, info_of, is_bad_item, is_same, items_alone, level_rejections, level_rows, limit_rejections, option_rejections, row_rejections}
use Rattle.gs_tables.specs.TablesSupport.{rule_rejections}
use Rattle.gs_tables.proofs.KeptRows.{placed, row_at, none_listed}
use Rattle.gs_tables.proofs.SetLemmas.{sound}
use Rattle.gs_chars.proofs.Searches.{passes_none, position_some}
use Rattle.std.proofs.lemmas.Bool.{and_from}

no_rejections : (document : Document) → row_rejections document ≡ [] → level_rejections document.ais document.kinds Binary document.binary ≡ []
unfolding row_rejections
no_rejections document none =
    let rows = none_behind (limit_rejections document) (map Ai (table_errors document.ais) ++ rule_rejections document.ais document.kinds document.binary document.tag document.pure) none in
    (sound document.ais document.kinds document.binary document.tag document.pure (none_behind (map Ai (table_errors document.ais)) (rule_rejections document.ais document.kinds document.binary document.tag document.pure) rows)).binary_kept

not_again : (ais : List AiRow) (kinds : List KindRow) (rows : List OptionRow) (j : ℕ) (row : OptionRow)
    → option_rejections ais kinds Binary rows (j, row) ≡ [] → position (λ other. is_same other row) (take j rows) ≡ None
unfolding option_rejections
not_again ais kinds rows j row h =
    let bad = option_to_list (option_map (λ k. BadItem Binary j k) (position (is_bad_item (is_bits Binary)) row.items)) in
    let long = error_if (nat_lt most_symbols (size_of_all (items_alone row))) (Limit Size) in
    let misfit = error_if (not (fits ais kinds Binary row)) (Mismatch Binary j) in
    let again = option_to_list (option_map (λ i. Duplicate Binary i j) (position (λ other. is_same other row) (take j rows))) in
    none_listed (λ i. Duplicate Binary i j) (position (λ other. is_same other row) (take j rows)) (nil_parts (bad ++ long ++ misfit) again h).1

differ : (ais : List AiRow) (kinds : List KindRow) (rows : List OptionRow) (i j : ℕ) (one other : OptionRow)
    → level_rejections ais kinds Binary rows ≡ [] → slice_get rows i ≡ Some one → slice_get rows j ≡ Some other → i < j
    → is_same one other ≡ false
unfolding level_rejections
differ ais kinds rows i j one other none first second low =
    let zero_plus : 0 + j ≡ j = omega arith in
    let here = none_at (option_rejections ais kinds Binary rows) 0 rows none j other second in
    let again = not_again ais kinds rows j other (rw zero_plus at here) in
    passes_none (λ row. is_same row other) (take j rows) i one again (get_take rows j i low ∙ first)

same_row : (one other : OptionRow) → one.kind ≡ other.kind → one.encoding ≡ other.encoding → one.gcp ≡ other.gcp → is_same one other ≡ true
unfolding is_same
same_row one other kind encoding gcp =
    let number : (one.gcp == other.gcp) ≡ true = grind (arith, nat_tests) in
    let kinds : bytes_eq one.kind other.kind ≡ true = rw kind (same_bytes other.kind) in
    let encodings : bytes_eq one.encoding other.encoding ≡ true = rw encoding (same_bytes other.encoding) in
    and_from (bytes_eq one.kind other.kind && bytes_eq one.encoding other.encoding) (one.gcp == other.gcp)
    (and_from (bytes_eq one.kind other.kind) (bytes_eq one.encoding other.encoding) kinds encodings) number

-- the kind of a row, by its place among the kinds
record KindAt (kinds : List KindRow) (row : OptionRow) : Type 0 where
  kind : KindRow
  at : slice_get kinds (info_of kinds row).kind ≡ Some kind
  name : row.kind ≡ kind.name

kind_placed : (ais : List AiRow) (kinds : List KindRow) (rows : List OptionRow) (i : ℕ) (row : OptionRow)
    → level_rejections ais kinds Binary rows ≡ [] → slice_get rows i ≡ Some row → KindAt kinds row
kind_placed ais kinds rows i row none at =
    let kept = row_at ais kinds Binary rows i row none at in
    let place = placed (has_name row.kind) kinds kept.kind kept.named in
    let named = position_some (has_name row.kind) kinds place.0 place.1 in
    let same : named.0 ≡ kept.kind = same_at kinds place.0 place.0 named.0 kept.kind named.1 place.2 refl in
    record { kind = kept.kind; at = rw place.1 place.2; name = equal_bytes row.kind kept.kind.name (rw same at named.2) }

none_twice : (ais : List AiRow) (kinds : List KindRow) (rows : List OptionRow) (i j : ℕ) (one other : OptionRow)
    → level_rejections ais kinds Binary rows ≡ [] → slice_get rows i ≡ Some one → slice_get rows j ≡ Some other → i < j
    → (info_of kinds one).kind ≡ (info_of kinds other).kind → one.encoding ≡ other.encoding → one.gcp ≡ other.gcp → ⊥
none_twice ais kinds rows i j one other none first second low kind encoding gcp =
    let a = kind_placed ais kinds rows i one none first in
    let b = kind_placed ais kinds rows j other none second in
    let same : a.kind ≡ b.kind = same_at kinds _ _ a.kind b.kind a.at b.at kind in
    let names : one.kind ≡ other.kind = a.name ∙ ap (λ (k : KindRow). k.name) same ∙ sym b.name in
    let no = differ ais kinds rows i j one other none first second low in
    let yes = same_row one other names encoding gcp in
    cc

-- two options of the binary level of a set do not say one kind, one encoding and one prefix length
pub one_option : (set : TableRows) (i j : ℕ) (one other : OptInfo) → IsShaped set → slice_get (level_rows Binary set).info i ≡ Some one
    → slice_get (level_rows Binary set).info j ≡ Some other → i < j → one.kind ≡ other.kind → one.encoding ≡ other.encoding
    → one.gcp ≡ other.gcp → ⊥
one_option set i j one other shaped first second low kind encoding gcp =
    let document = shaped.document in
    let none = no_rejections document shaped.in_order in
    let first' : slice_get (map (info_of document.kinds) document.binary) i ≡ Some one = rw shaped.made at first in
    let second' : slice_get (map (info_of document.kinds) document.binary) j ≡ Some other = rw shaped.made at second in
    let a = mapped_some (info_of document.kinds) (slice_get document.binary i) one (sym (slice_get-map (info_of document.kinds) document.binary i) ∙ first') in
    let b = mapped_some (info_of document.kinds) (slice_get document.binary j) other (sym (slice_get-map (info_of document.kinds) document.binary j) ∙ second') in
    none_twice document.ais document.kinds document.binary i j a.0 b.0 none a.1 b.1 low
    (ap (λ (x : OptInfo). x.kind) a.2 ∙ kind ∙ sym (ap (λ (x : OptInfo). x.kind) b.2))
    (ap (λ (x : OptInfo). x.encoding) a.2 ∙ encoding ∙ sym (ap (λ (x : OptInfo). x.encoding) b.2))
    (ap (λ (x : OptInfo). x.gcp) a.2 ∙ gcp ∙ sym (ap (λ (x : OptInfo). x.gcp) b.2))
