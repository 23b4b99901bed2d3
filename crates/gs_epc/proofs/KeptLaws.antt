-- The fields of an EPC of the set, by the rules of tables, fit its kind.
use Rattle.std.proofs.Common.{◌≡◌, ℕ, List, length, Some, slice_get, get_or, ◌<◌, sym, subst, ◌∙◌}
use Rattle.std.proofs.lemmas.Option.{slice_get_within}
use Rattle.gs_chars.proofs.TruthsAndLists.{read_at}
use Rattle.gs_tables_document.specs.declared.document.Field.TheVariants.{Gcp, Rest, Piece, Total, Serial}
use Rattle.gs_tables_document.specs.declared.document.Kind.{Kind}
use Rattle.gs_tables_document.specs.declared.document.LevelName.{LevelName}
use Rattle.gs_tables_document.specs.declared.document.OptInfo.{OptInfo}
use Rattle.gs_tables_document.specs.Documents.{is_bits}
use Rattle.gs_tables_document.specs.Items.{fields_of}
use Rattle.gs_grammar.specs.declared.item.Item.{Item}
use Rattle.gs_grammar.specs.Derivations.{EachWord}
use Rattle.gs_tables.specs.Forms.{serial_room}
use Rattle.gs_tables.specs.KeptRules.{KeptOption}
use Rattle.gs_tables.specs.Tables.{IsShaped, TableRows}
use Rattle.gs_tables.proofs.KeptSets.{options_kept}
use Rattle.gs_epc.specs.declared.epc.Epc.{Epc}
use Rattle.gs_epc.specs.Epcs.{IsOfSet, value_of}
use Rattle.gs_epc.specs.KeptFields.{FitKind, FitsFurther}
use Rattle.gs_epc.proofs.KeptFields.{AreHeld}
use Rattle.gs_epc.proofs.KeptRules.{fits_further, fits_prefix, fits_room}
use Rattle.gs_epc.specs.Layout.{fields_in}

-- the fields of values of an option's items fit the kind of the option
fits_values : (set : TableRows) (level : LevelName) (items : List Item) (info : OptInfo) (values words : List (List ℕ)) (kept : KeptOption set level items info)
    → EachWord items values words
    → FitKind set.ais kept.kind (record { prefix = value_of Gcp info.fields values; rest = value_of Rest info.fields values; piece = value_of Piece info.fields values; total = value_of Total info.fields values; serial = value_of Serial info.fields values })
fits_values set level items info values words kept held =
    let are_held : AreHeld (is_bits level) kept.parts values words = record { each = rw kept.items_are at held; good = rw kept.items_are at kept.bounds.none_bad } in
    let fit = fits_prefix kept.of_kind.form kept.kind.lead info.gcp (is_bits level) kept.parts values words are_held kept.gcp kept.rest in
    let room = fits_room (serial_room set.ais kept.of_kind.form kept.kind.serial) (is_bits level) kept.parts values words are_held kept.serial in
    let own = fits_further kept.of_kind.form (is_bits level) kept.parts values words are_held kept.further in
    let further = subst (λ (lengths : List ℕ). FitsFurther lengths (value_of Piece (fields_of kept.parts) values) (value_of Total (fields_of kept.parts) values)) (sym kept.of_kind.further) own in
    rw kept.fields_are (record { of_kind = kept.of_kind; prefix_least = fit.prefix_least; prefix_most = fit.prefix_most; fits = fit.fits; further = further; room = room })

-- the fields of an EPC of the set, by the rules of tables, fit its kind
pub fit_kind : (set : TableRows) (epc : Epc) → IsShaped set → IsOfSet set epc
    → (kind : Kind) × (slice_get set.kinds epc.kind ≡ Some kind) × FitKind set.ais kind (fields_in epc)
fit_kind set epc shaped of_set =
    let kept = options_kept set of_set.level shaped of_set.option of_set.items of_set.info of_set.of_level of_set.said in
    rw of_set.fields (kept.kind, kept.named, fits_values set of_set.level of_set.items of_set.info of_set.values of_set.words kept of_set.held)

-- the kind has its place
pub kind_within : (set : TableRows) (epc : Epc) (kinds : List Kind) → kinds ≡ set.kinds → IsShaped set → IsOfSet set epc → epc.kind < length kinds
kind_within set epc kinds same shaped of_set =
    let fit = fit_kind set epc shaped of_set in
    rw same (slice_get_within set.kinds epc.kind fit.0 fit.1)

-- the kind that is read at its place
pub kind_read : (set : TableRows) (epc : Epc) (kinds : List Kind) (kind : Kind) → kinds ≡ set.kinds → IsShaped set → IsOfSet set epc
    → kind ≡ get_or kinds epc.kind kind → (slice_get set.kinds epc.kind ≡ Some kind) × FitKind set.ais kind (fields_in epc)
kind_read set epc kinds kind same shaped of_set read =
    let fit = fit_kind set epc shaped of_set in
    let at = read_at kinds epc.kind kind (kind_within set epc kinds same shaped of_set) read in
    let here : slice_get set.kinds epc.kind ≡ Some kind = rw same at at in
    let equal : Some fit.0 ≡ Some kind = sym fit.1 ∙ here in
    let one : fit.0 ≡ kind = cc in
    (here, rw one at fit.2)

-- the kind that is read at the place that the EPC names
pub kind_at_place : (set : TableRows) (epc : Epc) (kinds : List Kind) (kind : Kind) (index : ℕ) → epc.kind ≡ index → kinds ≡ set.kinds
    → IsShaped set → IsOfSet set epc → kind ≡ get_or kinds index kind
    → (slice_get set.kinds index ≡ Some kind) × FitKind set.ais kind (fields_in epc)
kind_at_place set epc kinds kind index here same shaped of_set read =
    let there : kind ≡ get_or kinds epc.kind kind = rw here read in
    let both = kind_read set epc kinds kind same shaped of_set there in
    (rw here at both.0, both.1)
