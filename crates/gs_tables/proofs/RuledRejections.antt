-- Every rejection of rows is one by a rule: none is out of memory, and none names an ambiguous level.
use Rattle.std.proofs.Common.{◌≡◌, ℕ, ◌||◌, nat_lt, not, Bool, true, false, List, [], ◌∷◌, ◌++◌, take, map, position, Option, Some, None, slice_get, refl, option_map}
use Rattle.std.specs.Prelude.{option_to_list}
use Rattle.std.specs.List.{flat_map, list_any, enumerate_from}
use Rattle.gs_ai.specs.declared.row.AiRow.{AiRow}
use Rattle.gs_ai.specs.Tables.{table_errors}
use Rattle.gs_tables_document.specs.declared.document.Document.{Document}
use Rattle.gs_tables_document.specs.declared.document.KindRow.{KindRow}
use Rattle.gs_tables_document.specs.declared.document.OptionRow.{OptionRow}
use Rattle.gs_tables_document.specs.declared.error.LimitName.TheVariants.{Ais, Kinds, Options, Items, Size}
use Rattle.gs_tables_document.specs.declared.error.LoadFault.{LoadFault}
use Rattle.gs_tables_document.specs.declared.error.LoadFault.TheVariants.{Version, Limit, Ai, BadKind, BadItem, Mismatch, Duplicate, Ambiguous, Memory}
use Rattle.gs_tables_document.specs.declared.document.LevelName.{LevelName}
use Rattle.gs_tables_document.specs.declared.document.LevelName.TheVariants.{Binary, Tag, Pure}
use Rattle.gs_tables_document.specs.Documents.{is_bits}
use Rattle.gs_grammar.specs.Items.{size_of_all}
use Rattle.gs_grammar.specs.Limits.{most_symbols}
use Rattle.gs_chars.specs.Answers.{error_if}
use Rattle.gs_tables.specs.Tables.{fits, has_long, is_bad_item, is_same, is_version, items_alone, kind_rejections, kinds_rejections, level_rejections, limit_rejections, more_than, option_rejections, rejections, row_rejections}
use Rattle.std.proofs.lemmas.Bool.{or_parts}

-- out of memory, or an ambiguous level
abbrev pub is_unruled : LoadFault → Bool
is_unruled Memory = true
is_unruled (Ambiguous level i j text) = true
is_unruled _ = false

-- all are rejections by a rule
abbrev pub AreRuled : List LoadFault → Type 0
AreRuled errors = list_any is_unruled errors ≡ false

ruled_of_both : (a b : List LoadFault) → AreRuled a → AreRuled b → AreRuled (a ++ b)
ruled_of_both [] b e f = f
ruled_of_both (x ∷ a) b e f =
    let parts = or_parts (is_unruled x) (list_any is_unruled a) e in
    rw parts.0 (ruled_of_both a b parts.1 f)

ruled_if : (test : Bool) (e : LoadFault) → is_unruled e ≡ false → AreRuled (error_if test e)
ruled_if true e h = rw h refl
ruled_if false e h = refl

ruled_where : {X : Type 0} (f : X → LoadFault) (o : Option X) → ((x : X) → is_unruled (f x) ≡ false) → AreRuled (option_to_list (option_map f o))
ruled_where f None h = refl
ruled_where f (Some x) h = rw (h x) refl

ruled_of_map : {X : Type 0} (f : X → LoadFault) → ((x : X) → is_unruled (f x) ≡ false) → (xs : List X) → AreRuled (map f xs)
ruled_of_map f h [] = refl
ruled_of_map f h (x ∷ xs) = rw (h x) (ruled_of_map f h xs)

ruled_of_rows : {X : Type 0} (f : X → List LoadFault) → ((x : X) → AreRuled (f x)) → (xs : List X) → AreRuled (flat_map f xs)
ruled_of_rows f h [] = refl
ruled_of_rows f h (x ∷ xs) = ruled_of_both (f x) (flat_map f xs) (h x) (ruled_of_rows f h xs)

ruled_of_limits : (document : Document) → AreRuled (limit_rejections document)
unfolding limit_rejections
ruled_of_limits document =
    let ais = error_if (more_than 256 document.ais) (Limit Ais) in
    let kinds = error_if (more_than 64 document.kinds) (Limit Kinds) in
    let options = error_if (more_than 256 document.binary || more_than 256 document.tag || more_than 256 document.pure) (Limit Options) in
    let long = has_long document.binary || has_long document.tag || has_long document.pure in
    ruled_of_both (ais ++ kinds ++ options) (error_if long (Limit Items))
    (ruled_of_both (ais ++ kinds) options (ruled_of_both ais kinds (ruled_if (more_than 256 document.ais) (Limit Ais) refl) (ruled_if (more_than 64 document.kinds) (Limit Kinds) refl))
    (ruled_if (more_than 256 document.binary || more_than 256 document.tag || more_than 256 document.pure) (Limit Options) refl))
    (ruled_if long (Limit Items) refl)

ruled_of_kinds : (ais : List AiRow) (kinds : List KindRow) → AreRuled (kinds_rejections ais kinds)
unfolding kinds_rejections
ruled_of_kinds ais kinds = ruled_of_rows (kind_rejections ais kinds) (λ row. ruled_if _ (BadKind row.0) refl) (enumerate_from 0 kinds)

ruled_of_option : (ais : List AiRow) (kinds : List KindRow) (level : LevelName) (rows : List OptionRow) (i : ℕ) (row : OptionRow)
    → AreRuled (option_rejections ais kinds level rows (i, row))
unfolding option_rejections
ruled_of_option ais kinds level rows i row =
    let bad = option_to_list (option_map (λ k. BadItem level i k) (position (is_bad_item (is_bits level)) row.items)) in
    let long = error_if (nat_lt most_symbols (size_of_all (items_alone row))) (Limit Size) in
    let misfit = error_if (not (fits ais kinds level row)) (Mismatch level i) in
    let again = option_to_list (option_map (λ j. Duplicate level j i) (position (λ other. is_same other row) (take i rows))) in
    ruled_of_both (bad ++ long ++ misfit) again
    (ruled_of_both (bad ++ long) misfit
    (ruled_of_both bad long (ruled_where (λ k. BadItem level i k) (position (is_bad_item (is_bits level)) row.items) (λ k. refl)) (ruled_if (nat_lt most_symbols (size_of_all (items_alone row))) (Limit Size) refl))
    (ruled_if (not (fits ais kinds level row)) (Mismatch level i) refl))
    (ruled_where (λ j. Duplicate level j i) (position (λ other. is_same other row) (take i rows)) (λ j. refl))

ruled_of_level : (ais : List AiRow) (kinds : List KindRow) (level : LevelName) (rows : List OptionRow) → AreRuled (level_rejections ais kinds level rows)
unfolding level_rejections
ruled_of_level ais kinds level rows = ruled_of_rows (option_rejections ais kinds level rows)
    (λ row. ruled_of_option ais kinds level rows row.0 row.1) (enumerate_from 0 rows)

pub ruled_of_document : (document : Document) → AreRuled (row_rejections document)
unfolding row_rejections
ruled_of_document document =
    let pure = level_rejections document.ais document.kinds Pure document.pure in
    let tag = level_rejections document.ais document.kinds Tag document.tag ++ pure in
    let binary = level_rejections document.ais document.kinds Binary document.binary ++ tag in
    let kinds = kinds_rejections document.ais document.kinds ++ binary in
    let ais = map Ai (table_errors document.ais) ++ kinds in
    ruled_of_both (limit_rejections document) ais (ruled_of_limits document)
    (ruled_of_both (map Ai (table_errors document.ais)) kinds (ruled_of_map Ai (λ e. refl) (table_errors document.ais))
    (ruled_of_both (kinds_rejections document.ais document.kinds) binary (ruled_of_kinds document.ais document.kinds)
    (ruled_of_both (level_rejections document.ais document.kinds Binary document.binary) tag (ruled_of_level document.ais document.kinds Binary document.binary)
    (ruled_of_both (level_rejections document.ais document.kinds Tag document.tag) pure (ruled_of_level document.ais document.kinds Tag document.tag) (ruled_of_level document.ais document.kinds Pure document.pure)))))

pub ruled_of_all : (document : Document) → AreRuled (rejections document)
unfolding rejections
ruled_of_all document =
    ruled_of_both (error_if (not (is_version document.version)) Version) (row_rejections document)
    (ruled_if (not (is_version document.version)) Version refl) (ruled_of_document document)

-- the first of them is one by a rule
pub ruled_first : (errors : List LoadFault) (error : LoadFault) → AreRuled errors → slice_get errors 0 ≡ Some error → is_unruled error ≡ false
ruled_first [] error ruled h = absurd (let g : None ≡ Some error = h in cc)
ruled_first (x ∷ errors) error ruled h =
    let same : x ≡ error = cc in
    let parts = or_parts (is_unruled x) (list_any is_unruled errors) ruled in
    rw same at parts.0
