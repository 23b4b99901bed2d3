-- All bytes are the document of some rows, or have a first error of their form: one, and no other.
use Rattle.std.proofs.Common.{◌≡◌, ℕ, Bool, true, false, List, [], ◌∷◌, Option, Some, None, slice_get, codes, refl, sym, ap, ◌∙◌, ◌⊎◌, inl, inr}
use Rattle.std.specs.Prelude.{IsUtf8}
use Rattle.std.specs.Str.{is_utf8}
use Rattle.std.proofs.lemmas.Str.{IsUtf8-from_is_utf8, is_utf8-from_IsUtf8}
use Rattle.serde_json.specs.Data.{Data}
use Rattle.serde_json.specs.Read.{read as read_text}
use Rattle.gs_chars.proofs.TruthsAndLists.{true_or_false}
use Rattle.gs_json.specs.declared.error.JsonFault.{JsonFault}
use Rattle.gs_json.specs.declared.error.JsonFault.TheVariants.{Syntax}
use Rattle.gs_ai.specs.declared.row.AiRow.{AiRow}
use Rattle.gs_ai.specs.declared.part.Part.{Part}
use Rattle.gs_tables_document.specs.declared.document.Document.{Document}
use Rattle.gs_tables_document.specs.declared.document.KindRow.{KindRow}
use Rattle.gs_tables_document.specs.declared.document.OptionRow.{OptionRow}
use Rattle.gs_json.specs.Members.{number_in, items_in, text_in, truth_in}
use Rattle.gs_tables_document.specs.Documents.{Each, IsAiRow, IsDocument, IsItemAt, IsKindRow, IsOptionRow, IsPartOf, IsText, document_errors, is_second, of_bits, of_texts, part_in, text_of}
use Rattle.gs_tables_document.specs.declared.plans.Reading.{Reading}
use Rattle.gs_tables_document.specs.Items.{FieldItem, item_in, item_of}
use Rattle.gs_tables_document.specs.Readings.{Holds, IsFormError, IsJson}
use Rattle.gs_tables_document.proofs.PartWords.{one_part, one_role, some_part, some_role}

-- ---- rows one by one

each_some : {X Y : Type 0} (Is : X → Y → Type 0) → ((x : X) → (y : Y) × Is x y) → (xs : List X) → (ys : List Y) × Each Is xs ys
each_some Is some [] = ([], tt)
each_some Is some (x ∷ xs) =
    let first = some x in
    let rest = each_some Is some xs in
    (first.0 ∷ rest.0, (first.1, rest.1))

each_one : {X Y : Type 0} (Is : X → Y → Type 0) → ((x : X) (y z : Y) → Is x y → Is x z → y ≡ z) → (xs : List X) (ys zs : List Y)
    → Each Is xs ys → Each Is xs zs → ys ≡ zs
each_one Is one [] [] [] a b = refl
each_one Is one [] [] (z ∷ zs) a b = absurd b
each_one Is one [] (y ∷ ys) zs a b = absurd a
each_one Is one (x ∷ xs) [] zs a b = absurd a
each_one Is one (x ∷ xs) (y ∷ ys) [] a b = absurd b
each_one Is one (x ∷ xs) (y ∷ ys) (z ∷ zs) a b = rw (one x y z a.0 b.0, each_one Is one xs ys zs a.1 b.1) refl

one_text : (d : Data) (a b : List ℕ) → IsText d a → IsText d b → a ≡ b
one_text d a b e f = e ∙ sym f

some_text : (d : Data) → (text : List ℕ) × IsText d text
some_text d = (text_of d, refl)

one_item : (reading : Reading) (d : Data) (a b : Option FieldItem) → IsItemAt reading d a → IsItemAt reading d b → a ≡ b
one_item reading d a b e f = e ∙ sym f

some_item : (reading : Reading) (d : Data) → (entry : Option FieldItem) × IsItemAt reading d entry
some_item reading d = (item_in reading.second (item_of reading.bits d), refl)

one_part_of : (second : Bool) (d : Data) (a b : Part) → IsPartOf second d a → IsPartOf second d b → a ≡ b
one_part_of second d a b e f = e.2 ∙ ap (part_in second) (one_part (text_of d) e.0 f.0 e.1 f.1) ∙ sym f.2

some_part_of : (second : Bool) (d : Data) → (p : Part) × IsPartOf second d p
some_part_of second d = let some = some_part (text_of d) in (part_in second some.0, (some.0, some.1, refl))

-- ---- the rows of application identifiers, kinds and options

same_ai_rows : (a b : AiRow) → a.code ≡ b.code → a.parts ≡ b.parts → a.role ≡ b.role → a.qualifiers ≡ b.qualifiers → a.short ≡ b.short → a.none ≡ b.none → a ≡ b
same_ai_rows a b e f g h i j = rw (e, f, g, h, i, j) refl

one_ai_row : (second : Bool) (d : Data) (a b : AiRow) → IsAiRow second d a → IsAiRow second d b → a ≡ b
one_ai_row second d a b e f =
    same_ai_rows a b (e.code ∙ sym f.code) (each_one (IsPartOf second) (one_part_of second) (items_in (codes "parts") d) a.parts b.parts e.parts f.parts)
    (one_role (text_in (codes "role") d) a.role b.role e.role f.role)
    (each_one IsText one_text (items_in (codes "qualifiers") d) a.qualifiers b.qualifiers e.qualifiers f.qualifiers)
    (e.short ∙ sym f.short) (e.none ∙ sym f.none)

some_ai_row : (second : Bool) (d : Data) → (row : AiRow) × IsAiRow second d row
some_ai_row second d =
    let parts = each_some (IsPartOf second) (some_part_of second) (items_in (codes "parts") d) in
    let role = some_role (text_in (codes "role") d) in
    let qualifiers = each_some IsText some_text (items_in (codes "qualifiers") d) in (
      record { code = text_in (codes "code") d; parts = parts.0; role = role.0; qualifiers = qualifiers.0; short = truth_in (codes "short") d; none = text_in (codes "none") d },
      record { code = refl; parts = parts.1; role = role.1; qualifiers = qualifiers.1; short = refl; none = refl },
    )

same_kind_rows : (a b : KindRow) → a.name ≡ b.name → a.key ≡ b.key → a.lead ≡ b.lead → a.serial ≡ b.serial → a.fields ≡ b.fields → a ≡ b
same_kind_rows a b e f g h i = rw (e, f, g, h, i) refl

one_kind_row : (d : Data) (a b : KindRow) → IsKindRow d a → IsKindRow d b → a ≡ b
one_kind_row d a b e f = same_kind_rows a b (e.name ∙ sym f.name) (e.key ∙ sym f.key) (e.lead ∙ sym f.lead) (e.serial ∙ sym f.serial)
    (each_one IsText one_text (items_in (codes "fields") d) a.fields b.fields e.fields f.fields)

some_kind_row : (d : Data) → (row : KindRow) × IsKindRow d row
some_kind_row d =
    let fields = each_some IsText some_text (items_in (codes "fields") d) in (
      record { name = text_in (codes "name") d; key = text_in (codes "key") d; lead = number_in (codes "lead") d; serial = text_in (codes "serial") d; fields = fields.0 },
      record { name = refl; key = refl; lead = refl; serial = refl; fields = fields.1 },
    )

same_option_rows : (a b : OptionRow) → a.kind ≡ b.kind → a.encoding ≡ b.encoding → a.gcp ≡ b.gcp → a.items ≡ b.items → a ≡ b
same_option_rows a b e f g h = rw (e, f, g, h) refl

one_option_row : (reading : Reading) (d : Data) (a b : OptionRow) → IsOptionRow reading d a → IsOptionRow reading d b → a ≡ b
one_option_row reading d a b e f =
    same_option_rows a b (e.kind ∙ sym f.kind) (e.encoding ∙ sym f.encoding) (e.gcp ∙ sym f.gcp)
    (each_one (IsItemAt reading) (one_item reading) (items_in (codes "items") d) a.items b.items e.items f.items)

some_option_row : (reading : Reading) (d : Data) → (row : OptionRow) × IsOptionRow reading d row
some_option_row reading d =
    let items = each_some (IsItemAt reading) (some_item reading) (items_in (codes "items") d) in (
      record { kind = text_in (codes "kind") d; encoding = text_in (codes "encoding") d; gcp = number_in (codes "gcp") d; items = items.0 },
      record { kind = refl; encoding = refl; gcp = refl; items = items.1 },
    )

-- ---- documents

same_documents : (a b : Document) → a.version ≡ b.version → a.ais ≡ b.ais → a.kinds ≡ b.kinds → a.binary ≡ b.binary → a.tag ≡ b.tag → a.pure ≡ b.pure → a ≡ b
same_documents a b e f g h i j = rw (e, f, g, h, i, j) refl

one_document : (d : Data) (a b : Document) → IsDocument d a → IsDocument d b → a ≡ b
one_document d a b e f =
    same_documents a b (e.version ∙ sym f.version) (each_one (IsAiRow (is_second d)) (one_ai_row (is_second d)) (items_in (codes "ais") d) a.ais b.ais e.ais f.ais)
    (each_one IsKindRow one_kind_row (items_in (codes "kinds") d) a.kinds b.kinds e.kinds f.kinds)
    (each_one (IsOptionRow (of_bits d)) (one_option_row (of_bits d)) (items_in (codes "binary") d) a.binary b.binary e.binary f.binary)
    (each_one (IsOptionRow (of_texts d)) (one_option_row (of_texts d)) (items_in (codes "tag") d) a.tag b.tag e.tag f.tag)
    (each_one (IsOptionRow (of_texts d)) (one_option_row (of_texts d)) (items_in (codes "pure") d) a.pure b.pure e.pure f.pure)

some_document : (d : Data) → (document : Document) × IsDocument d document
some_document d =
    let ais = each_some (IsAiRow (is_second d)) (some_ai_row (is_second d)) (items_in (codes "ais") d) in
    let kinds = each_some IsKindRow some_kind_row (items_in (codes "kinds") d) in
    let binary = each_some (IsOptionRow (of_bits d)) (some_option_row (of_bits d)) (items_in (codes "binary") d) in
    let tag = each_some (IsOptionRow (of_texts d)) (some_option_row (of_texts d)) (items_in (codes "tag") d) in
    let pure = each_some (IsOptionRow (of_texts d)) (some_option_row (of_texts d)) (items_in (codes "pure") d) in (
      record { version = number_in (codes "version") d; ais = ais.0; kinds = kinds.0; binary = binary.0; tag = tag.0; pure = pure.0 },
      record { version = refl; ais = ais.1; kinds = kinds.1; binary = binary.1; tag = tag.1; pure = pure.1 },
    )

-- ---- bytes

same_tree : (bytes : List ℕ) (d e : Data) → IsJson bytes d → IsJson bytes e → d ≡ e
same_tree bytes d e a b = let same : Some d ≡ Some e = sym a.1 ∙ b.1 in cc

pub one_of_bytes : (bytes : List ℕ) (a b : Document) → Holds bytes a → Holds bytes b → a ≡ b
one_of_bytes bytes a b e f =
    let same = same_tree bytes e.0 f.0 e.1 f.1 in
    one_document e.0 a b e.3 (rw (sym same) at f.3)

-- bytes that are not JSON text are not the text of a tree
no_tree : (bytes : List ℕ) (d : Data) → (IsUtf8 bytes → read_text bytes ≡ None) → IsJson bytes d → ⊥
no_tree bytes d none is = let same : None ≡ Some d = sym (none is.0) ∙ is.1 in cc

pub not_both : (bytes : List ℕ) (document : Document) (error : JsonFault) → Holds bytes document → IsFormError bytes error → ⊥
not_both bytes document error holds (inl none) = no_tree bytes holds.0 none.1 holds.1
not_both bytes document error holds (inr first) =
    let same = same_tree bytes holds.0 first.0 holds.1 first.1 in
    let empty : document_errors first.0 ≡ [] = rw same at holds.2 in
    let g : None ≡ Some error = rw empty at first.2 in
    cc

pub one_error : (bytes : List ℕ) (a b : JsonFault) → IsFormError bytes a → IsFormError bytes b → a ≡ b
one_error bytes a b (inl e) (inl f) = e.0 ∙ sym f.0
one_error bytes a b (inl e) (inr f) = absurd (no_tree bytes f.0 e.1 f.1)
one_error bytes a b (inr e) (inl f) = absurd (no_tree bytes e.0 f.1 e.1)
one_error bytes a b (inr e) (inr f) =
    let same = same_tree bytes e.0 f.0 e.1 f.1 in
    let first : slice_get (document_errors f.0) 0 ≡ Some a = rw same at e.2 in
    let both : Some a ≡ Some b = sym first ∙ f.2 in
    cc

abbrev pub HasReading : List ℕ → Type 0
HasReading bytes = ((document : Document) × Holds bytes document) ⊎ ((error : JsonFault) × IsFormError bytes error)

by_errors : (bytes : List ℕ) (d : Data) (errors : List JsonFault) → IsJson bytes d → document_errors d ≡ errors → HasReading bytes
by_errors bytes d [] is e = let document = some_document d in inl (document.0, (d, is, e, document.1))
by_errors bytes d (error ∷ errors) is e = inr (error, inr (d, is, rw e refl))

by_text : (bytes : List ℕ) (tree : Option Data) → IsUtf8 bytes → read_text bytes ≡ tree → HasReading bytes
by_text bytes None utf8 e = inr (Syntax, inl (refl, λ _. e))
by_text bytes (Some d) utf8 e = by_errors bytes d (document_errors d) (utf8, e) refl

pub some_reading : (bytes : List ℕ) → HasReading bytes
some_reading bytes = by (true_or_false (is_utf8 bytes))
  where
    by : (is_utf8 bytes ≡ true) ⊎ (is_utf8 bytes ≡ false) → HasReading bytes
    by (inl e) = by_text bytes (read_text bytes) (IsUtf8-from_is_utf8 bytes e) refl
    by (inr e) = inr (Syntax, inl (refl, λ utf8. absurd (let f = is_utf8-from_IsUtf8 bytes utf8 in let g : true ≡ false = sym f ∙ e in cc)))
