-- The items of sets that satisfy the rules are within their bounds.
use Rattle.std.proofs.Common.{◌≡◌, ℕ, ◌==◌, not, false, List, [], ◌∷◌, ◌++◌, map, Option, Some, None, get_or, refl, sym}
use Rattle.std.specs.Prelude.{All, Ok, Err, codes}
use Rattle.std.specs.Option.{option_map_or}
use Rattle.serde_json.specs.Data.{Data}
use Rattle.std.proofs.lemmas.List.Elements.{All-map}
use Rattle.std.proofs.lemmas.Option.{slice_get-get_or}
use Rattle.gs_chars.specs.Answers.{error_if, first_or}
use Rattle.gs_chars.proofs.TruthsAndLists.{nil_parts}
use Rattle.gs_ai.specs.declared.row.AiRow.{AiRow}
use Rattle.gs_grammar.specs.Items.{IsItem}
use Rattle.gs_grammar.specs.Levels.{OptionForm}
use Rattle.gs_grammar.proofs.WordLaws.{all_items}
use Rattle.gs_json.specs.Members.{document_of, number_in}
use Rattle.gs_json.specs.declared.error.JsonFault.TheVariants.{Syntax}
use Rattle.gs_tables_document.specs.Items.{alone, present}
use Rattle.gs_class.specs.declared.error.ClassLoadFault.TheVariants.{Json, Version}
use Rattle.gs_class.specs.declared.document.ClassRow.{ClassRow}
use Rattle.gs_class.specs.Answers.{ruled_bytes, ruled_document, ruled_rows}
use Rattle.gs_class.specs.Documents.{form_errors, rows_of}
use Rattle.gs_class.specs.Rules.{class_rejections}
use Rattle.gs_class.specs.Sets.{ClassRows, option_of, set_of}
use Rattle.gs_class.proofs.KeptClasses.{class_at}
use Rattle.gs_class.proofs.OneClass.{AreGood}

set_made : {F : Type 0} (rejections : List F) (rows : List ClassRow) (set : ClassRows) → first_or rejections (set_of rows) ≡ Ok set
    → (rejections ≡ []) × (set ≡ set_of rows)
set_made [] rows set h = (refl, let e : Ok (set_of rows) ≡ Ok set = h in let f : set_of rows ≡ set = cc in sym f)
set_made (f ∷ rejections) rows set h = absurd (let e : Err f ≡ Ok set = h in cc)

items_of_rows : (ais : List AiRow) (rows : List ClassRow) → class_rejections ais rows ≡ []
    → All (λ (row : ClassRow). All IsItem (alone (present row.items))) rows
items_of_rows ais rows none k d low = all_items false (alone (present (get_or rows k d).items))
    (class_at ais rows k (get_or rows k d) none (slice_get-get_or rows k d low)).bounds.none_bad

good_rows : (ais : List AiRow) (rows : List ClassRow) → class_rejections ais rows ≡ [] → AreGood (set_of rows)
good_rows ais rows none =
    All-map (All IsItem) (λ (o : OptionForm). o.items) (map option_of rows)
    (All-map (λ (o : OptionForm). All IsItem o.items) option_of rows (items_of_rows ais rows none))

pub good_of_rows : (ais : List AiRow) (rows : List ClassRow) (set : ClassRows) → ruled_rows ais rows ≡ Ok set → AreGood set
good_of_rows ais rows set h = let made = set_made (class_rejections ais rows) rows set h in rw made.1 (good_rows ais rows made.0)

good_of_document : (ais : List AiRow) (d : Data) (set : ClassRows) → ruled_document ais d ≡ Ok set → AreGood set
unfolding ruled_document
good_of_document ais d set h =
    let version = error_if (not (number_in (codes "version") d == 1)) Version in
    let made = set_made (map Json (form_errors d) ++ (version ++ class_rejections ais (rows_of d))) (rows_of d) set h in
    let behind = (nil_parts (map Json (form_errors d)) (version ++ class_rejections ais (rows_of d)) made.0).1 in
    rw made.1 (good_rows ais (rows_of d) (nil_parts version (class_rejections ais (rows_of d)) behind).1)

pub good_of_bytes : (ais : List AiRow) (bytes : List ℕ) (set : ClassRows) → ruled_bytes ais bytes ≡ Ok set → AreGood set
unfolding ruled_bytes
good_of_bytes ais bytes set h = by (document_of bytes) h
  where
    by : (found : Option Data) → option_map_or (ruled_document ais) found (Err (Json Syntax)) ≡ Ok set → AreGood set
    by None h = absurd (let e : Err (Json Syntax) ≡ Ok set = h in cc)
    by (Some d) h = good_of_document ais d set h
