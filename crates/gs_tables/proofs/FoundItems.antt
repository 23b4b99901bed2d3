-- The items that are not absent: one of them between the earlier and the later ones, the items of a field, and their sizes.
use Rattle.std.proofs.Common.{◌≡◌, ℕ, zero, suc, ◌+◌, ◌<◌, ◌≤◌, true, List, [], ◌∷◌, ◌++◌, length, take, map, filter, Option, Some, None, slice_get, get_or, refl, ap, ◌∙◌, arith, Bor}
use Rattle.std.specs.Prelude.{option_to_list}
use Rattle.std.specs.List.{flat_map}
use Rattle.std.proofs.lemmas.List.{map-append}
use Rattle.std.proofs.lemmas.List.Elements.{filter-append}
use Rattle.gs_chars.proofs.TruthsAndLists.{read_at}
use Rattle.gs_grammar.specs.declared.item.Item.{Item}
use Rattle.gs_grammar.specs.Items.{size_of, size_of_all}
use Rattle.gs_tables_document.specs.declared.document.Field.{Field}
use Rattle.gs_tables_document.specs.declared.document.Field.TheVariants.{Filter, Gcp, Rest, Piece, Total, Serial}
use Rattle.gs_tables.specs.declared.field_items.Found.{Found}
use Rattle.gs_tables.specs.declared.field_items.Found.TheVariants.{One, More}
use Rattle.gs_tables.specs.Founds.{IsFound, IsMany}
use Rattle.gs_tables_document.specs.Items.{FieldItem}
use Rattle.gs_tables.specs.Rules.{is_field, items_of_field}

abbrev there : List (Option FieldItem) → List FieldItem
there xs = flat_map option_to_list xs

abbrev alone : List (Option FieldItem) → List Item
alone xs = map (λ (i : FieldItem). i.1) (there xs)

-- ---- an item that is not absent

there_split : (xs : List (Option FieldItem)) (i : ℕ) (x : FieldItem) → slice_get xs i ≡ Some (Some x)
    → (rest : List FieldItem) × (there xs ≡ there (take i xs) ++ x ∷ rest)
there_split [] i x at = absurd (let g : None ≡ Some (Some x) = at in cc)
there_split (y ∷ xs) zero x at =
    let same : y ≡ Some x = cc in
    rw same (there xs, refl)
there_split (None ∷ xs) (suc i) x at = there_split xs i x at
there_split (Some y ∷ xs) (suc i) x at =
    let rest = there_split xs i x at in
    (rest.0, ap (λ zs. y ∷ zs) rest.1)

there_next : (xs : List (Option FieldItem)) (i : ℕ) (x : FieldItem) → slice_get xs i ≡ Some (Some x) → there (take (i + 1) xs) ≡ there (take i xs) ++ x ∷ []
there_next [] i x at = absurd (let g : None ≡ Some (Some x) = at in cc)
there_next (y ∷ xs) zero x at = let same : y ≡ Some x = cc in rw same refl
there_next (None ∷ xs) (suc i) x at = let next : suc i + 1 ≡ suc (i + 1) = omega arith in rw next (there_next xs i x at)
there_next (Some y ∷ xs) (suc i) x at = let next : suc i + 1 ≡ suc (i + 1) = omega arith in rw next (ap (λ zs. y ∷ zs) (there_next xs i x at))

there_same : (xs : List (Option FieldItem)) (i : ℕ) (x : Option FieldItem) → slice_get xs i ≡ Some x → x ≡ None → there (take (i + 1) xs) ≡ there (take i xs)
there_same [] i x at none = absurd (let g : None ≡ Some x = at in cc)
there_same (y ∷ xs) zero x at none = let same : y ≡ None = cc in rw same refl
there_same (None ∷ xs) (suc i) x at none = let next : suc i + 1 ≡ suc (i + 1) = omega arith in rw next (there_same xs i x at none)
there_same (Some y ∷ xs) (suc i) x at none = let next : suc i + 1 ≡ suc (i + 1) = omega arith in rw next (ap (λ zs. y ∷ zs) (there_same xs i x at none))

-- ---- two items of a field

pub field_itself : (field : Field) → is_field field (Some field) ≡ true
field_itself Filter = refl
field_itself Gcp = refl
field_itself Rest = refl
field_itself Piece = refl
field_itself Total = refl
field_itself Serial = refl

of_field_append : (field : Field) (xs ys : List FieldItem) → items_of_field field (xs ++ ys) ≡ items_of_field field xs ++ items_of_field field ys
of_field_append field xs ys =
    rw filter-append (map-append (λ (i : FieldItem). i.1) (filter (λ (i : FieldItem). is_field field i.0) xs) (filter (λ (i : FieldItem). is_field field i.0) ys))

of_field_more : (field : Field) (item : Item) (xs : List FieldItem) → items_of_field field ((Some field, item) ∷ xs) ≡ item ∷ items_of_field field xs
of_field_more field item xs = rw (field_itself field) refl

many_of : (field : Field) (xs : List (Option FieldItem)) (i : ℕ) (entry : Option FieldItem) (second : Item) → i < length xs
    → entry ≡ get_or xs i entry → entry ≡ Some (Some field, second)
    → (rest : List Item) × (items_of_field field (there xs) ≡ items_of_field field (there (take i xs)) ++ second ∷ rest)
many_of field xs i entry second low read is =
    let at : slice_get xs i ≡ Some (Some (Some field, second)) = read_at xs i entry low read ∙ ap Some is in
    let rest = there_split xs i (Some field, second) at in
    (items_of_field field rest.0, ap (items_of_field field) rest.1 ∙ of_field_append field (there (take i xs)) ((Some field, second) ∷ rest.0) ∙ ap (λ zs. items_of_field field (there (take i xs)) ++ zs) (of_field_more field second rest.0))

-- an item of the field was found before, or more were, and here is one
pub found_one : (field : Field) (xs : List (Option FieldItem)) (i : ℕ) (entry : Option FieldItem) (second : Item) (found : Found) (first : Bor Item)
    → i < length xs → entry ≡ get_or xs i entry → entry ≡ Some (Some field, second)
    → IsFound (items_of_field field (flat_map option_to_list (take i xs))) found → found ≡ One first
    → IsMany (items_of_field field (flat_map option_to_list xs))
found_one field xs i entry second found first low read is inv e =
    let front = rw e at inv in
    let all = many_of field xs i entry second low read is in
    record { first = first.now; second = second; others = all.0; list = all.1 ∙ ap (λ zs. zs ++ second ∷ all.0) front }

pub found_more : (field : Field) (xs : List (Option FieldItem)) (i : ℕ) (entry : Option FieldItem) (second : Item) (found : Found)
    → i < length xs → entry ≡ get_or xs i entry → entry ≡ Some (Some field, second)
    → IsFound (items_of_field field (flat_map option_to_list (take i xs))) found → found ≡ More
    → IsMany (items_of_field field (flat_map option_to_list xs))
found_more field xs i entry second found low read is inv e =
    let front = rw e at inv in
    let all = many_of field xs i entry second low read is in
    record { first = front.first; second = front.second; others = front.others ++ second ∷ all.0; list = all.1 ∙ ap (λ zs. zs ++ second ∷ all.0) front.list }

-- ---- sizes

size_append : (xs ys : List Item) → size_of_all (xs ++ ys) ≡ size_of_all xs + size_of_all ys
size_append [] ys = omega arith
size_append (x ∷ xs) ys = omega (arith, size_append xs ys)

alone_append : (xs ys : List FieldItem)
    → size_of_all (map (λ (i : FieldItem). i.1) (xs ++ ys)) ≡ size_of_all (map (λ (i : FieldItem). i.1) xs) + size_of_all (map (λ (i : FieldItem). i.1) ys)
alone_append xs ys = ap size_of_all (map-append (λ (i : FieldItem). i.1) xs ys) ∙ size_append (map (λ (i : FieldItem). i.1) xs)
    (map (λ (i : FieldItem). i.1) ys)

-- a prefix and the next item are too long, so that all are
pub size_passed : (xs : List (Option FieldItem)) (i : ℕ) (entry : Option FieldItem) (x : FieldItem) (most : ℕ) → i < length xs
    → entry ≡ get_or xs i entry → entry ≡ Some x
    → most < size_of_all (map (λ (i : FieldItem). i.1) (flat_map option_to_list (take i xs))) + size_of x.1
    → size_of_all (map (λ (i : FieldItem). i.1) (flat_map option_to_list xs)) ≤ most → ⊥
size_passed xs i entry x most low read is long short =
    let at : slice_get xs i ≡ Some (Some x) = read_at xs i entry low read ∙ ap Some is in
    let rest = there_split xs i x at in
    let whole : size_of_all (alone xs) ≡ size_of_all (alone (take i xs)) + (size_of x.1 + size_of_all (map (λ (i : FieldItem). i.1) rest.0)) = ap (λ zs. size_of_all (map (λ (i : FieldItem). i.1) zs)) rest.1 ∙ alone_append (there (take i xs)) (x ∷ rest.0) in
    absurd (omega arith)

-- one item more, and one entry more that is not an item
pub size_next : (xs : List (Option FieldItem)) (i : ℕ) (entry : Option FieldItem) (x : FieldItem) → i < length xs
    → entry ≡ get_or xs i entry → entry ≡ Some x
    → size_of_all (map (λ (i : FieldItem). i.1) (flat_map option_to_list (take (i + 1) xs))) ≡ size_of_all (map (λ (i : FieldItem). i.1) (flat_map option_to_list (take i xs))) + size_of x.1
size_next xs i entry x low read is =
    let at : slice_get xs i ≡ Some (Some x) = read_at xs i entry low read ∙ ap Some is in
    let e = ap (λ zs. size_of_all (map (λ (i : FieldItem). i.1) zs)) (there_next xs i x at) ∙ alone_append (there (take i xs)) (x ∷ []) in
    omega arith

pub size_same : (xs : List (Option FieldItem)) (i : ℕ) (entry : Option FieldItem) → i < length xs → entry ≡ get_or xs i entry → entry ≡ None
    → size_of_all (map (λ (i : FieldItem). i.1) (flat_map option_to_list (take (i + 1) xs))) ≡ size_of_all (map (λ (i : FieldItem). i.1) (flat_map option_to_list (take i xs)))
size_same xs i entry low read is =
    ap (λ zs. size_of_all (map (λ (i : FieldItem). i.1) zs)) (there_same xs i entry (read_at xs i entry low read) is)
