-- An array that is an item has no fraction: it is its name, and texts and whole numbers after it.
use Rattle.std.proofs.Common.{◌≡◌, ℕ, zero, suc, ◌==◌, true, false, Bool, List, Option, Some, None, option_map, option_and_then, codes, refl, rules, tests}
use Rattle.std.specs.Prelude.{⊤, if◌then◌else◌}
use Rattle.std.specs.Str.{bytes_eq}
use Rattle.serde_json.specs.Data.{unsigned, negative, float, Data, null, boolean, number, string, array, object, Items, no_items, item}
use Rattle.serde_json.specs.Events.{items_len}
use Rattle.serde_json.specs.Find.{as_number, as_str, as_u64, at, get_item}
use Rattle.serde_json.specs.Written.{has_float, items_have_float}
use Rattle.gs_chars.proofs.TruthsAndLists.{mapped_some}
use Rattle.gs_grammar.specs.declared.item.Item.{Item}
use Rattle.gs_grammar.specs.declared.item.Item.TheVariants.{Lit, Pad, Digits, Int, Esc, NumPad, Num, NumStr, Ascii7, Fill}
use Rattle.gs_json.specs.Answers.{items_count}
use Rattle.gs_tables_document.specs.Items.{FieldItem, bit_item, both, bits_of, byte_arg, field_arg, field_of, held, item_of, no_field, number_arg, short_arg, sized, text_arg, text_item, with_field}

-- ---- optional results that are present

pub then_some : {X Y : Type 0} (f : X → Option Y) (o : Option X) (y : Y) → option_and_then f o ≡ Some y → (x : X) × (o ≡ Some x) × (f x ≡ Some y)
then_some f None y h = absurd (let g : None ≡ Some y = h in cc)
then_some f (Some x) y h = (x, refl, h)

sized_by : (b : Bool) (n : ℕ) (d : Data) (answer : Option FieldItem) (x : FieldItem) → (items_count d == n) ≡ b
    → (if b then answer else None) ≡ Some x → (items_count d ≡ n) × (answer ≡ Some x)
sized_by true n d answer x is h = (search (rules, tests), h)
sized_by false n d answer x is h = absurd (let g : None ≡ Some x = h in cc)

sized_parts : (n : ℕ) (d : Data) (answer : Option FieldItem) (x : FieldItem) → sized n d answer ≡ Some x → (items_count d ≡ n) × (answer ≡ Some x)
sized_parts n d answer x h = sized_by (items_count d == n) n d answer x refl h

both_parts : (a b : Option ℕ) (make : ℕ → ℕ → Item) (i : Item) → both a b make ≡ Some i → (x : ℕ) × (a ≡ Some x) × ((y : ℕ) × (b ≡ Some y))
both_parts a b make i h =
    let first = then_some (λ x. option_map (λ y. make x y) b) a i h in
    let second = mapped_some (λ y. make first.0 y) b i first.2 in
    (first.0, first.1, (second.0, second.1))

-- ---- parts without a fraction

-- the value, if there is one, has no fraction
abbrev Leaf : Option Data → Type 0
Leaf None = ⊤
Leaf (Some d) = has_float d ≡ false

-- so of this many parts from a place on
abbrev Leaves : ℕ → ℕ → Items → Type 0
Leaves zero i ds = ⊤
Leaves (suc n) i ds = Leaf (get_item i ds) × Leaves n (suc i) ds

later : (n i : ℕ) (d : Data) (ds : Items) → Leaves n (suc i) (item d ds) → Leaves n i ds
later zero i d ds h = tt
later (suc n) i d ds h = (h.0, later n (suc i) d ds h.1)

leaves_whole : (n : ℕ) (ds : Items) → items_len ds ≡ n → Leaves n 0 ds → items_have_float ds ≡ false
leaves_whole n no_items size all = refl
leaves_whole zero (item d ds) size all = absurd (let g : suc (items_len ds) ≡ 0 = size in cc)
leaves_whole (suc n) (item d ds) size all =
    let fewer : items_len ds ≡ n = cc in
    rw all.0 (leaves_whole n ds fewer (later n 0 d ds all.1))

text_of_leaf : (d : Data) (s : List ℕ) → as_str d ≡ Some s → has_float d ≡ false
text_of_leaf null s h = refl
text_of_leaf (boolean b) s h = refl
text_of_leaf (number n) s h = absurd (let g : None ≡ Some s = h in cc)
text_of_leaf (string t) s h = refl
text_of_leaf (array ds) s h = absurd (let g : None ≡ Some s = h in cc)
text_of_leaf (object ms) s h = absurd (let g : None ≡ Some s = h in cc)

text_leaf : (o : Option Data) (s : List ℕ) → option_and_then as_str o ≡ Some s → Leaf o
text_leaf None s h = tt
text_leaf (Some d) s h = text_of_leaf d s h

number_of_leaf : (d : Data) (n : ℕ) → option_and_then as_u64 (as_number d) ≡ Some n → has_float d ≡ false
number_of_leaf null n h = refl
number_of_leaf (boolean b) n h = refl
number_of_leaf (number (unsigned k)) n h = refl
number_of_leaf (number (negative z)) n h = refl
number_of_leaf (number (float x)) n h = absurd (let g : None ≡ Some n = h in cc)
number_of_leaf (string t) n h = refl
number_of_leaf (array ds) n h = absurd (let g : None ≡ Some n = h in cc)
number_of_leaf (object ms) n h = absurd (let g : None ≡ Some n = h in cc)

number_leaf : (o : Option Data) (n : ℕ) → option_and_then as_u64 (option_and_then as_number o) ≡ Some n → Leaf o
number_leaf None n h = tt
number_leaf (Some d) n h = number_of_leaf d n h

-- ---- items

module _ (ds : Items) where
  byte_leaf : (i n : ℕ) → byte_arg i (array ds) ≡ Some n → Leaf (get_item i ds)
  byte_leaf i n h = let found = then_some (held 8) (number_arg i (array ds)) n h in number_leaf (get_item i ds) found.0 found.1

  short_leaf : (i n : ℕ) → short_arg i (array ds) ≡ Some n → Leaf (get_item i ds)
  short_leaf i n h = let found = then_some (held 16) (number_arg i (array ds)) n h in number_leaf (get_item i ds) found.0 found.1

  two_bytes : (i j : ℕ) (make : ℕ → ℕ → Item) (made : Item) → both (byte_arg i (array ds)) (byte_arg j (array ds)) make ≡ Some made
      → Leaf (get_item i ds) × Leaf (get_item j ds)
  two_bytes i j make made h =
      let found = both_parts (byte_arg i (array ds)) (byte_arg j (array ds)) make made h in
      (byte_leaf i found.0 found.1, byte_leaf j found.2.0 found.2.1)

  module _ (x : FieldItem) (name : List ℕ) (begins : text_arg 0 (array ds) ≡ Some name) where
    -- an item with a field
    with_parts : (n : ℕ) (made : Option Item) → ((i : Item) → made ≡ Some i → Leaves n 2 ds)
        → sized (suc (suc n)) (array ds) (with_field (array ds) made) ≡ Some x → items_have_float ds ≡ false
    with_parts n made parts h =
        let size = sized_parts (suc (suc n)) (array ds) (with_field (array ds) made) x h in
        let own = then_some (λ field. option_map (λ i. (Some field, i)) made) (field_arg 1 (array ds)) x size.1 in
        let field = then_some field_of (text_arg 1 (array ds)) own.0 own.1 in
        let thing = mapped_some (λ i. (Some own.0, i)) made x own.2 in
        leaves_whole (suc (suc n)) ds size.0 (text_leaf (get_item 0 ds) name begins, (text_leaf (get_item 1 ds) field.0 field.1, parts thing.0 thing.1))

    -- an item without a field
    no_parts : (n : ℕ) (made : Option Item) → ((i : Item) → made ≡ Some i → Leaves n 1 ds)
        → sized (suc n) (array ds) (no_field made) ≡ Some x → items_have_float ds ≡ false
    no_parts n made parts h =
        let size = sized_parts (suc n) (array ds) (no_field made) x h in
        let thing = mapped_some (λ i. (None, i)) made x size.1 in
        leaves_whole (suc n) ds size.0 (text_leaf (get_item 0 ds) name begins, parts thing.0 thing.1)

    -- two numbers of a byte after the field
    bytes_parts : (make : ℕ → ℕ → Item)
        → sized 4 (array ds) (with_field (array ds) (both (byte_arg 2 (array ds)) (byte_arg 3 (array ds)) make)) ≡ Some x
        → items_have_float ds ≡ false
    bytes_parts make h =
        with_parts 2 (both (byte_arg 2 (array ds)) (byte_arg 3 (array ds)) make) (λ i is. let two = two_bytes 2 3 make i is in (two.0, (two.1, tt))) h

    literal_whole : sized 2 (array ds) (no_field (option_map Lit (text_arg 1 (array ds)))) ≡ Some x → items_have_float ds ≡ false
    literal_whole h =
        no_parts 1 (option_map Lit (text_arg 1 (array ds))) (λ i is. let text = mapped_some Lit (text_arg 1 (array ds)) i is in (text_leaf (get_item 1 ds) text.0 text.1, tt)) h

    bit_literal_whole : sized 2 (array ds) (no_field (option_map Lit (option_and_then bits_of (text_arg 1 (array ds))))) ≡ Some x → items_have_float ds ≡ false
    bit_literal_whole h =
        no_parts 1 (option_map Lit (option_and_then bits_of (text_arg 1 (array ds))))
        (λ i is.
        let bits = mapped_some Lit (option_and_then bits_of (text_arg 1 (array ds))) i is in
        let text = then_some bits_of (text_arg 1 (array ds)) bits.0 bits.1 in
        (text_leaf (get_item 1 ds) text.0 text.1, tt))
        h

    pad_whole : sized 3 (array ds) (with_field (array ds) (option_map Pad (byte_arg 2 (array ds)))) ≡ Some x → items_have_float ds ≡ false
    pad_whole h =
        with_parts 1 (option_map Pad (byte_arg 2 (array ds))) (λ i is. let n = mapped_some Pad (byte_arg 2 (array ds)) i is in (byte_leaf 2 n.0 n.1, tt)) h

    int_whole : sized 3 (array ds) (with_field (array ds) (option_map Int (number_arg 2 (array ds)))) ≡ Some x → items_have_float ds ≡ false
    int_whole h =
        with_parts 1 (option_map Int (number_arg 2 (array ds)))
        (λ i is. let n = mapped_some Int (number_arg 2 (array ds)) i is in (number_leaf (get_item 2 ds) n.0 n.1, tt)) h

    num_whole : sized 4 (array ds) (with_field (array ds) (both (byte_arg 2 (array ds)) (number_arg 3 (array ds)) Num)) ≡ Some x → items_have_float ds ≡ false
    num_whole h =
        with_parts 2 (both (byte_arg 2 (array ds)) (number_arg 3 (array ds)) Num)
        (λ i is.
        let found = both_parts (byte_arg 2 (array ds)) (number_arg 3 (array ds)) Num i is in
        (byte_leaf 2 found.0 found.1, (number_leaf (get_item 3 ds) found.2.0 found.2.1, tt)))
        h

    ascii7_whole : sized 5 (array ds) (with_field (array ds) (option_and_then (λ bits. both (byte_arg 2 (array ds)) (byte_arg 3 (array ds)) (λ lo hi. Ascii7 lo hi bits)) (short_arg 4 (array ds)))) ≡ Some x → items_have_float ds ≡ false
    ascii7_whole h =
        with_parts 3 (option_and_then (λ bits. both (byte_arg 2 (array ds)) (byte_arg 3 (array ds)) (λ lo hi. Ascii7 lo hi bits)) (short_arg 4 (array ds)))
        (λ i is.
        let bits = then_some (λ bits. both (byte_arg 2 (array ds)) (byte_arg 3 (array ds)) (λ lo hi. Ascii7 lo hi bits)) (short_arg 4 (array ds)) i is in
        let two = two_bytes 2 3 (λ lo hi. Ascii7 lo hi bits.0) i bits.2 in
        (two.0, (two.1, (short_leaf 4 bits.0 bits.1, tt))))
        h

    fill_whole : sized 3 (array ds) (no_field (both (byte_arg 1 (array ds)) (byte_arg 2 (array ds)) Fill)) ≡ Some x → items_have_float ds ≡ false
    fill_whole h =
        no_parts 2 (both (byte_arg 1 (array ds)) (byte_arg 2 (array ds)) Fill) (λ i is. let two = two_bytes 1 2 Fill i is in (two.0, (two.1, tt))) h

    none_whole : None ≡ Some x → items_have_float ds ≡ false
    none_whole h = absurd (cc)

    -- the item of a name, or one of the names after it
    by_name : (b : Bool) (own others : Option FieldItem) → (own ≡ Some x → items_have_float ds ≡ false)
        → (others ≡ Some x → items_have_float ds ≡ false) → (if b then own else others) ≡ Some x → items_have_float ds ≡ false
    by_name true own others here behind h = here h
    by_name false own others here behind h = behind h

    text_whole : text_item name (array ds) ≡ Some x → items_have_float ds ≡ false
    text_whole h =
        by_name (bytes_eq name (codes "lit")) _ _ literal_whole
        (by_name (bytes_eq name (codes "pad")) _ _ pad_whole (by_name (bytes_eq name (codes "int")) _ _ int_whole (by_name (bytes_eq name (codes "esc")) _ _ (bytes_parts Esc) (by_name (bytes_eq name (codes "digits")) _ _ (bytes_parts Digits) none_whole)))) h

    bit_whole : bit_item name (array ds) ≡ Some x → items_have_float ds ≡ false
    bit_whole h =
        by_name (bytes_eq name (codes "lit")) _ _ bit_literal_whole
        (by_name (bytes_eq name (codes "numpad")) _ _ (bytes_parts NumPad)
        (by_name (bytes_eq name (codes "num")) _ _ num_whole (by_name (bytes_eq name (codes "ascii7")) _ _ ascii7_whole (by_name (bytes_eq name (codes "fill")) _ _ fill_whole (by_name (bytes_eq name (codes "numstr")) _ _ (bytes_parts NumStr) none_whole))))) h

-- an array that is an item
array_whole : (bits : Bool) (ds : Items) (x : FieldItem) → item_of bits (array ds) ≡ Some x → items_have_float ds ≡ false
array_whole true ds x h =
    let found = then_some (λ name. bit_item name (array ds)) (text_arg 0 (array ds)) x h in
    bit_whole ds x found.0 found.1 found.2
array_whole false ds x h =
    let found = then_some (λ name. text_item name (array ds)) (text_arg 0 (array ds)) x h in
    text_whole ds x found.0 found.1 found.2

nothing : (bits : Bool) (d : Data) (x : FieldItem) → at 0 d ≡ None → item_of bits d ≡ Some x → ⊥
nothing true d x none h = absurd (let g : None ≡ Some x = rw none at h in cc)
nothing false d x none h = absurd (let g : None ≡ Some x = rw none at h in cc)

pub item_whole : (bits : Bool) (d : Data) (x : FieldItem) → item_of bits d ≡ Some x → has_float d ≡ false
item_whole bits null x h = refl
item_whole bits (boolean b) x h = refl
item_whole bits (number n) x h = absurd (nothing bits (number n) x refl h)
item_whole bits (string s) x h = refl
item_whole bits (array ds) x h = array_whole bits ds x h
item_whole bits (object ms) x h = absurd (nothing bits (object ms) x refl h)
