-- The states of items that were added one item after the other.
use Rattle.std.proofs.Common.{◌≡◌, ℕ, ◌+◌, ◌*◌, ◌≤◌, All, List, [], ◌∷◌, ◌++◌, length, refl, sym, ◌∙◌, ap, subst, arith, length-append}
use Rattle.std.proofs.lemmas.List.{append_assoc, append-nil}
use Rattle.std.proofs.lemmas.List.Elements.{All-head, All-tail}
use Rattle.gs_grammar.specs.declared.item.Item.{Item}
use Rattle.gs_grammar.specs.Items.{IsItem, size_of, size_of_all}
use Rattle.gs_grammar.specs.declared.item.Item.TheVariants.{Lit, Pad, Digits, Int, Esc, NumPad, Num, NumStr, Ascii7, Fill}
use Rattle.gs_grammar.proofs.WordLaws.{int_bounds, numstr_bounds, numstr_some}
use Rattle.std.proofs.Math.Nat.{mul-le-mul_right}
use Rattle.std.proofs.lemmas.Fmt.{decimal_nonempty}
use Rattle.gs_grammar_compile.proofs.InsideItems.{ascii_bounds}
use Rattle.gs_ambig.specs.declared.machine.Edge.{Edge}
use Rattle.gs_ambig.specs.Machines.{AutoForm, IsMachine, states_of}
use Rattle.gs_grammar_compile.specs.Readers.{ReadsItems, most_states}
use Rattle.gs_grammar_compile.specs.OnesTables.{layer_states}
use Rattle.gs_grammar_compile.specs.ItemTables.{item_states, item_table, items_table, items_borders, machine_of}
use Rattle.gs_grammar_compile.proofs.WholeMachines.{item_count, machine_rules, machine_reads, some_states, total_states, table_count}

item_end : (table new : List (List Edge)) (item : Item) → IsItem item → new ≡ table ++ item_table item (length table)
    → length new ≡ length table + item_states item
item_end table new item i e = ap length e ∙ length-append table (item_table item (length table)) ∙ ap (λ (n : ℕ). length table + n)
    (item_count item (length table) i)

pub table_step : (table new all : List (List Edge)) (item : Item) (others left : List Item) → left ≡ item ∷ others → All IsItem left
    → table ++ items_table left (length table) ≡ all → new ≡ table ++ item_table item (length table)
    → new ++ items_table others (length new) ≡ all
table_step table new all item others left s a h e =
    let each : All IsItem (item ∷ others) = rw s at a in
    let here : table ++ items_table (item ∷ others) (length table) ≡ all = rw s at h in
    let end = item_end table new item (All-head IsItem item others each) e in
    let parts : items_table (item ∷ others) (length table) ≡ item_table item (length table) ++ items_table others (length table + item_states item) = refl in
    ap (λ (rows : List (List Edge)). rows ++ items_table others (length new)) e
    ∙ append_assoc table (item_table item (length table)) (items_table others (length new))
    ∙ ap (λ (b : ℕ). table ++ (item_table item (length table) ++ items_table others b)) end
    ∙ ap (λ (rows : List (List Edge)). table ++ rows) (sym parts)
    ∙ here

pub borders_step : (table new : List (List Edge)) (before after all : List ℕ) (place : ℕ) (item : Item) (others left : List Item)
    → left ≡ item ∷ others → All IsItem left → before ++ items_borders left (length table) ≡ all
    → new ≡ table ++ item_table item (length table) → place ≡ length new → after ≡ before ++ place ∷ []
    → after ++ items_borders others (length new) ≡ all
borders_step table new before after all place item others left s a h e p f =
    let each : All IsItem (item ∷ others) = rw s at a in
    let here : before ++ items_borders (item ∷ others) (length table) ≡ all = rw s at h in
    let end = item_end table new item (All-head IsItem item others each) e in
    ap (λ (borders : List ℕ). borders ++ items_borders others (length new)) (f ∙ ap (λ (b : ℕ). before ++ b ∷ []) p)
    ∙ append_assoc before (length new ∷ []) (items_borders others (length new))
    ∙ ap (λ (b : ℕ). before ++ b ∷ items_borders others b) end
    ∙ here

pub whole_table : (table new : List (List Edge)) (items left : List Item) → length left ≡ 0
    → table ++ items_table left (length table) ≡ items_table items 0 → new ≡ table ++ [] ∷ [] → new ≡ items_table items 0
whole_table table new items [] s h e = e ∙ h
whole_table table new items (item ∷ left) s h e = absurd (omega arith)

pub whole_borders : (borders : List ℕ) (items left : List Item) (n : ℕ) → length left ≡ 0
    → borders ++ items_borders left n ≡ 0 ∷ items_borders items 0 → borders ≡ 0 ∷ items_borders items 0
whole_borders borders items [] n s h = sym (append-nil borders) ∙ h
whole_borders borders items (item ∷ left) n s h = absurd (omega arith)

pub whole_machine : (table : List (List Edge)) (borders : List ℕ) (items : List Item) → table ≡ items_table items 0
    → borders ≡ 0 ∷ items_borders items 0 → record { table = table; borders = borders } ≡ machine_of items
whole_machine table borders items e f = rw e (rw f refl)

pub whole_rules : (table : List (List Edge)) (borders : List ℕ) (items : List Item) → All IsItem items → table ≡ items_table items 0
    → borders ≡ 0 ∷ items_borders items 0 → IsMachine (record { table = table; borders = borders })
whole_rules table borders items a e f = let r = machine_rules items a in rw e (rw f r)

pub rules_of : (auto : AutoForm) (items : List Item) → All IsItem items → auto ≡ machine_of items → IsMachine auto
rules_of auto items a m = rw m (machine_rules items a)

pub reads_of : (auto : AutoForm) (items given : List Item) → given ≡ items → All IsItem given → auto ≡ machine_of given → ReadsItems auto items
reads_of auto items given e a m = rw m (subst (λ (x : List Item). ReadsItems (machine_of given) x) e (machine_reads given a))

-- how many states the machine has

int_few : (greatest : ℕ) → IsItem (Int greatest) → item_states (Int greatest) + 1 ≤ 32 * size_of (Int greatest)
int_few greatest i = let some = decimal_nonempty greatest (int_bounds greatest i) in omega arith

layers_few : (bits hi : ℕ) → 1 ≤ bits → hi ≤ 12 → layer_states hi * bits + 1 ≤ 32 * bits
layers_few bits hi some few = let most : layer_states hi * bits ≤ 26 * bits = mul-le-mul_right bits (omega arith) in omega arith

item_few : (item : Item) → IsItem item → item_states item + 1 ≤ 32 * size_of item
item_few (Lit literal) i = let some = some_states (Lit literal) i in omega arith
item_few (Pad n) i = let some = some_states (Pad n) i in omega arith
item_few (Digits lo hi) i = let some = some_states (Digits lo hi) i in omega arith
item_few (Int greatest) i = int_few greatest i
item_few (Esc lo hi) i = let some = some_states (Esc lo hi) i in omega arith
item_few (NumPad bits n) i = let some = some_states (NumPad bits n) i in omega arith
item_few (Num bits greatest) i = let some = some_states (Num bits greatest) i in omega arith
item_few (NumStr bits hi) i = layers_few bits hi (numstr_some bits hi i) (numstr_bounds bits hi i).1
item_few (Ascii7 lo hi bits) i = let b = ascii_bounds lo hi bits i in let x = b.0 in let y = b.1 in omega arith
item_few (Fill a b) i = let some = some_states (Fill a b) i in omega arith

items_few : (items : List Item) → All IsItem items → total_states items ≤ 32 * size_of_all items
items_few [] h = omega arith
items_few (item ∷ items) h =
    let here = item_few item (All-head IsItem item items h) in
    let rest = items_few items (All-tail IsItem item items h) in
    omega arith

few_states : (items : List Item) → All IsItem items → total_states items + 1 ≤ most_states items
few_states [] h = omega arith
few_states (item ∷ items) h =
    let here = item_few item (All-head IsItem item items h) in
    let rest = items_few items (All-tail IsItem item items h) in
    omega arith

pub few_of : (auto : AutoForm) (items given : List Item) → given ≡ items → All IsItem given → auto ≡ machine_of given → states_of auto ≤ most_states items
few_of auto items given e a m =
    let count = table_count given 0 a in
    let few = few_states given a in
    rw m (subst (λ (x : List Item). length (items_table given 0) ≤ most_states x) e (omega arith))
