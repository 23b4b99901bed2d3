-- The machine of a list of items satisfies the rules, and reads the items one by one.
use Rattle.std.proofs.Common.{◌≡◌, ◌⊎◌, ℕ, ◌<◌, ◌≤◌, ◌+◌, ◌-◌, ◌*◌, ◌%◌, ◌^◌, ◌||◌, eqb, Bool, true, false, All, List, [], ◌∷◌, ◌++◌, length, get_or, zero, suc, Some, None, refl, sym, ◌∙◌, ap, subst, inl, inr, arith, add-one, length-append}
use Rattle.std.specs.Prelude.{nat_le, nat_lt, ◌&&◌}
use Rattle.std.specs.List.{list_all, slice_get}
use Rattle.std.proofs.Math.Nat.{mul-le-mul_left}
use Rattle.std.proofs.lemmas.Bool.{cases_lt, and_from}
use Rattle.std.proofs.lemmas.Bool.Decides.{nat_tests}
use Rattle.std.proofs.lemmas.List.Elements.{All-head, All-tail}
use Rattle.std.proofs.lemmas.List.Sums.{AllPass-from_list_all}
use Rattle.gs_chars.proofs.TruthsAndLists.{or_true}
use Rattle.gs_grammar.specs.declared.item.Item.{Item}
use Rattle.gs_grammar.specs.declared.item.Item.TheVariants.{Lit, Pad, Digits, Int, Esc, NumPad, Num, NumStr, Ascii7, Fill}
use Rattle.gs_grammar.specs.Items.{IsItem}
use Rattle.gs_grammar.specs.Words.{IsWord}
use Rattle.gs_grammar.proofs.WordLaws.{digits_bounds, numstr_some, numpad_bounds, num_bounds, fill_bounds}
use Rattle.gs_ambig.specs.declared.machine.Edge.{Edge}
use Rattle.gs_ambig.specs.Walks.{edges_at}
use Rattle.gs_ambig.specs.Machines.{IsMachine, is_onward}
use Rattle.gs_ambig.proofs.Onward.{goes_on}
use Rattle.gs_grammar_compile.specs.Readers.{Reads, ReadsItems}
use Rattle.gs_grammar_compile.specs.Places.{is_border}
use Rattle.gs_grammar_compile.specs.Tables.{lit_table, run_table, fill_table, bound_table, bound_rest, digits_greatest}
use Rattle.gs_grammar_compile.specs.NumeralTables.{free_table, digits_table, tight_table, numeral_table}
use Rattle.gs_grammar_compile.specs.EscapeTables.{esc_table}
use Rattle.gs_grammar_compile.specs.CodeTables.{characters_table}
use Rattle.gs_grammar_compile.specs.OnesTables.{layer_states, layer_rows, ones_table}
use Rattle.gs_grammar_compile.specs.ItemTables.{digits_behind, item_states, item_table, items_table, items_borders, machine_of}
use Rattle.gs_grammar_compile.proofs.WalkLemmas.{Ascends}
use Rattle.gs_grammar_compile.proofs.PlaceLemmas.{Rises, From, from_next, no_border}
use Rattle.gs_grammar_compile.proofs.Blocks.{Has, has_left, has_right, has_all}
use Rattle.gs_grammar_compile.proofs.AddedRows.{run_count}
use Rattle.gs_grammar_compile.proofs.ReadsOnes.{layer_count}
use Rattle.gs_grammar_compile.proofs.DecimalTexts.{length_tight}
use Rattle.gs_grammar_compile.proofs.PackedTexts.{length_characters}
use Rattle.gs_grammar_compile.proofs.InsideItems.{AllTo, Inside, inside_item, reads_item, esc_bounds, ascii_bounds}

-- how many states an item's table has

lit_count : (w : List ℕ) (base : ℕ) → length (lit_table w base) ≡ length w
lit_count [] base = refl
lit_count (s ∷ w) base = ap suc (lit_count w (base + 1))

fill_count : (n more base : ℕ) → length (fill_table n more base) ≡ n + more
fill_count zero more base = run_count 0 0 more base ∙ omega arith
fill_count (suc zero) zero base = refl
fill_count (suc zero) (suc more) base = let r = run_count 0 0 (suc more) (base + 1) in omega arith
fill_count (suc (suc n)) more base = let r = fill_count (suc n) more (base + 1) in omega arith

bound_count : (n greatest base : ℕ) → length (bound_table n greatest base) ≡ 2 * n
bound_count zero greatest base = refl
bound_count (suc n) greatest base = let r = bound_count n (bound_rest n greatest) (base + 2) in omega arith

free_count : (n base : ℕ) → length (free_table n base) ≡ n
free_count zero base = refl
free_count (suc n) base = ap suc (free_count n (base + 1))

esc_count : (hi lo base end : ℕ) → length (esc_table lo hi base end) ≡ 4 * hi
esc_count zero lo base end = refl
esc_count (suc more) lo base end = let r = esc_count more (lo - 1) (base + 4) end in omega arith

numeral_count : (n greatest base : ℕ) → length (numeral_table n greatest base) ≡ 1 + n + n
numeral_count n greatest base =
    let t = length_tight n (greatest % 10 ^ n) (base + 1) (base + 1 + n + n) in
    let f = free_count n (base + 1 + n) in
    let both = length-append (tight_table n (greatest % 10 ^ n) (base + 1) (base + 1 + n + n)) (free_table n (base + 1 + n)) in
    omega arith

digits_count : (lo hi base : ℕ) → 1 ≤ lo → lo ≤ hi → length (digits_table lo hi base) ≡ hi
digits_count lo hi base some order =
    let r = run_count 48 57 (lo - 1) base in
    let f = free_count (hi - (lo - 1)) (base + (lo - 1)) in
    let both = length-append (run_table 48 57 (lo - 1) base) (free_table (hi - (lo - 1)) (base + (lo - 1))) in
    omega arith

ones_count : (n hi base : ℕ) → length (ones_table n hi base) ≡ layer_states hi * n
ones_count zero hi base = omega arith
ones_count (suc n) hi base =
    let next : ℕ = base + layer_states hi in
    let first = layer_count n next hi in
    let rest = ones_count n hi next in
    let both = length-append (layer_rows n next hi) (ones_table n hi next) in
    let product : layer_states hi * suc n ≡ layer_states hi * n + layer_states hi = omega arith in
    omega arith

pub item_count : (item : Item) (base : ℕ) → IsItem item → length (item_table item base) ≡ item_states item
item_count (Lit literal) base i = lit_count literal base
item_count (Pad n) base i = run_count 48 57 n base
item_count (Digits lo hi) base i = let b = digits_bounds lo hi i in digits_count lo hi base b.0 b.1
item_count (Int greatest) base i = numeral_count (digits_behind greatest) greatest base
item_count (Esc lo hi) base i = esc_count hi lo base (base + 4 * hi)
item_count (NumPad bits n) base i = bound_count bits (digits_greatest bits n) base
item_count (Num bits greatest) base i = bound_count bits greatest base
item_count (NumStr bits hi) base i = ones_count bits hi base
item_count (Ascii7 lo hi bits) base i =
    let c = length_characters hi lo bits base (base + 24 * hi + (bits - 7 * lo)) in
    let r = run_count 0 0 (bits - 7 * lo) (base + 24 * hi) in
    let both = length-append (characters_table lo hi bits base (base + 24 * hi + (bits - 7 * lo))) (run_table 0 0 (bits - 7 * lo) (base + 24 * hi)) in
    omega arith
item_count (Fill a b) base i = let f = fill_count a (b - a) base in let o = fill_bounds a b i in let x = o.1 in omega arith

lit_bounds : (literal : List ℕ) → IsItem (Lit literal) → 1 ≤ length literal
lit_bounds literal h = grind (arith, nat_tests)

pad_bounds : (n : ℕ) → IsItem (Pad n) → 1 ≤ n
pad_bounds n h = grind (arith, nat_tests)

-- a layer has some states
some_layers : (hi bits : ℕ) → 1 ≤ bits → 1 ≤ layer_states hi * bits
some_layers hi bits some = let more : layer_states hi * 1 ≤ layer_states hi * bits = mul-le-mul_left (layer_states hi) some in omega arith

pub some_states : (item : Item) → IsItem item → 1 ≤ item_states item
some_states (Lit literal) i = lit_bounds literal i
some_states (Pad n) i = pad_bounds n i
some_states (Digits lo hi) i = let b = digits_bounds lo hi i in let x = b.0 in let y = b.1 in omega arith
some_states (Int greatest) i = omega arith
some_states (Esc lo hi) i = let b = esc_bounds lo hi i in let x = b.0 in let y = b.1 in omega arith
some_states (NumPad bits n) i = let b = numpad_bounds bits n i in let x = b.0 in omega arith
some_states (Num bits greatest) i = let b = num_bounds bits greatest i in let x = b.0 in omega arith
some_states (NumStr bits hi) i = some_layers hi bits (numstr_some bits hi i)
some_states (Ascii7 lo hi bits) i = let b = ascii_bounds lo hi bits i in let x = b.0 in let y = b.1 in omega arith
some_states (Fill a b) i = let o = fill_bounds a b i in let x = o.0 in let y = o.1 in omega arith

-- the borders rise

borders_rise : (items : List Item) (base : ℕ) → All IsItem items → Rises base (items_borders items base)
borders_rise [] base h = tt
borders_rise (item ∷ items) base h =
    let some = some_states item (All-head IsItem item items h) in
    (omega arith, borders_rise items (base + item_states item) (All-tail IsItem item items h))

rises_ascend : (border : ℕ) (borders : List ℕ) (k : ℕ) → Rises border borders → k + 1 < length (border ∷ borders)
    → get_or (border ∷ borders) k 0 < get_or (border ∷ borders) (suc k) 0
rises_ascend border [] k h l = absurd (omega arith)
rises_ascend border (next ∷ borders) zero h l = h.0
rises_ascend border (next ∷ borders) (suc k) h l = rises_ascend next borders k h.1 (omega arith)

-- edges lead over no border

all_of_members : (p : ℕ → Bool) (xs : List ℕ) → ((x : ℕ) → is_border xs x ≡ true → p x ≡ true) → list_all p xs ≡ true
all_of_members p [] h = refl
all_of_members p (x ∷ xs) h =
    let same : eqb x x ≡ true = grind (arith, nat_tests) in
    let here : is_border (x ∷ xs) x ≡ true = rw same refl in
    and_from (p x) (list_all p xs) (h x here) (all_of_members p xs (λ y m. h y (or_true (eqb x y) (is_border xs y) m)))

apart_from : (all : List ℕ) (base next : ℕ) (borders : List ℕ) (b : ℕ) → From all base (next ∷ borders) → Rises next borders
    → is_border all b ≡ true → (b ≤ base) ⊎ (next ≤ b)
apart_from all base next borders b h r m = elim (cases_lt base b) as (λ _. (b ≤ base) ⊎ (next ≤ b)) [
  | inr low ↦ inl low
  | inl above ↦ elim (cases_lt b next) as (λ _. (b ≤ base) ⊎ (next ≤ b)) [
    | inl below ↦ absurd (let f : true ≡ false = sym m ∙ no_border all base next borders b h r above below in cc)
    | inr high ↦ inr high
  ]
]

border_test : (base end state to b : ℕ) → base ≤ state → to ≤ end → (b ≤ base) ⊎ (end ≤ b) → (nat_le b state || nat_le to b) ≡ true
border_test base end state to b l m (inl h) = grind (arith, nat_tests)
border_test base end state to b l m (inr h) = grind (arith, nat_tests)

edge_onward : (states : ℕ) (all : List ℕ) (base end state to : ℕ) → base ≤ state → state < to → to ≤ end → end < states
    → ((b : ℕ) → is_border all b ≡ true → (b ≤ base) ⊎ (end ≤ b))
    → (nat_lt state to && nat_lt to states && list_all (λ border. nat_le border state || nat_le to border) all) ≡ true
edge_onward states all base end state to l up m s apart =
    let free = all_of_members (λ border. nat_le border state || nat_le to border) all (λ b i. border_test base end state to b l m (apart b i)) in
    let first : nat_lt state to ≡ true = grind (arith, nat_tests) in
    let second : nat_lt to states ≡ true = grind (arith, nat_tests) in
    and_from (nat_lt state to && nat_lt to states) (list_all (λ border. nat_le border state || nat_le to border) all)
    (and_from (nat_lt state to) (nat_lt to states) first second) free

row_onward : (states : ℕ) (all : List ℕ) (base end state : ℕ) (row : List Edge) → base ≤ state → end < states
    → ((b : ℕ) → is_border all b ≡ true → (b ≤ base) ⊎ (end ≤ b)) → AllTo state end row → list_all (is_onward states all state) row ≡ true
row_onward states all base end state [] l s apart h = refl
row_onward states all base end state (e ∷ row) l s apart h =
    and_from (is_onward states all state e) (list_all (is_onward states all state) row)
    (edge_onward states all base end state e.to l h.0 h.1 s apart) (row_onward states all base end state row l s apart h.2)

-- all rows from a state on lead onward
abbrev OnwardRows : ℕ → List ℕ → ℕ → List (List Edge) → Type 0
OnwardRows states all state [] = Unit {0}
OnwardRows states all state (row ∷ rows) = (list_all (is_onward states all state) row ≡ true) × OnwardRows states all (state + 1) rows

block_onward : (states : ℕ) (all : List ℕ) (base end state : ℕ) (rows : List (List Edge)) → base ≤ state → end < states
    → ((b : ℕ) → is_border all b ≡ true → (b ≤ base) ⊎ (end ≤ b)) → Inside state end rows → OnwardRows states all state rows
block_onward states all base end state [] l s apart h = tt
block_onward states all base end state (row ∷ rows) l s apart h = (row_onward states all base end state row l s apart h.0, block_onward states all base end (state + 1) rows (omega arith) s apart h.1)

onward_append : (states : ℕ) (all : List ℕ) (state : ℕ) (xs ys : List (List Edge)) → OnwardRows states all state xs
    → OnwardRows states all (state + length xs) ys → OnwardRows states all state (xs ++ ys)
onward_append states all state [] ys a b = let e : state + length {A = List Edge} [] ≡ state = omega arith in rw e at b
onward_append states all state (x ∷ xs) ys a b =
    let e : state + length (x ∷ xs) ≡ state + 1 + length xs = omega arith in
    (a.0, onward_append states all (state + 1) xs ys a.1 (rw e at b))

abbrev pub total_states : List Item → ℕ
total_states [] = 0
total_states (item ∷ items) = item_states item + total_states items

items_onward : (states : ℕ) (all : List ℕ) (items : List Item) (base : ℕ) → All IsItem items → From all base (items_borders items base)
    → base + total_states items < states → OnwardRows states all base (items_table items base)
items_onward states all [] base h f l = (refl, tt)
items_onward states all (item ∷ items) base h f l =
    let i = All-head IsItem item items h in
    let others = All-tail IsItem item items h in
    let some = some_states item i in
    let count = item_count item base i in
    let end : ℕ = base + item_states item in
    let rises = borders_rise items end others in
    let apart : (b : ℕ) → is_border all b ≡ true → (b ≤ base) ⊎ (end ≤ b) = λ b m. apart_from all base end (items_borders items end) b f rises m in
    let block = block_onward states all base end base (item_table item base) (omega arith) (omega arith) apart (inside_item item base end i refl) in
    let rest = items_onward states all items end others (from_next all base end (items_borders items end) f (omega arith)) (omega arith) in
    let place : end ≡ base + length (item_table item base) = omega arith in
    onward_append states all base (item_table item base) (items_table items end) block
    (subst (λ (k : ℕ). OnwardRows states all k (items_table items end)) place rest)

onward_row : (states : ℕ) (all : List ℕ) (base i : ℕ) (rows : List (List Edge)) → OnwardRows states all base rows
    → list_all (is_onward states all (base + i)) (edges_at rows i) ≡ true
onward_row states all base i [] h = refl
onward_row states all base zero (row ∷ rows) h = let e : base + 0 ≡ base = omega arith in rw e h.0
onward_row states all base (suc i) (row ∷ rows) h =
    let e : base + 1 + i ≡ base + suc i = omega arith in
    ap (λ (k : ℕ). list_all (is_onward states all k) (edges_at rows i)) (sym e) ∙ onward_row states all (base + 1) i rows h.1

pub table_count : (items : List Item) (base : ℕ) → All IsItem items → length (items_table items base) ≡ total_states items + 1
table_count [] base h = refl
table_count (item ∷ items) base h =
    let i = item_count item base (All-head IsItem item items h) in
    let rest = table_count items (base + item_states item) (All-tail IsItem item items h) in
    let both = length-append (item_table item base) (items_table items (base + item_states item)) in
    omega arith

last_border : (items : List Item) (base : ℕ) → get_or (base ∷ items_borders items base) (length (items_borders items base)) 0 ≡ base + total_states items
last_border [] base = omega arith
last_border (item ∷ items) base = last_border items (base + item_states item) ∙ omega arith

borders_count : (items : List Item) (base : ℕ) → length (items_borders items base) ≡ length items
borders_count [] base = refl
borders_count (item ∷ items) base = ap suc (borders_count items (base + item_states item))

onward_of : (items : List Item) → All IsItem items → (state : ℕ)
    → list_all (is_onward (length (items_table items 0)) (0 ∷ items_borders items 0) state) (edges_at (items_table items 0) state) ≡ true
onward_of items h state =
    let count = table_count items 0 h in
    let rows = items_onward (length (items_table items 0)) (0 ∷ items_borders items 0) items 0 h (λ s l. refl) (omega arith) in
    let e : 0 + state ≡ state = omega arith in
    ap (λ (k : ℕ). list_all (is_onward (length (items_table items 0)) (0 ∷ items_borders items 0) k) (edges_at (items_table items 0) state))
    (sym e) ∙ onward_row (length (items_table items 0)) (0 ∷ items_borders items 0) 0 state (items_table items 0) rows

pub machine_rules : (items : List Item) → All IsItem items → IsMachine (machine_of items)
machine_rules items h =
    let count = table_count items 0 h in
    let last = last_border items 0 in
    let place : length (0 ∷ items_borders items 0) - 1 ≡ length (items_borders items 0) = omega arith in
    record {
      onward = λ state. AllPass-from_list_all (is_onward (length (items_table items 0)) (0 ∷ items_borders items 0) state)
          (edges_at (items_table items 0) state) (onward_of items h state);
      bordered = omega arith;
      ascend = λ k l. rw add-one (rises_ascend 0 (items_borders items 0) k (borders_rise items 0 h) l);
      inside = let at : get_or (0 ∷ items_borders items 0) (length (0 ∷ items_borders items 0) - 1) 0 ≡ 0 + total_states items = ap
          (λ (k : ℕ). get_or (0 ∷ items_borders items 0) k 0) place ∙ last in omega arith;
    }

-- the items are read

reads_all : (table : List (List Edge)) (items : List Item) (base : ℕ) → Has table base (items_table items base) → Ascends table
    → All IsItem items → (k : ℕ) (item : Item) → slice_get items k ≡ Some item
    → Reads table (get_or (base ∷ items_borders items base) k 0) (get_or (items_borders items base) k 0) (IsWord item)
reads_all table [] base h a i k item e = absurd (let f : None ≡ Some item = e in cc)
reads_all table (first ∷ items) base h a i zero item e =
    let same : first ≡ item = cc in
    let one = reads_item table first base (base + item_states first) (All-head IsItem first items i) (has_left table base (item_table first base) (items_table items (base + item_states first)) h) a refl in
    subst (λ (x : Item). Reads table base (base + item_states first) (IsWord x)) same one
reads_all table (first ∷ items) base h a i (suc k) item e =
    let count = item_count first base (All-head IsItem first items i) in
    let place : base + length (item_table first base) ≡ base + item_states first = omega arith in
    let rest : Has table (base + item_states first) (items_table items (base + item_states first)) = subst (λ (b : ℕ). Has table b (items_table items (base + item_states first))) place (has_right table base (item_table first base) (items_table items (base + item_states first)) h) in
    reads_all table items (base + item_states first) rest a (All-tail IsItem first items i) k item e

pub machine_reads : (items : List Item) → All IsItem items → ReadsItems (machine_of items) items
machine_reads items h =
    let rules = machine_rules items h in
    let ascends : Ascends (items_table items 0) = λ state symbol next f. (goes_on (machine_of items) state symbol next rules f).0 in
    let count = borders_count items 0 in
    record {
      count = omega arith;
      reads = λ k item e. rw add-one (reads_all (items_table items 0) items 0 (has_all (items_table items 0)) ascends h k item e);
    }
