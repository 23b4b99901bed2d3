-- The states of each item, and of a list of items in sequence.
use Rattle.std.specs.Prelude.{ℕ, ◌+◌, ◌-◌, ◌*◌, List, [], ◌∷◌, ◌++◌, length, decimal}
use Rattle.gs_grammar.specs.declared.item.Item.{Item}
use Rattle.gs_grammar.specs.declared.item.Item.TheVariants.{Lit, Pad, Digits, Int, Esc, NumPad, Num, NumStr, Ascii7, Fill}
use Rattle.gs_ambig.specs.declared.machine.Edge.{Edge}
use Rattle.gs_ambig.specs.Machines.{AutoForm}
use Rattle.gs_grammar_compile.specs.Tables.{lit_table, run_table, fill_table, bound_table, digits_greatest}
use Rattle.gs_grammar_compile.specs.NumeralTables.{digits_table, numeral_table}
use Rattle.gs_grammar_compile.specs.EscapeTables.{esc_table}
use Rattle.gs_grammar_compile.specs.CodeTables.{ascii_table}
use Rattle.gs_grammar_compile.specs.OnesTables.{layer_states, ones_table}

-- the number of digits of the decimal text after the first one
abbrev pub digits_behind : ℕ → ℕ
digits_behind number = length (decimal number) - 1

-- the number of states of an item
abbrev pub item_states : Item → ℕ
item_states (Lit literal) = length literal
item_states (Pad n) = n
item_states (Digits lo hi) = hi
item_states (Int greatest) = 1 + digits_behind greatest + digits_behind greatest
item_states (Esc lo hi) = 4 * hi
item_states (NumPad bits n) = 2 * bits
item_states (Num bits greatest) = 2 * bits
item_states (NumStr bits hi) = layer_states hi * bits
item_states (Ascii7 lo hi bits) = 24 * hi + (bits - 7 * lo)
item_states (Fill a b) = b

-- the edges of the states of an item, numbered from this number on; the state after them is its end
abbrev pub item_table : Item → ℕ → List (List Edge)
item_table (Lit literal) base = lit_table literal base
item_table (Pad n) base = run_table 48 57 n base
item_table (Digits lo hi) base = digits_table lo hi base
item_table (Int greatest) base = numeral_table (digits_behind greatest) greatest base
item_table (Esc lo hi) base = esc_table lo hi base (base + 4 * hi)
item_table (NumPad bits n) base = bound_table bits (digits_greatest bits n) base
item_table (Num bits greatest) base = bound_table bits greatest base
item_table (NumStr bits hi) base = ones_table bits hi base
item_table (Ascii7 lo hi bits) base = ascii_table lo hi bits base
item_table (Fill a b) base = fill_table a (b - a) base

-- the states of the items in sequence, and the accepting state after them
abbrev pub items_table : List Item → ℕ → List (List Edge)
items_table [] base = [] ∷ []
items_table (item ∷ items) base = item_table item base ++ items_table items (base + item_states item)

-- the ends of the items
abbrev pub items_borders : List Item → ℕ → List ℕ
items_borders [] base = []
items_borders (item ∷ items) base = (base + item_states item) ∷ items_borders items (base + item_states item)

-- the machine of a list of items
abbrev pub machine_of : List Item → AutoForm
machine_of items = record { table = items_table items 0; borders = 0 ∷ items_borders items 0 }
