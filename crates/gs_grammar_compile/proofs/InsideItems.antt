-- The edges of an item lead to higher states, and not past its end.
use Rattle.std.proofs.Common.{◌≡◌, ℕ, ◌<◌, ◌≤◌, ◌+◌, ◌-◌, ◌*◌, ◌/◌, ◌%◌, ◌^◌, Bool, true, false, List, [], ◌∷◌, ◌++◌, length, zero, suc, refl, sym, subst, arith}
use Rattle.std.specs.Prelude.{nat_le, nat_lt, ◌&&◌, ◌||◌}
use Rattle.std.proofs.lemmas.Bool.Decides.{nat_tests}
use Rattle.std.proofs.lemmas.Fmt.{decimal_nonempty}
use Rattle.gs_chars.proofs.TruthsAndLists.{and_first, and_second}
use Rattle.gs_grammar.specs.declared.item.Item.{Item}
use Rattle.gs_grammar.specs.declared.item.Item.TheVariants.{Lit, Pad, Digits, Int, Esc, NumPad, Num, NumStr, Ascii7, Fill}
use Rattle.gs_grammar.specs.Items.{IsItem}
use Rattle.gs_grammar.specs.Words.{IsWord}
use Rattle.gs_grammar.proofs.WordLaws.{int_bounds, digits_bounds, numstr_some, fill_bounds}
use Rattle.gs_ambig.specs.declared.machine.Edge.{Edge}
use Rattle.gs_grammar_compile.specs.Readers.{Reads}
use Rattle.gs_grammar_compile.specs.Tables.{edge, lit_table, run_table, fill_table, lower_state, bound_rest, bound_edges, bound_table, digits_greatest}
use Rattle.gs_grammar_compile.specs.NumeralTables.{free_edges, free_table, digits_table, tight_edges, tight_table, numeral_table}
use Rattle.gs_grammar_compile.specs.EscapeTables.{with_ranges, plain_ranges, two_ranges, three_ranges, last_or_next, esc_table}
use Rattle.gs_grammar_compile.specs.CodeTables.{edge_where, code_edge, code_block, code_states, root_edges, next_character, characters_table, ascii_table}
use Rattle.gs_grammar_compile.specs.OnesTables.{layer_states, layer_state, has_bit, is_highest, leads_edges, from_edges, up_to_edges, counts_rows, layer_rows, ones_table}
use Rattle.gs_grammar_compile.specs.ItemTables.{digits_behind, item_states, item_table}
use Rattle.gs_grammar_compile.proofs.WalkLemmas.{Ascends}
use Rattle.gs_grammar_compile.proofs.Blocks.{Has}
use Rattle.gs_grammar_compile.proofs.AddedRows.{run_count}
use Rattle.gs_grammar_compile.proofs.ReadsOnes.{layer_count}
use Rattle.gs_grammar_compile.proofs.Codes.{count_states}
use Rattle.gs_grammar_compile.proofs.PackedTexts.{length_characters, length_code, reads_ascii}
use Rattle.gs_grammar_compile.proofs.DecimalTexts.{length_tight, reads_int}
use Rattle.gs_grammar_compile.proofs.SpelledTexts.{reads_esc}
use Rattle.gs_grammar_compile.proofs.ItemReaders.{reads_literal, reads_pad, reads_digits, reads_numstr, reads_filling, reads_num, reads_numpad}
use Rattle.std.proofs.lemmas.Bool.{and_parts}

-- the edges of a state lead to higher ones, up to the end
abbrev pub AllTo : ℕ → ℕ → List Edge → Type 0
AllTo state end [] = Unit {0}
AllTo state end (edge ∷ edges) = (state < edge.to) × (edge.to ≤ end) × AllTo state end edges

-- so do those of all states of a block
abbrev pub Inside : ℕ → ℕ → List (List Edge) → Type 0
Inside base end [] = Unit {0}
Inside base end (row ∷ rows) = AllTo base end row × Inside (base + 1) end rows

pub all_append : (state end : ℕ) (xs ys : List Edge) → AllTo state end xs → AllTo state end ys → AllTo state end (xs ++ ys)
all_append state end [] ys a b = b
all_append state end (x ∷ xs) ys a b = (a.0, a.1, all_append state end xs ys a.2 b)

pub inside_append : (base end : ℕ) (xs ys : List (List Edge)) → Inside base end xs → Inside (base + length xs) end ys → Inside base end (xs ++ ys)
inside_append base end [] ys a b = let e : base + length {A = List Edge} [] ≡ base = omega arith in rw e at b
inside_append base end (x ∷ xs) ys a b =
    let e : base + length (x ∷ xs) ≡ base + 1 + length xs = omega arith in
    (a.0, inside_append (base + 1) end xs ys a.1 (rw e at b))

inside_at : (base other end : ℕ) (rows : List (List Edge)) → base ≡ other → Inside other end rows → Inside base end rows
inside_at base other end rows e h = rw e h

inside_lit : (w : List ℕ) (base end : ℕ) → base + length w ≤ end → Inside base end (lit_table w base)
inside_lit [] base end l = tt
inside_lit (s ∷ w) base end l = ((omega arith, omega arith, tt), inside_lit w (base + 1) end (omega arith))

inside_run : (lo hi n base end : ℕ) → base + n ≤ end → Inside base end (run_table lo hi n base)
inside_run lo hi zero base end l = tt
inside_run lo hi (suc n) base end l = ((omega arith, omega arith, tt), inside_run lo hi n (base + 1) end (omega arith))

inside_fill : (n more base end : ℕ) → base + n + more ≤ end → Inside base end (fill_table n more base)
inside_fill zero more base end l = inside_run 0 0 more base end (omega arith)
inside_fill (suc zero) zero base end l = ((omega arith, omega arith, tt), tt)
inside_fill (suc zero) (suc more) base end l = ((omega arith, omega arith, (omega arith, omega arith, tt)), inside_run 0 0 (suc more) (base + 1) end (omega arith))
inside_fill (suc (suc n)) more base end l = ((omega arith, omega arith, tt), inside_fill (suc n) more (base + 1) end (omega arith))

bound_row : (n greatest base end : ℕ) (b : Bool) → nat_le (2 ^ n) greatest ≡ b → base + 2 + 2 * n ≤ end → AllTo base end (bound_edges n greatest (base + 2))
bound_row zero greatest base end true t l = rw t (omega arith, omega arith, (omega arith, omega arith, tt))
bound_row (suc n) greatest base end true t l = rw t (omega arith, omega arith, (omega arith, omega arith, tt))
bound_row n greatest base end false t l = rw t (omega arith, omega arith, tt)

lower_row : (n base end : ℕ) → base + 1 + 2 * n ≤ end → AllTo base end (edge 0 1 (lower_state n (base + 1)) ∷ [])
lower_row zero base end l = (omega arith, omega arith, tt)
lower_row (suc n) base end l = (omega arith, omega arith, tt)

lower_at : (n base end : ℕ) → base + 2 + 2 * n ≤ end → AllTo (base + 1) end (edge 0 1 (lower_state n (base + 2)) ∷ [])
lower_at n base end l =
    let place : base + 1 + 1 ≡ base + 2 = omega arith in
    subst (λ (k : ℕ). AllTo (base + 1) end (edge 0 1 (lower_state n k) ∷ [])) place (lower_row n (base + 1) end (omega arith))

inside_bound : (n greatest base end : ℕ) → base + 2 * n ≤ end → Inside base end (bound_table n greatest base)
inside_bound zero greatest base end l = tt
inside_bound (suc n) greatest base end l = (bound_row n greatest base end (nat_le (2 ^ n) greatest) refl (omega arith), (lower_at n base end (omega arith), inside_at (base + 1 + 1) (base + 2) end (bound_table n (bound_rest n greatest) (base + 2)) (omega arith) (inside_bound n (bound_rest n greatest) (base + 2) end (omega arith))))

free_row : (n base end : ℕ) → base + suc n ≤ end → AllTo base end (free_edges n base)
free_row zero base end l = (omega arith, omega arith, tt)
free_row (suc n) base end l = (omega arith, omega arith, (omega arith, omega arith, tt))

inside_free : (n base end : ℕ) → base + n ≤ end → Inside base end (free_table n base)
inside_free zero base end l = tt
inside_free (suc n) base end l = (free_row n base end l, inside_free n (base + 1) end (omega arith))

tight_row : (low n digit base end : ℕ) → base + 1 + n ≤ end → AllTo base end (tight_edges low n digit (base + 1) end)
tight_row low zero digit base end l = (omega arith, omega arith, tt)
tight_row low (suc n) digit base end l = (omega arith, omega arith, (omega arith, omega arith, (omega arith, omega arith, (omega arith, omega arith, tt))))

inside_tight : (n rest base end : ℕ) → base + n ≤ end → Inside base end (tight_table n rest base end)
inside_tight zero rest base end l = tt
inside_tight (suc n) rest base end l = (tight_row 48 n (rest / 10 ^ n) base end (omega arith), inside_tight n (rest % 10 ^ n) (base + 1) end (omega arith))

inside_digits : (lo hi base end : ℕ) → lo ≤ hi → 1 ≤ lo → base + hi ≤ end → Inside base end (digits_table lo hi base)
inside_digits lo hi base end o s l =
    let count = run_count 48 57 (lo - 1) base in
    let tail = inside_at (base + length (run_table 48 57 (lo - 1) base)) (base + (lo - 1)) end (free_table (hi - (lo - 1)) (base + (lo - 1))) (omega arith) (inside_free (hi - (lo - 1)) (base + (lo - 1)) end (omega arith)) in
    inside_append base end (run_table 48 57 (lo - 1) base) (free_table (hi - (lo - 1)) (base + (lo - 1)))
    (inside_run 48 57 (lo - 1) base end (omega arith)) tail

-- the states of the next layer, and the end after the last bit, are further on
layer_on : (n base next end place hi : ℕ) → base < next → next + layer_states hi * n ≤ end → place < layer_states hi
    → (base < layer_state n next place) × (layer_state n next place ≤ end)
layer_on zero base next end place hi a b c = (omega arith, omega arith)
layer_on (suc n) base next end place hi a b c =
    let product : layer_states hi * suc n ≡ layer_states hi * n + layer_states hi = omega arith in
    (omega arith, omega arith)

where_to : (b : Bool) (bit state to end : ℕ) → state < to → to ≤ end → AllTo state end (edge_where b bit to)
where_to true bit state to end l m = (l, m, tt)
where_to false bit state to end l m = tt

leads_to : (n next count hi state end : ℕ) → count ≤ hi → state < next → next + layer_states hi * n ≤ end → AllTo state end (leads_edges n next count)
leads_to n next zero hi state end c l m = tt
leads_to n next (suc count) hi state end c l m =
    let least = layer_on n state next end (2 * suc count) hi l m (omega arith) in
    let greatest = layer_on n state next end (2 * suc count + 1) hi l m (omega arith) in
    let low : List Edge = edge_where (is_highest n (10 ^ suc count)) 1 (layer_state n next (2 * suc count)) in
    let high : List Edge = edge_where (nat_lt (10 ^ suc count) (2 ^ n) && nat_lt (2 ^ n) (2 * 10 ^ suc count)) 1 (layer_state n next (2 * suc count + 1)) in
    let both = all_append state end low high (where_to (is_highest n (10 ^ suc count)) 1 state (layer_state n next (2 * suc count)) end least.0 least.1) (where_to (nat_lt (10 ^ suc count) (2 ^ n) && nat_lt (2 ^ n) (2 * 10 ^ suc count)) 1 state (layer_state n next (2 * suc count + 1)) end greatest.0 greatest.1) in
    all_append state end (low ++ high) (leads_edges n next count) both (leads_to n next count hi state end (omega arith) l m)

from_to : (b : Bool) (same free state end : ℕ) → (state < same) × (same ≤ end) → (state < free) × (free ≤ end) → AllTo state end (from_edges b same free)
from_to true same free state end s f = (s.0, s.1, tt)
from_to false same free state end s f = (s.0, s.1, (f.0, f.1, tt))

up_to_to : (b : Bool) (same free state end : ℕ) → (state < same) × (same ≤ end) → (state < free) × (free ≤ end) → AllTo state end (up_to_edges b same free)
up_to_to true same free state end s f = (f.0, f.1, (s.0, s.1, tt))
up_to_to false same free state end s f = (s.0, s.1, tt)

inside_counts : (n next count more hi base end : ℕ) → count + more ≤ hi + 1 → base + 2 * more ≤ next → next + layer_states hi * n ≤ end
    → Inside base end (counts_rows n next count more)
inside_counts n next count zero hi base end c l m = tt
inside_counts n next count (suc more) hi base end c l m =
    let free = layer_on n base next end 1 hi (omega arith) m (omega arith) in
    let then = layer_on n (base + 1) next end 1 hi (omega arith) m (omega arith) in
    let least = layer_on n base next end (2 * count) hi (omega arith) m (omega arith) in
    let greatest = layer_on n (base + 1) next end (2 * count + 1) hi (omega arith) m (omega arith) in
    (from_to (has_bit n (10 ^ count)) (layer_state n next (2 * count)) (layer_state n next 1) base end least free, (up_to_to (has_bit n (2 * 10 ^ count - 1)) (layer_state n next (2 * count + 1)) (layer_state n next 1) (base + 1) end greatest then, inside_counts n next (count + 1) more hi (base + 1 + 1) end (omega arith) (omega arith) m))

inside_layer : (n next hi base end : ℕ) → next ≡ base + layer_states hi → next + layer_states hi * n ≤ end → Inside base end (layer_rows n next hi)
inside_layer n next hi base end e m =
    let free = layer_on n (base + 1) next end 1 hi (omega arith) m (omega arith) in
    let zeros = all_append base end (edge_where (nat_lt 0 n) 0 next) (leads_edges n next hi) (where_to (nat_lt 0 n) 0 base next end (omega arith) (omega arith)) (leads_to n next hi hi base end (omega arith) (omega arith) m) in
    (zeros, ((free.0, free.1, tt), inside_counts n next 1 hi hi (base + 1 + 1) end (omega arith) (omega arith) m))

inside_ones : (n hi base end : ℕ) → base + layer_states hi * n ≤ end → Inside base end (ones_table n hi base)
inside_ones zero hi base end l = tt
inside_ones (suc n) hi base end l =
    let next : ℕ = base + layer_states hi in
    let product : layer_states hi * suc n ≡ layer_states hi * n + layer_states hi = omega arith in
    let count = layer_count n next hi in
    let tail = inside_at (base + length (layer_rows n next hi)) next end (ones_table n hi next) (omega arith) (inside_ones n hi next end (omega arith)) in
    inside_append base end (layer_rows n next hi) (ones_table n hi next) (inside_layer n next hi base end refl (omega arith)) tail

inside_numeral : (n greatest base end : ℕ) → end ≡ base + 1 + n + n → Inside base end (numeral_table n greatest base)
inside_numeral n greatest base end e =
    let place : base + 1 + n + n ≡ end = sym e in
    let count = length_tight n (greatest % 10 ^ n) (base + 1) end in
    let tail = inside_at (base + 1 + length (tight_table n (greatest % 10 ^ n) (base + 1) end)) (base + 1 + n) end (free_table n (base + 1 + n)) (omega arith) (inside_free n (base + 1 + n) end (omega arith)) in
    let whole : Inside base end (tight_edges 49 n (greatest / 10 ^ n) (base + 1) end ∷ (tight_table n (greatest % 10 ^ n) (base + 1) end ++ free_table n (base + 1 + n))) = (tight_row 49 n (greatest / 10 ^ n) base end (omega arith), inside_append (base + 1) end (tight_table n (greatest % 10 ^ n) (base + 1) end) (free_table n (base + 1 + n)) (inside_tight n (greatest % 10 ^ n) (base + 1) end (omega arith)) tail) in
    subst (λ (k : ℕ). Inside base end (tight_edges 49 n (greatest / 10 ^ n) (base + 1) k ∷ (tight_table n (greatest % 10 ^ n) (base + 1) k ++ free_table n (base + 1 + n)))) e whole

ranges_to : (ranges : List (ℕ × ℕ)) (state to end : ℕ) → state < to → to ≤ end → AllTo state end (with_ranges ranges to)
ranges_to [] state to end a b = tt
ranges_to (range ∷ ranges) state to end a b = (a, b, ranges_to ranges state to end a b)

last_to : (lo more : ℕ) (ranges : List (ℕ × ℕ)) (state next end : ℕ) (b : Bool) → nat_le lo 1 ≡ b → state < next → next ≤ end
    → AllTo state end (last_or_next lo more ranges next end)
last_to lo zero ranges state next end b t l m = ranges_to ranges state end end (omega arith) (omega arith)
last_to lo (suc more) ranges state next end true t l m = rw t
    (all_append state end (with_ranges ranges end) (with_ranges ranges next) (ranges_to ranges state end end (omega arith) (omega arith)) (ranges_to ranges state next end l m))
last_to lo (suc more) ranges state next end false t l m = rw t (ranges_to ranges state next end l m)

inside_esc : (hi lo base end : ℕ) → base + 4 * hi ≤ end → Inside base end (esc_table lo hi base end)
inside_esc zero lo base end l = tt
inside_esc (suc more) lo base end l =
    let first = all_append base end (last_or_next lo more plain_ranges (base + 4) end) (edge 37 37 (base + 1) ∷ []) (last_to lo more plain_ranges base (base + 4) end (nat_le lo 1) refl (omega arith) (omega arith)) (omega arith, omega arith, tt) in
    let third = last_to lo more two_ranges (base + 1 + 1) (base + 4) end (nat_le lo 1) refl (omega arith) (omega arith) in
    let fourth = last_to lo more three_ranges (base + 1 + 1 + 1) (base + 4) end (nat_le lo 1) refl (omega arith) (omega arith) in
    let rest = inside_at (base + 1 + 1 + 1 + 1) (base + 4) end (esc_table (lo - 1) more (base + 4) end) (omega arith) (inside_esc more (lo - 1) (base + 4) end (omega arith)) in
    (first, ((omega arith, omega arith, (omega arith, omega arith, tt)), (third, (fourth, rest))))

-- each edge of the states of a code, which begin with this one, leads on
abbrev leads_on : ℕ → ℕ → Bool
leads_on k target = nat_le target 1 || (nat_lt (k + 2) target && nat_le target 24)

abbrev lead_on : ℕ → List (ℕ × ℕ) → Bool
lead_on k [] = true
lead_on k (row ∷ rows) = (leads_on k row.0 && leads_on k row.1) && lead_on (k + 1) rows

states_lead_on : lead_on 0 code_states ≡ true
unfolding code_states
states_lead_on = refl

code_edge_to : (k bit base next end target : ℕ) → leads_on k target ≡ true → k < 23 → base + 23 ≤ next → next ≤ end
    → AllTo (base + k) end (code_edge bit base next target)
code_edge_to k bit base next end zero t l m o = tt
code_edge_to k bit base next end (suc zero) t l m o = (omega arith, omega arith, tt)
code_edge_to k bit base next end (suc (suc n)) t l m o =
    let on : k + 2 < suc (suc n) = grind (arith, nat_tests) in
    let low : suc (suc n) ≤ 24 = grind (arith, nat_tests) in
    (omega arith, omega arith, tt)

inside_code : (rows : List (ℕ × ℕ)) (k base next end : ℕ) → lead_on k rows ≡ true → k + length rows ≤ 23 → base + 23 ≤ next → next ≤ end
    → Inside (base + k) end (code_block rows base next)
inside_code [] k base next end t l m o = tt
inside_code (row ∷ rows) k base next end t l m o =
    let place : base + k + 1 ≡ base + (k + 1) = omega arith in
    let here = and_parts (leads_on k row.0) (leads_on k row.1) (and_first (leads_on k row.0 && leads_on k row.1) (lead_on (k + 1) rows) t) in
    let others = and_second (leads_on k row.0 && leads_on k row.1) (lead_on (k + 1) rows) t in
    let zeros = code_edge_to k 0 base next end row.0 here.0 (omega arith) m o in
    let ones = code_edge_to k 1 base next end row.1 here.1 (omega arith) m o in
    (all_append (base + k) end (code_edge 0 base next row.0) (code_edge 1 base next row.1) zeros ones, inside_at (base + k + 1) (base + (k + 1)) end (code_block rows base next) place (inside_code rows (k + 1) base next end others (omega arith) m o))

root_row : (lo left base end chain : ℕ) → base + 24 + chain ≤ end → left ≤ chain + 7 * lo → 7 ≤ left → AllTo base end (root_edges lo left base end)
root_row zero left base end chain l m f = (omega arith, omega arith, (omega arith, omega arith, (omega arith, omega arith, tt)))
root_row (suc lo) left base end chain l m f = (omega arith, omega arith, (omega arith, omega arith, tt))

next_high : (more lo left base end chain : ℕ) → base + 24 * suc more + chain ≤ end → left ≤ chain + 7 * lo → lo ≤ suc more → 7 ≤ left
    → (base + 24 ≤ next_character more left base end) × (next_character more left base end ≤ end)
next_high zero lo left base end chain l m o f = (omega arith, omega arith)
next_high (suc more) lo left base end chain l m o f = (omega arith, omega arith)

inside_characters : (hi lo left base end chain : ℕ) → base + 24 * hi + chain ≤ end → left ≤ chain + 7 * lo → lo ≤ hi → 7 * hi ≤ left
    → Inside base end (characters_table lo hi left base end)
inside_characters zero lo left base end chain l m o f = tt
inside_characters (suc more) lo left base end chain l m o f =
    let next : ℕ = next_character more left base end in
    let high = next_high more lo left base end chain l m o (omega arith) in
    let above = high.0 in
    let states : List (List Edge) = code_block code_states (base + 1) next in
    let others : List (List Edge) = characters_table (lo - 1) more (left - 7) (base + 24) end in
    let count = length_code next (base + 1) in
    let few = count_states in
    let code = inside_at (base + 1) (base + 1 + 0) end states (omega arith) (inside_code code_states 0 (base + 1) next end states_lead_on (omega arith) (omega arith) high.1) in
    let rest = inside_at (base + 1 + length states) (base + 24) end others (omega arith) (inside_characters more (lo - 1) (left - 7) (base + 24) end chain (omega arith) (omega arith) (omega arith) (omega arith)) in
    (root_row lo left base end chain (omega arith) m (omega arith), inside_append (base + 1) end states others code rest)

inside_ascii : (lo hi bits base end : ℕ) → lo ≤ hi → 7 * hi ≤ bits → end ≡ base + 24 * hi + (bits - 7 * lo) → Inside base end (ascii_table lo hi bits base)
inside_ascii lo hi bits base end o f e =
    let count = length_characters hi lo bits base end in
    let front = inside_characters hi lo bits base end (bits - 7 * lo) (omega arith) (omega arith) o f in
    let tail = inside_at (base + length (characters_table lo hi bits base end)) (base + 24 * hi) end (run_table 0 0 (bits - 7 * lo) (base + 24 * hi)) (omega arith) (inside_run 0 0 (bits - 7 * lo) (base + 24 * hi) end (omega arith)) in
    let whole : Inside base end (characters_table lo hi bits base end ++ run_table 0 0 (bits - 7 * lo) (base + 24 * hi)) = inside_append base end (characters_table lo hi bits base end) (run_table 0 0 (bits - 7 * lo) (base + 24 * hi)) front tail in
    subst (λ (k : ℕ). Inside base end (characters_table lo hi bits base k ++ run_table 0 0 (bits - 7 * lo) (base + 24 * hi))) e whole

-- the facts that the bounds of items give
pub esc_bounds : (lo hi : ℕ) → IsItem (Esc lo hi) → (1 ≤ lo) × (lo ≤ hi)
esc_bounds lo hi h = (grind (arith, nat_tests), grind (arith, nat_tests))

pub ascii_bounds : (lo hi bits : ℕ) → IsItem (Ascii7 lo hi bits) → (1 ≤ lo) × (lo ≤ hi) × (7 * hi ≤ bits)
ascii_bounds lo hi bits h = (grind (arith, nat_tests), grind (arith, nat_tests), grind (arith, nat_tests))

pub inside_item : (item : Item) (base end : ℕ) → IsItem item → end ≡ base + item_states item → Inside base end (item_table item base)
inside_item (Lit literal) base end i e = inside_lit literal base end (omega arith)
inside_item (Pad n) base end i e = inside_run 48 57 n base end (omega arith)
inside_item (Digits lo hi) base end i e = let b = digits_bounds lo hi i in let x = b.0 in let y = b.1 in inside_digits lo hi base end y x (omega arith)
inside_item (Int greatest) base end i e = inside_numeral (digits_behind greatest) greatest base end (omega arith)
inside_item (Esc lo hi) base end i e =
    let same : end ≡ base + 4 * hi = e in
    subst (λ (k : ℕ). Inside base end (esc_table lo hi base k)) same (inside_esc hi lo base end (omega arith))
inside_item (NumPad bits n) base end i e = inside_bound bits (digits_greatest bits n) base end (omega arith)
inside_item (Num bits greatest) base end i e = inside_bound bits greatest base end (omega arith)
inside_item (NumStr bits hi) base end i e = inside_ones bits hi base end (omega arith)
inside_item (Ascii7 lo hi bits) base end i e = let b = ascii_bounds lo hi bits i in inside_ascii lo hi bits base end b.1 b.2 (omega arith)
inside_item (Fill a b) base end i e = let o = fill_bounds a b i in let x = o.1 in inside_fill a (b - a) base end (omega arith)

pub reads_item : (table : List (List Edge)) (item : Item) (base q : ℕ) → IsItem item → Has table base (item_table item base) → Ascends table
    → q ≡ base + item_states item → Reads table base q (IsWord item)
reads_item table (Lit literal) base q i h a e = reads_literal table literal base q h a e
reads_item table (Pad n) base q i h a e = reads_pad table n base q h a e
reads_item table (Digits lo hi) base q i h a e = let b = digits_bounds lo hi i in reads_digits table lo hi base q h a b.0 b.1 e
reads_item table (Int greatest) base q i h a e =
    let small = int_bounds greatest i in
    let some = decimal_nonempty greatest small in
    reads_int table greatest (digits_behind greatest) base q small (omega arith) h a (omega arith)
reads_item table (Esc lo hi) base q i h a e =
    let b = esc_bounds lo hi i in
    let same : base + 4 * hi ≡ q = sym e in
    let here : Has table base (esc_table lo hi base q) = subst (λ (k : ℕ). Has table base (esc_table lo hi base k)) same h in
    reads_esc table lo hi base q here a b.0 b.1 e
reads_item table (NumPad bits n) base q i h a e = reads_numpad table bits n base q h a e
reads_item table (Num bits greatest) base q i h a e = reads_num table bits greatest base q h a e
reads_item table (NumStr bits hi) base q i h a e = reads_numstr table bits hi base q (numstr_some bits hi i) h a e
reads_item table (Ascii7 lo hi bits) base q i h a e = let b = ascii_bounds lo hi bits i in reads_ascii table lo hi bits base q h a b.0 b.1 b.2 (omega arith)
reads_item table (Fill a b) base q i h asc e = let o = fill_bounds a b i in reads_filling table a b base q h asc o.0 o.1 e
