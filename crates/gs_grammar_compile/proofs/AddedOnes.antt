-- The states of digits after a 1, and of digits of variable length, that were added to a table.
use Rattle.std.proofs.Common.{◌≡◌, ℕ, ◌<◌, ◌≤◌, ◌+◌, ◌-◌, ◌^◌, List, ◌++◌, length, zero, suc, sym, ◌∙◌, ap, arith, length-append}
use Rattle.std.proofs.lemmas.List.{append_assoc, append-nil}
use Rattle.gs_ambig.specs.declared.machine.Edge.{Edge}
use Rattle.gs_grammar_compile.specs.Tables.{run_table}
use Rattle.gs_grammar_compile.specs.NumeralTables.{free_table, digits_table}
use Rattle.gs_grammar_compile.specs.OnesTables.{layer_states, lead_edges, leads_edges, count_rows, counts_rows, layer_rows, ones_table}
use Rattle.gs_grammar_compile.proofs.AddedRows.{run_count}
use Rattle.gs_grammar_compile.proofs.ReadsOnes.{layer_count}

leads_next : (n next count : ℕ) (row new all : List Edge) → row ++ leads_edges n next (suc count) ≡ all
    → new ≡ row ++ lead_edges n next (10 ^ suc count) (suc count) → new ++ leads_edges n next count ≡ all
leads_next n next count row new all h e =
    ap (λ (r : List Edge). r ++ leads_edges n next count) e ∙ append_assoc row (lead_edges n next (10 ^ suc count) (suc count)) (leads_edges n next count) ∙ h

pub leads_step : (n next count : ℕ) (row new all : List Edge) → 0 < count → row ++ leads_edges n next count ≡ all
    → new ≡ row ++ lead_edges n next (10 ^ count) count → new ++ leads_edges n next (count - 1) ≡ all
leads_step n next zero row new all l h e = absurd (omega arith)
leads_step n next (suc count) row new all l h e =
    let less : suc count - 1 ≡ count = omega arith in
    ap (λ (k : ℕ). new ++ leads_edges n next k) less ∙ leads_next n next count row new all h e

counts_next : (n next count more : ℕ) (whole new all : List (List Edge)) → whole ++ counts_rows n next count (suc more) ≡ all
    → new ≡ whole ++ count_rows n next (10 ^ count) count → new ++ counts_rows n next (count + 1) more ≡ all
counts_next n next count more whole new all h e =
    ap (λ (rows : List (List Edge)). rows ++ counts_rows n next (count + 1) more) e ∙ append_assoc whole
    (count_rows n next (10 ^ count) count) (counts_rows n next (count + 1) more) ∙ h

pub counts_step : (n next count hi : ℕ) (whole new all : List (List Edge)) → count ≤ hi
    → whole ++ counts_rows n next count (hi + 1 - count) ≡ all → new ≡ whole ++ count_rows n next (10 ^ count) count
    → new ++ counts_rows n next (count + 1) (hi + 1 - (count + 1)) ≡ all
counts_step n next count hi whole new all l h e =
    let more : hi + 1 - count ≡ suc (hi + 1 - (count + 1)) = omega arith in
    let here : whole ++ counts_rows n next count (suc (hi + 1 - (count + 1))) ≡ all = ap (λ (k : ℕ). whole ++ counts_rows n next count k) (sym more) ∙ h in
    counts_next n next count (hi + 1 - (count + 1)) whole new all here e

pub counts_end : (n next count hi : ℕ) (whole all : List (List Edge)) → hi < count → whole ++ counts_rows n next count (hi + 1 - count) ≡ all → whole ≡ all
counts_end n next count hi whole all l h =
    let none : hi + 1 - count ≡ 0 = omega arith in
    let here : whole ++ counts_rows n next count 0 ≡ all = ap (λ (k : ℕ). whole ++ counts_rows n next count k) (sym none) ∙ h in
    sym (append-nil whole) ∙ here

ones_next : (n hi next : ℕ) (whole new all : List (List Edge)) → whole ++ ones_table (suc n) hi (length whole) ≡ all
    → next ≡ length whole + layer_states hi → new ≡ whole ++ layer_rows n next hi → new ++ ones_table n hi (length new) ≡ all
ones_next n hi next whole new all h s e =
    let place : ℕ = length whole + layer_states hi in
    let rows : List (List Edge) = layer_rows n place hi in
    let first : new ≡ whole ++ rows = e ∙ ap (λ (k : ℕ). whole ++ layer_rows n k hi) s in
    let count = layer_count n place hi in
    let len : length new ≡ place = let x = ap length first in let y = length-append whole rows in omega arith in
    ap (λ (front : List (List Edge)). front ++ ones_table n hi (length new)) first
    ∙ append_assoc whole rows (ones_table n hi (length new))
    ∙ ap (λ (k : ℕ). whole ++ (rows ++ ones_table n hi k)) len
    ∙ h

pub ones_step : (left less hi next : ℕ) (whole new all : List (List Edge)) → 0 < left → less ≡ left - 1
    → whole ++ ones_table left hi (length whole) ≡ all → next ≡ length whole + layer_states hi → new ≡ whole ++ layer_rows less next hi
    → new ++ ones_table less hi (length new) ≡ all
ones_step left less hi next whole new all l s h p e =
    let same : left ≡ suc less = omega arith in
    ones_next less hi next whole new all (ap (λ (k : ℕ). whole ++ ones_table k hi (length whole)) (sym same) ∙ h) p e

-- digits of variable length

pub digits_added : (lo hi : ℕ) (table front new : List (List Edge)) → front ≡ table ++ run_table 48 57 (lo - 1) (length table)
    → new ≡ front ++ free_table (hi - (lo - 1)) (length front) → new ≡ table ++ digits_table lo hi (length table)
digits_added lo hi table front new e f =
    let run : List (List Edge) = run_table 48 57 (lo - 1) (length table) in
    let place : length front ≡ length table + (lo - 1) = let m = ap length e in let l = length-append table run in let c = run_count 48 57 (lo - 1) (length table) in omega arith in
    f
    ∙ ap (λ (k : ℕ). front ++ free_table (hi - (lo - 1)) k) place
    ∙ ap (λ (rows : List (List Edge)). rows ++ free_table (hi - (lo - 1)) (length table + (lo - 1))) e
    ∙ append_assoc table run (free_table (hi - (lo - 1)) (length table + (lo - 1)))
