-- The states of decimal texts that were added to a table.
use Rattle.std.proofs.Common.{◌≡◌, ℕ, ◌<◌, ◌≤◌, ◌+◌, ◌-◌, ◌/◌, ◌%◌, ◌^◌, List, [], ◌∷◌, ◌++◌, length, suc, sym, ◌∙◌, ap, arith, length-append, decimal}
use Rattle.std.proofs.lemmas.List.{append_assoc}
use Rattle.std.proofs.Math.Nat.{one-le-pow}
use Rattle.std.proofs.lemmas.Fmt.{decimal_nonempty}
use Rattle.gs_grammar.specs.declared.item.Item.{Item}
use Rattle.gs_grammar.specs.declared.item.Item.TheVariants.{Int}
use Rattle.gs_ambig.specs.declared.machine.Edge.{Edge}
use Rattle.gs_grammar_compile.specs.ItemTables.{item_table}
use Rattle.gs_grammar_compile.specs.NumeralTables.{free_edges, free_table, tight_edges, tight_table, numeral_table}
use Rattle.gs_grammar_compile.proofs.AddedRows.{one_more, next_row}
use Rattle.gs_grammar_compile.proofs.DecimalTexts.{length_tight, digit_small, rest_small, text_high}

free_next : (n : ℕ) (whole new all : List (List Edge)) → whole ++ free_table (suc n) (length whole) ≡ all
    → new ≡ whole ++ free_edges n (length whole) ∷ [] → new ++ free_table n (length new) ≡ all
free_next n whole new all h e =
    let len = one_more whole new (free_edges n (length whole)) e in
    next_row whole new (free_table n (length new)) (free_edges n (length whole)) e ∙ ap
    (λ (b : ℕ). whole ++ free_edges n (length whole) ∷ free_table n b) len ∙ h

pub free_step : (left less : ℕ) (whole new all : List (List Edge)) → 0 < left → less ≡ left - 1
    → whole ++ free_table left (length whole) ≡ all → new ≡ whole ++ free_edges less (length whole) ∷ []
    → new ++ free_table less (length new) ≡ all
free_step left less whole new all l s h e =
    let same : left ≡ suc less = omega arith in
    free_next less whole new all (ap (λ (k : ℕ). whole ++ free_table k (length whole)) (sym same) ∙ h) e

tight_next : (n number end : ℕ) (whole new all : List (List Edge)) → whole ++ tight_table (suc n) number (length whole) end ≡ all
    → new ≡ whole ++ tight_edges 48 n (number / 10 ^ n) (length whole + 1) end ∷ []
    → new ++ tight_table n (number % 10 ^ n) (length new) end ≡ all
tight_next n number end whole new all h e =
    let len = one_more whole new (tight_edges 48 n (number / 10 ^ n) (length whole + 1) end) e in
    next_row whole new (tight_table n (number % 10 ^ n) (length new) end) (tight_edges 48 n (number / 10 ^ n) (length whole + 1) end) e
    ∙ ap (λ (b : ℕ). whole ++ tight_edges 48 n (number / 10 ^ n) (length whole + 1) end ∷ tight_table n (number % 10 ^ n) b end) len
    ∙ h

pub tight_step : (left less number power end : ℕ) (whole new all : List (List Edge)) → 0 < left → less ≡ left - 1 → power ≡ 10 ^ less
    → whole ++ tight_table left number (length whole) end ≡ all
    → new ≡ whole ++ tight_edges 48 less (number / power) (length whole + 1) end ∷ []
    → new ++ tight_table less (number % power) (length new) end ≡ all
tight_step left less number power end whole new all l s p h e =
    let same : left ≡ suc less = omega arith in
    let here : new ≡ whole ++ tight_edges 48 less (number / 10 ^ less) (length whole + 1) end ∷ [] = e ∙ ap (λ (k : ℕ). whole ++ tight_edges 48 less (number / k) (length whole + 1) end ∷ []) p in
    ap (λ (k : ℕ). new ++ tight_table less (number % k) (length new) end) p ∙ tight_next less number end whole new all
    (ap (λ (k : ℕ). whole ++ tight_table k number (length whole) end) (sym same) ∙ h) here

pub some_power : (power n : ℕ) → power ≡ 10 ^ n → 0 < power
some_power power n e = let p = one-le-pow n 10 (omega arith) in omega arith

pub next_digit : (left less number power : ℕ) → 0 < left → less ≡ left - 1 → power ≡ 10 ^ less → number < 10 ^ left → number / power ≤ 9
next_digit left less number power l s p h =
    let same : left ≡ suc less = omega arith in
    let small : number < 10 ^ suc less = rw same at h in
    let d = digit_small less number small in
    rw p d

pub next_rest : (less number power : ℕ) → power ≡ 10 ^ less → number % power < 10 ^ less
next_rest less number power p = let r = rest_small less number in rw p r

pub first_digit_small : (greatest behind power : ℕ) → greatest < 2 ^ 64 → behind + 1 ≡ length (decimal greatest) → power ≡ 10 ^ behind → greatest / power ≤ 9
first_digit_small greatest behind power small l p =
    let count : length (decimal greatest) ≡ suc behind = omega arith in
    let high = text_high greatest behind small count in
    let d = digit_small behind greatest high in
    rw p d

pub numeral_added : (greatest behind power end n : ℕ) (table first tight new : List (List Edge)) → behind + 1 ≡ length (decimal greatest)
    → power ≡ 10 ^ behind → end ≡ length table + (1 + behind + behind)
    → first ≡ table ++ tight_edges 49 behind (greatest / power) (length table + 1) end ∷ []
    → tight ≡ first ++ tight_table behind (greatest % power) (length first) end → new ≡ tight ++ free_table behind (length tight)
    → n + 1 ≡ length (decimal greatest) → new ≡ table ++ numeral_table n greatest (length table)
numeral_added greatest behind power end n table first tight new l p e f g h m =
    let same : behind ≡ n = omega arith in
    let place : end ≡ length table + 1 + behind + behind = omega arith in
    let len = one_more table first (tight_edges 49 behind (greatest / power) (length table + 1) end) f in
    let t : List (List Edge) = tight_table behind (greatest % power) (length first) end in
    let count = length_tight behind (greatest % power) (length first) end in
    let after : length tight ≡ length table + 1 + behind = let x = ap length g in let y = length-append first t in omega arith in
    h
    ∙ ap (λ (b : ℕ). tight ++ free_table behind b) after
    ∙ ap (λ (rows : List (List Edge)). rows ++ free_table behind (length table + 1 + behind)) g
    ∙ append_assoc first t (free_table behind (length table + 1 + behind))
    ∙ next_row table first (t ++ free_table behind (length table + 1 + behind)) (tight_edges 49 behind (greatest / power) (length table + 1) end) f
    ∙ ap (λ (b : ℕ). table ++ tight_edges 49 behind (greatest / power) (length table + 1) end ∷ (tight_table behind (greatest % power) b end ++ free_table behind (length table + 1 + behind))) len
    ∙ ap (λ (k : ℕ). table ++ tight_edges 49 behind (greatest / k) (length table + 1) end ∷ (tight_table behind (greatest % k) (length table + 1) end ++ free_table behind (length table + 1 + behind))) p
    ∙ ap (λ (k : ℕ). table ++ tight_edges 49 behind (greatest / 10 ^ behind) (length table + 1) k ∷ (tight_table behind (greatest % 10 ^ behind) (length table + 1) k ++ free_table behind (length table + 1 + behind))) place
    ∙ ap (λ (k : ℕ). table ++ numeral_table k greatest (length table)) same

pub int_added : (item : Item) (greatest : ℕ) (table new : List (List Edge)) → item ≡ Int greatest → greatest < 2 ^ 64
    → ((n : ℕ) → n + 1 ≡ length (decimal greatest) → new ≡ table ++ numeral_table n greatest (length table))
    → new ≡ table ++ item_table item (length table)
int_added item greatest table new i small h =
    let some = decimal_nonempty greatest small in
    let here : new ≡ table ++ item_table (Int greatest) (length table) = h (length (decimal greatest) - 1) (omega arith) in
    rw i here
