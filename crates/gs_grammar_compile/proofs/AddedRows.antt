-- Rows that were added to a table one at a time.
use Rattle.std.proofs.Common.{◌≡◌, ℕ, ◌<◌, ◌+◌, ◌-◌, List, [], ◌∷◌, ◌++◌, length, zero, suc, Result, Ok, Err, IfOk, refl, sym, ◌∙◌, ap, arith, length-append, ◌≤◌, drop, get_or}
use Rattle.std.proofs.lemmas.List.{append_assoc, append-nil, drop_more, drop_all}
use Rattle.gs_ambig.specs.declared.machine.Edge.{Edge}
use Rattle.gs_grammar_compile.specs.EscapeTables.{with_ranges}
use Rattle.gs_grammar_compile.specs.Tables.{edge, lit_table, run_table, fill_table, lower_state, bound_rest, bound_edges, bound_table}

pub one_more : (whole new : List (List Edge)) (row : List Edge) → new ≡ whole ++ row ∷ [] → length new ≡ length whole + 1
one_more whole new row e = let m = ap length e in let l = length-append whole (row ∷ []) in omega arith

-- one row more, before the rows to come
pub next_row : (whole new rest : List (List Edge)) (row : List Edge) → new ≡ whole ++ row ∷ [] → new ++ rest ≡ whole ++ row ∷ rest
next_row whole new rest row e = ap (λ (rows : List (List Edge)). rows ++ rest) e ∙ append_assoc whole (row ∷ []) rest

pub run_step : (lo hi count place : ℕ) (whole new all : List (List Edge)) → place < count
    → whole ++ run_table lo hi (count - place) (length whole) ≡ all → new ≡ whole ++ (edge lo hi (length whole + 1) ∷ []) ∷ []
    → new ++ run_table lo hi (count - (place + 1)) (length new) ≡ all
run_step lo hi count place whole new all l h e =
    let len = one_more whole new (edge lo hi (length whole + 1) ∷ []) e in
    let n : count - place ≡ suc (count - (place + 1)) = omega arith in
    let k : ℕ = count - (place + 1) in
    next_row whole new (run_table lo hi k (length new)) (edge lo hi (length whole + 1) ∷ []) e
    ∙ ap (λ (b : ℕ). whole ++ (edge lo hi (length whole + 1) ∷ []) ∷ run_table lo hi k b) len
    ∙ ap (λ (m : ℕ). whole ++ run_table lo hi m (length whole)) (sym n)
    ∙ h

-- the edges of one range more, before those that are still to come
pub ranges_step : (ranges : List (ℕ × ℕ)) (to place : ℕ) (range d : ℕ × ℕ) (row new all : List Edge) → place < length ranges
    → range ≡ get_or ranges place d → row ++ with_ranges (drop place ranges) to ≡ all → new ≡ row ++ edge range.0 range.1 to ∷ []
    → new ++ with_ranges (drop (place + 1) ranges) to ≡ all
ranges_step ranges to place range d row new all l e h m =
    let here : drop place ranges ≡ range ∷ drop (place + 1) ranges = rw e (drop_more ranges place d l) in
    let front : row ++ edge range.0 range.1 to ∷ with_ranges (drop (place + 1) ranges) to ≡ all = rw here at h in
    rw m (append_assoc row (edge range.0 range.1 to ∷ []) (with_ranges (drop (place + 1) ranges) to) ∙ front)

pub ranges_end : (ranges : List (ℕ × ℕ)) (to place : ℕ) (row all : List Edge) → length ranges ≤ place
    → row ++ with_ranges (drop place ranges) to ≡ all → row ≡ all
ranges_end ranges to place row all l h =
    let none : drop place ranges ≡ [] = drop_all place ranges l in
    let whole : row ++ [] ≡ all = rw none at h in
    sym (append-nil row) ∙ whole

-- the state of one symbol more, before those that are still to come
pub literal_step : (symbols : List ℕ) (place : ℕ) (whole new all : List (List Edge)) → place < length symbols
    → whole ++ lit_table (drop place symbols) (length whole) ≡ all
    → new ≡ whole ++ (edge (get_or symbols place 0) (get_or symbols place 0) (length whole + 1) ∷ []) ∷ []
    → new ++ lit_table (drop (place + 1) symbols) (length new) ≡ all
literal_step symbols place whole new all l h e =
    let row : List Edge = edge (get_or symbols place 0) (get_or symbols place 0) (length whole + 1) ∷ [] in
    let len = one_more whole new row e in
    let front : whole ++ row ∷ lit_table (drop (place + 1) symbols) (length whole + 1) ≡ all = rw (drop_more symbols place 0 l) at h in
    next_row whole new (lit_table (drop (place + 1) symbols) (length new)) row e
    ∙ ap (λ (b : ℕ). whole ++ row ∷ lit_table (drop (place + 1) symbols) b) len
    ∙ front

pub literal_end : (symbols : List ℕ) (place : ℕ) (whole all : List (List Edge)) → length symbols ≤ place
    → whole ++ lit_table (drop place symbols) (length whole) ≡ all → whole ≡ all
literal_end symbols place whole all l h =
    let none : whole ++ [] ≡ all = rw (drop_all place symbols l) at h in
    sym (append-nil whole) ∙ none

-- fillings

fill_same : (n base : ℕ) → fill_table n 0 base ≡ run_table 0 0 n base
fill_same zero base = refl
fill_same (suc zero) base = refl
fill_same (suc (suc n)) base = ap (λ (rows : List (List Edge)). (edge 0 0 (base + 1) ∷ []) ∷ rows) (fill_same (suc n) (base + 1))

abbrev fork_row : ℕ → ℕ → List Edge
fork_row place more = edge 0 0 (place + 1) ∷ edge 0 0 (place + 1 + more) ∷ []

fill_parts : (n more base place : ℕ) → place ≡ base + n
    → fill_table (suc n) (suc more) base ≡ run_table 0 0 n base ++ fork_row place (suc more) ∷ run_table 0 0 (suc more) (place + 1)
fill_parts zero more base place e = let same : place ≡ base = omega arith in rw same refl
fill_parts (suc n) more base place e = ap (λ (rows : List (List Edge)). (edge 0 0 (base + 1) ∷ []) ∷ rows) (fill_parts n more (base + 1) place (omega arith))

pub run_count : (lo hi n base : ℕ) → length (run_table lo hi n base) ≡ n
run_count lo hi zero base = refl
run_count lo hi (suc n) base = ap suc (run_count lo hi n (base + 1))

pub fill_equal : (least most : ℕ) (table new : List (List Edge)) → least ≡ most → new ≡ table ++ run_table 0 0 least (length table)
    → new ≡ table ++ fill_table least (most - least) (length table)
fill_equal least most table new same e =
    let none : most - least ≡ 0 = omega arith in
    e ∙ ap (λ (rows : List (List Edge)). table ++ rows) (sym (fill_same least (length table)) ∙ ap (λ (k : ℕ). fill_table least k (length table)) (sym none))

fill_whole : (n more : ℕ) (table front forked new : List (List Edge)) → front ≡ table ++ run_table 0 0 n (length table)
    → forked ≡ front ++ fork_row (length front) (suc more) ∷ [] → new ≡ forked ++ run_table 0 0 (suc more) (length forked)
    → new ≡ table ++ fill_table (suc n) (suc more) (length table)
fill_whole n more table front forked new e f g =
    let place : length front ≡ length table + n = let m = ap length e in let l = length-append table (run_table 0 0 n (length table)) in let c = run_count 0 0 n (length table) in omega arith in
    let after = one_more front forked (fork_row (length front) (suc more)) f in
    let parts = fill_parts n more (length table) (length front) place in
    g
    ∙ next_row front forked (run_table 0 0 (suc more) (length forked)) (fork_row (length front) (suc more)) f
    ∙ ap (λ (b : ℕ). front ++ fork_row (length front) (suc more) ∷ run_table 0 0 (suc more) b) after
    ∙ ap (λ (rows : List (List Edge)). rows ++ fork_row (length front) (suc more) ∷ run_table 0 0 (suc more) (length front + 1)) e
    ∙ append_assoc table (run_table 0 0 n (length table)) (fork_row (length front) (suc more) ∷ run_table 0 0 (suc more) (length front + 1))
    ∙ ap (λ (rows : List (List Edge)). table ++ rows) (sym parts)

pub fill_added : (least most : ℕ) (table front forked new : List (List Edge)) → 0 < least → least < most
    → front ≡ table ++ run_table 0 0 (least - 1) (length table) → forked ≡ front ++ fork_row (length front) (most - least) ∷ []
    → new ≡ forked ++ run_table 0 0 (most - least) (length forked) → new ≡ table ++ fill_table least (most - least) (length table)
fill_added zero most table front forked new l m e f g = absurd (omega arith)
fill_added (suc n) most table front forked new l m e f g =
    let less : suc n - 1 ≡ n = omega arith in
    let more : most - suc n ≡ suc (most - suc n - 1) = omega arith in
    let a : front ≡ table ++ run_table 0 0 n (length table) = rw less at e in
    let b : forked ≡ front ++ fork_row (length front) (suc (most - suc n - 1)) ∷ [] = f ∙ ap (λ (k : ℕ). front ++ fork_row (length front) k ∷ []) more in
    let c : new ≡ forked ++ run_table 0 0 (suc (most - suc n - 1)) (length forked) = g ∙ ap (λ (k : ℕ). forked ++ run_table 0 0 k (length forked)) more in
    fill_whole n (most - suc n - 1) table front forked new a b c ∙ ap (λ (k : ℕ). table ++ fill_table (suc n) k (length table)) (sym more)

-- bounded numbers

bound_two : (n greatest : ℕ) (whole once twice all : List (List Edge)) → whole ++ bound_table (suc n) greatest (length whole) ≡ all
    → once ≡ whole ++ bound_edges n greatest (length whole + 2) ∷ []
    → twice ≡ once ++ (edge 0 1 (lower_state n (length once + 1)) ∷ []) ∷ []
    → twice ++ bound_table n (bound_rest n greatest) (length twice) ≡ all
bound_two n greatest whole once twice all h e f =
    let a = one_more whole once (bound_edges n greatest (length whole + 2)) e in
    let b = one_more once twice (edge 0 1 (lower_state n (length once + 1)) ∷ []) f in
    let place : length once + 1 ≡ length whole + 2 = omega arith in
    let after : length twice ≡ length whole + 2 = omega arith in
    next_row once twice (bound_table n (bound_rest n greatest) (length twice)) (edge 0 1 (lower_state n (length once + 1)) ∷ []) f
    ∙ next_row whole once ((edge 0 1 (lower_state n (length once + 1)) ∷ []) ∷ bound_table n (bound_rest n greatest) (length twice))
    (bound_edges n greatest (length whole + 2)) e
    ∙ ap (λ (p : ℕ). whole ++ bound_edges n greatest (length whole + 2) ∷ (edge 0 1 (lower_state n p) ∷ []) ∷ bound_table n (bound_rest n greatest) (length twice)) place
    ∙ ap (λ (p : ℕ). whole ++ bound_edges n greatest (length whole + 2) ∷ (edge 0 1 (lower_state n (length whole + 2)) ∷ []) ∷ bound_table n (bound_rest n greatest) p) after
    ∙ h

pub bound_step : (left less greatest rest : ℕ) (whole once twice all : List (List Edge)) → 0 < left → less ≡ left - 1
    → whole ++ bound_table left greatest (length whole) ≡ all → once ≡ whole ++ bound_edges less greatest (length whole + 2) ∷ []
    → twice ≡ once ++ (edge 0 1 (lower_state less (length once + 1)) ∷ []) ∷ [] → rest ≡ bound_rest less greatest
    → twice ++ bound_table less rest (length twice) ≡ all
bound_step left less greatest rest whole once twice all l s h e f g =
    let same : left ≡ suc less = omega arith in
    let here : whole ++ bound_table (suc less) greatest (length whole) ≡ all = ap (λ (k : ℕ). whole ++ bound_table k greatest (length whole)) (sym same) ∙ h in
    ap (λ (k : ℕ). twice ++ bound_table less k (length twice)) g ∙ bound_two less greatest whole once twice all here e f

-- an implication between facts carries over to `Ok` answers
pub ok_follows : {X E : Type 0} (P Q : X → Type 0) → ((x : X) → P x → Q x) → (r : Result X E) → IfOk r P → IfOk r Q
ok_follows P Q f (Ok x) h = f x h
ok_follows P Q f (Err e) h = tt
