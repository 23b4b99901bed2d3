-- The states of characters that were added to a table.
use Rattle.std.proofs.Common.{◌≡◌, ℕ, ◌<◌, ◌≤◌, ◌+◌, ◌-◌, ◌*◌, List, [], ◌∷◌, ◌++◌, length, get_or, drop, zero, suc, refl, sym, ◌∙◌, ap, arith, length-append}
use Rattle.std.proofs.lemmas.List.{append_assoc, append-nil, drop_more, drop_all}
use Rattle.gs_ambig.specs.declared.machine.Edge.{Edge}
use Rattle.gs_grammar_compile.specs.Tables.{edge, run_table}
use Rattle.gs_grammar_compile.specs.EscapeTables.{plain_ranges, two_ranges, three_ranges, last_or_next, esc_table}
use Rattle.gs_grammar_compile.specs.CodeTables.{code_target, code_edge, code_row, code_block, code_states, root_edges, next_character, code_rows, characters_table, ascii_table}
use Rattle.gs_grammar_compile.proofs.AddedRows.{one_more, next_row}
use Rattle.gs_grammar_compile.proofs.PackedTexts.{length_characters, length_code}

-- the four states of a character

four_more : (whole new : List (List Edge)) (a b c d : List Edge) → new ≡ whole ++ a ∷ b ∷ c ∷ d ∷ [] → length new ≡ length whole + 4
four_more whole new a b c d e = let m = ap length e in let l = length-append whole (a ∷ b ∷ c ∷ d ∷ []) in omega arith

next_four : (whole new rest : List (List Edge)) (a b c d : List Edge) → new ≡ whole ++ a ∷ b ∷ c ∷ d ∷ [] → new ++ rest ≡ whole ++ a ∷ b ∷ c ∷ d ∷ rest
next_four whole new rest a b c d e = ap (λ (rows : List (List Edge)). rows ++ rest) e ∙ append_assoc whole (a ∷ b ∷ c ∷ d ∷ []) rest

abbrev front_of : ℕ → ℕ → ℕ → ℕ → List Edge
front_of lo more base end = last_or_next lo more plain_ranges (base + 4) end ++ edge 37 37 (base + 1) ∷ []

abbrev percent_of : ℕ → List Edge
percent_of base = edge 50 50 (base + 2) ∷ edge 51 51 (base + 3) ∷ []

character_next : (lo more end : ℕ) (whole new all : List (List Edge)) → whole ++ esc_table lo (suc more) (length whole) end ≡ all
    → new ≡ whole ++ front_of lo more (length whole) end ∷ percent_of (length whole) ∷ last_or_next lo more two_ranges (length whole + 4) end ∷ last_or_next lo more three_ranges (length whole + 4) end ∷ []
    → new ++ esc_table (lo - 1) more (length new) end ≡ all
character_next lo more end whole new all h e =
    let a : List Edge = front_of lo more (length whole) end in
    let b : List Edge = percent_of (length whole) in
    let c : List Edge = last_or_next lo more two_ranges (length whole + 4) end in
    let d : List Edge = last_or_next lo more three_ranges (length whole + 4) end in
    let len = four_more whole new a b c d e in
    next_four whole new (esc_table (lo - 1) more (length new) end) a b c d e ∙ ap (λ (k : ℕ). whole ++ a ∷ b ∷ c ∷ d ∷ esc_table (lo - 1) more k end) len ∙ h

pub character_step : (lo less left fewer end : ℕ) (whole new all : List (List Edge)) → 0 < left → fewer ≡ left - 1 → less ≡ lo - 1
    → whole ++ esc_table lo left (length whole) end ≡ all
    → new ≡ whole ++ front_of lo fewer (length whole) end ∷ percent_of (length whole) ∷ last_or_next lo fewer two_ranges (length whole + 4) end ∷ last_or_next lo fewer three_ranges (length whole + 4) end ∷ []
    → new ++ esc_table less fewer (length new) end ≡ all
character_step lo less left fewer end whole new all l s m h e =
    let same : left ≡ suc fewer = omega arith in
    ap (λ (k : ℕ). new ++ esc_table k fewer (length new) end) m ∙ character_next lo fewer end whole new all
    (ap (λ (k : ℕ). whole ++ esc_table lo k (length whole) end) (sym same) ∙ h) e

pub four_rows : (table one two three new : List (List Edge)) (a b c d : List Edge) → one ≡ table ++ a ∷ [] → two ≡ one ++ b ∷ []
    → three ≡ two ++ c ∷ [] → new ≡ three ++ d ∷ [] → new ≡ table ++ a ∷ b ∷ c ∷ d ∷ []
four_rows table one two three new a b c d e f g h =
    h ∙ next_row two three (d ∷ []) c g ∙ next_row one two (c ∷ d ∷ []) b f ∙ next_row table one (b ∷ c ∷ d ∷ []) a e

pub character_rows : (lo more n base next end : ℕ) (table new : List (List Edge)) (a c d : List Edge) → n ≡ length table → base ≡ n
    → next ≡ n + 4 → a ≡ last_or_next lo more plain_ranges next end ++ edge 37 37 (base + 1) ∷ []
    → c ≡ last_or_next lo more two_ranges next end → d ≡ last_or_next lo more three_ranges next end
    → new ≡ table ++ a ∷ percent_of base ∷ c ∷ d ∷ []
    → new ≡ table ++ front_of lo more (length table) end ∷ percent_of (length table) ∷ last_or_next lo more two_ranges (length table + 4) end ∷ last_or_next lo more three_ranges (length table + 4) end ∷ []
character_rows lo more n base next end table new a c d m b x e f g h =
    let base_is : base ≡ length table = b ∙ m in
    let next_is : next ≡ length table + 4 = omega arith in
    let first : a ≡ front_of lo more (length table) end = e ∙ ap (λ (k : ℕ). last_or_next lo more plain_ranges k end ++ edge 37 37 (base + 1) ∷ []) next_is ∙ ap (λ (k : ℕ). last_or_next lo more plain_ranges (length table + 4) end ++ edge 37 37 (k + 1) ∷ []) base_is in
    let second : percent_of base ≡ percent_of (length table) = ap (λ (k : ℕ). percent_of k) base_is in
    let third : c ≡ last_or_next lo more two_ranges (length table + 4) end = f ∙ ap (λ (k : ℕ). last_or_next lo more two_ranges k end) next_is in
    let fourth : d ≡ last_or_next lo more three_ranges (length table + 4) end = g ∙ ap (λ (k : ℕ). last_or_next lo more three_ranges k end) next_is in
    h
    ∙ ap (λ (r : List Edge). table ++ r ∷ percent_of base ∷ c ∷ d ∷ []) first
    ∙ ap (λ (r : List Edge). table ++ front_of lo more (length table) end ∷ r ∷ c ∷ d ∷ []) second
    ∙ ap (λ (r : List Edge). table ++ front_of lo more (length table) end ∷ percent_of (length table) ∷ r ∷ d ∷ []) third
    ∙ ap (λ (r : List Edge). table ++ front_of lo more (length table) end ∷ percent_of (length table) ∷ last_or_next lo more two_ranges (length table + 4) end ∷ r ∷ []) fourth

-- packed characters

-- an edge that is there
pub some_edge : (bit base next target to : ℕ) → 0 < target → to ≡ code_target target base next → edge bit bit to ∷ [] ≡ code_edge bit base next target
some_edge bit base next zero to l e = absurd (omega arith)
some_edge bit base next (suc zero) to l e = ap (λ (k : ℕ). edge bit bit k ∷ []) e
some_edge bit base next (suc (suc n)) to l e = ap (λ (k : ℕ). edge bit bit k ∷ []) e

pub no_edge : (bit base next target : ℕ) → target ≡ 0 → [] ≡ code_edge bit base next target
no_edge bit base next zero e = refl
no_edge bit base next (suc n) e = absurd (omega arith)

pub no_zero : (base next zeros ones : ℕ) → zeros ≡ 0 → code_edge 1 base next ones ≡ code_row base next (zeros, ones)
no_zero base next zeros ones e = ap (λ (row : List Edge). row ++ code_edge 1 base next ones) (no_edge 0 base next zeros e)

pub no_one : (base next zeros ones : ℕ) → ones ≡ 0 → code_edge 0 base next zeros ≡ code_row base next (zeros, ones)
no_one base next zeros ones e = sym (append-nil (code_edge 0 base next zeros)) ∙ ap
    (λ (row : List Edge). code_edge 0 base next zeros ++ row) (no_edge 1 base next ones e)

pub two_edges : (base next zeros ones low high : ℕ) → 0 < zeros → 0 < ones → low ≡ code_target zeros base next
    → high ≡ code_target ones base next → edge 0 0 low ∷ edge 1 1 high ∷ [] ≡ code_row base next (zeros, ones)
two_edges base next zeros ones low high l m e f =
    ap (λ (row : List Edge). row ++ edge 1 1 high ∷ []) (some_edge 0 base next zeros low l e) ∙ ap
    (λ (row : List Edge). code_edge 0 base next zeros ++ row) (some_edge 1 base next ones high m f)

-- a row that was added, in other words
pub row_is : (table new : List (List Edge)) (row other : List Edge) → new ≡ table ++ row ∷ [] → row ≡ other → new ≡ table ++ other ∷ []
row_is table new row other e f = e ∙ ap (λ (x : List Edge). table ++ x ∷ []) f

-- the state of one pair of targets more, before those that are still to come
pub block_step : (rows : List (ℕ × ℕ)) (place base next : ℕ) (targets d : ℕ × ℕ) (whole new all : List (List Edge)) → place < length rows
    → targets ≡ get_or rows place d → whole ++ code_block (drop place rows) base next ≡ all → new ≡ whole ++ code_row base next targets ∷ []
    → new ++ code_block (drop (place + 1) rows) base next ≡ all
block_step rows place base next targets d whole new all l e h m =
    let here : drop place rows ≡ targets ∷ drop (place + 1) rows = rw e (drop_more rows place d l) in
    let front : whole ++ code_row base next targets ∷ code_block (drop (place + 1) rows) base next ≡ all = rw here at h in
    next_row whole new (code_block (drop (place + 1) rows) base next) (code_row base next targets) m ∙ front

pub block_end : (rows : List (ℕ × ℕ)) (place base next : ℕ) (whole all : List (List Edge)) → length rows ≤ place
    → whole ++ code_block (drop place rows) base next ≡ all → whole ≡ all
block_end rows place base next whole all l h =
    let none : drop place rows ≡ [] = drop_all place rows l in
    let end : whole ++ [] ≡ all = rw none at h in
    sym (append-nil whole) ∙ end

pub code_added : (base next end lo more left : ℕ) (table root new : List (List Edge)) → base ≡ length table
    → next ≡ next_character more left base end → root ≡ table ++ root_edges lo left base end ∷ []
    → new ≡ root ++ code_block code_states (length root) next → new ≡ table ++ code_rows lo more left (length table) end
code_added base next end lo more left table root new b n e f =
    let len = one_more table root (root_edges lo left base end) e in
    let place : length root ≡ base + 1 = omega arith in
    f
    ∙ ap (λ (k : ℕ). root ++ code_block code_states k next) place
    ∙ next_row table root (code_block code_states (base + 1) next) (root_edges lo left base end) e
    ∙ ap (λ (k : ℕ). table ++ root_edges lo left base end ∷ code_block code_states (base + 1) k) n
    ∙ ap (λ (k : ℕ). table ++ code_rows lo more left k end) b

code_count : (lo more left base end : ℕ) → length (code_rows lo more left base end) ≡ 24
code_count lo more left base end = ap suc (length_code (next_character more left base end) (base + 1))

codes_next : (lo more left end : ℕ) (whole new all : List (List Edge))
    → whole ++ characters_table lo (suc more) left (length whole) end ≡ all → new ≡ whole ++ code_rows lo more left (length whole) end
    → new ++ characters_table (lo - 1) more (left - 7) (length new) end ≡ all
codes_next lo more left end whole new all h e =
    let rows : List (List Edge) = code_rows lo more left (length whole) end in
    let count = code_count lo more left (length whole) end in
    let len : length new ≡ length whole + 24 = let x = ap length e in let y = length-append whole rows in omega arith in
    ap (λ (front : List (List Edge)). front ++ characters_table (lo - 1) more (left - 7) (length new) end) e
    ∙ append_assoc whole rows (characters_table (lo - 1) more (left - 7) (length new) end)
    ∙ ap (λ (k : ℕ). whole ++ (rows ++ characters_table (lo - 1) more (left - 7) k end)) len
    ∙ h

pub codes_step : (lo less left more fewer end : ℕ) (whole new all : List (List Edge)) → 0 < more → fewer ≡ more - 1 → less ≡ lo - 1
    → whole ++ characters_table lo more left (length whole) end ≡ all → new ≡ whole ++ code_rows lo fewer left (length whole) end
    → new ++ characters_table less fewer (left - 7) (length new) end ≡ all
codes_step lo less left more fewer end whole new all l s m h e =
    let same : more ≡ suc fewer = omega arith in
    ap (λ (k : ℕ). new ++ characters_table k fewer (left - 7) (length new) end) m ∙ codes_next lo fewer left end whole new all
    (ap (λ (k : ℕ). whole ++ characters_table lo k left (length whole) end) (sym same) ∙ h) e

pub ascii_added : (lo hi bits zeros end : ℕ) (table front new : List (List Edge)) → zeros ≡ bits - 7 * lo
    → end ≡ length table + (24 * hi + zeros) → front ≡ table ++ characters_table lo hi bits (length table) end
    → new ≡ front ++ run_table 0 0 zeros (length front) → new ≡ table ++ ascii_table lo hi bits (length table)
ascii_added lo hi bits zeros end table front new z e f g =
    let rows : List (List Edge) = characters_table lo hi bits (length table) end in
    let count = length_characters hi lo bits (length table) end in
    let len : length front ≡ length table + 24 * hi = let x = ap length f in let y = length-append table rows in omega arith in
    let place : end ≡ length table + 24 * hi + (bits - 7 * lo) = omega arith in
    g
    ∙ ap (λ (k : ℕ). front ++ run_table 0 0 zeros k) len
    ∙ ap (λ (k : ℕ). front ++ run_table 0 0 k (length table + 24 * hi)) z
    ∙ ap (λ (r : List (List Edge)). r ++ run_table 0 0 (bits - 7 * lo) (length table + 24 * hi)) f
    ∙ append_assoc table rows (run_table 0 0 (bits - 7 * lo) (length table + 24 * hi))
    ∙ ap (λ (k : ℕ). table ++ (characters_table lo hi bits (length table) k ++ run_table 0 0 (bits - 7 * lo) (length table + 24 * hi))) place

pub ascii_at : (lo hi bits l m w end : ℕ) (table front new : List (List Edge)) → l ≡ lo → m ≡ hi → w ≡ bits
    → end ≡ length table + (24 * m + (w - 7 * l)) → front ≡ table ++ characters_table l m w (length table) end
    → new ≡ front ++ run_table 0 0 (w - 7 * l) (length front) → new ≡ table ++ ascii_table lo hi bits (length table)
ascii_at lo hi bits l m w end table front new a b c e f g =
    ascii_added l m w (w - 7 * l) end table front new refl e f g
    ∙ ap (λ (k : ℕ). table ++ ascii_table k m w (length table)) a
    ∙ ap (λ (k : ℕ). table ++ ascii_table lo k w (length table)) b
    ∙ ap (λ (k : ℕ). table ++ ascii_table lo hi k (length table)) c
