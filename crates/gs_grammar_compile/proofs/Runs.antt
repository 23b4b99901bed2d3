-- Literals, runs of one range, and fillings.
use Rattle.std.proofs.Common.{◌≡◌, ◌⊎◌, ℕ, ◌<◌, ◌≤◌, ◌+◌, true, IsTrue, List, [], ◌∷◌, length, replicate, zero, suc, refl, inl, inr, arith}
use Rattle.std.proofs.lemmas.Bool.Decides.{nat_tests}
use Rattle.gs_chars.specs.Characters.{are_digits, is_digit}
use Rattle.gs_chars.proofs.TruthsAndLists.{and_first, and_second}
use Rattle.gs_ambig.specs.declared.machine.Edge.{Edge}
use Rattle.gs_ambig.specs.Walks.{edges_at}
use Rattle.gs_grammar_compile.specs.Readers.{Reads}
use Rattle.gs_grammar_compile.specs.Tables.{edge, lit_table, run_table, fill_table}
use Rattle.gs_grammar_compile.proofs.WalkLemmas.{Ascends}
use Rattle.gs_grammar_compile.proofs.Arms.{Begins, ByEdge, Either, IsEmpty, reads_end, reads_state, reads_as, arms_one, arms_cons}
use Rattle.gs_grammar_compile.proofs.Blocks.{Has, has_head, has_tail}

-- one state with one edge
pub reads_edge : (table : List (List Edge)) (p q lo hi next : ℕ) (language : List ℕ → Type 0) → edges_at table p ≡ edge lo hi next ∷ []
    → p < q → Reads table next q language → Reads table p q (Begins (ByEdge (edge lo hi next) language))
reads_edge table p q lo hi next language e l r =
    reads_state table p q (edge lo hi next ∷ []) (ByEdge (edge lo hi next) language) e l (arms_one table (edge lo hi next) q language r)

lit_there : (symbol : ℕ) (symbols : List ℕ) (next : ℕ) (w : List ℕ) → Begins (ByEdge (edge symbol symbol next) (λ v. v ≡ symbols)) w → w ≡ symbol ∷ symbols
lit_there symbol symbols next [] h = absurd h
lit_there symbol symbols next (s ∷ w) h = let same : s ≡ symbol = let a = h.0 in let b = h.1 in omega arith in let rest = h.2 in cc

lit_back : (symbol : ℕ) (symbols : List ℕ) (next : ℕ) (w : List ℕ) → w ≡ symbol ∷ symbols → Begins (ByEdge (edge symbol symbol next) (λ v. v ≡ symbols)) w
lit_back symbol symbols next [] e = absurd (let f : [] ≡ symbol ∷ symbols = e in cc)
lit_back symbol symbols next (s ∷ w) e =
    let same : s ≡ symbol = cc in
    let rest : w ≡ symbols = cc in
    (omega arith, omega arith, rest)

pub reads_lit : (table : List (List Edge)) (symbols : List ℕ) (base q : ℕ) → Has table base (lit_table symbols base) → Ascends table
    → q ≡ base + length symbols → Reads table base q (λ w. w ≡ symbols)
reads_lit table [] base q h a e = reads_end table base q a (omega arith)
reads_lit table (symbol ∷ symbols) base q h a e =
    let rest = reads_lit table symbols (base + 1) q (has_tail table base (edge symbol symbol (base + 1) ∷ []) (lit_table symbols (base + 1)) h) a (omega arith) in
    let here = reads_edge table base q symbol symbol (base + 1) (λ w. w ≡ symbols) (has_head table base (edge symbol symbol (base + 1) ∷ []) (lit_table symbols (base + 1)) h) (omega arith) rest in
    reads_as table base q (Begins (ByEdge (edge symbol symbol (base + 1)) (λ w. w ≡ symbols))) (λ w. w ≡ symbol ∷ symbols) here
    (lit_there symbol symbols (base + 1)) (lit_back symbol symbols (base + 1))

-- n symbols of a range
abbrev pub IsRun : ℕ → ℕ → ℕ → List ℕ → Type 0
IsRun lo hi zero w = w ≡ []
IsRun lo hi (suc n) [] = ⊥
IsRun lo hi (suc n) (s ∷ w) = (lo ≤ s) × (s ≤ hi) × IsRun lo hi n w

run_there : (lo hi n next : ℕ) (w : List ℕ) → Begins (ByEdge (edge lo hi next) (IsRun lo hi n)) w → IsRun lo hi (suc n) w
run_there lo hi n next [] h = h
run_there lo hi n next (s ∷ w) h = h

run_back : (lo hi n next : ℕ) (w : List ℕ) → IsRun lo hi (suc n) w → Begins (ByEdge (edge lo hi next) (IsRun lo hi n)) w
run_back lo hi n next [] h = h
run_back lo hi n next (s ∷ w) h = h

pub reads_run : (table : List (List Edge)) (lo hi n base q : ℕ) → Has table base (run_table lo hi n base) → Ascends table → q ≡ base + n
    → Reads table base q (IsRun lo hi n)
reads_run table lo hi zero base q h a e = reads_end table base q a (omega arith)
reads_run table lo hi (suc n) base q h a e =
    let rest = reads_run table lo hi n (base + 1) q (has_tail table base (edge lo hi (base + 1) ∷ []) (run_table lo hi n (base + 1)) h) a (omega arith) in
    let here = reads_edge table base q lo hi (base + 1) (IsRun lo hi n) (has_head table base (edge lo hi (base + 1) ∷ []) (run_table lo hi n (base + 1)) h) (omega arith) rest in
    reads_as table base q (Begins (ByEdge (edge lo hi (base + 1)) (IsRun lo hi n))) (IsRun lo hi (suc n)) here
    (run_there lo hi n (base + 1)) (run_back lo hi n (base + 1))

-- digits

pub digits_run : (n : ℕ) (w : List ℕ) → length w ≡ n → IsTrue (are_digits w) → IsRun 48 57 n w
digits_run zero [] l d = refl
digits_run zero (s ∷ w) l d = absurd (omega arith)
digits_run (suc n) [] l d = absurd (omega arith)
digits_run (suc n) (s ∷ w) l d =
    let first = and_first (is_digit s) (are_digits w) d in
    (grind (arith, nat_tests), grind (arith, nat_tests), digits_run n w (omega arith) (and_second (is_digit s) (are_digits w) d))

pub run_digits : (n : ℕ) (w : List ℕ) → IsRun 48 57 n w → (length w ≡ n) × IsTrue (are_digits w)
run_digits zero w h = rw h (refl, refl)
run_digits (suc n) [] h = absurd h
run_digits (suc n) (s ∷ w) h =
    let rest = run_digits n w h.2 in
    let low = h.0 in
    let high = h.1 in
    let first : is_digit s ≡ true = grind (arith, nat_tests) in
    let more = rest.1 in
    (let l = rest.0 in omega arith, rw (first, more) refl)

-- zeros

pub zeros_run : (n : ℕ) (w : List ℕ) → w ≡ replicate n 0 → IsRun 0 0 n w
zeros_run zero w e = e
zeros_run (suc n) [] e = absurd (let f : [] ≡ 0 ∷ replicate n 0 = e in cc)
zeros_run (suc n) (s ∷ w) e =
    let f : s ∷ w ≡ 0 ∷ replicate n 0 = e in
    let first : s ≡ 0 = cc in
    let rest : w ≡ replicate n 0 = cc in
    (omega arith, omega arith, zeros_run n w rest)

pub run_zeros : (n : ℕ) (w : List ℕ) → IsRun 0 0 n w → w ≡ replicate n 0
run_zeros zero w h = h
run_zeros (suc n) [] h = absurd h
run_zeros (suc n) (s ∷ w) h =
    let first : s ≡ 0 = let high = h.1 in omega arith in
    let rest = run_zeros n w h.2 in
    cc

-- zeros of two lengths

abbrev pub IsFill : ℕ → ℕ → List ℕ → Type 0
IsFill zero more w = (w ≡ []) ⊎ IsRun 0 0 more w
IsFill (suc n) more [] = ⊥
IsFill (suc n) more (s ∷ w) = (0 ≤ s) × (s ≤ 0) × IsFill n more w

-- by one zero
by_zero : (table : List (List Edge)) (base q next : ℕ) (language : List ℕ → Type 0) → edges_at table base ≡ edge 0 0 next ∷ [] → base < q
    → Reads table next q language → (other : List ℕ → Type 0) → ((w : List ℕ) → Begins (ByEdge (edge 0 0 next) language) w → other w)
    → ((w : List ℕ) → other w → Begins (ByEdge (edge 0 0 next) language) w) → Reads table base q other
by_zero table base q next language e l r other there back =
    reads_as table base q (Begins (ByEdge (edge 0 0 next) language)) other (reads_edge table base q 0 0 next language e l r) there back

one_there : (next : ℕ) (w : List ℕ) → Begins (ByEdge (edge 0 0 next) IsEmpty) w → IsFill 1 0 w
one_there next [] h = h
one_there next (s ∷ w) h = (h.0, h.1, inl h.2)

one_back : (next : ℕ) (w : List ℕ) → IsFill 1 0 w → Begins (ByEdge (edge 0 0 next) IsEmpty) w
one_back next [] h = h
one_back next (s ∷ w) (low, high, inl e) = (low, high, e)
one_back next (s ∷ w) (low, high, inr e) = (low, high, e)

more_there : (n more next : ℕ) (w : List ℕ) → Begins (ByEdge (edge 0 0 next) (IsFill n more)) w → IsFill (suc n) more w
more_there n more next [] h = h
more_there n more next (s ∷ w) h = h

more_back : (n more next : ℕ) (w : List ℕ) → IsFill (suc n) more w → Begins (ByEdge (edge 0 0 next) (IsFill n more)) w
more_back n more next [] h = h
more_back n more next (s ∷ w) h = h

fork_there : (more next last : ℕ) (w : List ℕ)
    → Begins (Either (ByEdge (edge 0 0 next) (IsRun 0 0 (suc more))) (ByEdge (edge 0 0 last) IsEmpty)) w → IsFill 1 (suc more) w
fork_there more next last [] h = h
fork_there more next last (s ∷ w) (inl h) = (h.0, h.1, inr h.2)
fork_there more next last (s ∷ w) (inr h) = (h.0, h.1, inl h.2)

fork_back : (more next last : ℕ) (w : List ℕ) → IsFill 1 (suc more) w
    → Begins (Either (ByEdge (edge 0 0 next) (IsRun 0 0 (suc more))) (ByEdge (edge 0 0 last) IsEmpty)) w
fork_back more next last [] h = h
fork_back more next last (s ∷ w) (low, high, inl e) = inr (low, high, e)
fork_back more next last (s ∷ w) (low, high, inr r) = inl (low, high, r)

fork_apart : (more next last : ℕ) (s : ℕ) (w : List ℕ) → ByEdge (edge 0 0 next) (IsRun 0 0 (suc more)) s w → ByEdge (edge 0 0 last) IsEmpty s w → ⊥
fork_apart more next last s [] h k = h.2
fork_apart more next last s (x ∷ w) h k = let f : x ∷ w ≡ [] = k.2 in cc

reads_fork : (table : List (List Edge)) (more base last : ℕ) → Has table base (fill_table 1 (suc more) base) → Ascends table
    → last ≡ base + 1 + suc more → Reads table base last (IsFill 1 (suc more))
reads_fork table more base last h a e =
    let row = has_head table base (edge 0 0 (base + 1) ∷ edge 0 0 (base + 1 + suc more) ∷ []) (run_table 0 0 (suc more) (base + 1)) h in
    let here : edges_at table base ≡ edge 0 0 (base + 1) ∷ edge 0 0 last ∷ [] = rw e row in
    let rest = reads_run table 0 0 (suc more) (base + 1) last (has_tail table base (edge 0 0 (base + 1) ∷ edge 0 0 (base + 1 + suc more) ∷ []) (run_table 0 0 (suc more) (base + 1)) h) a e in
    let end = arms_one table (edge 0 0 last) last IsEmpty (reads_end table last last a refl) in
    let arms = arms_cons table (edge 0 0 (base + 1)) (edge 0 0 last ∷ []) last (IsRun 0 0 (suc more)) (ByEdge (edge 0 0 last) IsEmpty) rest end (fork_apart more (base + 1) last) in
    let state = reads_state table base last (edge 0 0 (base + 1) ∷ edge 0 0 last ∷ []) (Either (ByEdge (edge 0 0 (base + 1)) (IsRun 0 0 (suc more))) (ByEdge (edge 0 0 last) IsEmpty)) here (omega arith) arms in
    reads_as table base last (Begins (Either (ByEdge (edge 0 0 (base + 1)) (IsRun 0 0 (suc more))) (ByEdge (edge 0 0 last) IsEmpty)))
    (IsFill 1 (suc more)) state (fork_there more (base + 1) last) (fork_back more (base + 1) last)

pub reads_fill : (table : List (List Edge)) (n more base q : ℕ) → Has table base (fill_table (suc n) more base) → Ascends table
    → q ≡ base + suc n + more → Reads table base q (IsFill (suc n) more)
reads_fill table zero zero base q h a e =
    by_zero table base q (base + 1) IsEmpty (has_head table base (edge 0 0 (base + 1) ∷ []) [] h) (omega arith)
    (reads_end table (base + 1) q a (omega arith)) (IsFill 1 0) (one_there (base + 1)) (one_back (base + 1))
reads_fill table zero (suc more) base q h a e = reads_fork table more base q h a (omega arith)
reads_fill table (suc n) more base q h a e =
    let rest = reads_fill table n more (base + 1) q (has_tail table base (edge 0 0 (base + 1) ∷ []) (fill_table (suc n) more (base + 1)) h) a (omega arith) in
    by_zero table base q (base + 1) (IsFill (suc n) more) (has_head table base (edge 0 0 (base + 1) ∷ []) (fill_table (suc n) more (base + 1)) h) (omega arith) rest (IsFill (suc (suc n)) more) (more_there (suc n) more (base + 1)) (more_back (suc n) more (base + 1))

pub fill_words : (n more total : ℕ) (w : List ℕ) → total ≡ n + more → IsFill n more w → (w ≡ replicate n 0) ⊎ (w ≡ replicate total 0)
fill_words zero more total w e (inl h) = inl h
fill_words zero more total w e (inr h) = let same : more ≡ total = omega arith in inr (rw same at (run_zeros more w h))
fill_words (suc n) more zero w e h = absurd (omega arith)
fill_words (suc n) more (suc total) [] e h = absurd h
fill_words (suc n) more (suc total) (s ∷ w) e h =
    let first : s ≡ 0 = let high = h.1 in omega arith in
    elim (fill_words n more total w (omega arith) h.2) as (λ _. (s ∷ w ≡ replicate (suc n) 0) ⊎ (s ∷ w ≡ replicate (suc total) 0)) [
      | inl r ↦ inl (cc)
      | inr r ↦ inr (cc)
    ]

pub words_fill : (n more total : ℕ) (w : List ℕ) → total ≡ n + more → (w ≡ replicate n 0) ⊎ (w ≡ replicate total 0) → IsFill n more w
words_fill zero more total w e (inl h) = inl h
words_fill zero more total w e (inr h) = let same : total ≡ more = omega arith in inr (zeros_run more w (rw same at h))
words_fill (suc n) more zero w e h = absurd (omega arith)
words_fill (suc n) more (suc total) [] e (inl h) = absurd (let f : [] ≡ 0 ∷ replicate n 0 = h in cc)
words_fill (suc n) more (suc total) [] e (inr h) = absurd (let f : [] ≡ 0 ∷ replicate total 0 = h in cc)
words_fill (suc n) more (suc total) (s ∷ w) e (inl h) =
    let f : s ∷ w ≡ 0 ∷ replicate n 0 = h in
    let first : s ≡ 0 = cc in
    let rest : w ≡ replicate n 0 = cc in
    (omega arith, omega arith, words_fill n more total w (omega arith) (inl rest))
words_fill (suc n) more (suc total) (s ∷ w) e (inr h) =
    let f : s ∷ w ≡ 0 ∷ replicate total 0 = h in
    let first : s ≡ 0 = cc in
    let rest : w ≡ replicate total 0 = cc in
    (omega arith, omega arith, words_fill n more total w (omega arith) (inr rest))
