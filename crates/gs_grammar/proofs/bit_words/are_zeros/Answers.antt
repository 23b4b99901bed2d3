use Rattle.std.proofs.Common.{◌≡◌, ◌↔◌, ℕ, zero, suc, true, eqb, List, [], ◌∷◌, length, replicate, refl, sym, ap, ◌∙◌, rules, tests}
use Rattle.std.specs.List.{list_all}
use Rattle.std.proofs.lemmas.Bool.{eqb-true}
use Rattle.std.proofs.lemmas.Iterator.{YieldsList-from_slice}
use Rattle.std.proofs.lemmas.Iterator.Search.{all_from_yields_List}
use Rattle.std.proofs.lemmas.List.{length-replicate}
use Rattle.gs_chars.proofs.TruthsAndLists.{and_first, and_second}
use Rattle.gs_grammar.proofs.bit_words.are_zeros.Goals as goal

zeros_alone : (symbols : List ℕ) → list_all (λ s. eqb s 0) symbols ≡ true → symbols ≡ replicate (length symbols) 0
zeros_alone [] h = refl
zeros_alone (s ∷ symbols) h =
    let first : s ≡ 0 = eqb-true s 0 (and_first (eqb s 0) (list_all (λ k. eqb k 0) symbols) h) in
    let rest = zeros_alone symbols (and_second (eqb s 0) (list_all (λ k. eqb k 0) symbols) h) in
    cc

zeros_pass : (n : ℕ) → list_all (λ s. eqb s 0) (replicate n 0) ≡ true
zeros_pass zero = refl
zeros_pass (suc n) = zeros_pass n

other_count : (symbols : List ℕ) (n : ℕ) → (length symbols ≡ n → ⊥) → (eqb (length symbols) n ≡ true) ↔ (symbols ≡ replicate n 0)
other_count symbols n h = (λ e. absurd (h (eqb-true (length symbols) n e)), λ e. absurd (h (ap length e ∙ length-replicate {A = ℕ} n 0)))

pub returns-then-symbols-n : goal.returns-then-symbols-n
returns-then-symbols-n c =
    let symbols = c.args.symbols.now in
    let all : c.all.result ≡ list_all (λ s. eqb s 0) symbols = all_from_yields_List (λ s. eqb s 0) _ _ c.all.result c.all.ensures.ran (YieldsList-from_slice symbols cc) (λ x b q k. search (rules, tests)) in (
      λ h. rw c.if-symbols-n.true at (zeros_alone symbols (sym all ∙ h)),
      λ e. all ∙ (ap (list_all (λ s. eqb s 0)) e ∙ zeros_pass c.args.n),
    )

pub returns-else-symbols-n : goal.returns-else-symbols-n
returns-else-symbols-n c = other_count c.args.symbols.now c.args.n c.if-symbols-n.false
