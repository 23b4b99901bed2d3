-- Machines that share a list of symbols, and options that do.
use Rattle.std.proofs.Common.{◌≡◌, ℕ, ◌<◌, ◌+◌, zero, suc, List, [], ◌∷◌, length, Some, refl, sym, ◌∙◌, ap, arith}
use Rattle.std.specs.List.{concat, slice_get}
use Rattle.gs_grammar.specs.declared.item.Item.{Item}
use Rattle.gs_grammar.specs.Ambiguity.{ShareList}
use Rattle.gs_ambig.specs.Machines.{AutoForm}
use Rattle.gs_ambig.specs.MachinesSupport.{Accepts, start_of}
use Rattle.gs_ambig.specs.Searches.{BothAccept, NoneInCommon, HasTwoWalks, IsSingle}
use Rattle.gs_grammar_level.specs.ShareSearches.{ShareNoList}
use Rattle.gs_grammar_level.proofs.DecidedShares.{derives_at}
use Rattle.gs_grammar_compile.specs.Places.{cuts_from, word_cuts, run_cuts, CutsAreThoseOfDerivations}
use Rattle.gs_grammar_compile.proofs.JoinLemmas.{same_front}

-- words with the same cuts, joined to the same list, are the same

count_cuts : (place : ℕ) (words : List (List ℕ)) → length (cuts_from place words) ≡ suc (length words)
count_cuts place [] = refl
count_cuts place (w ∷ words) = ap suc (count_cuts (place + length w) words)

first_cut : (place other : ℕ) (words others : List (List ℕ)) → cuts_from place words ≡ cuts_from other others → place ≡ other
first_cut place other [] [] e = let f : place ∷ [] ≡ other ∷ [] = e in cc
first_cut place other [] (w ∷ others) e = let f : place ∷ [] ≡ other ∷ cuts_from (other + length w) others = e in cc
first_cut place other (v ∷ words) [] e = let f : place ∷ cuts_from (place + length v) words ≡ other ∷ [] = e in cc
first_cut place other (v ∷ words) (w ∷ others) e = let f : place ∷ cuts_from (place + length v) words ≡ other ∷ cuts_from (other + length w) others = e in cc

other_cuts : (place : ℕ) (v w : List ℕ) (words others : List (List ℕ)) → cuts_from place (v ∷ words) ≡ cuts_from place (w ∷ others)
    → cuts_from (place + length v) words ≡ cuts_from (place + length w) others
other_cuts place v w words others e = let f : place ∷ cuts_from (place + length v) words ≡ place ∷ cuts_from (place + length w) others = e in cc

words_of_cuts : (place : ℕ) (words others : List (List ℕ)) → cuts_from place words ≡ cuts_from place others → concat words ≡ concat others → words ≡ others
words_of_cuts place [] [] e j = refl
words_of_cuts place [] (w ∷ others) e j = absurd (let c = ap length e in let d = count_cuts (place + length w) others in omega arith)
words_of_cuts place (v ∷ words) [] e j = absurd (let c = ap length e in let d = count_cuts (place + length v) words in omega arith)
words_of_cuts place (v ∷ words) (w ∷ others) e j =
    let more = other_cuts place v w words others e in
    let next = first_cut (place + length v) (place + length w) words others more in
    let parts = same_front v w (concat words) (concat others) j (omega arith) in
    let here : cuts_from (place + length v) words ≡ cuts_from (place + length v) others = more ∙ ap (λ (p : ℕ). cuts_from p others) (sym next) in
    let rest = words_of_cuts (place + length v) words others here parts.1 in
    let first = parts.0 in
    cc

pub there : {X : Type 0} (xs : List X) (k : ℕ) → k < length xs → (x : X) × (slice_get xs k ≡ Some x)
there [] k l = absurd (omega arith)
there (x ∷ xs) zero l = (x, refl)
there (x ∷ xs) (suc k) l = there xs k (omega arith)

-- equal words, equal runs, and the reverse

same_runs : (form other : AutoForm) (items : List Item) (w run other_run : List ℕ) (words others : List (List ℕ))
    → CutsAreThoseOfDerivations form items → form ≡ other → Accepts form run w → Accepts other other_run w
    → run_cuts form run ≡ word_cuts words → run_cuts other other_run ≡ word_cuts others → words ≡ others → run ≡ other_run
same_runs form other items w run other_run words others law e a b c d f =
    let b' : Accepts form other_run w = rw e b in
    let d' : run_cuts form other_run ≡ word_cuts others = ap (λ (m : AutoForm). run_cuts m other_run) e ∙ d in
    law.only w run other_run a b' (c ∙ ap word_cuts f ∙ sym d')

same_words : (form other : AutoForm) (w run other_run : List ℕ) (words others : List (List ℕ)) → form ≡ other
    → run_cuts form run ≡ word_cuts words → run_cuts other other_run ≡ word_cuts others → concat words ≡ w → concat others ≡ w
    → run ≡ other_run → words ≡ others
same_words form other w run other_run words others e c d j k f =
    let cuts : word_cuts words ≡ word_cuts others = sym c ∙ ap (λ (m : AutoForm). run_cuts m run) e ∙ ap (run_cuts other) f ∙ d in
    words_of_cuts 0 words others cuts (j ∙ sym k)

-- a list that two machines, or one, accept is a list that their options share

pub share_of_two : (level : List (List Item)) (i j : ℕ) (items others : List Item) (m n : AutoForm) (w : List ℕ)
    → slice_get level i ≡ Some items → slice_get level j ≡ Some others → CutsAreThoseOfDerivations m items
    → CutsAreThoseOfDerivations n others → (i ≡ j → ⊥) → BothAccept m n w → ShareList level i j w
share_of_two level i j items others m n w at at' law law' apart b =
    let d = law.derivation w b.run b.walk in
    let e = law'.derivation w b.other_run b.other_walk in
    record {
      one = record { option = i; items = items; values = d.values; words = d.words; of_level = at; derives = d.derives };
      other = record { option = j; items = others; values = e.values; words = e.words; of_level = at'; derives = e.derives };
      by_one = refl;
      by_other = refl;
      differ = λ same. apart same.option;
    }

pub none_of_two : (level : List (List Item)) (i j : ℕ) (items others : List Item) (m n : AutoForm) → slice_get level i ≡ Some items
    → slice_get level j ≡ Some others → CutsAreThoseOfDerivations m items → CutsAreThoseOfDerivations n others → NoneInCommon m n
    → ShareNoList level i j
none_of_two level i j items others m n at at' law law' none w s =
    let r = law.run w s.one.values s.one.words (derives_at level w i items s.one at s.by_one) in
    let q = law'.run w s.other.values s.other.words (derives_at level w j others s.other at' s.by_other) in
    none w (record { run = r.run; other_run = q.run; walk = r.accepts; other_walk = q.accepts })

pub share_of_one : (level : List (List Item)) (i j : ℕ) (items : List Item) (m : AutoForm) (w : List ℕ) → slice_get level i ≡ Some items
    → CutsAreThoseOfDerivations m items → i ≡ j → HasTwoWalks m (start_of m) w → ShareList level i j w
share_of_one level i j items m w at law e p =
    let d = law.derivation w p.run p.walk in
    let f = law.derivation w p.other_run p.other_walk in
    record {
      one = record { option = i; items = items; values = d.values; words = d.words; of_level = at; derives = d.derives };
      other = record { option = i; items = items; values = f.values; words = f.words; of_level = at; derives = f.derives };
      by_one = refl;
      by_other = e;
      differ = λ same. p.differ (same_runs m m items w p.run p.other_run d.words f.words law refl p.walk p.other_walk d.cuts f.cuts same.words);
    }

pub none_of_one : (level : List (List Item)) (i j : ℕ) (items : List Item) (m : AutoForm) → slice_get level i ≡ Some items
    → CutsAreThoseOfDerivations m items → i ≡ j → IsSingle m (start_of m) → ShareNoList level i j
none_of_one level i j items m at law e none w s =
    let r = law.run w s.one.values s.one.words (derives_at level w i items s.one at s.by_one) in
    let q = law.run w s.other.values s.other.words (derives_at level w i items s.other at (s.by_other ∙ sym e)) in
    none w (record {
      run = r.run;
      other_run = q.run;
      walk = r.accepts;
      other_walk = q.accepts;
      differ = λ runs. s.differ (record { option = s.by_one ∙ e ∙ sym s.by_other; words = same_words m m w r.run q.run s.one.words s.other.words refl r.cuts q.cuts s.one.derives.joined s.other.derives.joined runs });
    })
