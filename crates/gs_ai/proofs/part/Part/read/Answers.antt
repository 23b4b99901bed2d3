use Rattle.std.proofs.Common.{◌≡◌, ℕ, ◌≤◌, leb, true, false, List, [], ◌++◌, bytes_eq, sym, ◌∙◌, true≢false, Bool, ◌&&◌}
use Rattle.std.proofs.lemmas.Bool.{leb-true}
use Rattle.std.proofs.lemmas.List.{append-nil}
use Rattle.std.specs.Prelude.{codes}
use Rattle.gs_chars.proofs.TruthsAndLists.{same_bytes, and_first, and_second}
use Rattle.gs_ai.specs.declared.part.Part.{Part}
use Rattle.gs_ai.specs.declared.part.Part.TheVariants.{Zero, Num, NumCheck, NumUpTo, NumOpt, Set, SetOpt, Date, Other}
use Rattle.gs_ai.specs.Parts.{is_part, number_text, part_text}
use Rattle.gs_ai.proofs.part.Part.read.Goals as goal

-- the text is not a number from `least` to `greatest` between the two others
abbrev NotBetween : List ℕ → List ℕ → ℕ → ℕ → List ℕ → Type 0
NotBetween before after least greatest text = (k : ℕ) → least ≤ k → k ≤ greatest → before ++ number_text k ++ after ≡ text → ⊥

not_text : (text name word : List ℕ) (b : Bool) → b ≡ bytes_eq text word → word ≡ name → b ≡ false → name ≡ text → ⊥
not_text text name word b e w f t = let same : bytes_eq text word ≡ true = rw (w, t) (same_bytes text) in true≢false (sym same ∙ sym e ∙ f)

module _ (before after text : List ℕ) (least greatest : ℕ) (none : NotBetween before after least greatest text) (k : ℕ)
    (h : (leb least k && leb k greatest) ≡ true) where
  between : before ++ number_text k ++ after ≡ text → ⊥
  between e = none k (leb-true _ _ (and_first _ _ h)) (leb-true _ _ (and_second _ _ h)) e

ends : (before text : List ℕ) (k : ℕ) → before ++ number_text k ≡ text → before ++ number_text k ++ [] ≡ text
ends before text k e = rw append-nil e

pub returns-in-None-clause-other : goal.returns-in-None-clause-other
returns-in-None-clause-other c = λ _ p h e. by p h e
  where
    text : List ℕ
    text = c.args.text.now

    by : (p : Part) → is_part p ≡ true → part_text p ≡ text → ⊥
    by Zero h e = not_text text (codes "zero") _ _ c.eq.ensures c.as_slice.ensures c.if-eq.false e
    by Date h e = not_text text (codes "date") _ _ c.eq-2.ensures c.as_slice-2.ensures c.if-eq-2.false e
    by (Num k) h e = between (codes "n") [] text 1 18 c.in_default.ensures.none k h (ends (codes "n") text k e)
    by (NumCheck k) h e = between (codes "n") (codes "c") text 2 18 c.in_default-read_between.ensures.none k h e
    by (NumUpTo k) h e = between (codes "n..") [] text 1 18 c.in_default-read_between-2.ensures.none k h (ends (codes "n..") text k e)
    by (NumOpt k) h e = between (codes "n..") (codes "?") text 1 18 c.in_default-read_between-3.ensures.none k h e
    by (Set k) h e = between (codes "x..") [] text 1 90 c.in_default-read_between-4.ensures.none k h (ends (codes "x..") text k e)
    by (SetOpt k) h e = between (codes "x..") (codes "?") text 1 90 c.in-None.ensures.none k h e
    by Other h e = absurd (let f : false ≡ true = h in cc)
