-- A text is a class URI of one identity, and a set of rows has one answer.
use Rattle.std.proofs.Common.{◌≡◌, ℕ, List, Option, Some, None, slice_get, refl, sym, ap, ◌∙◌}
use Rattle.std.specs.Prelude.{All, Result, Ok, Err}
use Rattle.gs_ai.specs.declared.row.AiRow.{AiRow}
use Rattle.gs_epc.specs.Layout.{lay}
use Rattle.gs_ident.specs.Elements.{Elements}
use Rattle.gs_grammar.specs.Ambiguity.{ShowsFirstShare}
use Rattle.gs_grammar.specs.Items.{IsItem}
use Rattle.gs_grammar.specs.Levels.{item_lists}
use Rattle.gs_grammar.proofs.OneReading.{one_reading, only_derivation}
use Rattle.gs_grammar_level.specs.declared.share.Shared.{Shared}
use Rattle.gs_grammar_level.specs.FirstShares.{IsFirstShared}
use Rattle.gs_grammar_level.proofs.SomeAnswer.{some_answer, one_pair}
use Rattle.gs_grammar_level.proofs.DecidedReadings.{ambiguous_of}
use Rattle.gs_class.specs.declared.class_set.Class.{Class}
use Rattle.gs_class.specs.declared.error.ClassLoadFault.{ClassLoadFault}
use Rattle.gs_class.specs.declared.error.ClassLoadFault.TheVariants.{Json, Version, Limit, BadItem, Size, Mismatch, Duplicate, Ambiguous, Memory}
use Rattle.gs_class.specs.Answers.{AreAlike, IsJudged, Judged, same, but_text}
use Rattle.gs_class.specs.Meanings.{IsClass, said_by}
use Rattle.gs_class.specs.Sets.{ClassRows, IsClear, kind_of}

-- ---- one identity

pub one_identity : (ais : List AiRow) (set : ClassRows) (text : List ℕ) (one other : Elements) → IsClear set → IsClass ais set text one
    → IsClass ais set text other → one ≡ other
one_identity ais set text one other clear a b =
    let level = item_lists set.level.options in
    let both = one_reading level text a.derivation.option b.derivation.option a.derivation.values b.derivation.values (only_derivation level text clear a.derivation) (only_derivation level text clear b.derivation) in
    let here : slice_get set.classes b.derivation.option ≡ Some a.class = rw both.0 at a.named in
    let classes : Some a.class ≡ Some b.class = sym here ∙ b.named in
    let class : a.class ≡ b.class = cc in
    a.is ∙ ap (λ (c : Class). lay ais (kind_of c) (said_by c a.derivation.values)) class ∙ ap
    (λ (v : List (List ℕ)). lay ais (kind_of b.class) (said_by b.class v)) both.1 ∙ sym b.is

-- ---- one answer

-- every item of every option is within its bounds
abbrev pub AreGood : ClassRows → Type 0
AreGood set = All (All IsItem) (item_lists set.level.options)

share_answer : (set : ClassRows) (answer : Option Shared) → IsFirstShared set.level answer → (answer : Result ClassRows ClassLoadFault) × IsJudged set answer
share_answer set None h = (Ok set, (refl, h))
share_answer set (Some shared) h = (Err (Ambiguous shared.first shared.second shared.text), h)

pub some_judged : (ruled : Result ClassRows ClassLoadFault) → ((set : ClassRows) → ruled ≡ Ok set → AreGood set)
    → (answer : Result ClassRows ClassLoadFault) × Judged ruled answer
some_judged (Err error) good = (Err error, refl)
some_judged (Ok set) good = let some = some_answer set.level (good set refl) in share_answer set some.0 some.1

not_clear : (set : ClassRows) (i j : ℕ) (text : List ℕ) → IsClear set → ShowsFirstShare set.level i j text → ⊥
not_clear set i j text clear shows = clear (ambiguous_of (item_lists set.level.options) i j shows.w shows.share.share)

-- the form of a judged answer
data Judgement (set : ClassRows) (answer : Result ClassRows ClassLoadFault) : Type 0 where
  loads : answer ≡ Ok set → IsClear set → Judgement set answer
  shares : (i j : ℕ) (text : List ℕ) → answer ≡ Err (Ambiguous i j text) → ShowsFirstShare set.level i j text → Judgement set answer

judgement : (set : ClassRows) (answer : Result ClassRows ClassLoadFault) → IsJudged set answer → Judgement set answer
judgement set (Ok made) h = loads (ap (λ (s : ClassRows). Ok s) h.0) h.1
judgement set (Err (Ambiguous i j text)) h = shares i j text refl h
judgement set (Err (Json error)) h = absurd h
judgement set (Err Version) h = absurd h
judgement set (Err Limit) h = absurd h
judgement set (Err (BadItem i k)) h = absurd h
judgement set (Err (Size i)) h = absurd h
judgement set (Err (Mismatch i)) h = absurd h
judgement set (Err (Duplicate i j)) h = absurd h
judgement set (Err Memory) h = absurd h

both_judged : (set : ClassRows) (one other : Result ClassRows ClassLoadFault) → Judgement set one → Judgement set other → AreAlike one other
both_judged set one other (loads a clear) (loads b clear') = same (a ∙ sym b)
both_judged set one other (loads a clear) (shares i j text b shows) = absurd (not_clear set i j text clear shows)
both_judged set one other (shares i j text a shows) (loads b clear) = absurd (not_clear set i j text clear shows)
both_judged set one other (shares i j text a shows) (shares k l text' b shows') =
    let pair = one_pair (item_lists set.level.options) i j k l shows.w shows'.w shows.share shows'.share in
    but_text i j text text' a (rw (pair.0, pair.1) b)

pub alike : (ruled one other : Result ClassRows ClassLoadFault) → Judged ruled one → Judged ruled other → AreAlike one other
alike (Err error) one other a b = same (a ∙ sym b)
alike (Ok set) one other a b = both_judged set one other (judgement set one a) (judgement set other b)
