-- The result after the levels are checked, given the result of the rules: exactly one, or `Memory`; the text of an ambiguous
-- level may vary.
use Rattle.std.proofs.Common.{◌≡◌, ℕ, List, refl, sym, ◌∙◌, inl, inr, arith}
use Rattle.std.specs.Prelude.{Result, Ok, Err}
use Rattle.std.proofs.lemmas.Bool.{cases_lt, cases_eq}
use Rattle.gs_tables_document.specs.declared.error.LoadFault.{LoadFault}
use Rattle.gs_tables_document.specs.declared.error.LoadFault.TheVariants.{Json, Version, Limit, Ai, BadKind, BadItem, Mismatch, Duplicate, Ambiguous, Memory}
use Rattle.gs_tables_document.specs.declared.document.LevelName.{LevelName}
use Rattle.gs_tables_document.specs.declared.document.LevelName.TheVariants.{Binary, Tag, Pure}
use Rattle.gs_grammar.specs.Ambiguity.{ShowsFirstShare}
use Rattle.gs_grammar.specs.Levels.{LevelForm}
use Rattle.gs_tables.specs.Judgements.{AreClear, IsClear, IsFirstAmbiguous, IsLoaded, Judged, levels_of}
use Rattle.gs_tables.specs.Shapes.{AreAlike, HasMemory, but_text, same}
use Rattle.gs_tables.specs.Tables.{IsShaped, TableRows}
use Rattle.gs_tables.proofs.JudgedLevels.{items_kept, level_decided}

-- the facts about results of the rules: there is exactly one, or `Memory`; none names an ambiguous level; their sets satisfy the
-- rules
pub record IsRuling (Ruled : Result TableRows LoadFault → Type 0) : Type 0 where
  pub some : (answer : Result TableRows LoadFault) × HasMemory answer × Ruled answer
  pub one : (one other : Result TableRows LoadFault) → Ruled one → Ruled other → HasMemory one → HasMemory other → one ≡ other
  pub ruled : (name : LevelName) (i j : ℕ) (text : List ℕ) → Ruled (Err (Ambiguous name i j text)) → ⊥
  pub shaped : (set : TableRows) → Ruled (Ok set) → IsShaped set

-- ---- an answer

judged_set : (Ruled : Result TableRows LoadFault → Type 0) (set : TableRows) → Ruled (Ok set) → IsShaped set
    → (answer : Result TableRows LoadFault) × HasMemory answer × Judged Ruled answer
judged_set Ruled set ruled shaped = elim (level_decided (levels_of set) (items_kept set shaped)) as
    (λ _. (answer : Result TableRows LoadFault) × HasMemory answer × Judged Ruled answer) [
      | inl clear ↦ (Ok set, (λ e. let f : Ok set ≡ Err Memory = e in cc), (ruled, clear))
      | inr a ↦ (Err (Ambiguous a.name a.i a.j a.text), (λ e. let f : Err (Ambiguous a.name a.i a.j a.text) ≡ Err Memory = e in cc), (set, ruled, a.first))
    ]

judged_by : (Ruled : Result TableRows LoadFault → Type 0) → IsRuling Ruled → (answer : Result TableRows LoadFault) → HasMemory answer
    → Ruled answer → (answer : Result TableRows LoadFault) × HasMemory answer × Judged Ruled answer
judged_by Ruled ruling (Ok set) enough r = judged_set Ruled set r (ruling.shaped set r)
judged_by Ruled ruling (Err (Json error)) enough r = (Err (Json error), enough, r)
judged_by Ruled ruling (Err Version) enough r = (Err Version, enough, r)
judged_by Ruled ruling (Err (Limit name)) enough r = (Err (Limit name), enough, r)
judged_by Ruled ruling (Err (Ai error)) enough r = (Err (Ai error), enough, r)
judged_by Ruled ruling (Err (BadKind i)) enough r = (Err (BadKind i), enough, r)
judged_by Ruled ruling (Err (BadItem level i k)) enough r = (Err (BadItem level i k), enough, r)
judged_by Ruled ruling (Err (Mismatch level i)) enough r = (Err (Mismatch level i), enough, r)
judged_by Ruled ruling (Err (Duplicate level j i)) enough r = (Err (Duplicate level j i), enough, r)
judged_by Ruled ruling (Err (Ambiguous level i j text)) enough r = absurd (ruling.ruled level i j text r)
judged_by Ruled ruling (Err Memory) enough r = absurd (enough refl)

pub judged_some : (Ruled : Result TableRows LoadFault → Type 0) → IsRuling Ruled
    → (answer : Result TableRows LoadFault) × HasMemory answer × Judged Ruled answer
judged_some Ruled ruling = judged_by Ruled ruling ruling.some.0 ruling.some.1 ruling.some.2

-- ---- no other

data Judgement (Ruled : Result TableRows LoadFault → Type 0) (answer : Result TableRows LoadFault) : Type 0 where
  loads : (set : TableRows) → Ruled (Ok set) → AreClear (levels_of set) → answer ≡ Ok set → Judgement Ruled answer
  shares : (set : TableRows) (name : LevelName) (i j : ℕ) (text : List ℕ) → Ruled (Ok set) → IsFirstAmbiguous (levels_of set) name i j text
      → answer ≡ Err (Ambiguous name i j text) → Judgement Ruled answer
  rejects : Ruled answer → (error : LoadFault) → answer ≡ Err error → Judgement Ruled answer

judgement : (Ruled : Result TableRows LoadFault → Type 0) (answer : Result TableRows LoadFault) → Judged Ruled answer → Judgement Ruled answer
judgement Ruled (Ok set) j = loads set j.0 j.1 refl
judgement Ruled (Err (Ambiguous name i j text)) h = shares h.0 name i j text h.1 h.2 refl
judgement Ruled (Err (Json error)) j = rejects j (Json error) refl
judgement Ruled (Err Version) j = rejects j Version refl
judgement Ruled (Err (Limit name)) j = rejects j (Limit name) refl
judgement Ruled (Err (Ai error)) j = rejects j (Ai error) refl
judgement Ruled (Err (BadKind i)) j = rejects j (BadKind i) refl
judgement Ruled (Err (BadItem level i k)) j = rejects j (BadItem level i k) refl
judgement Ruled (Err (Mismatch level i)) j = rejects j (Mismatch level i) refl
judgement Ruled (Err (Duplicate level j i)) h = rejects h (Duplicate level j i) refl
judgement Ruled (Err Memory) j = rejects j Memory refl

one_set : (Ruled : Result TableRows LoadFault → Type 0) → IsRuling Ruled → (set set' : TableRows) → Ruled (Ok set) → Ruled (Ok set') → set ≡ set'
one_set Ruled ruling set set' a b =
    let e : Ok set ≡ Ok set' = ruling.one (Ok set) (Ok set') a b (λ e. let f : Ok set ≡ Err Memory = e in cc) (λ e. let f : Ok set' ≡ Err Memory = e in cc) in
    cc

not_both : (Ruled : Result TableRows LoadFault → Type 0) → IsRuling Ruled
    → (set : TableRows) (answer : Result TableRows LoadFault) (error : LoadFault) → Ruled (Ok set) → Ruled answer → HasMemory answer
    → answer ≡ Err error → ⊥
not_both Ruled ruling set answer error a b enough e =
    let f : Ok set ≡ answer = ruling.one (Ok set) answer a b (λ e. let f : Ok set ≡ Err Memory = e in cc) enough in
    let g : Ok set ≡ Err error = f ∙ e in
    cc

clear_or_shared : (levels : LevelName → LevelForm) (name : LevelName) (i j : ℕ) (text : List ℕ) → IsClear (levels name)
    → IsFirstAmbiguous levels name i j text → ⊥
clear_or_shared levels name i j text clear a =
    let s = a.share.share.share in
    clear (record { w = a.share.w; two = record { one = s.one; other = s.other; differ = s.differ } })

one_level : (levels : LevelName → LevelForm) (name name' : LevelName) (i j i' j' : ℕ) (text text' : List ℕ)
    → IsFirstAmbiguous levels name i j text → IsFirstAmbiguous levels name' i' j' text' → name ≡ name'
one_level levels Binary Binary i j i' j' text text' a b = refl
one_level levels Tag Tag i j i' j' text text' a b = refl
one_level levels Pure Pure i j i' j' text text' a b = refl
one_level levels Binary Tag i j i' j' text text' a b = absurd (clear_or_shared levels Binary i j text b.before a)
one_level levels Binary Pure i j i' j' text text' a b = absurd (clear_or_shared levels Binary i j text b.before.0 a)
one_level levels Tag Pure i j i' j' text text' a b = absurd (clear_or_shared levels Tag i j text b.before.1 a)
one_level levels Tag Binary i j i' j' text text' a b = absurd (clear_or_shared levels Binary i' j' text' a.before b)
one_level levels Pure Binary i j i' j' text text' a b = absurd (clear_or_shared levels Binary i' j' text' a.before.0 b)
one_level levels Pure Tag i j i' j' text text' a b = absurd (clear_or_shared levels Tag i' j' text' a.before.1 b)

one_pair : (level : LevelForm) (i j i' j' : ℕ) (text text' : List ℕ) → ShowsFirstShare level i j text → ShowsFirstShare level i' j' text' → (i ≡ i') × (j ≡ j')
one_pair level i j i' j' text text' a b = elim (cases_lt i i') as (λ _. (i ≡ i') × (j ≡ j')) [
  | inl low ↦ absurd (b.share.first i j a.w a.share.order (inl low) a.share.share)
  | inr high ↦ elim (cases_eq i i') as (λ _. (i ≡ i') × (j ≡ j')) [
    | inr n ↦ absurd (a.share.first i' j' b.w b.share.order (inl (omega arith)) b.share.share)
    | inl e ↦ elim (cases_lt j j') as (λ _. (i ≡ i') × (j ≡ j')) [
      | inl low ↦ absurd (b.share.first i j a.w a.share.order (inr (e, low)) a.share.share)
      | inr high' ↦ elim (cases_eq j j') as (λ _. (i ≡ i') × (j ≡ j')) [
        | inl f ↦ (e, f)
        | inr n ↦ absurd (a.share.first i' j' b.w b.share.order (inr (sym e, omega arith)) b.share.share)
      ]
    ]
  ]
]

alike : (levels : LevelName → LevelForm) (name name' : LevelName) (i j i' j' : ℕ) (text text' : List ℕ) (one other : Result TableRows LoadFault)
    → IsFirstAmbiguous levels name i j text → IsFirstAmbiguous levels name' i' j' text' → one ≡ Err (Ambiguous name i j text)
    → other ≡ Err (Ambiguous name' i' j' text') → AreAlike one other
alike levels name name' i j i' j' text text' one other a b e f =
    let level = one_level levels name name' i j i' j' text text' a b in
    let moved : ShowsFirstShare (levels name) i' j' text' = rw level b.share in
    let pair = one_pair (levels name) i j i' j' text text' a.share moved in
    but_text name i j text text' e (rw (level, pair.0, pair.1) f)

alike_by : (Ruled : Result TableRows LoadFault → Type 0) → IsRuling Ruled → (one other : Result TableRows LoadFault) → HasMemory one
    → HasMemory other → Judgement Ruled one → Judgement Ruled other → AreAlike one other
alike_by Ruled ruling one other enough enough' (loads set r clear e) (loads set' r' clear' e') = same
    (e ∙ (let s = one_set Ruled ruling set set' r r' in rw s refl) ∙ sym e')
alike_by Ruled ruling one other enough enough' (loads set r clear e) (shares set' name i j text r' first e') =
    absurd (clear_or_shared (levels_of set') name i j text (let s = one_set Ruled ruling set set' r r' in let c : AreClear (levels_of set') = rw (← s) clear in c name) first)
alike_by Ruled ruling one other enough enough' (loads set r clear e) (rejects r' error e') = absurd (not_both Ruled ruling set other error r r' enough' e')
alike_by Ruled ruling one other enough enough' (shares set name i j text r first e) (loads set' r' clear e') =
    absurd (clear_or_shared (levels_of set) name i j text (let s = one_set Ruled ruling set set' r r' in let c : AreClear (levels_of set) = rw s clear in c name) first)
alike_by Ruled ruling one other enough enough' (shares set name i j text r first e) (shares set' name' i' j' text' r' first' e') =
    let s = one_set Ruled ruling set set' r r' in
    let moved : IsFirstAmbiguous (levels_of set) name' i' j' text' = rw s first' in
    alike (levels_of set) name name' i j i' j' text text' one other first moved e e'
alike_by Ruled ruling one other enough enough' (shares set name i j text r first e) (rejects r' error e') = absurd
    (not_both Ruled ruling set other error r r' enough' e')
alike_by Ruled ruling one other enough enough' (rejects r error e) (loads set r' clear e') = absurd (not_both Ruled ruling set one error r' r enough e)
alike_by Ruled ruling one other enough enough' (rejects r error e) (shares set name i j text r' first e') = absurd
    (not_both Ruled ruling set one error r' r enough e)
alike_by Ruled ruling one other enough enough' (rejects r error e) (rejects r' error' e') = same (ruling.one one other r r' enough enough')

pub judged_alike : (Ruled : Result TableRows LoadFault → Type 0) → IsRuling Ruled → (one other : Result TableRows LoadFault)
    → Judged Ruled one → Judged Ruled other → HasMemory one → HasMemory other → AreAlike one other
judged_alike Ruled ruling one other a b enough enough' = alike_by Ruled ruling one other enough enough' (judgement Ruled one a) (judgement Ruled other b)

-- a set that is loaded
pub judged_loaded : (Ruled : Result TableRows LoadFault → Type 0) → IsRuling Ruled → (set : TableRows) → Judged Ruled (Ok set) → IsLoaded set
judged_loaded Ruled ruling set j = record { shaped = ruling.shaped set j.0; clear = j.1 }
