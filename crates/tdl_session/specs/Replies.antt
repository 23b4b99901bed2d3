-- The replies to texts, as a caller sees them.
use Rattle.std.specs.Prelude.{◌≡◌, ◌≢◌, ◌⊎◌, ℕ, List, Result, Ok, Err, true, false}
use Rattle.gs_translate.specs.Reasons.{reason_text}
use Rattle.gs_translate.specs.Steps.{UnlessMemory}
use Rattle.gs_translate.specs.Translations.{IsTranslated, Translating}
use Rattle.gs_translate.specs.declared.reason.Reason.{Reason}
use Rattle.gs_translate.specs.declared.reason.Reason.TheVariants.{Memory}
use Rattle.tdl_session.specs.Buffers.{IsPut}

-- trusted, own: holds if an answer of this status was put into the buffer, or has no room there
abbrev pub IsAnswered : ℕ → List ℕ → List ℕ → List ℕ → ℕ → ℕ → Type 0
IsAnswered code answer old new len status =
    ((status ≡ code) × IsPut answer old new len true) ⊎ ((status ≡ 2) × IsPut answer old new len false)

-- trusted, own: holds if nothing was put into the buffer, and the length of nothing was told
abbrev pub IsNothingSaid : List ℕ → List ℕ → ℕ → Type 0
IsNothingSaid old new len = (new ≡ old) × (len ≡ 0)

-- trusted, own: holds if the caller sees an answer so, or memory ran out for it or while its reason was written
abbrev pub IsSaid : Result (List ℕ) Reason → List ℕ → List ℕ → ℕ → ℕ → Type 0
IsSaid (Ok text) old new len status = ((status ≡ 3) × IsNothingSaid old new len) ⊎ IsAnswered 0 text old new len status
IsSaid (Err reason) old new len status =
    ((status ≡ 3) × IsNothingSaid old new len) ⊎ ((reason ≢ Memory) × IsAnswered 1 (reason_text reason) old new len status)

-- trusted, own: holds if the translation of the text, or the reason why it is rejected, was put into the buffer, or memory ran out
pub record IsReply (t : Translating) (text old new : List ℕ) (len status : ℕ) : Type 0 where
  pub answer : Result (List ℕ) Reason
  pub is_translated : UnlessMemory answer (IsTranslated t text answer)
  pub is_said : IsSaid answer old new len status
