-- Texts that begin with another.
use Rattle.std.proofs.Common.{◌≡◌, ℕ, List, ◌++◌, append_assoc, ap, ◌∙◌, Result, Ok, Err, OnErr}
use Rattle.gs_chars.specs.Answers.{BeginsWith}

pub begins_more : (now old text : List ℕ) → now ≡ old ++ text → BeginsWith now old
begins_more now old text e = (text, e)

-- a list that begins with a list that begins with another
pub begins_after : (now between old : List ℕ) → BeginsWith now between → BeginsWith between old → BeginsWith now old
begins_after now between old f g = (g.0 ++ f.0, f.1 ∙ ap (λ (x : List ℕ). x ++ f.0) g.1 ∙ append_assoc old g.0 f.0)

pub on_err : {X E : Type 0} (r : Result X E) (P : Type 0) → P → OnErr r P
on_err (Ok x) P p = tt
on_err (Err e) P p = p
