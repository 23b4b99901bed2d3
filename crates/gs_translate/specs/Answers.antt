-- The answer to a text.
use Rattle.std.specs.Prelude.{◌≡◌, ℕ, List, Result, Ok}
use Rattle.gs_ident.specs.Links.{canonical_link}
use Rattle.gs_tables.specs.Tables.{TableRows}
use Rattle.gs_translate.specs.declared.form.Form.{Form}
use Rattle.gs_translate.specs.declared.reason.Reason.{Reason}
use Rattle.gs_translate.specs.Meanings.{IsRead}
use Rattle.gs_translate.specs.Steps.{Then}

-- trusted, own: holds if `answer` is why `text` is rejected, or otherwise the canonical link of its meaning
abbrev pub IsAnswer : TableRows → Form → List ℕ → Result (List ℕ) Reason → Type 0
IsAnswer set form text answer = Then (IsRead set form text) (λ meaning link. link ≡ Ok (canonical_link meaning.identity)) answer
