-- Translations by two table sets. This project's own.
use Rattle.std.specs.Prelude.{◌↔◌, ℕ, List, Result}
use Rattle.gs_prefix.specs.declared.entry.PrefixEntry.{PrefixEntry}
use Rattle.gs_tables.specs.Tables.{TableRows}
use Rattle.gs_translate.specs.declared.form.Form.{Form}
use Rattle.gs_translate.specs.declared.form.Options.{Options}
use Rattle.gs_translate.specs.declared.reason.Reason.{Reason}
use Rattle.gs_translate.specs.declared.form.Target.{Target}
use Rattle.gs_translate.specs.Translations.{IsTranslation}

-- trusted, own: holds if each text has the same translations by both sets, whatever the prefixes, the options and the forms
abbrev pub TranslateAlike : TableRows → TableRows → Type 0
TranslateAlike set other =
    (prefixes : List PrefixEntry) (options : Options) (from : Form) (to : Target) (text : List ℕ) (answer : Result (List ℕ) Reason)
    → IsTranslation set prefixes options from to text answer ↔ IsTranslation other prefixes options from to text answer
