-- Definitions for proofs and private functions, in addition to Answers.antt.
use Rattle.std.specs.Prelude.{◌≡◌, ℕ, List, Result, IfOk}
use Rattle.gs_chars.specs.Answers.{first_or, OrError}
use Rattle.gs_prefix.specs.declared.entry.PrefixEntry.{PrefixEntry}
use Rattle.gs_prefix.specs.declared.error.PrefixFault.{PrefixFault}
use Rattle.gs_prefix.specs.declared.error.PrefixFault.TheVariants.{Memory}
use Rattle.gs_prefix.specs.LengthsSupport.{with_entry}
use Rattle.gs_prefix.specs.Rules.{entry_rejections}

-- Holds if this is the result of adding an entry to the earlier ones. If no rule rejects it, it is the last entry.
abbrev pub AddsEntry : Result Unit PrefixFault → ℕ → List PrefixEntry → List PrefixEntry → PrefixEntry → Type 0
AddsEntry result i earlier after entry =
    OrError Memory result (first_or (entry_rejections earlier i entry) tt) × IfOk result (λ _. after ≡ with_entry earlier entry.prefix entry.length)
