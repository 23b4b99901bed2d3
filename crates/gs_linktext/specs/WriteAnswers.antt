-- The errors of writing.
use Rattle.std.specs.Prelude.{◌≡◌, ℕ, List, Some, position}
use Rattle.gs_linkset.specs.declared.link_types.Target.{Target}
use Rattle.gs_linktext.specs.Spelling.{cannot_spell}
use Rattle.gs_linktext.specs.declared.writer.LinkTextWriteFault.{LinkTextWriteFault}
use Rattle.gs_linktext.specs.declared.writer.LinkTextWriteFault.TheVariants.{CannotSpell, Memory}

-- trusted, own: holds if the error is `Memory`, or names the first of `links` that cannot be spelled
abbrev pub IsUnspellable : List (List ℕ × List ℕ × Target) → LinkTextWriteFault → Type 0
IsUnspellable links (CannotSpell i) = position cannot_spell links ≡ Some i
IsUnspellable links Memory = Unit {0}
