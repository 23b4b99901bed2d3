-- The answers of the private steps of reading.
use Rattle.std.specs.Prelude.{◌≡◌, ℕ, List, ◌++◌, Option, Some}
use Rattle.gs_linkset.specs.declared.link_types.Context.{Context}
use Rattle.gs_linkset.specs.declared.link_types.Target.{Target}
use Rattle.gs_linktext.specs.Contexts.{IsCut}
use Rattle.gs_linktext.specs.Links.{IsLinksOfLink}
use Rattle.gs_linktext_grammar.specs.declared.error.LinkTextFault.{LinkTextFault}
use Rattle.gs_linktext_grammar.specs.declared.error.LinkTextFault.TheVariants.{Syntax, Anchor, Rel, Memory}
use Rattle.gs_linktext_grammar.specs.declared.written_link.WrittenLink.{WrittenLink}

-- holds if the error is this error of a link, or memory ran out
abbrev pub IsErrorOfLink : Option LinkTextFault → LinkTextFault → Type 0
IsErrorOfLink found Syntax = ⊥
IsErrorOfLink found (Anchor i) = found ≡ Some (Anchor i)
IsErrorOfLink found (Rel i) = found ≡ Some (Rel i)
IsErrorOfLink found Memory = Unit {0}

-- holds if contexts that are a cut of links are, with those of a written link more, a cut of these too
abbrev pub IsMoreLinks : WrittenLink → List Context → List Context → Type 0
IsMoreLinks link old new =
    (own : List (List ℕ × List ℕ × Target)) × IsLinksOfLink link own
    × ((links : List (List ℕ × List ℕ × Target)) → IsCut links old → IsCut (links ++ own) new)
