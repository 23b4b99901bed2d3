-- Definitions for proofs and private functions, in addition to those of Loading.antt.
use Rattle.std.specs.Prelude.{ℕ, List, length, Err}
use Rattle.std.specs.List.{flat_map}
use Rattle.gs_chars.specs.Answers.{first_or, OrError}
use Rattle.gs_ai.specs.declared.row.AiRow.{AiRow}
use Rattle.gs_linkset.specs.declared.link_types.Context.{Context}
use Rattle.gs_linkset.specs.declared.link_types.Relation.{Relation}
use Rattle.gs_links.specs.declared.error.StoreFault.{StoreFault}
use Rattle.gs_links.specs.Loads.{context_errors}
use Rattle.gs_links.specs.declared.error.StoreFault.TheVariants.{Memory}

-- the number of targets of the relations, and of the contexts
abbrev pub relations_count : List Relation → ℕ
relations_count relations = length (flat_map (λ relation. relation.targets) relations)

-- holds if an error is the first rejection of a context, or out of memory
abbrev pub IsRejection : List AiRow → ℕ → Context → StoreFault → Type 0
IsRejection table i context error = OrError {X = Unit {0}} Memory (Err error) (first_or (context_errors table i context) (tt {0}))
