-- The answer for a member by how it fits. No contract of a public call names it.
use Rattle.std.specs.Prelude.{◌≡◌, ℕ, Bool, if◌then◌else◌, List, Option, Some, None, Result, Ok, Err}
use Rattle.serde_json.specs.Data.{Data}
use Rattle.gs_json.specs.Places.{item_place}
use Rattle.gs_json.specs.Shapes.{first_error, sort_errors}
use Rattle.gs_json.specs.declared.error.JsonFault.{JsonFault}
use Rattle.gs_json.specs.declared.error.JsonFault.TheVariants.{Kind}
use Rattle.gs_json.specs.declared.plan.Fit.{Fit}
use Rattle.gs_json.specs.declared.plan.Fit.TheVariants as fit
use Rattle.gs_json.specs.declared.plan.Sort.{Sort}

-- the answer at `place` for a member that fits wholly, not at all, or except for one item
abbrev pub fit_answer : List ℕ → Fit → Result Unit JsonFault
fit_answer place fit.Whole = Ok tt
fit_answer place fit.Not = Err (Kind place)
fit_answer place (fit.AllBut i) = Err (Kind (item_place place i))

-- holds if, at each place, the first error of `d` by `sort` is the answer for `fits`
abbrev pub FitsAs : Sort → Data → Fit → Type 0
FitsAs sort d fits = (place : List ℕ) → first_error (sort_errors place sort d) ≡ fit_answer place fits

-- fits wholly if `fits` is true, otherwise not at all
abbrev pub fit_if : Bool → Fit
fit_if fits = if fits then fit.Whole else fit.Not

-- fits except for the item at the index, or wholly if there is none
abbrev pub fit_but : Option ℕ → Fit
fit_but (Some i) = fit.AllBut i
fit_but None = fit.Whole
