-- A place by its steps. No contract of a public call names it.
use Rattle.std.specs.Prelude.{List, ℕ, ◌∷◌}
use Rattle.std.specs.List.{flat_map}
use Rattle.std.specs.Fmt.{decimal}
use Rattle.gs_json.specs.Places.{escaped}
use Rattle.gs_json.specs.declared.place.Step.{Step}
use Rattle.gs_json.specs.declared.place.Step.TheVariants.{Member, Item}

-- the slash and reference token of a step in a JSON Pointer
abbrev pub step_text : Step → List ℕ
step_text (Member name) = 47 ∷ escaped name.now
step_text (Item i) = 47 ∷ decimal i

-- the JSON Pointer of the steps
abbrev pub place_of : List Step → List ℕ
place_of steps = flat_map step_text steps
