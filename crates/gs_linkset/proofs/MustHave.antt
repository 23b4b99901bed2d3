-- A member that an object must have: its error, or its reading.
use Rattle.std.proofs.Common.{◌≡◌, ℕ, List, Option, Some, None}
use Rattle.std.specs.Prelude.{Result, is_some, unwrap_or}
use Rattle.serde_json.specs.Data.{Data}
use Rattle.gs_json.specs.Answers.{asked}
use Rattle.gs_json.specs.Shapes.{kind_errors, sort_errors}
use Rattle.gs_json.specs.declared.error.JsonFault.{JsonFault}
use Rattle.gs_json.specs.declared.plan.Sort.{Sort}
use Rattle.gs_chars.specs.Answers.{first_or, OrError}
use Rattle.gs_json.specs.declared.error.JsonFault.TheVariants.{Memory}

module _ {X : Type 0} (sort : Sort) (made : Data → Option X) (none : X)
    (known : (place : List ℕ) (d : Data) → sort_errors place sort d ≡ kind_errors place (is_some (made d))) (name place : List ℕ) where
  asked_of : (at : List ℕ) (o : Option X) (r : Result X JsonFault) → OrError Memory r (asked at o)
      → OrError Memory r (first_or (kind_errors at (is_some o)) (unwrap_or o none))
  asked_of at (Some x) r h = h
  asked_of at None r h = h
