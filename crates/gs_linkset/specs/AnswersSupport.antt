-- Definitions that proofs and private functions use with those of Answers.antt.
use Rattle.std.specs.Prelude.{◌≡◌, ◌⊎◌, ℕ, List, [], codes, map, Option, Some, option_map, Result, Err}
use Rattle.std.specs.Option.{option_map_or}
use Rattle.serde_json.specs.Data.{Data}
use Rattle.serde_json.specs.Find.{at}
use Rattle.gs_json.specs.declared.error.JsonFault.{JsonFault}
use Rattle.gs_json.specs.declared.error.JsonFault.TheVariants.{Kind, Memory}
use Rattle.gs_json.specs.declared.plan.Sort.TheVariants.{Text}
use Rattle.gs_json.specs.Places.{item_place, member_place}
use Rattle.gs_chars.specs.Answers.{first_or, OrError}
use Rattle.gs_json.specs.Members.{array_in, text_in}
use Rattle.gs_linkset.specs.Documents.{context_errors, context_of, item_errors, member_errors, relation_with, target_errors, target_of}
use Rattle.gs_linkset.specs.declared.link_types.Context.{Context}
use Rattle.gs_linkset.specs.declared.link_types.Relation.{Relation}
use Rattle.gs_linkset.specs.declared.link_types.Target.{Target}

-- the text of a member that the object `d` must have, or its error
abbrev pub text_answer : List ℕ → List ℕ → Data → Result (List ℕ) JsonFault
text_answer name place d = first_or (member_errors Text name place d) (text_in name d)

-- the place of the member `linkset` of a document
abbrev pub linkset_place : List ℕ
linkset_place = member_place [] (codes "linkset")

-- the contexts of the items of the array `linkset`, or their first error
unfoldable pub contexts_answer : List Data → Result (List Context) JsonFault
contexts_answer items = first_or (item_errors context_errors linkset_place items) (map context_of items)

-- the contexts of the member `linkset`, or its first error
unfoldable pub linkset_answer : Data → Result (List Context) JsonFault
linkset_answer d = option_map_or contexts_answer (array_in d) (Err (Kind linkset_place))

-- holds if the result is the answer to the item of `whole` at index `i`, or `Memory`
abbrev pub ItemAnswer : {X : Type 0} → (List ℕ → Data → Result X JsonFault) → List ℕ → ℕ → Data → Result X JsonFault → Type 0
ItemAnswer answer place i whole result =
    (result ≡ Err Memory) ⊎ ((d : Data) × (Some d ≡ at i whole) × OrError Memory result (answer (item_place place i) d))

-- the target `d` at `place`, or its first error
abbrev pub target_answer : List ℕ → Data → Result Target JsonFault
target_answer place d = first_or (target_errors place d) (target_of d)

-- the relation of the member `d`, if it is an array, or its first error
abbrev pub member_answer : List ℕ → List ℕ → Data → Result (Option Relation) JsonFault
member_answer name place d =
    first_or (option_map_or (item_errors target_errors place) (array_in d) []) (option_map (relation_with name) (array_in d))
