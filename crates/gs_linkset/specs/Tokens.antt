-- Values, items and members that tokens begin with, and the contexts that are read of items. No contract of a public call
-- names them.
use Rattle.std.specs.Prelude.{◌≡◌, ℕ, Bool, true, false, List, length, Option, Some, Result, IfOk, option_to_list, OnOk}
use Rattle.std.specs.List.{list_all}
use Rattle.json.specs.Token.{Token}
use Rattle.json.specs.Json.{items, members, value}
use Rattle.serde_json.specs.Data.{Data, Items, Members, no_members, object, put}
use Rattle.serde_json.specs.Read.{converted, of_items, of_json, of_members}
use Rattle.gs_chars.specs.Answers.{first_or, OrError}
use Rattle.gs_json.specs.Shapes.{items_list}
use Rattle.gs_json.specs.declared.error.JsonFault.{JsonFault}
use Rattle.gs_linkset.specs.Answers.{document_answer}
use Rattle.gs_linkset.specs.AnswersSupport.{contexts_answer}
use Rattle.gs_linkset.specs.LinkShapes.{is_context}
use Rattle.gs_linkset.specs.declared.document.Contexts.{Contexts}
use Rattle.gs_linkset.specs.declared.link_types.Context.{Context}
use Rattle.gs_json.specs.declared.error.JsonFault.TheVariants.{Memory}

-- the value that the tokens begin with, nested no deeper than `depth`, and the tokens after it
abbrev pub value_from : ℕ → List Token → Option (Data × List Token)
value_from depth ts = converted of_json (value depth ts)

-- the items up to the end of an array, and the tokens after it
abbrev pub items_from : ℕ → List Token → Option (Items × List Token)
items_from depth ts = converted of_items (items (value depth) (length ts) ts)

-- the members up to the end of an object, and the tokens after it
abbrev pub members_from : ℕ → List Token → Option (Members × List Token)
members_from depth ts = converted (λ ms. of_members ms no_members) (members (value depth) (length ts) ts)

-- holds if `found` is something with this property, and the tokens after it
pub record Begins {A : Type 0} (found : Option (A × List Token)) (Has : A → Type 0) (rest : List Token) : Type 0 where
  pub first : A
  pub is : found ≡ Some (first, rest)
  pub has : Has first

-- holds if `result` is the answer to the value that was found, or `Memory`
abbrev pub Answers : {A X : Type 0} → (A → Result X JsonFault) → Option (A × List Token) → List Token → Result X JsonFault → Type 0
Answers answer found rest result = Begins found (λ first. OrError Memory result (answer first)) rest

-- holds if the token opens an array
abbrev pub opens_array : Token → Bool
opens_array Token.begin_object = false
opens_array Token.end_object = false
opens_array Token.begin_array = true
opens_array Token.end_array = false
opens_array (Token.key s) = false
opens_array (Token.string s) = false
opens_array (Token.number s) = false
opens_array (Token.boolean b) = false
opens_array Token.null = false
opens_array Token.bad = false

-- holds if the token opens an object
abbrev pub opens_object : Token → Bool
opens_object Token.begin_object = true
opens_object Token.end_object = false
opens_object Token.begin_array = false
opens_object Token.end_array = false
opens_object (Token.key s) = false
opens_object (Token.string s) = false
opens_object (Token.number s) = false
opens_object (Token.boolean b) = false
opens_object Token.null = false
opens_object Token.bad = false

-- holds if these are the contexts of the items, or their first error
abbrev pub AreRead : Contexts → List Data → Type 0
AreRead contexts items =
    (OrError Memory (first_or (option_to_list contexts.fault) contexts.read.items) (contexts_answer items))
    × (list_all is_context contexts.read.items ≡ true)

-- holds if this is the answer to the object with these members
abbrev pub IsAnswer : Result (List Context) JsonFault → Members → Type 0
IsAnswer answer ms = (OrError Memory answer (document_answer (object ms))) × (IfOk answer (λ contexts. list_all is_context contexts ≡ true))

-- the contexts of the items of an array, or their first error
abbrev pub items_answer : Items → Result (List Context) JsonFault
items_answer items = contexts_answer (items_list items)

-- holds if `new` is the answer after the member `name` with the value that is found, whatever the members are that `old` answers
abbrev pub AnswersWith : {X E : Type 0} → List ℕ → Result (List Context) JsonFault → Result (List Context) JsonFault → Option (Data × List Token) → List Token → Result X E → Type 0
AnswersWith name old new found rest result =
    (before : Members) → IsAnswer old before → OnOk result (Begins found (λ d. IsAnswer new (put name d before)) rest)
