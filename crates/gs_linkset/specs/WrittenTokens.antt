-- The tokens of a document's tree, which json's `Writer` prints one at a time. No contract of a public call names them.
use Rattle.std.specs.Prelude.{◌≡◌, ℕ, suc, Bool, not, if◌then◌else◌, List, [], ◌∷◌, ◌++◌, codes}
use Rattle.std.specs.List.{flat_map}
use Rattle.std.specs.Str.{bytes_eq}
use Rattle.json.specs.Token.{Token, key, string as string_token}
use Rattle.json.specs.Tree.{json_tokens}
use Rattle.json.specs.Written.{Written}
use Rattle.serde_json.specs.Data.{Data}
use Rattle.serde_json.specs.Written.{outline}
use Rattle.gs_linkset.specs.LinkShapes.{is_below}

-- the tokens of the tree `d`
abbrev pub tokens_of : Data → List Token
tokens_of d = json_tokens (outline d)

-- holds if the buffer keeps its start and its tokens, followed by `ts`
pub record Adds (old new : Written) (ts : List Token) : Type 0 where
  pub before : new.before ≡ old.before
  pub tokens : new.tokens ≡ old.tokens ++ ts

-- the tokens of the items of an array
abbrev pub item_tokens : {X : Type 0} → (X → Data) → List X → List Token
item_tokens tree things = flat_map (λ x. tokens_of (tree x)) things

-- the tokens of a member
abbrev pub member_tokens : {X : Type 0} → (X → List ℕ) → (X → Data) → X → List Token
member_tokens name tree x = key (name x) ∷ tokens_of (tree x)

-- the tokens of members
abbrev pub members_tokens : {X : Type 0} → (X → List ℕ) → (X → Data) → List X → List Token
members_tokens name tree things = flat_map (member_tokens name tree) things

-- the tokens of a member that is a text
abbrev pub text_tokens : List ℕ → List ℕ → List Token
text_tokens name text = key name ∷ string_token text ∷ []

-- the tokens of a language, or none if it is empty
abbrev pub language_tokens : List ℕ → List Token
language_tokens [] = []
language_tokens (c ∷ language) = text_tokens (codes "language") (c ∷ language)

-- holds if `name` is not `other`
abbrev pub is_other : List ℕ → List ℕ → Bool
is_other other name = not (bytes_eq name other)

-- the number of first names below `other`
abbrev pub count_below : List ℕ → List (List ℕ) → ℕ
count_below other [] = 0
count_below other (name ∷ names) = if is_below name other then suc (count_below other names) else 0
