-- The pairs of an identity: GS1 General Specifications, section 3, and GS1 Digital Link URI Syntax, section 3.
use Rattle.std.specs.Prelude.{Bool, List, [], ◌∷◌, ◌++◌, ℕ, bytes_eq, filter, take}
use Rattle.gs_ai.specs.declared.pair.Pair.{Pair}

-- trusted, GS1 General Specifications, section 3; GS1 Digital Link URI Syntax, section 3: a primary key, the pairs that
-- qualify it, and the attributes
pub record Elements : Type 0 where
  pub key : Pair
  pub qualifiers : List Pair
  pub attributes : List Pair

-- trusted, own: the elements of this key, these pairs that qualify it, and these attributes
abbrev pub elements_with : Pair → List Pair → List Pair → Elements
elements_with key qualifiers attributes = record { key = key; qualifiers = qualifiers; attributes = attributes }

-- trusted, GS1 General Specifications, section 3; GS1 Digital Link URI Syntax, section 3: the list of all pairs of `identity`
-- in order
abbrev pub pairs_of : Elements → List Pair
pairs_of identity = identity.key ∷ (identity.qualifiers ++ identity.attributes)

-- trusted, GS1 General Specifications, section 3; GS1 Digital Link URI Syntax, section 3: the key with the first k of its
-- qualifiers
abbrev pub first_qualifiers : ℕ → Elements → Elements
first_qualifiers k identity = record { key = identity.key; qualifiers = take k identity.qualifiers; attributes = [] }

-- trusted, own: the identity with only the key
abbrev pub key_alone : Elements → Elements
key_alone identity = record { key = identity.key; qualifiers = []; attributes = [] }

-- trusted, own: holds if the code of `pair` is `code`
abbrev pub is_coded : List ℕ → Pair → Bool
is_coded code pair = bytes_eq code pair.code

-- trusted, own: the key with its qualifier of this code, if it has one
abbrev pub with_qualifier : List ℕ → Elements → Elements
with_qualifier code identity = record { key = identity.key; qualifiers = filter (is_coded code) identity.qualifiers; attributes = [] }
