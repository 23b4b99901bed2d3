-- Places in a document: JSON Pointers (RFC 6901, sections 3 and 4).
use Rattle.std.specs.Prelude.{◌≡◌, ◌<◌, ◌^◌, ℕ, ◌==◌, Some, List, [], ◌∷◌, ◌++◌, codes, if◌then◌else◌}
use Rattle.std.specs.List.{flat_map}
use Rattle.std.specs.Fmt.{decimal}
use Rattle.serde_json.specs.Data.{Data}
use Rattle.serde_json.specs.Find.{at, get, pointer}

-- trusted, RFC 6901, section 3: the escape of a byte: `~0` for `~` and `~1` for `/`
abbrev pub escaped_byte : ℕ → List ℕ
escaped_byte c = if c == 126 then codes "~0" else if c == 47 then codes "~1" else c ∷ []

-- trusted, RFC 6901, sections 3 and 4: the reference token of `name`
abbrev pub escaped : List ℕ → List ℕ
escaped name = flat_map escaped_byte name

-- trusted, RFC 6901, sections 3 and 4: the place of the member `name` of the object at `place`
abbrev pub member_place : List ℕ → List ℕ → List ℕ
member_place place name = place ++ 47 ∷ escaped name

-- trusted, RFC 6901, sections 3 and 4: the place of the item at index `i` of the array at `place`
abbrev pub item_place : List ℕ → ℕ → List ℕ
item_place place i = place ++ 47 ∷ decimal i

-- trusted, own: holds if a member's place leads to the member whenever the object's place leads to the object
abbrev pub LeadsToMembers : Type 0
LeadsToMembers = (place name : List ℕ) (d part e : Data) → pointer place d ≡ Some part → get name part ≡ Some e → pointer (member_place place name) d ≡ Some e

-- trusted, own: holds if an item's place leads to the item whenever the array's place leads to the array
abbrev pub LeadsToItems : Type 0
LeadsToItems = (place : List ℕ) (i : ℕ) (d part e : Data) → i < 2 ^ 64 → pointer place d ≡ Some part → at i part ≡ Some e → pointer (item_place place i) d ≡ Some e
