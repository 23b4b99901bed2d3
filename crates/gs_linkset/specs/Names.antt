-- The attribute or relation of a name has that name.
use Rattle.std.specs.Prelude.{◌≡◌, ℕ, Bool, true, false, if◌then◌else◌, List, codes, Option, Some, None, option_map, option_and_then, refl}
use Rattle.std.specs.Option.{option_map_or}
use Rattle.std.specs.Str.{bytes_eq}
use Rattle.std.proofs.Common.{ap, sym, ◌∙◌}
use Rattle.serde_json.specs.Data.{Data}
use Rattle.serde_json.specs.Find.{get}
use Rattle.gs_linkset.specs.Attributes.{value_of}
use Rattle.gs_linkset.specs.Documents.{attr_named, attr_of, attr_with, relation_of, relation_with, targets_at}
use Rattle.gs_linkset.specs.declared.link_types.Attr.{Attr}
use Rattle.gs_linkset.specs.declared.link_types.AttrValue.{AttrValue}
use Rattle.gs_linkset.specs.declared.link_types.Relation.{Relation}

named_so : {X : Type 0} (name : X → List ℕ) (n : List ℕ) (made : Option X) (x : X) → option_map_or name made n ≡ n → made ≡ Some x → name x ≡ n
named_so name n made x own h = sym (ap (λ o. option_map_or name o n) h) ∙ own

attr_by_value : (n : List ℕ) (v : Option AttrValue) → option_map_or (λ attr. attr.name) (option_map (attr_with n) v) n ≡ n
attr_by_value n None = refl
attr_by_value n (Some v) = refl

attr_by : (n : List ℕ) (b : Bool) (o : Option Data) → option_map_or (λ attr. attr.name) (if b then None else option_and_then (attr_named n) o) n ≡ n
attr_by n true o = refl
attr_by n false None = refl
attr_by n false (Some d) = attr_by_value n (value_of n d)

-- the attribute of a name has it
pub attr_has_name : (d : Data) (n : List ℕ) (x : Attr) → attr_of d n ≡ Some x → x.name ≡ n
unfolding attr_of
attr_has_name d n x h = named_so (λ attr. attr.name) n (attr_of d n) x (attr_by n (bytes_eq n (codes "href")) (get n d)) h

relation_by : (n : List ℕ) (o : Option (List Data)) → option_map_or (λ relation. relation.name) (option_map (relation_with n) o) n ≡ n
relation_by n None = refl
relation_by n (Some items) = refl

-- the relation of a name has it
pub relation_has_name : (d : Data) (n : List ℕ) (x : Relation) → relation_of d n ≡ Some x → x.name ≡ n
unfolding relation_of
relation_has_name d n x h = named_so (λ relation. relation.name) n (relation_of d n) x (relation_by n (targets_at d n)) h
