-- Classes of one name have one key and one element.
use Rattle.std.proofs.Common.{◌≡◌, ℕ, zero, suc, ◌<◌, ◌==◌, ◌&&◌, Bool, true, List, [], ◌∷◌, take, Some, None, bytes_eq, find, slice_get, is_some, refl, sym, ap, subst, ◌∙◌, arith, inl, inr}
use Rattle.std.specs.List.{list_all}
use Rattle.std.proofs.lemmas.Bool.{cases_lt, cases_eq, and_parts}
use Rattle.gs_chars.proofs.TruthsAndLists.{equal_bytes, get_take, same_bytes}
use Rattle.gs_ai.specs.declared.row.AiRow.{AiRow}
use Rattle.gs_ai.specs.Values.{has_code}
use Rattle.gs_ident.specs.Elements.{Elements}
use Rattle.gs_ident.specs.Identities.{IsMadeWith, pair_with}
use Rattle.gs_ident.proofs.KeyPairs.{found_place}
use Rattle.gs_ident.proofs.PairLemmas.{found_passes}
use Rattle.gs_class.specs.declared.class_set.Class.{Class}
use Rattle.gs_class.specs.declared.document.ClassRow.{ClassRow}
use Rattle.gs_class.specs.Rules.{agrees, class_rejections, is_same_pair}
use Rattle.gs_class.specs.Sets.{ClassRows, IsOfTable, option_of}
use Rattle.gs_class.specs.Written.{has_key, is_named_by, others_of}
use Rattle.gs_class.specs.WrittenSupport.{CanBeWritten, EachCanWrite}
use Rattle.gs_class.proofs.KeptClasses.{agree_at}
use Rattle.gs_class.proofs.PlacedPairs.{qualified_pair}
use Rattle.gs_class.proofs.SetParts.{are_texts, as_many, option_at, row_of_class}
use Rattle.gs_class.proofs.WrittenItems.{can_write}

-- ---- two rows of one name

-- the rows have one key and one element
pub record IsOnePair (row other : ClassRow) : Type 0 where
  pub key : row.key ≡ other.key
  pub element : row.element ≡ other.element

pub all_at : {X : Type 0} (p : X → Bool) (xs : List X) (i : ℕ) (x : X) → list_all p xs ≡ true → slice_get xs i ≡ Some x → p x ≡ true
all_at p [] i x h at = absurd (let e : None ≡ Some x = at in cc)
all_at p (y ∷ ys) zero x h at = let same : y ≡ x = cc in rw (← same) (and_parts (p y) (list_all p ys) h).0
all_at p (y ∷ ys) (suc i) x h at = all_at p ys i x (and_parts (p y) (list_all p ys) h).1 at

agree_pair : (row other : ClassRow) → agrees row other ≡ true → row.name ≡ other.name → IsOnePair row other
unfolding agrees
agree_pair row other h same =
    let named : bytes_eq row.name other.name ≡ true = rw same (same_bytes other.name) in
    let both : (is_same_pair row other && (row.lead == other.lead)) ≡ true = rw named at h in
    let pair = and_parts (bytes_eq row.key other.key) (bytes_eq row.element other.element) (and_parts (is_same_pair row other) (row.lead == other.lead) both).0 in
    record { key = equal_bytes row.key other.key pair.0; element = equal_bytes row.element other.element pair.1 }

earlier_pair : (ais : List AiRow) (rows : List ClassRow) (i j : ℕ) (row other : ClassRow) → class_rejections ais rows ≡ []
    → slice_get rows i ≡ Some row → slice_get rows j ≡ Some other → j < i → row.name ≡ other.name → IsOnePair row other
earlier_pair ais rows i j row other none a b low same =
    let there : slice_get (take i rows) j ≡ Some other = get_take rows i j low ∙ b in
    agree_pair row other (all_at (agrees row) (take i rows) j other (agree_at ais rows i row none a) there) same

pub one_pair : (ais : List AiRow) (rows : List ClassRow) (i j : ℕ) (row other : ClassRow) → class_rejections ais rows ≡ []
    → slice_get rows i ≡ Some row → slice_get rows j ≡ Some other → row.name ≡ other.name → IsOnePair row other
one_pair ais rows i j row other none a b same = elim (cases_lt j i) [
  | inl low ↦ earlier_pair ais rows i j row other none a b low same
  | inr high ↦ elim (cases_eq i j) [
    | inl e ↦ let here : slice_get rows j ≡ Some row = rw e at a in
        let both : Some row ≡ Some other = sym here ∙ b in
        let equal : row ≡ other = cc in
        rw equal (record { key = refl; element = refl })
    | inr differ ↦
        let back = earlier_pair ais rows j i other row none b a (omega arith) (sym same) in
        record { key = sym back.key; element = sym back.element }
  ]
]

-- ---- the class that names an identity

module _ (ais : List AiRow) (set : ClassRows) (identity : Elements) (of : IsOfTable ais set) (made : IsMadeWith ais identity)
    (class : Class) (found : find (is_named_by identity) set.classes ≡ Some class) where
  naming_at : (i : ℕ) × (slice_get set.classes i ≡ Some class)
  naming_at = found_place (is_named_by identity) set.classes class found

  pub naming_key : class.key ≡ identity.key.code
  naming_key = equal_bytes class.key identity.key.code (and_parts (has_key identity class) _ (found_passes (is_named_by identity) set.classes class found)).0

  -- each class of its name has its key and its element
  pub same_pair : (i : ℕ) (other : Class) → slice_get set.classes i ≡ Some other → bytes_eq class.name other.name ≡ true
      → (other.key ≡ identity.key.code) × (other.element ≡ class.element)
  same_pair i other at named =
      let first = row_of_class ais set naming_at.0 of class naming_at.1 in
      let second = row_of_class ais set i of other at in
      let names : first.row.name ≡ second.row.name = ap (λ (c : Class). c.name) (sym first.class_is) ∙ equal_bytes class.name other.name named ∙ ap (λ (c : Class). c.name) second.class_is in
      let pair = one_pair ais of.rows naming_at.0 i first.row second.row of.in_order first.at second.at names in (
        ap (λ (c : Class). c.key) second.class_is ∙ sym pair.key ∙ ap (λ (c : Class). c.key) (sym first.class_is) ∙ naming_key,
        ap (λ (c : Class). c.element) second.class_is ∙ sym pair.element ∙ ap (λ (c : Class). c.element) (sym first.class_is),
      )

  named_by : is_some (pair_with (others_of identity) class.element) ≡ true
  named_by = (and_parts (has_key identity class) (is_some (pair_with (others_of identity) class.element)) (found_passes (is_named_by identity) set.classes class found)).1

  each_can : EachCanWrite ais set class.name identity
  each_can i other option at options named =
      let row = row_of_class ais set i of other at in
      let pair = same_pair i other at named in
      let own : row.row.key ≡ identity.key.code = ap (λ (c : Class). c.key) (sym row.class_is) ∙ pair.0 in
      let element : class.element ≡ row.row.element = sym pair.1 ∙ ap (λ (c : Class). c.element) row.class_is in
      let key : find (has_code identity.key.code) ais ≡ Some row.kept.key = subst (λ (code : List ℕ). find (has_code code) ais ≡ Some row.kept.key) own row.kept.found in
      let there = qualified_pair ais identity row.kept.key row.row.element made key row.kept.lists (rw element at named_by) in
      let write = can_write ais row.row row.kept identity made own there.0 there.1 in
      let both : Some option ≡ Some (option_of row.row) = sym options ∙ option_at ais set i of row.row row.at in
      let same : option ≡ option_of row.row = cc in
      rw (row.class_is, same) write

  -- each class of its name can write the identity
  pub can_be_written : CanBeWritten ais set class.name identity
  can_be_written = record { as_many = as_many ais set of; texts = are_texts ais set of; each = each_can }
