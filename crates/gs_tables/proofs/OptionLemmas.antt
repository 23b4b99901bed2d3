-- Chains of tests, and the rejections of an option.
use Rattle.std.proofs.Common.{◌≡◌, ℕ, Bool, true, false, not, ◌&&◌, ◌≤◌, nat_lt, arith, List, [], ◌++◌, Option, Some, None, slice_get, refl, sym, option_map}
use Rattle.std.proofs.lemmas.Grind.{common_steps}
use Rattle.std.specs.Prelude.{Result, option_to_list}
use Rattle.std.specs.Option.{option_map_or}
use Rattle.gs_tables_document.specs.declared.error.LoadFault.{LoadFault}
use Rattle.gs_chars.specs.Answers.{error_if}
use Rattle.gs_tables.specs.TablesSupport.{IsFirst}

-- ---- three tests, in sequence

pub stops_first : (a b c x : Bool) → x ≡ a → x ≡ false → false ≡ ((a && b) && c)
stops_first a b c x e f = rw (sym e, f) refl

pub stops_second : (a b c x y : Bool) → x ≡ a → y ≡ b → x ≡ true → y ≡ false → false ≡ ((a && b) && c)
stops_second a b c x y e f g h = rw (sym e, sym f, g, h) refl

pub goes_on : (a b c x y : Bool) → x ≡ a → y ≡ b → x ≡ true → y ≡ true → c ≡ ((a && b) && c)
goes_on a b c x y e f g h = rw (sym e, sym f, g, h) refl

-- ---- a found item, and a test of it

pub tested : {X : Type 0} (test : X → Bool) (found : Option X) (x : X) (b : Bool) → found ≡ Some x → b ≡ test x → b ≡ option_map_or test found false
tested test found x b e f = rw (e, f) refl

pub not_tested : {X : Type 0} (test : X → Bool) (found : Option X) → found ≡ None → false ≡ option_map_or test found false
not_tested test found e = rw e refl

-- ---- the rejections of an option, in their order

-- the rejections of an option by the tests that they come of
abbrev pub listed : Option ℕ → Option ℕ → (ℕ → LoadFault) → (ℕ → LoadFault) → Bool → Bool → LoadFault → LoadFault → List LoadFault
listed bad twin f twins large fit size mismatch = option_to_list (option_map f bad) ++ error_if large size ++ error_if
    (not fit) mismatch ++ option_to_list (option_map twins twin)

pub bad_first : (bad twin : Option ℕ) (f twins : ℕ → LoadFault) (large fit : Bool) (size mismatch : LoadFault) (k : ℕ) → bad ≡ Some k
    → slice_get (listed bad twin f twins large fit size mismatch) 0 ≡ Some (f k)
bad_first bad twin f twins large fit size mismatch k e = rw e refl

pub size_next : (bad twin : Option ℕ) (f twins : ℕ → LoadFault) (large fit : Bool) (size mismatch : LoadFault) → bad ≡ None → large ≡ true
    → slice_get (listed bad twin f twins large fit size mismatch) 0 ≡ Some size
size_next bad twin f twins large fit size mismatch e g = rw (e, g) refl

pub mismatch_next : (bad twin : Option ℕ) (f twins : ℕ → LoadFault) (large fit : Bool) (size mismatch : LoadFault) → bad ≡ None
    → large ≡ false → fit ≡ false → slice_get (listed bad twin f twins large fit size mismatch) 0 ≡ Some mismatch
mismatch_next bad twin f twins large fit size mismatch e g h = rw (e, g, h) refl

-- the deciding rule if the first three tests reject nothing
pub twin_decides : (bad twin : Option ℕ) (f twins : ℕ → LoadFault) (large fit : Bool) (size mismatch : LoadFault) (answer : Result (Unit {0}) LoadFault)
    → bad ≡ None → large ≡ false → fit ≡ true → IsFirst (option_to_list (option_map twins twin)) answer
    → IsFirst (listed bad twin f twins large fit size mismatch) answer
twin_decides bad twin f twins large fit size mismatch answer e g h i = rw (e, g, h) i

pub found_same : (twin : Option ℕ) (twins : ℕ → LoadFault) (j : ℕ) → twin ≡ Some j → slice_get (option_to_list (option_map twins twin)) 0 ≡ Some (twins j)
found_same twin twins j e = rw e refl

pub none_same : (twin : Option ℕ) (twins : ℕ → LoadFault) → twin ≡ None → option_to_list (option_map twins twin) ≡ []
none_same twin twins e = rw e refl

pub above_limit : (limit size : ℕ) → (size ≤ limit → ⊥) → nat_lt limit size ≡ true
above_limit limit size h = grind (arith, common_steps)

pub within_limit : (limit size : ℕ) → size ≤ limit → nat_lt limit size ≡ false
within_limit limit size h = grind (arith, common_steps)
