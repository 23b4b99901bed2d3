use Rattle.std.proofs.Common.{◌≡◌, ◌==◌, ℕ, Bool, true, false, ◌⊎◌, inl, inr, List, [], ◌∷◌, length, bytes_eq, suc, refl, ◌∙◌, arith}
use Rattle.std.proofs.lemmas.Bool.Decides.{nat_tests}
use Rattle.gs_tables_document.specs.declared.document.LevelName.{LevelName}
use Rattle.gs_tables_document.specs.declared.document.LevelName.TheVariants.{Binary, Tag}
use Rattle.gs_epc.specs.Candidates.{is_asked}
use Rattle.gs_epc.proofs.candidates.is_asked.Goals as goal

not_none : (n : ℕ) → (suc n == 0) ≡ false
not_none n = grind (arith, nat_tests)

any_asked : (level : LevelName) (asked name : List ℕ) (none : Bool) → (level ≡ Binary) ⊎ (level ≡ Tag) → none ≡ (length asked == 0)
    → none ≡ true → none ≡ is_asked level asked name
any_asked level [] name none (inl is) e h = rw (is, h) refl
any_asked level [] name none (inr is) e h = rw (is, h) refl
any_asked level (x ∷ asked) name none is e h = absurd (let f : none ≡ false = e ∙ not_none (length asked) in cc)

one_asked : (level : LevelName) (asked name : List ℕ) (none same : Bool) → (level ≡ Binary) ⊎ (level ≡ Tag) → none ≡ (length asked == 0)
    → none ≡ false → same ≡ bytes_eq asked name → same ≡ is_asked level asked name
one_asked level [] name none same is e h s = absurd (let f : none ≡ true = e in cc)
one_asked level (x ∷ asked) name none same (inl is) e h s = rw is s
one_asked level (x ∷ asked) name none same (inr is) e h s = rw is s

pub returns-then-is_empty : goal.returns-then-is_empty
returns-then-is_empty c = any_asked c.args.level c.args.asked.now c.args.name.now _ c.in-Binary.is (cc) c.if-is_empty.true

pub returns-else-is_empty : goal.returns-else-is_empty
returns-else-is_empty c =
    one_asked c.args.level c.args.asked.now c.args.name.now _ c.eq.result c.in-Binary.is (cc) c.if-is_empty.false c.eq.ensures
