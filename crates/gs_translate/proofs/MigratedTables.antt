-- Tables that loads of one text give translate alike.
use Rattle.std.proofs.Common.{◌≡◌, ℕ, List, subst}
use Rattle.std.specs.Prelude.{Ok, Err}
use Rattle.gs_tables_document.specs.declared.error.LoadFault.TheVariants.{Ambiguous, Memory}
use Rattle.gs_tables.specs.MigratedSets.{LoadsAlike}
use Rattle.gs_tables.specs.Shapes.{AreAlike, LoadAnswer, Shape, but_text, same}
use Rattle.gs_tables.specs.Tables.{TableRows}
use Rattle.gs_tables.proofs.JudgedAnswers.{judged_alike}
use Rattle.gs_tables.proofs.OneAnswer.{ruling_of_bytes}
use Rattle.gs_translate.specs.MigratedTables.{TranslateAlike}

no_memory : (set : TableRows) → Ok set ≡ Err Memory → ⊥
no_memory set h = let g : Ok set ≡ Err Memory = h in cc

one_set : (set other : TableRows) → AreAlike (Ok set) (Ok other) → set ≡ other
one_set set other (same e) = let g : Ok set ≡ Ok other = e in cc
one_set set other (but_text name i j text text' e f) = absurd (let g : Ok set ≡ Err (Ambiguous name i j text) = e in cc)

pub migrated_alike : (bytes text : List ℕ) (set other : TableRows) → LoadsAlike bytes text → LoadAnswer bytes (Ok set)
    → LoadAnswer text (Ok other) → TranslateAlike set other
migrated_alike bytes text set other alike loads loads' =
    let e = one_set set other (judged_alike (Shape text) (ruling_of_bytes text) (Ok set) (Ok other) (alike set loads) loads' (no_memory set) (no_memory other)) in
    subst (λ s. TranslateAlike set s) e (λ prefixes options from to text answer. ((λ h. h), (λ h. h)))
