use Rattle.std.proofs.Common.{◌≡◌, ◌∙◌, ℕ, Bool, false, if◌then◌else◌, Option, Some, refl, subst, sym}
use Rattle.std.specs.Prelude.{Ok, Err}
use Rattle.gs_translate.specs.declared.form.FieldName.TheVariants.{Gcp}
use Rattle.gs_translate.specs.declared.reason.Reason.TheVariants.{Missing, NoOption}
use Rattle.gs_translate.specs.Targets.{and_then, else_rejected, has_option}
use Rattle.gs_translate.proofs.tag_fields.length_for.Goals as goal

none_if : (has : Bool) (gcp : ℕ) → has ≡ false → (if has then Ok gcp else Err NoOption) ≡ Err NoOption
none_if has gcp none = rw none refl

no_option : (has : ℕ → Bool) (gcp : ℕ) (known : Option ℕ) → Some gcp ≡ known → has gcp ≡ false
    → and_then (else_rejected (Missing Gcp) known) (λ n. if has n then Ok n else Err NoOption) ≡ Err NoOption
no_option has gcp known is none =
    subst (λ (k : Option ℕ). and_then (else_rejected (Missing Gcp) k) (λ n. if has n then Ok n else Err NoOption) ≡ Err NoOption) is
    (none_if (has gcp) gcp none)

pub returns-else-has_option : goal.returns-else-has_option
returns-else-has_option c =
    sym (no_option (has_option c.args.set.now c.args.kind) c.in-Some.gcp _ c.in-Some.ensures (sym c.has_option.ensures ∙ c.if-has_option.false))
