use Rattle.std.proofs.Common.{◌≡◌, ◌∙◌, ap, inr, sym, string_bytes, false, Err}
use Rattle.gs_json.specs.Places.{member_place}
use Rattle.gs_json.specs.Shapes.{is_named}
use Rattle.gs_json.specs.declared.error.JsonFault.TheVariants.{Unknown}
use Rattle.gs_json.proofs.JudgementLemmas.{all_known, unknown_here}
use Rattle.gs_json.proofs.plan.judge_names.Goals as goal

pub returns-then-not-names : goal.returns-then-not-names
returns-then-not-names c =
    let all = c.into_iter-name-iterator.ensures.into_iter_gives ∙ c.keys-name-items.ensures.rest in
    let answer : c.names.result ≡ false = c.if-not-names.true in
    let named : is_named c.args.plan.now (string_bytes c.in-Some.name.now) ≡ false =
    ap (is_named c.args.plan.now) (sym c.as_bytes.ensures.value) ∙ sym c.names.ensures ∙ answer in
    let text = c.in_ok-member_text.ensures ∙ ap (member_place c.args.place.now) c.as_bytes-then-not-names.ensures.value in
    inr (ap (λ place. Err (Unknown place)) text
    ∙ unknown_here _ _ _ _ _ all c.loop-name.invariant c.in-Some.name.now _ c.in-Some.ensures.steps named)

pub returns : goal.returns
returns c =
    let all = c.into_iter-name-iterator.ensures.into_iter_gives ∙ c.keys-name-items.ensures.rest in
    inr (all_known _ _ _ _ _ all c.loop-name.invariant c.in-None.ensures.steps.0)
