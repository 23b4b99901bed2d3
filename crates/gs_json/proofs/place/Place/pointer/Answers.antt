use Rattle.std.proofs.Common.{ap, ◌∙◌, arith}
use Rattle.std.proofs.lemmas.List.{take_all}
use Rattle.gs_json.specs.Places.{member_place}
use Rattle.gs_json.specs.Steps.{place_of}
use Rattle.gs_json.proofs.WalkLemmas.{one_step_more}
use Rattle.gs_json.proofs.place.Place.pointer.Goals as goal
use Rattle.gs_json.proofs.place.Place.pointer.Goals.{in-Member+in_ok-push_member-in-Member, in-Item+in_ok-push_item-in-Item}

pub loop-step-preserved : goal.loop-step-preserved
loop-step-preserved c =
    elim c.match-step.branch [
      | in-Member+in_ok-push_member-in-Member w ↦
          let pushed = ap (λ v. v.items) w.text-is ∙ w.in_ok-push_member-in-Member.ensures ∙ ap (member_place c.loop-step.text.items) w.as_bytes.ensures.value in
          one_step_more _ c.loop-step.step-index _ _ _ _ c.loop-step-test.true w.in-Member.is c.loop-step.invariant pushed
      | in-Item+in_ok-push_item-in-Item w ↦
          let pushed = ap (λ v. v.items) w.text-is ∙ w.in_ok-push_item-in-Item.ensures in
          one_step_more _ c.loop-step.step-index _ _ _ _ c.loop-step-test.true w.in-Item.is c.loop-step.invariant pushed
    ]

pub returns : goal.returns
returns c =
    c.loop-step.invariant ∙ ap place_of (take_all c.loop-step.step-index c.as_slice-step-items.result.now (omega arith) ∙ c.as_slice-step-items.ensures) ∙ c.self.view_is
