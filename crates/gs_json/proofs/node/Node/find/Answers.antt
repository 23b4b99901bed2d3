use Rattle.std.proofs.Common.{◌∙◌, ap, sym}
use Rattle.gs_json.specs.Places.{member_place}
use Rattle.gs_json.proofs.LookUpLemmas.{find_none, find_some, same_text}
use Rattle.gs_json.proofs.node.Node.find.Goals as goal

pub returns-in_ok-then-in-Some-get_key_value-clause-part : goal.returns-in_ok-then-in-Some-get_key_value-clause-part
returns-in_ok-then-in-Some-get_key_value-clause-part c =
    rw (← c.self.view_is) (find_some _ _ _ _ c.in-Some.ensures c.in-Some-get_key_value.ensures.value)

pub returns-in_ok-then-in-Some-get_key_value-clause-place : goal.returns-in_ok-then-in-Some-get_key_value-clause-place
returns-in_ok-then-in-Some-get_key_value-clause-place c =
    let place = c.in_ok-then-in-Some-get_key_value.ensures in
    let own = c.as_str.ensures.value ∙ sym (same_text _ _ c.in-Some-get_key_value.ensures.same_key) in
    rw (← c.self.view_is) (place ∙ ap (member_place c.self.inside.place) own)

pub returns-in-None-clause-part : goal.returns-in-None-clause-part
returns-in-None-clause-part c = rw (← c.self.view_is) (find_none _ _ _ c.in-Some.ensures c.in-None.ensures.value)
