use Rattle.std.proofs.Common.{◌≡◌}
use Rattle.std.specs.List.{filter_map}
use Rattle.gs_http.specs.AcceptedForms.{first_form, part_form, value_forms}
use Rattle.gs_http.specs.SaidFields.{members_left}
use Rattle.gs_http.proofs.said.value_form.Given as goal

-- none of the members so far names a form
abbrev pub invariant-loop-member : goal.invariant-loop-member
invariant-loop-member l = first_form (value_forms l.value) ≡ first_form (filter_map part_form (members_left l.member-iterator))
