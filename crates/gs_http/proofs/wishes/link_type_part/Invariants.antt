use Rattle.std.proofs.Common.{◌≡◌, length}
use Rattle.std.specs.List.{find, slice_split}
use Rattle.gs_dlink.specs.Uris.{separates_parts}
use Rattle.gs_http.specs.Wishes.{is_link_type}
use Rattle.gs_http.proofs.wishes.link_type_part.Given as goal

-- none of the parts so far
abbrev pub invariant-loop-rest : goal.invariant-loop-rest
invariant-loop-rest l = find is_link_type (slice_split separates_parts l.fn.query) ≡ find is_link_type (slice_split separates_parts l.rest)

abbrev pub decreases-loop-rest : goal.decreases-loop-rest
decreases-loop-rest l = length l.rest
