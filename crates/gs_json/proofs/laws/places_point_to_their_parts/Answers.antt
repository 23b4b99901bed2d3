use Rattle.gs_json.proofs.Pointers.{item_pointed_to, member_pointed_to}
use Rattle.gs_json.proofs.laws.places_point_to_their_parts.Goals as goal

pub returns-clause-member : goal.returns-clause-member
returns-clause-member c = member_pointed_to

pub returns-clause-item : goal.returns-clause-item
returns-clause-item c = item_pointed_to
