use Rattle.gs_template.proofs.TemplateLemmas.{encoded_plain}
use Rattle.gs_template.proofs.laws.places_hold_plain_bytes.Goals as goal

pub returns : goal.returns
returns c value bytes = encoded_plain value bytes
