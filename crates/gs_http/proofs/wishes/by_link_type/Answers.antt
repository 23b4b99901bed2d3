use Rattle.std.proofs.Common.{◌≡◌, List, ℕ, Option, arith}
use Rattle.std.specs.Prelude.{IfOk, Result}
use Rattle.std.proofs.lemmas.Grind.{common_steps}
use Rattle.percent_encoding.specs.Percent.{percent_decode}
use Rattle.gs_chars.specs.declared.memory.Memory.{Memory}
use Rattle.gs_http.specs.declared.documents.LinksetForm.{LinksetForm}
use Rattle.gs_http.specs.AcceptedForms.{accepted_form}
use Rattle.gs_http.specs.declared.wishes.Wish.{Wish}
use Rattle.gs_http.specs.LentValues.{asked_by, wished}
use Rattle.gs_http.specs.Wishes.{wish_named}
use Rattle.gs_http.proofs.wishes.by_link_type.Goals as goal

-- the wish of decoded bytes
decoded_name : (voc value decoded : List ℕ) (accepted : Option LinksetForm) (r : Result Wish Memory)
    → IfOk r (λ wish. wished wish ≡ wish_named voc accepted decoded)
    → decoded ≡ percent_decode value → IfOk r (λ wish. wished wish ≡ wish_named voc accepted (percent_decode value))
decoded_name voc value decoded accepted r h e = rw (← e) h

pub returns : goal.returns
returns c = decoded_name c.args.voc.now c.args.value.now c.from_vec.result
    (accepted_form (asked_by c.args.request.now).fields) c.wish_named.result c.wish_named.ensures (grind (arith, common_steps))
