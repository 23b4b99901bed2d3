use Rattle.std.proofs.Common.{◌≡◌, List, ℕ, Some, refl}
use Rattle.percent_encoding.specs.Percent.{percent_decode}
use Rattle.gs_http.specs.AcceptedForms.{accepted_form}
use Rattle.gs_http.specs.Heads.{Asked}
use Rattle.gs_http.specs.Wishes.{link_type, wish_named, wish_of}
use Rattle.gs_http.proofs.wishes.wish_of.Goals as goal

-- a request with a link type asks for the links that it names
by_type : (voc : List ℕ) (asked : Asked) (value : List ℕ) → Some value ≡ link_type asked.target
    → wish_of voc asked ≡ wish_named voc (accepted_form asked.fields) (percent_decode value)
unfolding wish_of
by_type voc asked value e = rw (← e) refl

pub returns-in-Some : goal.returns-in-Some
returns-in-Some c = rw (by_type c.args.resolver.now.settings.voc _ c.in-Some.value.now c.in-Some.ensures)
    (rw (c.as_bytes.ensures, c.settings.ensures) at c.by_link_type.ensures)
