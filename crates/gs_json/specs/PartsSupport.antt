-- Definitions that proofs and private functions use with those of Parts.antt.
use Rattle.std.specs.Prelude.{ℕ, List, refl}
use Rattle.std.specs.Coded.{Coded, code_by, coded×, coded_list, coded_ℕ}
use Rattle.serde_json.specs.contracts.value.Value as e
use Rattle.serde_json.specs.declared.value.Value.{Value as Tree}
use Rattle.gs_json.specs.Parts.{Part}

-- parts are equal if their trees and places are
abbrev pub part_code : Coded Part
part_code = code_by (Tree × List ℕ) (coded× e.the_row.coded (coded_list coded_ℕ)) (λ p. (p.tree, p.place)) (λ p. record { tree = p.0; place = p.1 }) (λ _. refl)
