use Rattle.std.proofs.Common.{◌≡◌, false, refl}
use Rattle.gs_ai.specs.declared.part.Role.{Role}
use Rattle.gs_ai.specs.declared.part.Role.TheVariants.{Key, Qualifier, Attribute, Other}
use Rattle.gs_ai.specs.Tables.{is_key}
use Rattle.gs_tables.proofs.kind_rules.is_of_key.Goals as goal

not_key : (role : Role) → ¬ (role ≡ Key) → false ≡ is_key role
not_key Key other = absurd (other refl)
not_key Qualifier other = refl
not_key Attribute other = refl
not_key Other other = refl

pub returns-in_default : goal.returns-in_default
returns-in_default c = not_key c.args.row.now.role c.in_default.not-Key
