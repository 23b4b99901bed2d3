use Rattle.std.proofs.Common.{◌≡◌, ◌∙◌, ℕ, Bool, List, length, map, take, rules, sym}
use Rattle.std.specs.Prelude.{IsTrue}
use Rattle.std.specs.Char.{to_ascii_lowercase}
use Rattle.std.specs.Str.{bytes_eq}
use Rattle.std.proofs.lemmas.Bool.Decides.{same_from_decides}
use Rattle.std.proofs.lemmas.Slice.Eq.{bytes_eq-Decides}
use Rattle.gs_dlink.proofs.read.has_scheme.Goals as goal

scheme_test : (scheme front : List ℕ) (r : Bool) → map to_ascii_lowercase scheme ≡ scheme
    → (IsTrue r → map to_ascii_lowercase front ≡ map to_ascii_lowercase scheme) × (map to_ascii_lowercase front ≡ map to_ascii_lowercase scheme → IsTrue r)
    → r ≡ bytes_eq (map to_ascii_lowercase front) scheme
scheme_test scheme front r lower test = same_from_decides _ _ (λ e. test.0 e ∙ lower, λ e. test.1 (e ∙ sym lower))
    (bytes_eq-Decides (map to_ascii_lowercase front) scheme)

pub returns-then-scheme-text-clause-test : goal.returns-then-scheme-text-clause-test
returns-then-scheme-text-clause-test c = scheme_test c.args.scheme.now (take (length c.args.scheme.now) c.args.text.now) _ c.requires (search rules)
