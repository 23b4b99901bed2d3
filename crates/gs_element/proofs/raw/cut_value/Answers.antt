use Rattle.std.proofs.Common.{◌≡◌, ℕ, ◌-◌, ◌==◌, min, List, length, take, Option, Some, ap, sym, ◌∙◌, arith}
use Rattle.std.proofs.lemmas.List.{take_min}
use Rattle.std.specs.List.{before_first}
use Rattle.std.specs.Option.{option_map_or}
use Rattle.gs_ai.specs.PredefinedLengths.{predefined_length}
use Rattle.gs_element.specs.Raw.{raw_value}
use Rattle.gs_element.proofs.raw.cut_value.Goals as goal

cut_predefined : (code after : List ℕ) (n at : ℕ) (o : Option ℕ) → o ≡ Some n → o ≡ predefined_length code
    → at ≡ min (n - length code) (length after) → take at after ≡ raw_value code after
cut_predefined code after n at o some is here =
    let length_is : Some n ≡ predefined_length code = sym some ∙ is in
    ap (λ k. take k after) here ∙ take_min (n - length code) after ∙ ap
    (λ r. option_map_or (λ k. take (k - length code) after) r (before_first (λ c. c == 29) after)) length_is

pub returns-in-Some : goal.returns-in-Some
returns-in-Some c = c.split_at.ensures.front ∙ cut_predefined c.args.code.now c.args.after.now c.in-Some.n _ c.args.predefined c.in-Some.is c.requires (omega arith)
