use Rattle.std.proofs.Common.{◌≡◌, ◌==◌, ◌∙◌, ℕ, List, [], ◌∷◌, length, refl, sym, arith, rules}
use Rattle.std.proofs.lemmas.Grind.{common_steps}
use Rattle.gs_ai.specs.Tables.{is_empty}
use Rattle.gs_translate.proofs.tag_fields.encoding_for.Goals as goal

none_there : (text : List ℕ) → (length text == 0) ≡ is_empty text
none_there [] = refl
none_there (x ∷ text) = first_of (search rules, grind (arith, common_steps))

pub returns-then-is_empty : goal.returns-then-is_empty
returns-then-is_empty c =
    let test = rw c.as_bytes-encoding.ensures at (sym c.is_empty.ensures ∙ c.if-is_empty.true) in
    rw (sym (none_there c.args.options.now.encoding) ∙ test) refl

pub returns-else-is_empty : goal.returns-else-is_empty
returns-else-is_empty c =
    let test = rw c.as_bytes-encoding.ensures at (sym c.is_empty.ensures ∙ c.if-is_empty.false) in
    rw (sym (none_there c.args.options.now.encoding) ∙ test) c.as_bytes-encoding.ensures
