use Rattle.std.proofs.Common.{◌≡◌, ℕ, ◌<◌, List, length, Option, Some, get_or, refl}
use Rattle.gs_chars.proofs.TruthsAndLists.{read_at}
use Rattle.gs_tables_document.specs.declared.document.Field.{Field}
use Rattle.gs_epc.specs.Writes.{field_at}
use Rattle.gs_epc.proofs.writer.field_at.Goals as goal

named : (fields : List (Option Field)) (k : ℕ) (read : Option Field) (field : Field) → k < length fields → read ≡ get_or fields k read
    → read ≡ Some field → field ≡ field_at fields k
named fields k read field low at is = rw (read_at fields k read low at, is) refl

pub returns-in-Some-Some : goal.returns-in-Some-Some
returns-in-Some-Some c =
    let found = c.in-Some-Some.ensures.lookup in
    named c.args.fields.now c.args.item c.in-Some-Some.field-0.now c.in-Some-Some.field found.3.0 found.1 c.in-Some-Some.field-0-is
