use Rattle.std.proofs.Common.{◌≡◌, ◌++◌, Result, Ok, Err, IsOk, IfErr, OnOk, List, ℕ, true, false, refl}
use Rattle.gs_grammar.specs.declared.error.WriteFault.{WriteFault}
use Rattle.gs_grammar.specs.declared.error.WriteFault.TheVariants.{CannotHold, Memory}
use Rattle.gs_grammar.specs.declared.item.Item.{Item}
use Rattle.gs_grammar.specs.WrittenWords.{AreHeld, IsWriteFault, LeavesUnlessMemory, written}
use Rattle.gs_tables_document.specs.declared.document.LevelName.{LevelName}
use Rattle.gs_tables_document.specs.declared.document.LevelName.TheVariants.{Binary, Tag, Pure}
use Rattle.gs_tables_document.specs.Documents.{is_bits}
use Rattle.gs_epc.specs.Tries.{AppendsOption}
use Rattle.gs_epc.specs.Writes.{text_on}
use Rattle.gs_epc.proofs.writer.append_uri.Goals as goal

as_it_is : (level : LevelName) (symbols : List ℕ) → is_bits level ≡ false → text_on level symbols ≡ symbols
as_it_is Binary symbols e = absurd (let f : true ≡ false = e in cc)
as_it_is Tag symbols e = refl
as_it_is Pure symbols e = refl

appends : (level : LevelName) (items : List Item) (values : List (List ℕ)) (before now : List ℕ) (result : Result (Unit {0}) WriteFault)
    → OnOk result (now ≡ before ++ written items values) → (IsOk result → AreHeld items values)
    → IfErr result (λ error. IsWriteFault items values error) → IfErr result (LeavesUnlessMemory before now) → is_bits level ≡ false
    → AppendsOption level items values before now result
appends level items values before now (Ok done) wrote held rejected unchanged e = (held refl, rw (as_it_is level (written items values) e) wrote)
appends level items values before now (Err (CannotHold k why)) wrote held rejected unchanged e = (rejected, unchanged)
appends level items values before now (Err Memory) wrote held rejected unchanged e = tt

pub returns-clause-written : goal.returns-clause-written
returns-clause-written c = λ text. appends _ _ _ _ _ _ c.append_text.ensures.written c.append_text.ensures.held c.append_text.ensures.rejected c.append_text.ensures.unchanged text
