-- What one candidate appends.
use Rattle.std.specs.Prelude.{◌≡◌, ◌++◌, ℕ, List, Result, Ok, Err}
use Rattle.gs_grammar.specs.declared.item.Item.{Item}
use Rattle.gs_grammar.specs.declared.error.WriteFault.{WriteFault}
use Rattle.gs_grammar.specs.declared.error.WriteFault.TheVariants.{CannotHold as NotHeld, Memory as NoRoom}
use Rattle.gs_grammar.specs.WrittenWords.{AreHeld, IsFirstRejection, written}
use Rattle.gs_tables_document.specs.declared.document.LevelName.{LevelName}
use Rattle.gs_tables_document.specs.declared.document.LevelName.TheVariants.{Binary}
use Rattle.gs_tables.specs.Tables.{TableRows}
use Rattle.gs_epc.specs.declared.epc.Epc.{Epc}
use Rattle.gs_epc.specs.declared.writer.Rejection.{Rejection}
use Rattle.gs_epc.specs.declared.writer.Rejection.TheVariants.{CannotHold, Memory}
use Rattle.gs_epc.specs.Candidates.{Candidate}
use Rattle.gs_epc.specs.Writes.{HoldsAll, Rejects, text_by, text_on}

-- holds if the text of `values` by `items` was appended, or an item does not hold its value and the bytes are unchanged
abbrev pub AppendsOption : LevelName → List Item → List (List ℕ) → List ℕ → List ℕ → Result (Unit {0}) WriteFault → Type 0
AppendsOption level items values before now (Ok done) = AreHeld items values × (now ≡ before ++ text_on level (written items values))
AppendsOption level items values before now (Err (NotHeld k why)) = IsFirstRejection items values k why × (now ≡ before)
AppendsOption level items values before now (Err NoRoom) = Unit {0}

-- holds if the hexadecimal digits of `values` by `items` were appended, or an item does not hold its value and the bytes are
-- unchanged
abbrev pub AppendsDigits : List Item → List (List ℕ) → List ℕ → List ℕ → Result (Unit {0}) WriteFault → Type 0
AppendsDigits items values before now result = AppendsOption Binary items values before now result

module _ (set : TableRows) (level : LevelName) (epc : Epc) where
  -- holds if the candidate holds every field and its text was appended, or the result names a field that it does not hold
  abbrev pub IsTried : {i : ℕ} → Candidate set level epc i → List ℕ → List ℕ → Result (Unit {0}) Rejection → Type 0
  IsTried candidate before now (Ok done) = HoldsAll set level epc candidate × (now ≡ before ++ text_by set level epc candidate)
  IsTried candidate before now (Err (CannotHold field why)) = Rejects set level epc candidate field why × (now ≡ before)
  IsTried candidate before now (Err Memory) = Unit {0}
