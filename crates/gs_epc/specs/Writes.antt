-- The texts of an EPC, by options (TDT 2.0, section 3): pure identity URIs, tag URIs and bits (TDS 2.0, sections 6, 12 and 14).
-- That the first option that holds every field writes, and the choice of the named rejection, is this project's own.
use Rattle.std.specs.Prelude.{◌≡◌, ◌<◌, ◌⊎◌, ◌++◌, ℕ, List, Option, Some, None, option_and_then, slice_get, unwrap_or, Result, Ok, Err}
use Rattle.gs_bits.specs.HexText.{hex_of_bits}
use Rattle.gs_grammar.specs.declared.error.Why.{Why}
use Rattle.gs_grammar.specs.declared.error.Why.TheVariants.{Length}
use Rattle.gs_grammar.specs.WrittenWords.{AreHeld, IsFirstRejection, written}
use Rattle.gs_tables_document.specs.declared.document.Field.{Field}
use Rattle.gs_tables_document.specs.declared.document.Field.TheVariants.{Rest}
use Rattle.gs_tables_document.specs.declared.document.LevelName.{LevelName}
use Rattle.gs_tables_document.specs.declared.document.LevelName.TheVariants.{Binary, Tag, Pure}
use Rattle.gs_tables_document.specs.declared.document.OptInfo.{OptInfo}
use Rattle.gs_tables.specs.Tables.{TableRows}
use Rattle.gs_epc.specs.declared.epc.Epc.{Epc}
use Rattle.gs_epc.specs.declared.error.EpcFault.{EpcFault}
use Rattle.gs_epc.specs.declared.error.EpcWriteFault.{EpcWriteFault}
use Rattle.gs_epc.specs.declared.error.EpcWriteFault.TheVariants.{NoOption, CannotHold, Memory}
use Rattle.gs_epc.specs.Candidates.{Candidate, filter_on, left_out, values_for}
use Rattle.gs_epc.specs.Readings.{ReadsAs, ReadsHex}

-- trusted, own: the text of symbols: bits are written as upper-case hexadecimal digits
abbrev pub text_on : LevelName → List ℕ → List ℕ
text_on Binary symbols = hex_of_bits symbols
text_on Tag symbols = symbols
text_on Pure symbols = symbols

-- trusted, own: the field of item k; an item without a field counts as the reference
abbrev pub field_at : List (Option Field) → ℕ → Field
field_at fields k = unwrap_or (option_and_then (λ (named : Option Field). named) (slice_get fields k)) Rest

module _ (set : TableRows) (level : LevelName) (epc : Epc) where
  -- trusted, own: holds if the candidate holds every field: each item holds its value, and nothing is left out
  pub record HoldsAll {i : ℕ} (candidate : Candidate set level epc i) : Type 0 where
    pub held : AreHeld candidate.items (values_for level epc candidate.info)
    pub whole : left_out candidate.info.fields epc ≡ None

  -- trusted, own: holds if the first item of the candidate that does not hold its value stands for `field`, and `why` is the
  -- reason
  pub record RejectsAt {i : ℕ} (candidate : Candidate set level epc i) (field : Field) (why : Why)
      : Type 0 where
    pub k : ℕ
    pub first : IsFirstRejection candidate.items (values_for level epc candidate.info) k why
    pub stands_for : field ≡ field_at candidate.info.fields k

  -- trusted, own: Holds if each item of the candidate holds its value, and `field` has no item, so that only the empty text
  -- fits.
  pub record LeavesOut {i : ℕ} (candidate : Candidate set level epc i) (field : Field) (why : Why)
      : Type 0 where
    pub held : AreHeld candidate.items (values_for level epc candidate.info)
    pub left : left_out candidate.info.fields epc ≡ Some field
    pub size : why ≡ Length

  -- trusted, own: holds if the candidate does not hold `field`, and `why` is the reason
  abbrev pub Rejects : {i : ℕ} → Candidate set level epc i → Field → Why → Type 0
  Rejects candidate field why = RejectsAt candidate field why ⊎ LeavesOut candidate field why

  -- trusted, own: the text of a candidate
  abbrev pub text_by : {i : ℕ} → Candidate set level epc i → List ℕ
  text_by candidate = text_on level (written candidate.items (values_for level epc candidate.info))

  -- trusted, own: holds if no candidate among the first `n` options holds every field
  abbrev pub NoneHoldsBefore : ℕ → Type 0
  NoneHoldsBefore n = (i : ℕ) (candidate : Candidate set level epc i) → i < n → HoldsAll candidate → ⊥

  -- trusted, own: holds if the first candidate that holds every field writes `text`
  pub record Writes (text : List ℕ) : Type 0 where
    pub option : ℕ
    pub candidate : Candidate set level epc option
    pub holds : HoldsAll candidate
    pub first : NoneHoldsBefore option
    pub text_is : text ≡ text_by candidate

  -- trusted, own: holds if no candidate holds every field, and the last one does not hold `field` because of `why`
  pub record LastRejects (field : Field) (why : Why) : Type 0 where
    pub option : ℕ
    pub candidate : Candidate set level epc option
    pub rejects : Rejects candidate field why
    pub last : (i : ℕ) → option < i → Candidate set level epc i → ⊥
    pub none : (n : ℕ) → NoneHoldsBefore n

  -- trusted, own: Holds if the result of writing an EPC is the text of the first candidate that holds every field, or that
  -- there is no candidate. If none holds every field, it names the field that the last does not hold. `Memory` may be returned
  -- instead.
  abbrev pub WritesAs : Result (List ℕ) EpcWriteFault → Type 0
  WritesAs (Ok text) = Writes text
  WritesAs (Err NoOption) = (i : ℕ) → Candidate set level epc i → ⊥
  WritesAs (Err (CannotHold field why)) = LastRejects field why
  WritesAs (Err Memory) = Unit {0}

  -- trusted, own: Holds if the text that is the answer was appended, or after a rejection `now` is `before`. If memory ran out,
  -- the bytes may be any.
  abbrev pub AppendsAs : List ℕ → List ℕ → Result (Unit {0}) EpcWriteFault → Type 0
  AppendsAs before now (Ok done) = (text : List ℕ) × (now ≡ before ++ text) × Writes text
  AppendsAs before now (Err Memory) = Unit {0}
  AppendsAs before now (Err fault) = (now ≡ before) × WritesAs (Err fault)

-- trusted, own: holds if `answer` is the reading of the written `text`: of bits, that of their hexadecimal text
abbrev pub ReadsText : TableRows → LevelName → List ℕ → Result Epc EpcFault → Type 0
ReadsText set Binary text answer = ReadsHex set text answer
ReadsText set Tag text answer = ReadsAs set Tag text answer
ReadsText set Pure text answer = ReadsAs set Pure text answer

-- trusted, own: the same fields, by an option with these facts
abbrev pub same_fields : LevelName → OptInfo → Epc → Epc
same_fields level info epc = record {
  kind = epc.kind;
  encoding = info.encoding;
  filter = filter_on level epc.filter;
  gcp = epc.gcp;
  prefix = epc.prefix;
  rest = epc.rest;
  piece = epc.piece;
  total = epc.total;
  serial = epc.serial;
}
