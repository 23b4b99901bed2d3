-- The candidates before an option, and the field that the last of them does not hold.
use Rattle.std.proofs.Common.{◌≡◌, ℕ, zero, suc, ◌+◌, ◌<◌, ◌≤◌, true, false, List, [], ◌∷◌, length, Some, None, slice_get, get_or, Ok, Err, refl, sym, ap, subst, ◌∙◌, arith, inl, inr}
use Rattle.std.proofs.lemmas.Bool.{cases_eq, cases_lt}
use Rattle.std.proofs.lemmas.Option.{slice_get_within}
use Rattle.gs_chars.proofs.TruthsAndLists.{read_at}
use Rattle.gs_tables_document.specs.declared.document.Field.{Field}
use Rattle.gs_tables_document.specs.declared.document.LevelName.{LevelName}
use Rattle.gs_tables_document.specs.declared.document.OptInfo.{OptInfo}
use Rattle.gs_grammar.specs.declared.error.Why.{Why}
use Rattle.gs_tables.specs.Tables.{IsShaped, TableRows, level_rows}
use Rattle.gs_epc.specs.declared.epc.Epc.{Epc}
use Rattle.gs_epc.specs.declared.error.EpcWriteFault.{EpcWriteFault}
use Rattle.gs_epc.specs.declared.error.EpcWriteFault.TheVariants.{NoOption, CannotHold, Memory}
use Rattle.gs_epc.specs.Candidates.{Candidate, is_candidate}
use Rattle.gs_epc.specs.Epcs.{options_of}
use Rattle.gs_epc.specs.Writes.{AppendsAs, HoldsAll, NoneHoldsBefore, Rejects, Writes, WritesAs, text_by}
use Rattle.gs_epc.proofs.ReadingFacts.{as_many}

-- the element at a place
at_place : {X : Type 0} (xs : List X) (i : ℕ) → i < length xs → (x : X) × (slice_get xs i ≡ Some x)
at_place [] i low = absurd (omega arith)
at_place (x ∷ xs) zero low = (x, refl)
at_place (x ∷ xs) (suc i) low = at_place xs i (omega arith)

module _ (set : TableRows) (level : LevelName) (epc : Epc) where
  -- the last candidate among the first n options does not hold this field, and none of them holds every field
  pub record LastBefore (n : ℕ) (field : Field) (why : Why) : Type 0 where
    pub option : ℕ
    pub low : option < n
    pub candidate : Candidate set level epc option
    pub rejects : Rejects set level epc candidate field why
    pub last : (i : ℕ) → option < i → i < n → Candidate set level epc i → ⊥
    pub none : NoneHoldsBefore set level epc n

  -- the rejection of the first n options
  abbrev pub RejectedBefore : ℕ → EpcWriteFault → Type 0
  RejectedBefore n NoOption = (i : ℕ) → i < n → Candidate set level epc i → ⊥
  RejectedBefore n (CannotHold field why) = LastBefore n field why
  RejectedBefore n Memory = ⊥

  -- ---- one candidate

  -- a candidate that does not hold a field does not hold every field
  rejected : (i : ℕ) (candidate : Candidate set level epc i) (field : Field) (why : Why) → Rejects set level epc candidate field why
      → HoldsAll set level epc candidate → ⊥
  rejected i candidate field why (inl at) holds =
      let first = at.first in
      let none = holds.held at.k first.item first.value (slice_get_within candidate.items at.k first.item first.item_at) first.item_at first.value_at in
      let both : Some why ≡ None = sym first.reason ∙ none in
      cc
  rejected i candidate field why (inr out) holds = let both : Some field ≡ None = sym out.left ∙ holds.whole in cc

  -- the fields that one view of a candidate holds, each holds
  holds_as_well : (i : ℕ) (one other : Candidate set level epc i) → HoldsAll set level epc other → HoldsAll set level epc one
  holds_as_well i one other holds =
      let options : Some other.items ≡ Some one.items = sym other.of_level ∙ one.of_level in
      let infos : Some other.info ≡ Some one.info = sym other.said ∙ one.said in
      let items : other.items ≡ one.items = cc in
      let info : other.info ≡ one.info = cc in
      record { held = rw (items, info) at holds.held; whole = rw info at holds.whole }

  -- ---- one option more

  none_more : (n : ℕ) → NoneHoldsBefore set level epc n → (Candidate set level epc n → ⊥) → NoneHoldsBefore set level epc (n + 1)
  none_more n none fails i candidate low holds = elim (cases_eq i n) [
    | inl same ↦ fails (rw same at candidate)
    | inr differs ↦ none i candidate (omega arith) holds
  ]

  no_candidate_more : (n : ℕ) → ((i : ℕ) → i < n → Candidate set level epc i → ⊥) → (Candidate set level epc n → ⊥) → (i : ℕ) → i < n + 1
      → Candidate set level epc i → ⊥
  no_candidate_more n none fails i low candidate = elim (cases_eq i n) [
    | inl same ↦ fails (rw same at candidate)
    | inr differs ↦ none i (omega arith) candidate
  ]

  -- none of the first n options holds every field
  pub none_holds : (n : ℕ) (rejection : EpcWriteFault) → RejectedBefore n rejection → NoneHoldsBefore set level epc n
  none_holds n NoOption none i candidate low holds = none i low candidate
  none_holds n (CannotHold field why) last i candidate low holds = last.none i candidate low holds
  none_holds n Memory h i candidate low holds = h

  -- option n is not a candidate
  pub skipped : (n : ℕ) (rejection : EpcWriteFault) → RejectedBefore n rejection → (Candidate set level epc n → ⊥) → RejectedBefore (n + 1) rejection
  skipped n NoOption none fails = λ i low candidate. no_candidate_more n none fails i low candidate
  skipped n (CannotHold field why) before fails = record {
    option = before.option;
    low = let l = before.low in omega arith;
    candidate = before.candidate;
    rejects = before.rejects;
    last = λ i above low candidate. later i above low candidate;
    none = none_more n before.none fails;
  }
    where
      later : (i : ℕ) → before.option < i → i < n + 1 → Candidate set level epc i → ⊥
      later i above low candidate = elim (cases_eq i n) [
        | inl same ↦ fails (rw same at candidate)
        | inr differs ↦ before.last i above (omega arith) candidate
      ]
  skipped n Memory h fails = h

  -- option n is a candidate that does not hold this field
  pub rejected_next : (n : ℕ) (rejection : EpcWriteFault) (candidate : Candidate set level epc n) (field : Field) (why : Why)
      → RejectedBefore n rejection → Rejects set level epc candidate field why → LastBefore (n + 1) field why
  rejected_next n rejection candidate field why before rejects = record {
    option = n;
    low = omega arith;
    candidate = candidate;
    rejects = rejects;
    last = λ i above low other. absurd (omega arith);
    none = more;
  }
    where
      here : (other : Candidate set level epc n) → HoldsAll set level epc other → ⊥
      here other holds = rejected n candidate field why rejects (holds_as_well n candidate other holds)

      more : NoneHoldsBefore set level epc (n + 1)
      more i other low holds = elim (cases_eq i n) [
        | inl same ↦ subst (λ (j : ℕ). (c : Candidate set level epc j) → HoldsAll set level epc c → ⊥) (sym same) here other holds
        | inr differs ↦ none_holds n rejection before i other (omega arith) holds
      ]

  -- ---- the ends

  -- there is no candidate past the end
  none_past : (infos : List OptInfo) (n i : ℕ) → infos ≡ (level_rows level set).info → length infos ≤ n → n ≤ i → Candidate set level epc i → ⊥
  none_past infos n i rows past low candidate =
      let said : slice_get infos i ≡ Some candidate.info = rw rows candidate.said in
      let within = slice_get_within infos i candidate.info said in
      absurd (omega arith)

  -- the rejection of all options
  pub rejected_all : (infos : List OptInfo) (n : ℕ) (rejection : EpcWriteFault) → infos ≡ (level_rows level set).info → length infos ≤ n
      → RejectedBefore n rejection → WritesAs set level epc (Err rejection)
  rejected_all infos n NoOption rows past none = λ i candidate. nowhere i candidate
    where
      nowhere : (i : ℕ) → Candidate set level epc i → ⊥
      nowhere i candidate = elim (cases_lt i n) [
        | inl low ↦ none i low candidate
        | inr high ↦ none_past infos n i rows past high candidate
      ]
  rejected_all infos n (CannotHold field why) rows past before = record {
    option = before.option;
    candidate = before.candidate;
    rejects = before.rejects;
    last = λ i above candidate. later i above candidate;
    none = λ m i candidate low holds. never i candidate holds;
  }
    where
      later : (i : ℕ) → before.option < i → Candidate set level epc i → ⊥
      later i above candidate = elim (cases_lt i n) [
        | inl low ↦ before.last i above low candidate
        | inr high ↦ none_past infos n i rows past high candidate
      ]

      never : (i : ℕ) (candidate : Candidate set level epc i) → HoldsAll set level epc candidate → ⊥
      never i candidate holds = elim (cases_lt i n) [
        | inl low ↦ before.none i candidate low holds
        | inr high ↦ none_past infos n i rows past high candidate
      ]
  rejected_all infos n Memory rows past h = tt

  -- a candidate that holds every field is the first
  pub writes : (n : ℕ) (rejection : EpcWriteFault) (candidate : Candidate set level epc n) → RejectedBefore n rejection
      → HoldsAll set level epc candidate → Writes set level epc (text_by set level epc candidate)
  writes n rejection candidate before holds = record { option = n; candidate = candidate; holds = holds; first = none_holds n rejection before; text_is = refl }

  -- the rejection of all options leaves the bytes unchanged
  pub appends_none : (before now : List ℕ) (rejection : EpcWriteFault) → now ≡ before → WritesAs set level epc (Err rejection)
      → AppendsAs set level epc before now (Err rejection)
  appends_none before now NoOption same none = (same, none)
  appends_none before now (CannotHold field why) same none = (same, none)
  appends_none before now Memory same none = tt

  -- what is appended to no bytes is written, or rejected
  pub appended_to_none : (before now text : List ℕ) → before ≡ [] → text ≡ now → AppendsAs set level epc before now (Ok tt) → WritesAs set level epc (Ok text)
  appended_to_none before now text none is h =
      let same : now ≡ h.0 = rw none at h.1 in
      rw (is, same) h.2

  pub rejected_to_none : (before now : List ℕ) (rejection : EpcWriteFault) → AppendsAs set level epc before now (Err rejection)
      → WritesAs set level epc (Err rejection)
  rejected_to_none before now NoOption h = h.1
  rejected_to_none before now (CannotHold field why) h = h.1
  rejected_to_none before now Memory h = tt

  -- ---- the facts of an option

  -- an option that passes is a candidate
  pub candidate_at : (infos : List OptInfo) (n : ℕ) (info : OptInfo) → IsShaped set → infos ≡ (level_rows level set).info → n < length infos
      → info ≡ get_or infos n info → true ≡ is_candidate level epc info → Candidate set level epc n
  candidate_at infos n info shaped rows low read passes =
      let count = ap length rows in
      let many = as_many set level shaped in
      let item = at_place (options_of level set) n (omega arith) in
      record { items = item.0; info = info; of_level = item.1; said = rw rows at (read_at infos n info low read); passes = sym passes }

  -- an option that does not pass is not a candidate
  pub no_candidate : (infos : List OptInfo) (n : ℕ) (info : OptInfo) → infos ≡ (level_rows level set).info → n < length infos
      → info ≡ get_or infos n info → false ≡ is_candidate level epc info → Candidate set level epc n → ⊥
  no_candidate infos n info rows low read fails candidate =
      let said : slice_get infos n ≡ Some candidate.info = rw rows candidate.said in
      let both : Some info ≡ Some candidate.info = sym (read_at infos n info low read) ∙ said in
      let same : info ≡ candidate.info = cc in
      let bools : false ≡ true = fails ∙ ap (is_candidate level epc) same ∙ candidate.passes in
      cc
