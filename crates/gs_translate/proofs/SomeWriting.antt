-- An EPC is written in a level, or is rejected for a reason.
use Rattle.std.proofs.Common.{◌≡◌, ◌⊎◌, ℕ, zero, suc, ◌<◌, Bool, true, false, List, Some, None, Ok, Err, slice_get, length, refl, sym, ap, ◌∙◌, inl, inr, arith}
use Rattle.std.specs.Prelude.{◌≢◌, Result}
use Rattle.std.proofs.lemmas.Bool.{cases_eq}
use Rattle.std.proofs.lemmas.Option.{slice_get_within}
use Rattle.gs_tables_document.specs.declared.document.Field.{Field}
use Rattle.gs_tables_document.specs.declared.document.LevelName.{LevelName}
use Rattle.gs_tables_document.specs.declared.document.OptInfo.{OptInfo}
use Rattle.gs_grammar.specs.declared.error.Why.{Why}
use Rattle.gs_grammar.specs.declared.error.Why.TheVariants.{Length}
use Rattle.gs_grammar.specs.declared.item.Item.{Item}
use Rattle.gs_grammar.specs.WrittenWords.{AreHeldBefore, IsFirstRejection, why_not, written}
use Rattle.gs_tables.specs.Tables.{TableRows, level_rows}
use Rattle.gs_epc.specs.declared.epc.Epc.{Epc}
use Rattle.gs_epc.specs.declared.error.EpcWriteFault.{EpcWriteFault}
use Rattle.gs_epc.specs.declared.error.EpcWriteFault.TheVariants as write
use Rattle.gs_epc.specs.Candidates.{Candidate, is_candidate, left_out, values_for}
use Rattle.gs_epc.specs.Epcs.{options_of}
use Rattle.gs_epc.specs.Writes.{HoldsAll, NoneHoldsBefore, Rejects, Writes, WritesAs, field_at, text_on}
use Rattle.gs_translate.specs.Steps.{Reworded}
use Rattle.gs_translate.specs.StepsSupport.{HasSome}
use Rattle.gs_translate.specs.Translations.{write_reason}
use Rattle.gs_translate.proofs.StepLaws.{some_reworded}
use Rattle.gs_translate.proofs.OneWriting.{Says, not_says, says_of, same_info, same_items}
use Rattle.gs_chars.proofs.TruthsAndLists.{one_or_none}

-- ---- the items of one option

-- the first items hold their values, or one of them is the first that does not
abbrev Judged : List Item → List (List ℕ) → ℕ → Type 0
Judged items values n = AreHeldBefore items values n ⊎ ((k : ℕ) × (why : Why) × IsFirstRejection items values k why)

module _ (items : List Item) (values : List (List ℕ)) where
  one_more : (n : ℕ) → AreHeldBefore items values n
      → ((item : Item) (value : List ℕ) → slice_get items n ≡ Some item → slice_get values n ≡ Some value → why_not item value ≡ None)
      → AreHeldBefore items values (suc n)
  one_more n held here k item value less at of = elim (cases_eq k n) as (λ _. why_not item value ≡ None) [
    | inl same ↦ here item value (ap (slice_get items) (sym same) ∙ at) (ap (slice_get values) (sym same) ∙ of)
    | inr other ↦ held k item value (omega arith) at of
  ]

  judge_here : (n : ℕ) → AreHeldBefore items values n → ((item : Item) × (slice_get items n ≡ Some item)) ⊎ (slice_get items n ≡ None)
      → ((value : List ℕ) × (slice_get values n ≡ Some value)) ⊎ (slice_get values n ≡ None) → Judged items values (suc n)
  judge_here n held (inr none) value = inl (one_more n held (λ item value at of. absurd (let both : None ≡ Some item = sym none ∙ at in cc)))
  judge_here n held (inl item) (inr none) = inl (one_more n held (λ item value at of. absurd (let both : None ≡ Some value = sym none ∙ of in cc)))
  judge_here n held (inl item) (inl value) = by (one_or_none (why_not item.0 value.0))
    where
      by : ((why : Why) × (why_not item.0 value.0 ≡ Some why)) ⊎ (why_not item.0 value.0 ≡ None) → Judged items values (suc n)
      by (inl why) = inr (n, why.0, record { item = item.0; value = value.0; item_at = item.1; value_at = value.1; reason = why.1; before = held })
      by (inr none) = inl (one_more n held (λ other given at of.
          let items_same : Some item.0 ≡ Some other = sym item.1 ∙ at in
          let values_same : Some value.0 ≡ Some given = sym value.1 ∙ of in
          let i : item.0 ≡ other = cc in
          let v : value.0 ≡ given = cc in
          rw (← i, ← v) none))

  judged : (n : ℕ) → Judged items values n
  judged zero = inl (λ k item value less at of. absurd (omega arith))
  judged (suc n) = next (judged n)
    where
      next : Judged items values n → Judged items values (suc n)
      next (inl held) = judge_here n held (one_or_none (slice_get items n)) (one_or_none (slice_get values n))
      next (inr rejected) = inr rejected

-- ---- the options of a level

module _ (set : TableRows) (level : LevelName) (epc : Epc) where
  -- a candidate holds every field, or does not hold one
  try_candidate : (i : ℕ) (candidate : Candidate set level epc i)
      → HoldsAll set level epc candidate ⊎ ((field : Field) × (why : Why) × Rejects set level epc candidate field why)
  try_candidate i candidate = by (judged candidate.items (values_for level epc candidate.info) (length candidate.items))
      (one_or_none (left_out candidate.info.fields epc))
    where
      by : Judged candidate.items (values_for level epc candidate.info) (length candidate.items)
          → ((field : Field) × (left_out candidate.info.fields epc ≡ Some field)) ⊎ (left_out candidate.info.fields epc ≡ None)
          → HoldsAll set level epc candidate ⊎ ((field : Field) × (why : Why) × Rejects set level epc candidate field why)
      by (inr rejected) left = inr (field_at candidate.info.fields rejected.0, rejected.1, inl (record { k = rejected.0; first = rejected.2; stands_for = refl }))
      by (inl held) (inl left) = inr (left.0, Length, inr (record { held = held; left = left.1; size = refl }))
      by (inl held) (inr none) = inl (record { held = held; whole = none })

  candidate_here : (i : ℕ) → Candidate set level epc i ⊎ (Candidate set level epc i → ⊥)
  candidate_here i = by (one_or_none (slice_get (options_of level set) i)) (one_or_none (slice_get (level_rows level set).info i))
    where
      passes : (items : List Item) (info : OptInfo) (b : Bool) → slice_get (options_of level set) i ≡ Some items
          → slice_get (level_rows level set).info i ≡ Some info → is_candidate level epc info ≡ b
          → Candidate set level epc i ⊎ (Candidate set level epc i → ⊥)
      passes items info true of said p = inl (record { items = items; info = info; of_level = of; said = said; passes = p })
      passes items info false of said p = inr (λ candidate.
          let both : Some info ≡ Some candidate.info = sym said ∙ candidate.said in
          let same : info ≡ candidate.info = cc in
          let q : is_candidate level epc candidate.info ≡ false = rw (← same) p in
          let r : true ≡ false = sym candidate.passes ∙ q in
          cc)

      by : ((items : List Item) × (slice_get (options_of level set) i ≡ Some items)) ⊎ (slice_get (options_of level set) i ≡ None)
          → ((info : OptInfo) × (slice_get (level_rows level set).info i ≡ Some info)) ⊎ (slice_get (level_rows level set).info i ≡ None)
          → Candidate set level epc i ⊎ (Candidate set level epc i → ⊥)
      by (inr none) info = inr (λ candidate. let both : None ≡ Some candidate.items = sym none ∙ candidate.of_level in cc)
      by (inl items) (inr none) = inr (λ candidate. let both : None ≡ Some candidate.info = sym none ∙ candidate.said in cc)
      by (inl items) (inl info) = passes items.0 info.0 (is_candidate level epc info.0) items.1 info.1 refl

  -- the last candidate before n rejects, and none before n holds every field
  record Refused (n : ℕ) : Type 0 where
    option : ℕ
    candidate : Candidate set level epc option
    field : Field
    why : Why
    rejects : Rejects set level epc candidate field why
    last : (i : ℕ) → option < i → i < n → Candidate set level epc i → ⊥
    none : NoneHoldsBefore set level epc n

  -- the facts of the first n options
  data Tried (n : ℕ) : Type 0 where
    writes : (text : List ℕ) → Writes set level epc text → Tried n
    no_candidate : ((i : ℕ) → i < n → Candidate set level epc i → ⊥) → Tried n
    rejected : Refused n → Tried n

  -- a candidate that a rejection names does not hold every field
  not_all : (i j : ℕ) (one : Candidate set level epc i) (other : Candidate set level epc j) (field : Field) (why : Why) → i ≡ j
      → Rejects set level epc one field why → HoldsAll set level epc other → ⊥
  not_all i j one other field why same rejects holds =
      let items = same_items set level epc i j one other same in
      let info = same_info set level epc i j one other same in
      let says = says_of set level epc i one field why rejects in
      let moved : Says other.items (values_for level epc other.info) other.info.fields (left_out other.info.fields epc) field why = rw (← items, ← info) says in
      not_says other.items (values_for level epc other.info) other.info.fields (left_out other.info.fields epc) field why moved holds.held holds.whole

  none_before : (n : ℕ) → Tried n → ((text : List ℕ) × Writes set level epc text) ⊎ NoneHoldsBefore set level epc n
  none_before n (writes text w) = inl (text, w)
  none_before n (no_candidate none) = inr (λ i candidate less holds. none i less candidate)
  none_before n (rejected r) = inr r.none

  with_candidate : (n : ℕ) (candidate : Candidate set level epc n) → NoneHoldsBefore set level epc n
      → HoldsAll set level epc candidate ⊎ ((field : Field) × (why : Why) × Rejects set level epc candidate field why) → Tried (suc n)
  with_candidate n candidate none (inl holds) =
      writes (text_on level (written candidate.items (values_for level epc candidate.info)))
      (record { option = n; candidate = candidate; holds = holds; first = none; text_is = refl })
  with_candidate n candidate none (inr r) = rejected (record {
    option = n;
    candidate = candidate;
    field = r.0;
    why = r.1;
    rejects = r.2;
    last = λ i more less other. (let a = more in let b = less in omega arith);
    none = λ i other less holds. elim (cases_eq n i) as (λ _. ⊥) [
      | inl same ↦ not_all n i candidate other r.0 r.1 same r.2 holds
      | inr differs ↦ none i other (omega arith) holds
    ];
  })

  without_candidate : (n : ℕ) → (Candidate set level epc n → ⊥) → Tried n → Tried (suc n)
  without_candidate n absent (writes text w) = writes text w
  without_candidate n absent (no_candidate none) = no_candidate (λ i less candidate. elim (cases_eq n i) as (λ _. ⊥) [
    | inl same ↦ absent (rw same candidate)
    | inr differs ↦ none i (omega arith) candidate
  ])
  without_candidate n absent (rejected r) = rejected (record {
    option = r.option;
    candidate = r.candidate;
    field = r.field;
    why = r.why;
    rejects = r.rejects;
    last = λ i more less candidate. elim (cases_eq n i) as (λ _. ⊥) [
      | inl same ↦ absent (rw same candidate)
      | inr differs ↦ r.last i more (omega arith) candidate
    ];
    none = λ i candidate less holds. elim (cases_eq n i) as (λ _. ⊥) [
      | inl same ↦ absent (rw same candidate)
      | inr differs ↦ r.none i candidate (omega arith) holds
    ];
  })

  tried : (n : ℕ) → Tried n
  tried zero = no_candidate (λ i less candidate. (let l = less in omega arith))
  tried (suc n) = by (candidate_here n) (tried n)
    where
      by : Candidate set level epc n ⊎ (Candidate set level epc n → ⊥) → Tried n → Tried (suc n)
      by (inr absent) before = without_candidate n absent before
      by (inl candidate) before = elim (none_before n before) as (λ _. Tried (suc n)) [
        | inl found ↦ writes found.0 found.1
        | inr none ↦ with_candidate n candidate none (try_candidate n candidate)
      ]

  -- a candidate is one of the options
  within : (i : ℕ) → Candidate set level epc i → i < length (options_of level set)
  within i candidate = slice_get_within (options_of level set) i candidate.items candidate.of_level

  some_of : Tried (length (options_of level set)) → (given : Result (List ℕ) EpcWriteFault) × (given ≢ Err write.Memory) × WritesAs set level epc given
  some_of (writes text w) = (Ok text, (λ e. let f : Ok text ≡ Err write.Memory = e in cc), w)
  some_of (no_candidate none) = (Err write.NoOption, (λ e. let f : Err write.NoOption ≡ Err write.Memory = e in cc), (λ i candidate. none i (within i candidate) candidate))
  some_of (rejected r) = (
    Err (write.CannotHold r.field r.why),
    (λ e. let f : Err (write.CannotHold r.field r.why) ≡ Err write.Memory = e in cc),
    record {
      option = r.option;
      candidate = r.candidate;
      rejects = r.rejects;
      last = λ i more candidate. r.last i more (within i candidate) candidate;
      none = λ n i candidate less holds. r.none i candidate (within i candidate) holds;
    },
  )

  pub writes_some : (given : Result (List ℕ) EpcWriteFault) × (given ≢ Err write.Memory) × WritesAs set level epc given
  writes_some = some_of (tried (length (options_of level set)))

  pub some_written : HasSome (Reworded write.Memory write_reason (WritesAs set level epc))
  some_written = some_reworded write.Memory write_reason (WritesAs set level epc) writes_some
