-- An EPC is written in a level in at most one way, or is rejected for one reason.
use Rattle.std.proofs.Common.{◌≡◌, ◌⊎◌, ℕ, ◌<◌, suc, List, Option, Some, None, Ok, Err, refl, sym, ap, ◌∙◌, inl, inr, arith}
use Rattle.std.specs.Prelude.{◌≢◌, Result}
use Rattle.std.proofs.lemmas.Bool.Decides.{leb_tells}
use Rattle.std.proofs.lemmas.Option.{slice_get_within}
use Rattle.gs_chars.proofs.TruthsAndLists.{same_at}
use Rattle.gs_tables_document.specs.declared.document.Field.{Field}
use Rattle.gs_tables_document.specs.declared.document.LevelName.{LevelName}
use Rattle.gs_tables_document.specs.declared.document.OptInfo.{OptInfo}
use Rattle.gs_grammar.specs.declared.error.Why.{Why}
use Rattle.gs_grammar.specs.declared.error.Why.TheVariants.{Length}
use Rattle.gs_grammar.specs.declared.item.Item.{Item}
use Rattle.gs_grammar.specs.WrittenWords.{AreHeld, IsFirstRejection, why_not, written}
use Rattle.gs_tables.specs.Tables.{TableRows, level_rows}
use Rattle.gs_epc.specs.declared.epc.Epc.{Epc}
use Rattle.gs_epc.specs.declared.error.EpcWriteFault.{EpcWriteFault}
use Rattle.gs_epc.specs.declared.error.EpcWriteFault.TheVariants as write
use Rattle.gs_epc.specs.Candidates.{Candidate, left_out, values_for}
use Rattle.gs_epc.specs.Epcs.{options_of}
use Rattle.gs_epc.specs.Writes.{AppendsAs, LastRejects, Rejects, Writes, WritesAs, field_at, text_on}
use Rattle.gs_translate.specs.Steps.{AppendsText, Reworded, UnlessMemory}
use Rattle.gs_translate.specs.StepsSupport.{HasOne}
use Rattle.gs_translate.specs.Translations.{write_reason}
use Rattle.gs_translate.proofs.StepLaws.{gives_err, one_reworded}

-- ---- rejections of one option

same_place : (m n : ℕ) → (m < n → ⊥) → (n < m → ⊥) → m ≡ n
same_place m n not_before not_behind = elim (leb_tells m n) as (λ _. m ≡ n) [
  | inr e ↦ absurd (not_behind e.1)
  | inl e ↦ elim (leb_tells n m) as (λ _. m ≡ n) [
    | inr f ↦ absurd (not_before f.1)
    | inl f ↦ (let a = e.1 in let b = f.1 in omega arith)
  ]
]

module _ (items : List Item) (values : List (List ℕ)) where
  -- no earlier item is rejected
  not_earlier : (k k' : ℕ) (why why' : Why) → IsFirstRejection items values k why → IsFirstRejection items values k' why' → k < k' → ⊥
  not_earlier k k' why why' a b less =
      let held = b.before k a.item a.value less a.item_at a.value_at in
      let both : Some why ≡ None = sym a.reason ∙ held in
      cc

  same_rejected : (k k' : ℕ) (why why' : Why) → IsFirstRejection items values k why → IsFirstRejection items values k' why' → k ≡ k'
  same_rejected k k' why why' a b = same_place k k' (not_earlier k k' why why' a b) (not_earlier k' k why' why b a)

  same_why : (k k' : ℕ) (why why' : Why) → IsFirstRejection items values k why → IsFirstRejection items values k' why' → why ≡ why'
  same_why k k' why why' a b =
      let place = same_rejected k k' why why' a b in
      let item : a.item ≡ b.item = same_at items k k' a.item b.item a.item_at b.item_at place in
      let value : a.value ≡ b.value = same_at values k k' a.value b.value a.value_at b.value_at place in
      let both : Some why ≡ Some why' = sym a.reason ∙ ap (λ (i : Item). why_not i a.value) item ∙ ap (why_not b.item) value ∙ b.reason in
      cc

  not_held : (k : ℕ) (why : Why) → IsFirstRejection items values k why → AreHeld items values → ⊥
  not_held k why a held =
      let none = held k a.item a.value (slice_get_within items k a.item a.item_at) a.item_at a.value_at in
      let both : Some why ≡ None = sym a.reason ∙ none in
      cc

-- the cases of a rejection: an item rejects, or a field is left out
abbrev pub Says : List Item → List (List ℕ) → List (Option Field) → Option Field → Field → Why → Type 0
Says items values fields out field why =
    ((k : ℕ) × IsFirstRejection items values k why × (field ≡ field_at fields k)) ⊎ (AreHeld items values × (out ≡ Some field) × (why ≡ Length))

-- if there is a rejection, not every field is held
pub not_says : (items : List Item) (values : List (List ℕ)) (fields : List (Option Field)) (out : Option Field) (field : Field) (why : Why)
    → Says items values fields out field why → AreHeld items values → out ≡ None → ⊥
not_says items values fields out field why (inl a) held none = not_held items values a.0 why a.1 held
not_says items values fields out field why (inr a) held none = let both : Some field ≡ None = sym a.1 ∙ none in cc

same_says : (items : List Item) (values : List (List ℕ)) (fields : List (Option Field)) (out : Option Field) (f g : Field) (w v : Why)
    → Says items values fields out f w → Says items values fields out g v → (f ≡ g) × (w ≡ v)
same_says items values fields out f g w v (inl a) (inl b) =
    (a.2 ∙ ap (field_at fields) (same_rejected items values a.0 b.0 w v a.1 b.1) ∙ sym b.2, same_why items values a.0 b.0 w v a.1 b.1)
same_says items values fields out f g w v (inl a) (inr b) = absurd (not_held items values a.0 w a.1 b.0)
same_says items values fields out f g w v (inr a) (inl b) = absurd (not_held items values b.0 v b.1 a.0)
same_says items values fields out f g w v (inr a) (inr b) =
    ((let both : Some f ≡ Some g = sym a.1 ∙ b.1 in cc), a.2 ∙ sym b.2)

-- ---- the option that decides

module _ (set : TableRows) (level : LevelName) (epc : Epc) where
  pub says_of : (i : ℕ) (candidate : Candidate set level epc i) (field : Field) (why : Why) → Rejects set level epc candidate field why
      → Says candidate.items (values_for level epc candidate.info) candidate.info.fields (left_out candidate.info.fields epc) field why
  says_of i candidate field why (inl r) = inl (r.k, r.first, r.stands_for)
  says_of i candidate field why (inr r) = inr (r.held, r.left, r.size)

  pub same_items : (i j : ℕ) (one : Candidate set level epc i) (other : Candidate set level epc j) → i ≡ j → one.items ≡ other.items
  same_items i j one other e = same_at (options_of level set) i j one.items other.items one.of_level other.of_level e

  pub same_info : (i j : ℕ) (one : Candidate set level epc i) (other : Candidate set level epc j) → i ≡ j → one.info ≡ other.info
  same_info i j one other e = same_at (level_rows level set).info i j one.info other.info one.said other.said e

  one_text : (text other : List ℕ) → Writes set level epc text → Writes set level epc other → text ≡ other
  one_text text other a b =
      let place = same_place a.option b.option (λ less. b.first a.option a.candidate less a.holds) (λ less. a.first b.option b.candidate less b.holds) in
      let items = same_items a.option b.option a.candidate b.candidate place in
      let info = same_info a.option b.option a.candidate b.candidate place in
      a.text_is ∙ ap (λ (i : List Item). text_on level (written i (values_for level epc a.candidate.info))) items
      ∙ ap (λ (i : OptInfo). text_on level (written b.candidate.items (values_for level epc i))) info ∙ sym b.text_is

  -- the same rejection by the last candidate
  same_last : (f g : Field) (w v : Why) → LastRejects set level epc f w → LastRejects set level epc g v → (f ≡ g) × (w ≡ v)
  same_last f g w v a b =
      let place = same_place a.option b.option (λ less. a.last b.option less b.candidate) (λ less. b.last a.option less a.candidate) in
      let items = same_items a.option b.option a.candidate b.candidate place in
      let info = same_info a.option b.option a.candidate b.candidate place in
      let says = says_of a.option a.candidate f w a.rejects in
      let others = says_of b.option b.candidate g v b.rejects in
      let moved : Says a.candidate.items (values_for level epc a.candidate.info) a.candidate.info.fields (left_out a.candidate.info.fields epc) g v = rw (items, info) others in
      same_says a.candidate.items (values_for level epc a.candidate.info) a.candidate.info.fields (left_out a.candidate.info.fields epc) f g w v says moved

  one_error : (f g : EpcWriteFault) → f ≢ write.Memory → g ≢ write.Memory → WritesAs set level epc (Err f) → WritesAs set level epc (Err g) → f ≡ g
  one_error write.Memory g t u a b = absurd (t refl)
  one_error write.NoOption write.NoOption t u a b = refl
  one_error write.NoOption (write.CannotHold field why) t u a b = absurd (a b.option b.candidate)
  one_error write.NoOption write.Memory t u a b = absurd (u refl)
  one_error (write.CannotHold field why) write.NoOption t u a b = absurd (b a.option a.candidate)
  one_error (write.CannotHold field why) (write.CannotHold other reason) t u a b =
      let same = same_last field other why reason a b in
      ap (λ (f : Field). write.CannotHold f why) same.0 ∙ ap (λ (w : Why). write.CannotHold other w) same.1
  one_error (write.CannotHold field why) write.Memory t u a b = absurd (u refl)

  not_both : (text : List ℕ) (error : EpcWriteFault) → error ≢ write.Memory → Writes set level epc text → WritesAs set level epc (Err error) → ⊥
  not_both text write.NoOption t a b = b a.option a.candidate
  not_both text (write.CannotHold field why) t a b = b.none (suc a.option) a.option a.candidate (omega arith) a.holds
  not_both text write.Memory t a b = t refl

  pub writes_one : (one other : Result (List ℕ) EpcWriteFault) → one ≢ Err write.Memory → other ≢ Err write.Memory
      → WritesAs set level epc one → WritesAs set level epc other → one ≡ other
  writes_one (Ok text) (Ok other) t u a b = ap Ok (one_text text other a b)
  writes_one (Ok text) (Err error) t u a b = absurd (not_both text error (λ e. u (ap Err e)) a b)
  writes_one (Err error) (Ok text) t u a b = absurd (not_both text error (λ e. t (ap Err e)) b a)
  writes_one (Err error) (Err other) t u a b = ap Err (one_error error other (λ e. t (ap Err e)) (λ e. u (ap Err e)) a b)

  pub one_written : HasOne (Reworded write.Memory write_reason (WritesAs set level epc))
  one_written = one_reworded write.Memory write_reason (WritesAs set level epc) writes_one

-- why nothing is appended is why there is no spelling
pub appended_none : (set : TableRows) (level : LevelName) (epc : Epc) (before now : List ℕ) (error : EpcWriteFault)
    → AppendsAs set level epc before now (Err error)
    → UnlessMemory {X = Unit {0}} (Err (write_reason error)) (AppendsText {Done = Unit {0}} (Reworded write.Memory write_reason (WritesAs set level epc)) before now (Err (write_reason error)))
appended_none set level epc before now write.NoOption a = λ known. (a.0, gives_err write.Memory write_reason (WritesAs set level epc) write.NoOption (λ e. cc) a.1)
appended_none set level epc before now (write.CannotHold field why) a = λ known. (a.0, gives_err write.Memory write_reason (WritesAs set level epc) (write.CannotHold field why) (λ e. cc) a.1)
appended_none set level epc before now write.Memory a = λ known. absurd (known refl)
