-- The candidates of a level, found by the numbers of the options of their kind and prefix length.
use Rattle.std.proofs.Common.{◌≡◌, ℕ, zero, suc, ◌+◌, ◌-◌, ◌<◌, ◌≤◌, ◌&&◌, Bool, true, false, List, [], ◌∷◌, length, drop, Some, None, Err, slice_get, get_or, refl, sym, ap, subst, ◌∙◌, arith, inl, inr}
use Rattle.std.proofs.lemmas.List.{drop-drop, drop_all, drop_more}
use Rattle.std.proofs.lemmas.Option.{slice_get_within}
use Rattle.gs_chars.proofs.TruthsAndLists.{read_at, true_or_false}
use Rattle.gs_tables_document.specs.declared.document.LevelName.{LevelName}
use Rattle.gs_tables_document.specs.declared.document.OptInfo.{OptInfo}
use Rattle.gs_tables.specs.Numbers.{is_of, numbers_from, numbers_of}
use Rattle.gs_tables.specs.Tables.{IsShaped, TableRows, level_rows}
use Rattle.gs_epc.specs.declared.epc.Epc.{Epc}
use Rattle.gs_epc.specs.declared.error.EpcWriteFault.{EpcWriteFault}
use Rattle.gs_epc.specs.declared.error.EpcWriteFault.TheVariants.{NoOption}
use Rattle.gs_epc.specs.Candidates.{Candidate, is_asked, is_candidate}
use Rattle.gs_epc.specs.Writes.{WritesAs}
use Rattle.gs_epc.proofs.Rejections.{RejectedBefore, candidate_at, no_candidate, rejected_all, skipped}
use Rattle.std.proofs.lemmas.Bool.{and_parts}

-- ---- the first number

-- the first number is that of the first option of the kind and prefix length, m after n, and the others follow it
pub record IsNext (n kind gcp : ℕ) (infos : List OptInfo) (i : ℕ) (others : List ℕ) : Type 0 where
  pub m : ℕ
  pub place : i ≡ n + m
  pub info : OptInfo
  pub said : slice_get infos m ≡ Some info
  pub is : is_of kind gcp info ≡ true
  pub before : (j : ℕ) (other : OptInfo) → j < m → slice_get infos j ≡ Some other → is_of kind gcp other ≡ false
  pub follow : others ≡ numbers_from (i + 1) kind gcp (drop (m + 1) infos)

first_other : (kind gcp m : ℕ) (first : OptInfo) (infos : List OptInfo) → is_of kind gcp first ≡ false
    → ((j : ℕ) (other : OptInfo) → j < m → slice_get infos j ≡ Some other → is_of kind gcp other ≡ false)
    → (j : ℕ) (other : OptInfo) → j < m + 1 → slice_get (first ∷ infos) j ≡ Some other → is_of kind gcp other ≡ false
first_other kind gcp m first infos fails before zero other low at = let same : first ≡ other = cc in rw same at fails
first_other kind gcp m first infos fails before (suc j) other low at = before j other (omega arith) at

next : (n kind gcp : ℕ) (infos : List OptInfo) (i : ℕ) (others : List ℕ) → numbers_from n kind gcp infos ≡ i ∷ others → IsNext n kind gcp infos i others
next n kind gcp [] i others e = absurd (let f : [] ≡ i ∷ others = e in cc)
next n kind gcp (first ∷ infos) i others e = elim (true_or_false (is_of kind gcp first)) [
  | inl is ↦
      let f : n ∷ numbers_from (n + 1) kind gcp infos ≡ i ∷ others = rw is at e in
      let place : n ≡ i = cc in
      let rest : numbers_from (n + 1) kind gcp infos ≡ others = cc in
      record { m = 0; place = omega arith; info = first; said = refl; is = is; before = λ j other low at. absurd (omega arith); follow = sym rest ∙ ap (λ (k : ℕ). numbers_from (k + 1) kind gcp infos) place }
  | inr fails ↦
      let f : numbers_from (n + 1) kind gcp infos ≡ i ∷ others = rw fails at e in
      let later = next (n + 1) kind gcp infos i others f in
      let place = later.place in
      let count : later.m + 1 + 1 ≡ suc (later.m + 1) = omega arith in
      let one : later.m + 1 ≡ suc later.m = omega arith in
      record { m = later.m + 1; place = omega arith; info = later.info; said = rw one later.said; is = later.is; before = first_other kind gcp later.m first infos fails later.before; follow = rw count later.follow }
]

none_next : (n kind gcp : ℕ) (infos : List OptInfo) → numbers_from n kind gcp infos ≡ [] → (j : ℕ) (other : OptInfo)
    → slice_get infos j ≡ Some other → is_of kind gcp other ≡ false
none_next n kind gcp [] e j other at = absurd (let f : None ≡ Some other = at in cc)
none_next n kind gcp (first ∷ infos) e j other at = elim (true_or_false (is_of kind gcp first)) [
  | inl is ↦ absurd (let f : n ∷ numbers_from (n + 1) kind gcp infos ≡ [] = rw is at e in cc)
  | inr fails ↦ by j at (none_next (n + 1) kind gcp infos (rw fails at e)) fails
]
  where
    by : (j : ℕ) → slice_get (first ∷ infos) j ≡ Some other
        → ((j : ℕ) (other : OptInfo) → slice_get infos j ≡ Some other → is_of kind gcp other ≡ false) → is_of kind gcp first ≡ false
        → is_of kind gcp other ≡ false
    by zero at rest fails = let same : first ≡ other = cc in rw same at fails
    by (suc j) at rest fails = rest j other at

-- ---- the options after a place

at_drop : {X : Type 0} (xs : List X) (n j : ℕ) → slice_get (drop n xs) j ≡ slice_get xs (n + j)
at_drop xs zero j = let e : 0 + j ≡ j = omega arith in rw e refl
at_drop [] (suc n) j = nowhere j (suc n + j)
  where
    nowhere : {X : Type 0} (j k : ℕ) → slice_get {X = X} [] j ≡ slice_get {X = X} [] k
    nowhere zero zero = refl
    nowhere zero (suc k) = refl
    nowhere (suc j) zero = refl
    nowhere (suc j) (suc k) = refl
at_drop (x ∷ xs) (suc n) j = let e : suc n + j ≡ suc (n + j) = omega arith in rw e (at_drop xs n j)

module _ (set : TableRows) (level : LevelName) (epc : Epc) where
  -- an option of another kind or prefix length is not a candidate
  other_option : (infos : List OptInfo) (i : ℕ) → infos ≡ (level_rows level set).info
      → ((other : OptInfo) → slice_get infos i ≡ Some other → is_of epc.kind epc.gcp other ≡ false) → Candidate set level epc i → ⊥
  other_option infos i rows others candidate =
      let said : slice_get infos i ≡ Some candidate.info = rw rows candidate.said in
      let fails = others candidate.info said in
      let passes = (and_parts (is_of epc.kind epc.gcp candidate.info) (is_asked level epc.encoding candidate.info.encoding) candidate.passes).0 in
      let both : true ≡ false = sym passes ∙ fails in
      cc

  -- the options between two places are not candidates
  jump : (n m : ℕ) (rejection : EpcWriteFault) → RejectedBefore set level epc n rejection
      → ((j : ℕ) → j < m → Candidate set level epc (n + j) → ⊥) → RejectedBefore set level epc (n + m) rejection
  jump n zero rejection before fails = let e : n + 0 ≡ n = omega arith in rw e before
  jump n (suc m) rejection before fails =
      let e : n + suc m ≡ n + m + 1 = omega arith in
      rw e (skipped set level epc (n + m) rejection (jump n m rejection before (λ j low candidate. fails j (omega arith) candidate)) (fails m (omega arith)))

  -- the options before n are rejected, and the numbers after the first k are those of the options from n on
  pub record TriedFirst (infos : List OptInfo) (numbers : List ℕ) (k : ℕ) (rejection : EpcWriteFault) : Type 0 where
    pub n : ℕ
    pub rejected : RejectedBefore set level epc n rejection
    pub left : drop k numbers ≡ numbers_from n epc.kind epc.gcp (drop n infos)

  pub none_tried : (infos : List OptInfo) (numbers : List ℕ) → numbers ≡ numbers_of epc.kind epc.gcp infos → TriedFirst infos numbers 0 NoOption
  none_tried infos numbers is = record { n = 0; rejected = λ i low candidate. absurd (omega arith); left = is }

  -- number k, option i of the level
  pub record IsTurn (infos : List OptInfo) (numbers : List ℕ) (k i : ℕ) (rejection : EpcWriteFault) : Type 0 where
    pub low : i < length infos
    pub of : (info : OptInfo) → info ≡ get_or infos i info → is_of epc.kind epc.gcp info ≡ true
    pub rejected : RejectedBefore set level epc i rejection
    pub left : drop (k + 1) numbers ≡ numbers_from (i + 1) epc.kind epc.gcp (drop (i + 1) infos)

  pub turn : (infos : List OptInfo) (numbers : List ℕ) (k i : ℕ) (rejection : EpcWriteFault) → infos ≡ (level_rows level set).info
      → TriedFirst infos numbers k rejection → k < length numbers → i ≡ get_or numbers k 0 → IsTurn infos numbers k i rejection
  turn infos numbers k i rejection rows tried within read =
      let cut : drop k numbers ≡ i ∷ drop (k + 1) numbers = drop_more numbers k 0 within ∙ ap (λ (x : ℕ). x ∷ drop (k + 1) numbers) (sym read) in
      let step = next tried.n epc.kind epc.gcp (drop tried.n infos) i (drop (k + 1) numbers) (sym tried.left ∙ cut) in
      let said : slice_get infos i ≡ Some step.info = ap (slice_get infos) step.place ∙ sym (at_drop infos tried.n step.m) ∙ step.said in
      let low = slice_get_within infos i step.info said in
      record {
        low = low;
        of = λ info at. passes info step.info (read_at infos i info low at) said step.is;
        rejected = subst (λ (j : ℕ). RejectedBefore set level epc j rejection) (sym step.place)
            (jump tried.n step.m rejection tried.rejected (λ j small candidate. other_option infos (tried.n + j) rows (λ other at. step.before j other small (at_drop infos tried.n j ∙ at)) candidate));
        left = step.follow ∙ ap (numbers_from (i + 1) epc.kind epc.gcp) (dropped step.m tried.n step.place);
      }
    where
      passes : (info other : OptInfo) → slice_get infos i ≡ Some info → slice_get infos i ≡ Some other → is_of epc.kind epc.gcp other ≡ true
          → is_of epc.kind epc.gcp info ≡ true
      passes info other a b is = let both : Some info ≡ Some other = sym a ∙ b in let same : info ≡ other = cc in rw same is

      dropped : (m n : ℕ) → i ≡ n + m → drop (m + 1) (drop n infos) ≡ drop (i + 1) infos
      dropped m n place = drop-drop (m + 1) n infos ∙ ap (λ (j : ℕ). drop j infos) (let e : n + (m + 1) ≡ i + 1 = omega arith in e)

  module _ (infos : List OptInfo) (numbers : List ℕ) (k i : ℕ) (rejection : EpcWriteFault) (is : IsTurn infos numbers k i rejection)
      (info : OptInfo) (rows : infos ≡ (level_rows level set).info) (read : info ≡ get_or infos i info) where
    of_it : is_asked level epc.encoding (get_or infos i info).encoding ≡ is_asked level epc.encoding info.encoding
    of_it = ap (λ (x : OptInfo). is_asked level epc.encoding x.encoding) (sym read)

    passes_as : (asked : Bool) → asked ≡ is_asked level epc.encoding (get_or infos i info).encoding → asked ≡ is_candidate level epc info
    passes_as asked e = rw (is.of info read, ← (e ∙ of_it)) (whole asked)
      where
        whole : (b : Bool) → b ≡ (true && b)
        whole b = refl

    pub turn_candidate : IsShaped set → true ≡ is_asked level epc.encoding (get_or infos i info).encoding → Candidate set level epc i
    turn_candidate shaped asked = candidate_at set level epc infos i info shaped rows is.low read (passes_as true asked)

    pub turn_skipped : false ≡ is_asked level epc.encoding (get_or infos i info).encoding → TriedFirst infos numbers (k + 1) rejection
    turn_skipped asked = record { n = i + 1; rejected = skipped set level epc i rejection is.rejected (no_candidate set level epc infos i info rows is.low read (passes_as false asked)); left = is.left }

  pub turn_rejected : (infos : List OptInfo) (numbers : List ℕ) (k i : ℕ) (before rejection : EpcWriteFault)
      → IsTurn infos numbers k i before → RejectedBefore set level epc (i + 1) rejection → TriedFirst infos numbers (k + 1) rejection
  turn_rejected infos numbers k i before rejection is rejected = record { n = i + 1; rejected = rejected; left = is.left }

  -- all numbers are tried
  pub all_tried : (infos : List OptInfo) (numbers : List ℕ) (k : ℕ) (rejection : EpcWriteFault) → infos ≡ (level_rows level set).info
      → length numbers ≤ k → TriedFirst infos numbers k rejection → WritesAs set level epc (Err rejection)
  all_tried infos numbers k rejection rows past tried =
      let none : drop k numbers ≡ [] = drop_all k numbers past in
      let others = none_next tried.n epc.kind epc.gcp (drop tried.n infos) (sym tried.left ∙ none) in
      let m = length infos - tried.n in
      rejected_all set level epc infos (tried.n + m) rejection rows (omega arith)
      (jump tried.n m rejection tried.rejected (λ j small candidate. other_option infos (tried.n + j) rows (λ other at. others j other (at_drop infos tried.n j ∙ at)) candidate))
