-- The numbers of the options of a kind and prefix length.
use Rattle.std.proofs.Common.{◌≡◌, ℕ, zero, suc, ◌+◌, ◌<◌, ◌≤◌, ◌==◌, ◌&&◌, Bool, true, false, List, [], ◌∷◌, ◌++◌, length, map, position, Option, Some, None, slice_get, unwrap_or, refl, sym, ap, subst, ◌∙◌, arith}
use Rattle.std.proofs.lemmas.Bool.Decides.{nat_tests}
use Rattle.std.proofs.lemmas.Option.{slice_get-map, slice_get_within}
use Rattle.gs_ai.specs.declared.row.AiRow.{AiRow}
use Rattle.gs_tables_document.specs.declared.document.KindRow.{KindRow}
use Rattle.gs_tables_document.specs.declared.document.OptionRow.{OptionRow}
use Rattle.gs_tables_document.specs.declared.document.LevelName.{LevelName}
use Rattle.gs_tables_document.specs.declared.document.OptInfo.{OptInfo}
use Rattle.gs_tables.specs.Numbers.{is_of, numbers_from, numbers_of}
use Rattle.gs_tables.specs.NumbersSupport.{AreNumbered, AreWithin}
use Rattle.gs_tables.specs.Rules.{has_name}
use Rattle.gs_tables.specs.Tables.{info_of, items_there, level_rejections}
use Rattle.gs_tables.proofs.KeptRows.{gcp_kept, placed, row_at}
use Rattle.gs_chars.proofs.TruthsAndLists.{mapped_some as mapped, and_none}

-- ---- one list more

-- a fact of each element, and of one more after them
behind : {X : Type 0} (P : ℕ → X → Type 0) (xs : List X) (y : X) → ((k : ℕ) (x : X) → slice_get xs k ≡ Some x → P k x) → P (length xs) y
    → (k : ℕ) (x : X) → slice_get (xs ++ y ∷ []) k ≡ Some x → P k x
behind P [] y all last zero x e = let same : y ≡ x = cc in subst (P 0) same last
behind P [] y all last (suc k) x e = absurd (let f : None ≡ Some x = e in cc)
behind P (z ∷ xs) y all last zero x e = all 0 x e
behind P (z ∷ xs) y all last (suc k) x e = behind (λ (j : ℕ). P (suc j)) xs y (λ j x e. all (suc j) x e) last k x e

-- ---- no numbers

none_from : (n kind gcp : ℕ) (infos : List OptInfo)
    → ((i : ℕ) (info : OptInfo) → slice_get infos i ≡ Some info → is_of kind gcp info ≡ false) → numbers_from n kind gcp infos ≡ []
none_from n kind gcp [] none = refl
none_from n kind gcp (info ∷ infos) none = rw (none 0 info refl) (none_from (n + 1) kind gcp infos (λ i other e. none (suc i) other e))

no_kind : (kind gcp count : ℕ) (info : OptInfo) → info.kind < count → count ≤ kind → is_of kind gcp info ≡ false
no_kind kind gcp count info low past = let e : (info.kind == kind) ≡ false = grind (arith, nat_tests) in rw e refl

pub past_kinds : (kind gcp : ℕ) (infos : List OptInfo) (count : ℕ) → AreWithin infos count → count ≤ kind → [] ≡ numbers_of kind gcp infos
past_kinds kind gcp infos count within past = sym (none_from 0 kind gcp infos (λ i info e. no_kind kind gcp count info (within i info e).0 past))

pub past_lengths : (kind gcp : ℕ) (infos : List OptInfo) (count : ℕ) → AreWithin infos count → 13 ≤ gcp → [] ≡ numbers_of kind gcp infos
past_lengths kind gcp infos count within past = sym (none_from 0 kind gcp infos (λ i info e. apart i info e))
  where
    apart : (i : ℕ) (info : OptInfo) → slice_get infos i ≡ Some info → is_of kind gcp info ≡ false
    apart i info e =
        let short = (within i info e).1 in
        and_none (info.kind == kind) (info.gcp == gcp) (grind (arith, nat_tests))

-- ---- the numbers at their places

pub at_places : (infos : List OptInfo) (kinds : List (List (List ℕ))) (kind gcp : ℕ) (lists : List (List ℕ)) (numbers : List ℕ)
    → AreNumbered infos kinds → slice_get kinds kind ≡ Some lists → slice_get lists gcp ≡ Some numbers → numbers ≡ numbers_of kind gcp infos
at_places infos kinds kind gcp lists numbers are at_kind at_length = (are.numbers kind lists at_kind).lengths gcp numbers at_length

-- ---- the rows of a level

pub rows_within : (ais : List AiRow) (kinds : List KindRow) (level : LevelName) (rows : List OptionRow) (infos : List OptInfo)
    → level_rejections ais kinds level rows ≡ [] → infos ≡ map (info_of kinds) rows → AreWithin infos (length kinds)
rows_within ais kinds level rows infos none made i info at =
    let at_map : slice_get (map (info_of kinds) rows) i ≡ Some info = rw made at at in
    let row = mapped (info_of kinds) (slice_get rows i) info (sym (slice_get-map (info_of kinds) rows i) ∙ at_map) in
    let kept = row_at ais kinds level rows i row.0 none row.1 in
    let place = placed (has_name row.0.kind) kinds kept.kind kept.named in
    let low = slice_get_within kinds place.0 kept.kind place.2 in
    let here : unwrap_or (position (has_name row.0.kind) kinds) 0 ≡ place.0 = ap (λ (o : Option ℕ). unwrap_or o 0) place.1 in
    rw (← row.2) (rw here low, gcp_kept kept.form kept.kind.lead row.0.gcp (items_there row.0) kept.fields.gcp)
