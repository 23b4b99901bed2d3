-- The shape of links: their relations and the canonical links of their anchors are UTF-8.
use Rattle.std.proofs.Common.{◌≡◌, ◌<◌, ℕ, zero, suc, ◌==◌, ◌&&◌, nat_lt, Bool, true, false, List, [], ◌∷◌, ◌++◌, All, codes, drop, length, map, get_or, refl, sym, ap, ◌∙◌, subst, arith}
use Rattle.std.specs.Prelude.{Ok, if◌then◌else◌, slice_index}
use Rattle.std.specs.List.{flat_map, list_all, starts_with}
use Rattle.std.specs.Str.{IsAscii, is_utf8}
use Rattle.std.proofs.Common.{ltb-true, true≢false}
use Rattle.std.proofs.lemmas.Bool.{agree_below, agree_below_at, eqb-true, and_from}
use Rattle.std.proofs.lemmas.Bool.Decides.{nat_tests}
use Rattle.std.proofs.lemmas.List.{append-nil}
use Rattle.std.proofs.lemmas.List.Elements.{All-head, All-tail}
use Rattle.std.proofs.lemmas.List.Folds.{list_all-append}
use Rattle.std.proofs.lemmas.Str.{IsCharBoundary-after_ascii, IsUtf8-append, IsUtf8-drop, IsUtf8-from_ascii, IsUtf8-from_is_utf8, is_utf8-from_IsUtf8}
use Rattle.gs_ai.specs.Tables.{KeepsRules}
use Rattle.gs_ai.specs.declared.pair.Pair.{Pair}
use Rattle.gs_ai.specs.declared.row.AiRow.{AiRow}
use Rattle.gs_chars.proofs.TruthsAndLists.{and_first, and_second}
use Rattle.gs_chars.specs.Characters.{is_digit}
use Rattle.gs_dlink.proofs.SpelledPairs.{code_is_digits, of_table, value_bytes}
use Rattle.gs_ident.specs.Elements.{Elements, pairs_of}
use Rattle.gs_ident.specs.Identities.{IsInOrder, IsMadeWith}
use Rattle.gs_ident.specs.Links.{canonical_link, canonical_stem, escaped_byte, is_unescaped, path_step, percent_encoded}
use Rattle.gs_ident.proofs.ValueEscapes.{IsByte}
use Rattle.gs_chars.specs.Characters.{is_visible}
use Rattle.gs_linkset.proofs.WrittenLemmas.{context_parts, relation_parts}
use Rattle.gs_linkset.specs.LinkShapes.{is_context, is_relation, is_target}
use Rattle.gs_linkset.specs.declared.link_types.Context.{Context}
use Rattle.gs_linkset.specs.declared.link_types.Relation.{Relation}
use Rattle.gs_linkset.specs.declared.link_types.Target.{Target}
use Rattle.gs_links.specs.Loads.{anchor_answer, context_links, expanded, link_with, relation_links}
use Rattle.gs_links.specs.Shapes.{is_link}
use Rattle.gs_links.specs.declared.link.Link.{Link}
use Rattle.gs_links.proofs.LoadLemmas.{links_are}

-- ---- bytes below 128

abbrev is_small : ℕ → Bool
is_small c = nat_lt c 128

small_below : (c : ℕ) → is_small c ≡ true → c < 128
small_below c h = ltb-true c 128 h

ascii_from : (text : List ℕ) → list_all is_small text ≡ true → IsAscii text
ascii_from [] h i = nothing i
  where
    nothing : (i : ℕ) → slice_index [] i < 128
    nothing zero = omega arith
    nothing (suc i) = omega arith
ascii_from (c ∷ text) h zero = small_below c (and_first (is_small c) (list_all is_small text) h)
ascii_from (c ∷ text) h (suc i) = ascii_from text (and_second (is_small c) (list_all is_small text) h) i

utf8_from : (text : List ℕ) → list_all is_small text ≡ true → is_utf8 text ≡ true
utf8_from text h = is_utf8-from_IsUtf8 text (IsUtf8-from_ascii text (ascii_from text h))

small_append : (a b : List ℕ) → list_all is_small a ≡ true → list_all is_small b ≡ true → list_all is_small (a ++ b) ≡ true
small_append a b h k = list_all-append is_small a b ∙ and_from (list_all is_small a) (list_all is_small b) h k

-- a fact of each byte holds for all
module _ (f g : ℕ → Bool) (each : (c : ℕ) → f c ≡ true → g c ≡ true) where
  all_of : (text : List ℕ) → list_all f text ≡ true → list_all g text ≡ true
  all_of [] h = refl
  all_of (c ∷ text) h = and_from (g c) (list_all g text) (each c (and_first (f c) (list_all f text) h)) (all_of text (and_second (f c) (list_all f text) h))

-- ---- canonical links

escapes_small : agree_below (λ c. list_all is_small (escaped_byte c)) (λ _. true) 256 ≡ true
unfolding is_unescaped
escapes_small = refl

encoded_small : (value : List ℕ) → All IsByte value → list_all is_small (percent_encoded value) ≡ true
unfolding percent_encoded
encoded_small [] h = refl
encoded_small (c ∷ value) h =
    small_append (escaped_byte c) (flat_map escaped_byte value) (agree_below_at (λ c. list_all is_small (escaped_byte c)) (λ _. true) 256 c escapes_small (All-head IsByte c value h)) (encoded_small value (All-tail IsByte c value h))

digit_small : (c : ℕ) → is_digit c ≡ true → is_small c ≡ true
digit_small c h = grind (arith, nat_tests)

module _ (table : List AiRow) (rules : KeepsRules table) where
  step_small : (pair : Pair) → IsInOrder table pair → list_all is_small (path_step pair) ≡ true
  step_small pair h =
      let of = of_table table rules pair h in
      let code = all_of is_digit is_small digit_small pair.code (code_is_digits table pair of) in
      let value = encoded_small pair.value (value_bytes table pair of) in
      small_append pair.code (47 ∷ percent_encoded pair.value) code value

  steps_small : (pairs : List Pair) → All (IsInOrder table) pairs → list_all is_small (flat_map path_step pairs) ≡ true
  steps_small [] h = refl
  steps_small (pair ∷ pairs) h =
      small_append (path_step pair) (flat_map path_step pairs) (step_small pair (All-head (IsInOrder table) pair pairs h))
      (steps_small pairs (All-tail (IsInOrder table) pair pairs h))

  pub canonical_utf8 : (anchor : Elements) → anchor.attributes ≡ [] → IsMadeWith table anchor → is_utf8 (canonical_link anchor) ≡ true
  canonical_utf8 anchor none made =
      let same : pairs_of anchor ≡ anchor.key ∷ anchor.qualifiers = ap (λ more. anchor.key ∷ (anchor.qualifiers ++ more)) none ∙ ap (λ qs. anchor.key ∷ qs) (append-nil anchor.qualifiers) in
      let pairs = subst (λ ps. All (IsInOrder table) ps) same made.in_order in
      let key = step_small anchor.key (All-head (IsInOrder table) anchor.key anchor.qualifiers pairs) in
      let rest = steps_small anchor.qualifiers (All-tail (IsInOrder table) anchor.key anchor.qualifiers pairs) in
      let first = small_append canonical_stem (path_step anchor.key) refl key in
      let path = small_append (canonical_stem ++ path_step anchor.key) (flat_map path_step anchor.qualifiers) first rest in
      let all = small_append ((canonical_stem ++ path_step anchor.key) ++ flat_map path_step anchor.qualifiers) [] path refl in
      utf8_from (canonical_link anchor) (rw none all)

-- ---- expanded relations

colon_there : (name : List ℕ) → starts_with (λ a b. a == b) name (codes "gs1:") ≡ true → (3 < length name) × (get_or name 3 0 < 128)
colon_there [] h = absurd (true≢false (sym h))
colon_there (a ∷ []) h = absurd (true≢false (sym (and_second (103 == a) _ h)))
colon_there (a ∷ b ∷ []) h = absurd (true≢false (sym (and_second (115 == b) _ (and_second (103 == a) _ h))))
colon_there (a ∷ b ∷ c ∷ []) h = absurd (true≢false (sym (and_second (49 == c) _ (and_second (115 == b) _ (and_second (103 == a) _ h)))))
colon_there (a ∷ b ∷ c ∷ d ∷ rest) h =
    let all : (103 == a) && ((115 == b) && ((49 == c) && ((58 == d) && true))) ≡ true = h in
    let one = and_second (103 == a) _ all in
    let two = and_second (115 == b) _ one in
    let three = and_second (49 == c) _ two in
    let same = eqb-true 58 d (and_first (58 == d) true three) in
    (omega arith, omega (arith, same))

visible_small : (c : ℕ) → is_visible c ≡ true → is_small c ≡ true
visible_small c h = grind (arith, nat_tests)

by_prefix : (voc name : List ℕ) (b : Bool) → starts_with (λ a b. a == b) name (codes "gs1:") ≡ b → list_all is_visible voc ≡ true
    → is_utf8 name ≡ true → is_utf8 (if b then voc ++ drop 4 name else name) ≡ true
by_prefix voc name true e visible h =
    let colon = colon_there name e in
    let whole = IsUtf8-from_is_utf8 name h in
    let rest = IsUtf8-drop name 4 whole (IsCharBoundary-after_ascii name 3 whole colon.0 colon.1) in
    let front = IsUtf8-from_ascii voc (ascii_from voc (all_of is_visible is_small visible_small voc visible)) in
    is_utf8-from_IsUtf8 (voc ++ drop 4 name) (IsUtf8-append voc (drop 4 name) front rest)
by_prefix voc name false e visible h = h

pub expanded_utf8 : (voc name : List ℕ) → list_all is_visible voc ≡ true → is_utf8 name ≡ true → is_utf8 (expanded voc name) ≡ true
unfolding expanded
expanded_utf8 voc name visible h = by_prefix voc name (starts_with (λ a b. a == b) name (codes "gs1:")) refl visible h

-- ---- links

link_shaped : (anchor : Elements) (relation : List ℕ) (target : Target) → is_utf8 (canonical_link anchor) ≡ true → is_utf8 relation ≡ true
    → is_target target ≡ true → is_link (link_with anchor relation target) ≡ true
unfolding is_link
link_shaped anchor relation target a b c = rw (a, b, c) refl

targets_shaped : (anchor : Elements) (relation : List ℕ) (targets : List Target) → is_utf8 (canonical_link anchor) ≡ true
    → is_utf8 relation ≡ true → list_all is_target targets ≡ true → list_all is_link (map (link_with anchor relation) targets) ≡ true
targets_shaped anchor relation [] a b h = refl
targets_shaped anchor relation (target ∷ targets) a b h =
    and_from (is_link (link_with anchor relation target)) (list_all is_link (map (link_with anchor relation) targets))
    (link_shaped anchor relation target a b (and_first (is_target target) (list_all is_target targets) h))
    (targets_shaped anchor relation targets a b (and_second (is_target target) (list_all is_target targets) h))

relations_shaped : (voc : List ℕ) (anchor : Elements) (relations : List Relation) → list_all is_visible voc ≡ true
    → is_utf8 (canonical_link anchor) ≡ true → list_all is_relation relations ≡ true
    → list_all is_link (flat_map (relation_links voc anchor) relations) ≡ true
relations_shaped voc anchor [] visible a h = refl
relations_shaped voc anchor (relation ∷ relations) visible a h =
    let parts = relation_parts relation (and_first (is_relation relation) (list_all is_relation relations) h) in
    let own = targets_shaped anchor (expanded voc relation.name) relation.targets a (expanded_utf8 voc relation.name visible parts.1) parts.2 in
    let rest = relations_shaped voc anchor relations visible a (and_second (is_relation relation) (list_all is_relation relations) h) in
    list_all-append is_link (relation_links voc anchor relation) (flat_map (relation_links voc anchor) relations) ∙ and_from _ _ own rest

pub context_shaped : (table : List AiRow) (voc : List ℕ) (context : Context) (anchor : Elements) → KeepsRules table
    → list_all is_visible voc ≡ true → is_context context ≡ true → Ok anchor ≡ anchor_answer table context.anchor → anchor.attributes ≡ []
    → IsMadeWith table anchor → list_all is_link (context_links table voc context) ≡ true
context_shaped table voc context anchor rules visible shape h none made =
    rw (links_are table voc context anchor h) (relations_shaped voc anchor context.relations visible (canonical_utf8 table rules anchor none made) (context_parts context shape).2)

pub more_shaped : (links more new : List Link) → list_all is_link links ≡ true → list_all is_link more ≡ true → new ≡ links ++ more
    → list_all is_link new ≡ true
more_shaped links more new h k e = rw e (list_all-append is_link links more ∙ and_from (list_all is_link links) (list_all is_link more) h k)
