use Rattle.std.proofs.Common.{◌≡◌, ℕ, List, [], ◌∷◌, ◌++◌, ap, refl, sym, ◌∙◌, append_assoc, append-nil}
use Rattle.std.proofs.lemmas.Grind.{flat_map-append}
use Rattle.gs_element.specs.BracketedTexts.{value_before, written_character, written_value}
use Rattle.gs_element.proofs.bracketed_text.append_value.Goals as goal

written_more : (done : List ℕ) (c : ℕ) (behind : List ℕ) → written_value done ++ (written_character c ++ behind) ≡ written_value (done ++ c ∷ []) ++ behind
written_more done c behind = rw (flat_map-append written_character done (c ∷ []), append-nil (written_character c))
    (sym (append_assoc (written_value done) (written_character c) behind))

character_more : (start value pushed text left behind done : List ℕ) (c : ℕ) → value ≡ start ++ done
    → value_before text ≡ done ++ value_before left → text ≡ written_value done ++ left
    → pushed ≡ value ++ c ∷ [] → value_before left ≡ c ∷ value_before behind → left ≡ written_character c ++ behind
    → (x : List ℕ) × (pushed ≡ start ++ x) × (value_before text ≡ x ++ value_before behind) × (text ≡ written_value x ++ behind)
character_more start value pushed text left behind done c so_far before written push next character = (
  done ++ c ∷ [],
  push ∙ ap (λ (w : List ℕ). w ++ c ∷ []) so_far ∙ append_assoc start done (c ∷ []),
  before ∙ ap (λ (w : List ℕ). done ++ w) next ∙ sym (append_assoc done (c ∷ []) (value_before behind)),
  written ∙ ap (λ (w : List ℕ). written_value done ++ w) character ∙ written_more done c behind,
)

pub loop-next-preserved : goal.loop-next-preserved
loop-next-preserved c =
    let h = c.loop-next.invariant in
    character_more c.args.value.now c.loop-next.value _ c.args.text.now c.loop-next.rest.now c.in-Some.next.rest.now h.0 c.in-Some.next.character h.1 h.2 h.3 c.in_ok-push.ensures.appended c.in-Some.ensures.value c.in-Some.ensures.text

pub loop-next-init : goal.loop-next-init
loop-next-init c = ([], sym (append-nil c.args.value.now), refl, refl)
