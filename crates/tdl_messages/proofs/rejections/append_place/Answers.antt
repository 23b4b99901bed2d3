use Rattle.std.proofs.Common.{◌≡◌, ◌+◌, ◌<◌, ◌∙◌, ℕ, List, [], ◌∷◌, ◌++◌, length, get_or, take, ap, add-one, append_assoc}
use Rattle.std.proofs.Math.Seq.{take-suc}
use Rattle.std.proofs.lemmas.List.{map-append, take_all}
use Rattle.tdl_messages.specs.Rejections.{shown}
use Rattle.tdl_messages.proofs.rejections.append_place.Goals as goal
use Rattle.gs_chars.specs.Characters.{is_visible}
use Rattle.std.specs.Prelude.{if◌then◌else◌}

-- one byte more of a place
one_more : (out place : List ℕ) (i : ℕ) → i < length place
    → (out ++ shown (take i place)) ++ (if is_visible (get_or place i 0) then (get_or place i 0) else 63) ∷ [] ≡ out ++ shown (take (i + 1) place)
one_more out place i low =
    rw (add-one, take-suc place i 0 low, map-append (λ c. if is_visible c then c else 63) (take i place) (get_or place i 0 ∷ []))
    (append_assoc out (shown (take i place)) ((if is_visible (get_or place i 0) then (get_or place i 0) else 63) ∷ []))

pub loop-c-preserved : goal.loop-c-preserved
loop-c-preserved c =
    c.in_ok-push.ensures.items ∙ ap (λ out. out ++ c.shown_byte.result ∷ []) c.loop-c.invariant
    ∙ rw c.shown_byte.ensures (one_more c.args.out.now.items c.args.place.now c.loop-c.c-index c.loop-c-test.true)

pub returns : goal.returns
returns c = c.loop-c.invariant ∙ ap (λ front. c.args.out.now.items ++ shown front) (take_all c.loop-c.c-index c.args.place.now c.loop-c-test.false)
