use Rattle.std.proofs.Common.{◌≡◌, ◌≢◌, ℕ, List, [], ◌∷◌, ◌++◌, ap, ◌∙◌, append_assoc, arith, ne_eqb}
use Rattle.gs_element.specs.BracketedTexts.{written_character}
use Rattle.gs_element.proofs.writer.write_character.Goals as goal

bracket_written : (c : ℕ) (old mid new : List ℕ) → c ≡ 40 → mid ≡ old ++ 92 ∷ [] → new ≡ mid ++ 40 ∷ [] → new ≡ old ++ written_character c
bracket_written c old mid new bracket backslash push = rw bracket (push ∙ ap (λ (w : List ℕ). w ++ 40 ∷ []) backslash ∙ append_assoc old (92 ∷ []) (40 ∷ []))

plain_written : (c : ℕ) (old new : List ℕ) → c ≢ 40 → new ≡ old ++ c ∷ [] → new ≡ old ++ written_character c
plain_written c old new plain push = rw (ne_eqb c 40 plain) push

pub returns-in_ok-push-2-clause-written : goal.returns-in_ok-push-2-clause-written
returns-in_ok-push-2-clause-written c = bracket_written c.args.c c.args.out.now.items _ _ (omega arith) c.in_ok-push.ensures.items c.in_ok-push-2.ensures.items

pub returns-in_ok-push-3-clause-written : goal.returns-in_ok-push-3-clause-written
returns-in_ok-push-3-clause-written c = plain_written c.args.c c.args.out.now.items _ (λ e. omega arith) c.in_ok-push-3.ensures.items
