-- A place, step by step.
use Rattle.std.proofs.Common.{◌≡◌, ℕ, ◌+◌, ◌<◌, List, [], ◌∷◌, ◌++◌, length, get_or, take, sym, ap, ◌∙◌}
use Rattle.std.proofs.lemmas.List.{flat_map_more, take_more}
use Rattle.gs_json.specs.Steps.{place_of, step_text}
use Rattle.gs_json.specs.declared.place.Step.{Step}

pub one_step_more : (steps : List Step) (i : ℕ) (d step : Step) (text more : List ℕ) → i < length steps → get_or steps i d ≡ step
    → text ≡ place_of (take i steps) → more ≡ text ++ step_text step → more ≡ place_of (take (i + 1) steps)
one_step_more steps i d step text more within here so_far e =
    e ∙ ap (λ w. w ++ step_text step) so_far ∙ flat_map_more step_text [] (take i steps) step
    ∙ ap (λ s. place_of (take i steps ++ s ∷ [])) (sym here) ∙ ap place_of (sym (take_more steps i d within))
