use Rattle.std.proofs.Common.{◌≡◌, ℕ, ◌+◌, ◌<◌, ◌≤◌, List, [], ◌∷◌, ◌++◌, length, get_or, drop, map, append_assoc, append-nil, sym, ap, ◌∙◌}
use Rattle.std.proofs.lemmas.List.{at_drop_more, at_drop_all}
use Rattle.gs_epc.specs.Candidates.{filter_text, value_for}
use Rattle.gs_epc.specs.declared.epc.Epc.{Epc}
use Rattle.gs_epc.proofs.candidates.values_for.Goals as goal

one_more : {X Y : Type 0} (f : X → Y) (xs : List X) (i : ℕ) (d : X) (made new all : List Y) (y : Y) → i < length xs → made ++ map f (drop i xs) ≡ all →
    y ≡ f (get_or xs i d) → new ≡ made ++ y ∷ [] → new ++ map f (drop (i + 1) xs) ≡ all
one_more f xs i d made new all y h so_far e n =
    let whole = rw (at_drop_more (map f) xs i d h) at so_far in
    rw (n, e) (append_assoc made (f (get_or xs i d) ∷ []) (map f (drop (i + 1) xs)) ∙ whole)

all_made : {X Y : Type 0} (f : X → Y) (xs : List X) (i : ℕ) (made all : List Y) → length xs ≤ i → made ++ map f (drop i xs) ≡ all → made ≡ all
all_made f xs i made all h so_far = sym (append-nil made) ∙ ap (λ rest. made ++ rest) (sym (at_drop_all (map f) xs i h)) ∙ so_far

pub loop-field-preserved : goal.loop-field-preserved
loop-field-preserved c =
    let value = c.value_for.ensures c.args.level (c.filter_text-filter.ensures ∙ ap (λ (e : Epc). filter_text c.args.level e.filter) c.epc.view_is) in
    one_more (value_for c.args.level c.args.epc.now) c.args.fields.now c.loop-field.field-index _ c.loop-field.values.items c.push.new.self.items _ c.value_for.result c.loop-field-test.true c.loop-field.invariant value c.in_ok-push.ensures.items

pub returns : goal.returns
returns c = all_made (value_for c.args.level c.args.epc.now) c.args.fields.now c.loop-field.field-index c.loop-field.values.items _ c.loop-field-test.false c.loop-field.invariant
