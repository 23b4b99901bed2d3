use Rattle.std.proofs.Common.{◌≡◌, ◌++◌, ◌∷◌, [], ap, bytes_eq, false, refl, sym, ◌∙◌}
use Rattle.gs_linktext.specs.Contexts.{last_name}
use Rattle.gs_linktext.proofs.CutLemmas.{equal_name, last_of, more_relation, more_target}
use Rattle.gs_linktext.proofs.cuts.with_link.Goals as goal

pub returns-then-eq : goal.returns-then-eq
returns-then-eq c =
    more_target c.args.context (record { anchor = c.args.context.anchor; relations = c.from_vec-relations-then-eq.result }) c.args.name.now c.args.target c.pop.new.self.items c.in-Some.last c.in_ok-with_target.field-0 refl (sym c.into_vec-relations.ensures ∙ c.in-Some.ensures.items)
    (equal_name _ _ _ c.if-eq.ensures c.as_bytes.ensures) c.in_ok-with_target.ensures.name c.in_ok-with_target.ensures.targets
    (c.from_vec-relations-then-eq.ensures ∙ c.in_ok-push-2.ensures.items)

pub returns : goal.returns
returns c =
    let split = sym c.into_vec-relations.ensures ∙ c.in-Some.ensures.items in
    let back = c.in_ok-push-3.ensures.items ∙ sym split in
    let apart : bytes_eq (last_name c.args.context.relations) c.args.name.now ≡ false = ap (λ n. bytes_eq n c.args.name.now) (ap last_name split ∙ last_of c.pop.new.self.items c.in-Some.last ∙ sym c.as_bytes.ensures) ∙ sym c.if-eq.ensures in
    more_relation c.args.context (record { anchor = c.args.context.anchor; relations = c.from_vec-relations-2.result }) c.args.name.now c.args.target refl
    (c.from_vec-relations-2.ensures ∙ c.in_ok-push-4.ensures.items ∙ ap (λ xs. xs ++ c.in_ok-relation_with-2.field-0 ∷ []) back ∙ ap (λ r. c.args.context.relations ++ r ∷ []) c.in_ok-relation_with-2.ensures) (λ some. apart)
