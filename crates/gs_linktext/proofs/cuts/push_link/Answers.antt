use Rattle.std.proofs.Common.{◌≡◌, sym, ap, ◌∙◌, bytes_eq, not, ◌++◌, ◌∷◌, []}
use Rattle.gs_linkset.specs.LinkShapes.{is_below}
use Rattle.gs_linktext.specs.Contexts.{last_name}
use Rattle.gs_chars.proofs.TruthsAndLists.{and_first, and_second}
use Rattle.gs_linktext.proofs.CutLemmas.{cut_first, cut_more, cut_next}
use Rattle.gs_linktext.proofs.cuts.push_link.Goals as goal

pub returns-in_default : goal.returns-in_default
returns-in_default c = λ links cut.
    let gone : c.pop.new.self.items ≡ [] = (rw c.in_default.ensures.cases.0 at c.in_default.ensures.rest) in
    let none : c.args.contexts.now.items ≡ [] = c.in_default.ensures.items ∙ ap (λ xs. xs ++ []) gone in
    cut_first links c.args.contexts.now.items c.push.new.self.items c.args.anchor.now c.args.name.now c.args.target none
    (c.in_ok-push.ensures.items ∙ ap (λ xs. xs ++ c.in_ok-context_with.field-0 ∷ []) (gone ∙ sym none) ∙ ap (λ x. c.args.contexts.now.items ++ x ∷ []) c.in_ok-context_with.ensures) cut

pub returns-then-takes : goal.returns-then-takes
returns-then-takes c = λ links cut.
    cut_more links c.args.contexts.now.items c.push-then-takes.new.self.items c.pop.new.self.items c.in-Some.last c.in_ok-with_link.field-0 c.args.anchor.now c.args.name.now c.args.target c.in-Some.ensures.items c.in_ok-push-2.ensures.items c.in_ok-with_link.ensures
    (and_first (bytes_eq c.in-Some.last.anchor c.args.anchor.now) (not (is_below c.args.name.now (last_name c.in-Some.last.relations))) (sym c.if-takes.ensures))
    (and_second (bytes_eq c.in-Some.last.anchor c.args.anchor.now) (not (is_below c.args.name.now (last_name c.in-Some.last.relations))) (sym c.if-takes.ensures)) cut

pub returns : goal.returns
returns c = λ links cut.
    cut_next links c.args.contexts.now.items c.push-3.new.self.items c.pop.new.self.items c.in-Some.last c.args.anchor.now c.args.name.now c.args.target c.in-Some.ensures.items
    (c.in_ok-push-4.ensures.items ∙ ap (λ xs. xs ++ c.in_ok-context_with-2.field-0 ∷ []) (c.in_ok-push-3.ensures.items ∙ sym c.in-Some.ensures.items) ∙ ap (λ x. c.args.contexts.now.items ++ x ∷ []) c.in_ok-context_with-2.ensures) (sym c.if-takes.ensures) cut
