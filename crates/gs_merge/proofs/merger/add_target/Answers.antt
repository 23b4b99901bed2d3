use Rattle.std.proofs.Common.{◌≡◌, ◌∙◌, rules, sym, true, false}
use Rattle.std.specs.Option.{is_some}
use Rattle.gs_merge.specs.Groups.{found_at}
use Rattle.gs_merge.proofs.GroupLemmas.{target_added, target_kept, text_there, texts_more, texts_same}
use Rattle.gs_merge.proofs.merger.add_target.Goals as goal

pub returns-then-is_some-clause-targets : goal.returns-then-is_some-clause-targets
returns-then-is_some-clause-targets c =
    let there : is_some (found_at c.args.texts.now.entries c.in_ok-text_of.field-0) ≡ true = search rules in
    target_kept c.args.targets.now.items c.args.target.now
    (sym (text_there c.args.texts.now.entries c.args.targets.now.items c.args.target.now c.in_ok-text_of.field-0 c.in_ok-text_of.ensures c.requires.texts c.requires.targets c.requires.shape) ∙ there)

pub returns-then-is_some-clause-texts : goal.returns-then-is_some-clause-texts
returns-then-is_some-clause-texts c =
    let there : is_some (found_at c.args.texts.now.entries c.in_ok-text_of.field-0) ≡ true = search rules in
    texts_same c.args.texts.now.entries c.insert.new.self.entries c.args.targets.now.items c.in_ok-text_of.field-0 c.in_ok-insert.ensures.updates.0 there c.requires.texts

pub returns-clause-targets : goal.returns-clause-targets
returns-clause-targets c =
    let absent : is_some (found_at c.args.texts.now.entries c.in_ok-text_of.field-0) ≡ false = search rules in
    rw (c.in_ok-push.ensures.items, c.in_ok-copy.ensures) (target_added c.args.targets.now.items c.args.target.now
    (sym (text_there c.args.texts.now.entries c.args.targets.now.items c.args.target.now c.in_ok-text_of.field-0 c.in_ok-text_of.ensures c.requires.texts c.requires.targets c.requires.shape) ∙ absent))

pub returns-clause-texts : goal.returns-clause-texts
returns-clause-texts c =
    rw (c.in_ok-push.ensures.items, c.in_ok-copy.ensures)
    (texts_more c.args.texts.now.entries c.insert.new.self.entries c.args.targets.now.items c.args.target.now c.in_ok-text_of.field-0 c.in_ok-text_of.ensures c.in_ok-insert.ensures.updates.0 c.requires.texts)
