use Rattle.std.proofs.Common.{sym, ◌∙◌}
use Rattle.gs_class.proofs.WrittenSteps.{answer_at, can_write_at, of_texts, option_low, sized_is}
use Rattle.gs_class.proofs.writer.write_by_length.Goals as goal

pub bounds-options-i : goal.bounds-options-i
bounds-options-i c = option_low c.args.ais.now c.args.set.now c.args.class.now.name c.args.n c.args.identity.now c.requires c.classes.result.now c.level.result.now c.options.result.now c.in-Some.i c.classes.ensures c.level.ensures.level c.options.ensures.options (rw c.as_bytes.ensures at c.in-Some.ensures)

pub write_option-requires-clause-text_level : goal.write_option-requires-clause-text_level
write_option-requires-clause-text_level c = of_texts c.args.ais.now c.args.set.now c.args.class.now.name c.args.n c.args.identity.now c.requires c.classes.result.now c.level.result.now c.options.result.now c.in-Some.i c.classes.ensures c.level.ensures.level c.options.ensures.options (rw c.as_bytes.ensures at c.in-Some.ensures) c.index-options-i.result c.options.ensures.of_kind c.index-options-i.is

pub write_option-requires-clause-can_write : goal.write_option-requires-clause-can_write
write_option-requires-clause-can_write c =
    let place = rw c.as_bytes.ensures at c.in-Some.ensures in
    let same = c.classes.ensures ∙ sym c.classes-in-Some.ensures in
    can_write_at c.args.ais.now _ _ _ _ _ _ _ c.requires (sized_is c.args.ais.now c.args.set.now c.args.class.now.name c.args.n c.args.identity.now c.requires c.classes-in-Some.result.now c.level.result.now c.options.result.now c.in-Some.i c.classes-in-Some.ensures c.level.ensures.level c.options.ensures.options (rw same at place) c.index-classes-i.result c.index-options-i.result c.index-classes-i.is c.index-options-i.is)

pub returns-in-Some : goal.returns-in-Some
returns-in-Some c =
    let place = rw c.as_bytes.ensures at c.in-Some.ensures in
    let same = c.classes.ensures ∙ sym c.classes-in-Some.ensures in
    answer_at c.args.ais.now _ _ _ _ _ _ _ _ (sized_is c.args.ais.now c.args.set.now c.args.class.now.name c.args.n c.args.identity.now c.requires c.classes-in-Some.result.now c.level.result.now c.options.result.now c.in-Some.i c.classes-in-Some.ensures c.level.ensures.level c.options.ensures.options (rw same at place) c.index-classes-i.result c.index-options-i.result c.index-classes-i.is c.index-options-i.is) c.write_option.ensures
