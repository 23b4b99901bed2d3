use Rattle.tdl_gen.proofs.AnswerLemmas.{in_order, plain}
use Rattle.tdl_gen.proofs.generator.translate_by.Goals as goal

pub translate-requires : goal.translate-requires
translate-requires c = in_order c.args.by.options.now c.requires.options

pub returns : goal.returns
returns c =
    plain c.args.by.set.now c.args.by.prefixes.now c.args.by.options.now c.args.from c.args.to c.args.text.now c.translate.result c.requires.prefixes c.requires.options c.translate.ensures
