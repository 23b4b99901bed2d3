use Rattle.std.proofs.Common.{◌≡◌, None, sym, arith, string_bytes}
use Rattle.tdl_arguments.specs.Wrongs.{value_reason, word_reason}
use Rattle.tdl_arguments.proofs.WrongLemmas.{after_pair}
use Rattle.tdl_arguments.proofs.wrong.+wrong_from.Goals as goal

pub returns : goal.returns
returns t c = λ earlier are.
    let word : None ≡ word_reason c.args.rows.now earlier c.as_str-word.result.now = (let r = c.word_reason.ensures earlier are in let i = c.in_default.is in cc) in
    let value : None ≡ value_reason c.as_str-word.result.now c.as_str.result.now = (let r = c.value_reason.ensures in let i = c.in_default-value_reason.is in cc) in
    after_pair string_bytes c.args.rows.now c.args.options.now c.args.place c.args.before earlier c.index-options-place.result c.index-options-place-2.result c.as_str-word.result.now c.as_str.result.now c.wrong_from.result
    (grind (arith, c.requires.within, c.if-place-options.false, c.if-place-options-2.false)) c.index-options-place.is c.index-options-place-2.is (sym c.as_str-word.ensures.value) (sym c.as_str.ensures.value) word value c.wrong_from.ensures are
