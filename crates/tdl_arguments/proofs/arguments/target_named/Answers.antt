use Rattle.std.proofs.Common.{◌∙◌, bytes_eq, rules, tests}
use Rattle.std.proofs.lemmas.Iterator.{YieldsList-from_slice}
use Rattle.std.proofs.lemmas.Iterator.Search.{find_from_yields_List}
use Rattle.gs_translate.specs.declared.form.Target.{Target}
use Rattle.tdl_arguments.specs.CommandReads.{targets}
use Rattle.tdl_arguments.specs.Commands.{target_word}
use Rattle.tdl_arguments.proofs.arguments.target_named.Goals as goal

pub returns : goal.returns
returns c =
    c.copied.ensures ∙ find_from_yields_List (λ (target : Target). bytes_eq c.args.word.now (target_word target)) _ _ c.find.result c.find.ensures.ran (YieldsList-from_slice targets cc) (λ x b q k. search (rules, tests))
