use Rattle.std.proofs.Common.{◌∙◌, bytes_eq, rules, tests}
use Rattle.std.proofs.lemmas.Iterator.{YieldsList-from_slice}
use Rattle.std.proofs.lemmas.Iterator.Search.{find_from_yields_List}
use Rattle.tdl_arguments.specs.declared.name.Name.{Name}
use Rattle.tdl_arguments.specs.Names.{names, name_word}
use Rattle.tdl_arguments.proofs.name.Name.named.Goals as goal

pub returns : goal.returns
returns c =
    c.copied.ensures ∙ find_from_yields_List (λ (name : Name). bytes_eq c.args.word.now (name_word name)) _ _ c.find.result c.find.ensures.ran (YieldsList-from_slice names cc) (λ x b q k. search (rules, tests))
