use Rattle.std.proofs.Common.{◌∙◌, bytes_eq, rules, tests}
use Rattle.std.proofs.lemmas.Iterator.{YieldsList-from_slice}
use Rattle.std.proofs.lemmas.Iterator.Search.{find_from_yields_List}
use Rattle.gs_translate.specs.declared.form.Form.{Form}
use Rattle.tdl_arguments.specs.CommandReads.{forms}
use Rattle.tdl_arguments.specs.Commands.{form_word}
use Rattle.tdl_arguments.proofs.arguments.form_named.Goals as goal

pub returns : goal.returns
returns c =
    c.copied.ensures ∙ find_from_yields_List (λ (form : Form). bytes_eq c.args.word.now (form_word form)) _ _ c.find.result c.find.ensures.ran (YieldsList-from_slice forms cc) (λ x b q k. search (rules, tests))
