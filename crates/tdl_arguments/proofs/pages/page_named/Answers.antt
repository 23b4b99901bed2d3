use Rattle.std.proofs.Common.{◌∙◌, bytes_eq, rules, tests}
use Rattle.std.proofs.lemmas.Iterator.{YieldsList-from_slice}
use Rattle.std.proofs.lemmas.Iterator.Search.{find_from_yields_List}
use Rattle.tdl_arguments.specs.declared.pages.Page.{Page}
use Rattle.tdl_arguments.specs.Pages.{command_pages, page_word}
use Rattle.tdl_arguments.proofs.pages.page_named.Goals as goal

pub returns : goal.returns
returns c =
    c.copied.ensures ∙ find_from_yields_List (λ (page : Page). bytes_eq c.args.word.now (page_word page)) _ _ c.find.result c.find.ensures.ran (YieldsList-from_slice command_pages cc) (λ x b q k. search (rules, tests))
