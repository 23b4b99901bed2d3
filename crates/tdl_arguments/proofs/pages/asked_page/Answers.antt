use Rattle.std.proofs.Common.{map, string_bytes}
use Rattle.tdl_arguments.proofs.PageLemmas.{on_page}
use Rattle.tdl_arguments.proofs.pages.asked_page.Goals as goal

pub returns-clause-invalid : goal.returns-clause-invalid
returns-clause-invalid c = on_page (map string_bytes c.args.words.now) c.page_of.result c.page_of.ensures
