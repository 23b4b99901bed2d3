use Rattle.std.proofs.Common.{rules, tests}
use Rattle.std.proofs.lemmas.Iterator.Consumers.{YieldsList-from_first}
use Rattle.std.proofs.lemmas.Iterator.Search.{any_from_yields_List}
use Rattle.gs_http.specs.Fields.{is_close}
use Rattle.gs_http.specs.SaidFields.{members_left}
use Rattle.gs_http.proofs.fields.has_close.Goals as goal

pub returns : goal.returns
returns c = any_from_yields_List is_close c.any.new.self _ c.any.result c.any.ensures.ran
    (YieldsList-from_first (λ x. x.now) members_left _ c.of.ensures) (λ x b q k. search (rules, tests))
