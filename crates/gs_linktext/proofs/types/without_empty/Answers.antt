use Rattle.std.proofs.Common.{rules, tests}
use Rattle.std.proofs.lemmas.List.Elements.{filter_from_retain}
use Rattle.gs_linktext_grammar.specs.Grammar.{is_some_part}
use Rattle.gs_linktext.proofs.types.without_empty.Goals as goal

pub returns : goal.returns
returns c = filter_from_retain _ (λ part. is_some_part part.now) (λ p x b q k. search (rules, tests)) _ _ _ c.retain.ensures.filtered
