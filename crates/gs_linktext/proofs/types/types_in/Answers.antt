use Rattle.std.proofs.Common.{ap, filter, ◌∙◌}
use Rattle.gs_linktext_grammar.specs.Grammar.{is_some_part}
use Rattle.gs_linktext.proofs.ReadLemmas.{some_seen}
use Rattle.gs_linktext.proofs.types.types_in.Goals as goal

pub returns : goal.returns
returns c = rw c.without_empty.ensures (some_seen c.in_ok-parts.parts.items ∙ ap (filter is_some_part) c.in_ok-parts.ensures)
