use Rattle.std.proofs.Common.{sym, ◌∙◌}
use Rattle.std.proofs.lemmas.List.{length-take-le}
use Rattle.gs_grammar.proofs.SpellingLemmas.{spelled_alike}
use Rattle.gs_grammar.proofs.words.read_escaped.Goals as goal

pub returns-then-count-symbols-clause-found : goal.returns-then-count-symbols-clause-found
returns-then-count-symbols-clause-found c =
    let word = c.in-Some.ensures.some in
    let size = length-take-le _ _ c.in-Some.ensures.within in
    let same = spelled_alike _ _ word.1 (size ∙ c.if-count-symbols.true) in
    rw (c.lent.ensures ∙ sym same) word
