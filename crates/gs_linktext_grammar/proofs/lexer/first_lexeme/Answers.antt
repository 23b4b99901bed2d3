use Rattle.gs_linktext_grammar.proofs.LexLemmas.{shorter_prefix}
use Rattle.gs_linktext_grammar.proofs.lexer.first_lexeme.Goals as goal

pub returns-clause-shorter : goal.returns-clause-shorter
returns-clause-shorter c = shorter_prefix _ _ _ c.in_ok-next.ensures.ok
