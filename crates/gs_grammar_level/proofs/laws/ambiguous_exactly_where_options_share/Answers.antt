use Rattle.gs_grammar_level.proofs.DecidedReadings.{share_of, ambiguous_of}
use Rattle.gs_grammar_level.proofs.laws.ambiguous_exactly_where_options_share.Goals as goal

pub returns-clause-shared : goal.returns-clause-shared
returns-clause-shared c = λ level. (share_of level, λ s. ambiguous_of level s.first s.second s.symbols s.share)

pub returns-clause-first : goal.returns-clause-first
returns-clause-first c = λ level i j w f. ambiguous_of level i j w f.share
