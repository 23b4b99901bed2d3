use Rattle.gs_ambig.proofs.Doubles.{share_two, none_of_two, share_one, none_of_one, some_follows, none_follows}
use Rattle.gs_ambig.proofs.pair_search.shared_word.Goals as goal

pub returns-then-i-j-clause-found : goal.returns-then-i-j-clause-found
returns-then-i-j-clause-found c =
    some_follows _ _ (λ word. share_one _ _ _ _ word.items c.requires.first c.index-machines-i.is c.if-i-j.true) c.find_ambiguous_word.result c.find_ambiguous_word.ensures.found

pub returns-then-i-j-clause-none : goal.returns-then-i-j-clause-none
returns-then-i-j-clause-none c =
    none_follows _ _ (none_of_one _ _ _ _ c.requires.first c.index-machines-i.is c.if-i-j.true) c.find_ambiguous_word.result c.find_ambiguous_word.ensures.none

pub returns-clause-found : goal.returns-clause-found
returns-clause-found c =
    some_follows _ _ (λ word. share_two _ _ _ _ _ word.items c.requires.first c.index-machines-i-2.is c.requires.second c.index-machines-j.is c.if-i-j.false) c.find_shared_word.result c.find_shared_word.ensures.found

pub returns-clause-none : goal.returns-clause-none
returns-clause-none c =
    none_follows _ _ (none_of_two _ _ _ _ _ c.requires.first c.index-machines-i-2.is c.requires.second c.index-machines-j.is) c.find_shared_word.result c.find_shared_word.ensures.none
