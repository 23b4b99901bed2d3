use Rattle.gs_ambig.proofs.Doubles.{some_follows, none_follows}
use Rattle.gs_grammar_level.proofs.MachinesOfOptions.{law_at}
use Rattle.gs_grammar_level.proofs.SharedLists.{share_of_one, none_of_one, share_of_two, none_of_two}
use Rattle.gs_grammar_level.proofs.share.shared_list.Goals as goal

pub returns-then-i-j-clause-found : goal.returns-then-i-j-clause-found
returns-then-i-j-clause-found c =
    let m = law_at _ _ _ c.index-machines-i.result c.machines-machines.ensures c.requires.first c.index-machines-i.is in
    some_follows _ _ (λ word. share_of_one _ _ _ _ _ word.items m.at m.law c.if-i-j.true) c.find_ambiguous_word.result c.find_ambiguous_word.ensures.found

pub returns-then-i-j-clause-none : goal.returns-then-i-j-clause-none
returns-then-i-j-clause-none c =
    let m = law_at _ _ _ c.index-machines-i.result c.machines-machines.ensures c.requires.first c.index-machines-i.is in
    none_follows _ _ (none_of_one _ _ _ _ _ m.at m.law c.if-i-j.true) c.find_ambiguous_word.result c.find_ambiguous_word.ensures.none

pub returns-clause-found : goal.returns-clause-found
returns-clause-found c =
    let m = law_at _ _ _ c.index-machines-i-2.result c.machines-machines.ensures c.requires.first c.index-machines-i-2.is in
    let n = law_at _ _ _ c.index-machines-j.result c.machines-machines.ensures c.requires.second c.index-machines-j.is in
    some_follows _ _ (λ word. share_of_two _ _ _ _ _ _ _ word.items m.at n.at m.law n.law c.if-i-j.false) c.find_shared_word.result c.find_shared_word.ensures.found

pub returns-clause-none : goal.returns-clause-none
returns-clause-none c =
    let m = law_at _ _ _ c.index-machines-i-2.result c.machines-machines.ensures c.requires.first c.index-machines-i-2.is in
    let n = law_at _ _ _ c.index-machines-j.result c.machines-machines.ensures c.requires.second c.index-machines-j.is in
    none_follows _ _ (none_of_two _ _ _ _ _ _ _ m.at n.at m.law n.law) c.find_shared_word.result c.find_shared_word.ensures.none
