use Rattle.gs_grammar_compile.proofs.AddedRows.{ok_follows}
use Rattle.gs_grammar_compile.proofs.AddedItems.{rules_of, reads_of, few_of}
use Rattle.gs_grammar_compile.proofs.compiler.compile.Goals as goal

pub returns-clause-rules : goal.returns-clause-rules
returns-clause-rules c = ok_follows _ _ (λ auto. rules_of auto _ c.items.ensures.each) c.machine_of_items.result c.machine_of_items.ensures

pub returns-clause-reads : goal.returns-clause-reads
returns-clause-reads c = ok_follows _ _ (λ auto. reads_of auto _ _ c.items.ensures.items c.items.ensures.each) c.machine_of_items.result c.machine_of_items.ensures

pub returns-clause-few : goal.returns-clause-few
returns-clause-few c = ok_follows _ _ (λ auto. few_of auto _ _ c.items.ensures.items c.items.ensures.each) c.machine_of_items.result c.machine_of_items.ensures
