use Rattle.tdl_loads.proofs.TextForms.{text_judged_alike, text_loads, text_loads_again}
use Rattle.tdl_loads.proofs.laws.text_form_loads_alike.Goals as goal

pub returns-clause-loads : goal.returns-clause-loads
returns-clause-loads c ais voc doc links shaped none loads = text_loads ais voc doc links shaped none loads

pub returns-clause-judged : goal.returns-clause-judged
returns-clause-judged c templates ais voc doc links shaped none loads = text_judged_alike ais voc doc links shaped none loads templates

pub returns-clause-again : goal.returns-clause-again
returns-clause-again c ais voc bytes doc links read loads = text_loads_again ais voc bytes doc links read loads
