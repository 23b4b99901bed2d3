use Rattle.gs_tables_document.proofs.plans.ai_plan.Goals as goal

pub returns : goal.returns
returns c = c.plan_of.ensures
