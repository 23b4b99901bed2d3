use Rattle.gs_translate.proofs.tag_fields.filter_for.Goals as goal

pub returns : goal.returns
returns c = c.or.ensures
