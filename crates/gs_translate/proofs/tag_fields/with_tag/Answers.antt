use Rattle.gs_translate.proofs.tag_fields.with_tag.Goals as goal

pub returns-clause-tagged : goal.returns-clause-tagged
returns-clause-tagged c =
    rw (← c.epc.view_is) (rw c.as_bytes-epc-inside.ensures at (c.retagged.ensures.tagged c.args.meaning.now.identity))
