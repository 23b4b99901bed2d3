use Rattle.serde_json.specs.View.{view}
use Rattle.gs_tables_migration.proofs.MigratedTexts.{answer_holds, answer_migrated}
use Rattle.gs_tables_migration.proofs.texts.second_text.Goals as goal

pub returns-clause-text : goal.returns-clause-text
returns-clause-text c =
    let known = c.requires.known in
    answer_migrated c.args.bytes.now (view c.in_ok-tree.tree) c.in_ok-tree.ensures known.0 known.1 known.2
    (view c.in_ok-second.second) c.in_ok-second.ensures c.text_of.result c.text_of.ensures.text

pub returns-clause-holds : goal.returns-clause-holds
returns-clause-holds c =
    let known = c.requires.known in
    answer_holds c.args.bytes.now (view c.in_ok-tree.tree) c.in_ok-tree.ensures known.0 known.1 known.2
    (view c.in_ok-second.second) c.in_ok-second.ensures c.text_of.result c.text_of.ensures.utf8
    c.text_of.ensures.reads_back
