use Rattle.std.proofs.Common.{length, ap, sym, ◌∙◌}
use Rattle.std.proofs.lemmas.List.{length-map}
use Rattle.serde_json.specs.View.{view}
use Rattle.gs_json.proofs.ArrayItems.{items_length}
use Rattle.gs_tables_document.proofs.plans.items_len.Goals as goal

pub returns : goal.returns
returns c = sym (length-map c.items_of.result.now view) ∙ ap length c.items_of.ensures ∙ items_length (view c.args.array.now)
