use Rattle.std.proofs.Common.{subst}
use Rattle.std.specs.Prelude.{OnOk}
use Rattle.serde_json.specs.Data.{Data}
use Rattle.gs_linkset.specs.LentLinks.{relation_lent}
use Rattle.gs_linkset.specs.LinkShapes.{is_target}
use Rattle.gs_linkset.specs.WrittenTokens.{Adds, tokens_of}
use Rattle.gs_linkset.specs.WrittenTrees.{target_tree}
use Rattle.gs_linkset.proofs.LentLemmas.{all_lent, array_lent}
use Rattle.gs_linkset.proofs.WrittenLemmas.{relation_parts}
use Rattle.gs_linkset.proofs.lent.RelationRefToJson.append.Goals as goal

pub put_array-requires : goal.put_array-requires
put_array-requires c =
    all_lent is_target (λ target. target.now) c.args.self.now.targets.now (relation_parts (relation_lent c.args.self.now) c.requires).2

pub returns : goal.returns
returns c =
    subst (λ (d : Data). OnOk c.put_array.result (Adds c.args.out.now c.put_array.new.out (tokens_of d)))
    (array_lent target_tree (λ target. target.now) c.args.self.now.targets.now) c.put_array.ensures
