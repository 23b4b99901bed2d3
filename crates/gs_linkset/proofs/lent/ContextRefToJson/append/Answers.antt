use Rattle.std.proofs.Common.{codes, subst}
use Rattle.std.specs.Prelude.{OnOk}
use Rattle.serde_json.specs.Data.{Members, object, put, string}
use Rattle.gs_linkset.specs.LentLinks.{context_lent, relation_lent}
use Rattle.gs_linkset.specs.LinkShapes.{is_relation}
use Rattle.gs_linkset.specs.WrittenTokens.{Adds, tokens_of}
use Rattle.gs_linkset.proofs.LentLemmas.{all_lent, lent_other, members_lent}
use Rattle.gs_linkset.proofs.WrittenLemmas.{context_parts}
use Rattle.gs_linkset.proofs.lent.ContextRefToJson.append.Goals as goal

pub put_object-requires-clause-shape : goal.put_object-requires-clause-shape
put_object-requires-clause-shape c =
    all_lent is_relation relation_lent c.args.self.now.relations.now (context_parts (context_lent c.args.self.now) c.requires).2

pub put_object-requires-clause-others : goal.put_object-requires-clause-others
put_object-requires-clause-others c = lent_other c.args.self.now.relations.now (context_parts (context_lent c.args.self.now) c.requires).2

pub put_object-requires-clause-text : goal.put_object-requires-clause-text
put_object-requires-clause-text c = (context_parts (context_lent c.args.self.now) c.requires).0

pub returns : goal.returns
returns c =
    let context = c.args.self.now in
    subst (λ (members : Members). OnOk c.put_object.result (Adds c.args.out.now c.put_object.new.out (tokens_of (object (put (codes "anchor") (string context.anchor.now) members)))))
    (members_lent context.relations.now) c.put_object.ensures
