use Rattle.std.proofs.Common.{◌≡◌, ◌∷◌, [], sym, arith}
use Rattle.json.specs.Reads.{token_of}
use Rattle.serde_json.specs.View.{view}
use Rattle.gs_linkset.proofs.StreamLemmas.{object_read, object_refused, mapped, no_value, other_root}
use Rattle.gs_linkset.proofs.document.read_root.Goals as goal

pub returns-in_default-clause-syntax : goal.returns-in_default-clause-syntax
returns-in_default-clause-syntax c refused =
    let empty : c.args.reader.now ≡ [] = grind arith in
    no_value c.args.depth c.args.reader.now empty

pub returns-then-opens_object-clause-ok : goal.returns-then-opens_object-clause-ok
returns-then-opens_object-clause-ok c =
    let old : c.args.reader.now ≡ token_of c.in-Some.token ∷ c.next.new.self = grind arith in
    rw old (mapped c.read_members.result c.read_members.ensures.ok (λ answer h. object_read c.args.depth (token_of c.in-Some.token) c.next.new.self c.read_members.new.reader (omega (arith, c.requires)) (sym c.if-opens_object.ensures) answer h))

pub returns-then-opens_object-clause-syntax : goal.returns-then-opens_object-clause-syntax
returns-then-opens_object-clause-syntax c refused =
    let old : c.args.reader.now ≡ token_of c.in-Some.token ∷ c.next.new.self = grind arith in
    rw old (object_refused c.args.depth (token_of c.in-Some.token) c.next.new.self c.read_members.new.reader (omega (arith, c.requires)) (sym c.if-opens_object.ensures) (c.read_members.ensures.syntax refused))

pub returns-clause-ok : goal.returns-clause-ok
returns-clause-ok c =
    let old : c.args.reader.now ≡ token_of c.in-Some.token ∷ c.next.new.self = grind arith in
    rw old (other_root c.args.depth (token_of c.in-Some.token) c.next.new.self c.value_from.new.reader (view c.in_ok-value_from.field-0) c.in_ok-value_from.ensures.ok _ (sym c.if-opens_object.ensures) c.new.ensures)
