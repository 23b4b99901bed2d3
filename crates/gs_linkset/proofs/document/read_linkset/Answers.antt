use Rattle.std.proofs.Common.{◌≡◌, ◌∷◌, [], sym, arith}
use Rattle.json.specs.Reads.{token_of}
use Rattle.serde_json.specs.View.{view}
use Rattle.gs_linkset.proofs.StreamLemmas.{array_read, array_refused, mapped, no_value, other_linkset}
use Rattle.gs_linkset.proofs.document.read_linkset.Goals as goal

pub returns-in_default-clause-syntax : goal.returns-in_default-clause-syntax
returns-in_default-clause-syntax c refused =
    let empty : c.args.reader.now ≡ [] = grind arith in
    no_value c.args.depth c.args.reader.now empty

pub returns-then-opens_array-clause-ok : goal.returns-then-opens_array-clause-ok
returns-then-opens_array-clause-ok c =
    let old : c.args.reader.now ≡ token_of c.in-Some.token ∷ c.next.new.self = grind arith in
    rw old (mapped c.read_contexts.result c.read_contexts.ensures.ok (λ answer h. array_read c.args.depth (token_of c.in-Some.token) c.next.new.self c.read_contexts.new.reader c.requires (sym c.if-opens_array.ensures) answer h))

pub returns-then-opens_array-clause-syntax : goal.returns-then-opens_array-clause-syntax
returns-then-opens_array-clause-syntax c refused =
    let old : c.args.reader.now ≡ token_of c.in-Some.token ∷ c.next.new.self = grind arith in
    rw old (array_refused c.args.depth (token_of c.in-Some.token) c.next.new.self c.read_contexts.new.reader c.requires (sym c.if-opens_array.ensures) (c.read_contexts.ensures.syntax refused))

pub returns-clause-ok : goal.returns-clause-ok
returns-clause-ok c =
    let old : c.args.reader.now ≡ token_of c.in-Some.token ∷ c.next.new.self = grind arith in
    rw old (other_linkset c.args.depth (token_of c.in-Some.token) c.next.new.self c.value_from.new.reader (view c.in_ok-value_from.field-0) c.in_ok-value_from.ensures.ok _ (sym c.if-opens_array.ensures) c.in_ok-linkset_place.ensures)
