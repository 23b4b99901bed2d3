use Rattle.std.proofs.Common.{◌≡◌, ℕ, List, ◌∷◌, ◌++◌, append_assoc}
use Rattle.std.specs.List.{flat_map}
use Rattle.std.proofs.lemmas.Result.{IfOk-weaker}
use Rattle.gs_ai.specs.declared.pair.Pair.{Pair}
use Rattle.gs_ident.specs.Links.{query_of, query_part}
use Rattle.gs_ident.proofs.spelling.write_query.Goals as goal

query_written : (out first all : List ℕ) (pair : Pair) (pairs : List Pair) → first ≡ out ++ (63 ∷ query_part pair) →
    all ≡ first ++ flat_map (λ p. 38 ∷ query_part p) pairs → all ≡ out ++ query_of (pair ∷ pairs)
query_written out first all pair pairs e f = rw (f, e, append_assoc out (63 ∷ query_part pair) _)

pub returns-clause-written : goal.returns-clause-written
returns-clause-written c =
    let out = c.args.out.now.items in
    let split : c.args.pairs.now ≡ c.in-Some.first.now ∷ c.in-Some.rest.now = c.in-Some.ensures.cases.0 in
    rw split (IfOk-weaker c.write_pairs.result (λ _. c.write_pairs.new.out.items ≡ c.write_pair.new.out.items ++ flat_map (λ p. 38 ∷ query_part p) c.in-Some.rest.now) (λ _. c.write_pairs.new.out.items ≡ out ++ query_of (c.in-Some.first.now ∷ c.in-Some.rest.now))
    (λ _ e. query_written out c.write_pair.new.out.items c.write_pairs.new.out.items c.in-Some.first.now c.in-Some.rest.now c.in_ok-write_pair.ensures.written e) c.write_pairs.ensures.written)
