use Rattle.std.proofs.Common.{◌≡◌, ℕ, List, ◌++◌, append_assoc}
use Rattle.std.specs.List.{flat_map}
use Rattle.std.proofs.lemmas.Result.{IfOk-weaker}
use Rattle.gs_ident.specs.Elements.{Elements}
use Rattle.gs_ident.specs.Links.{path_step, query_of, spelled}
use Rattle.gs_ident.proofs.spelling.append_link.Goals as goal

written : (old stem start key path all : List ℕ) (identity : Elements) → start ≡ old ++ stem → key ≡ start ++ path_step identity.key →
    path ≡ key ++ flat_map path_step identity.qualifiers → all ≡ path ++ query_of identity.attributes → all ≡ old ++ spelled stem identity
written old stem start key path all identity a b d e = rw (e, d, b, a) (simp append_assoc)

pub returns-clause-written : goal.returns-clause-written
returns-clause-written c =
    let key = rw c.key.ensures at c.in_ok-write_pair.ensures.written in
    let path = rw c.qualifiers.ensures at c.in_ok-write_pairs.ensures.written in
    let query = rw c.attributes.ensures at c.write_query.ensures.written in
    IfOk-weaker c.write_query.result (λ _. c.write_query.new.out.items ≡ c.write_pairs.new.out.items ++ query_of c.args.identity.now.attributes) (λ _. c.write_query.new.out.items ≡ c.args.out.now.items ++ spelled c.args.stem.now c.args.identity.now)
    (λ _ e. written c.args.out.now.items c.args.stem.now c.extend_from_slice.new.self.items c.write_pair.new.out.items c.write_pairs.new.out.items c.write_query.new.out.items c.args.identity.now c.in_ok-extend_from_slice.ensures.items key path e) query
