use Rattle.std.proofs.Common.{◌≡◌, ◌∙◌, ◌==◌, ℕ, ◌++◌, true, false, List, codes, drop, refl, rules}
use Rattle.std.specs.List.{starts_with}
use Rattle.gs_links.specs.Loads.{expanded}
use Rattle.gs_links.proofs.loader.expand.Goals as goal

unexpanded : (voc name own : List ℕ) → own ≡ name → starts_with (λ a b. a == b) own (codes "gs1:") ≡ false → name ≡ expanded voc name
unfolding expanded
unexpanded voc name own is other = let e = rw is at other in rw e refl

pub returns-in-None : goal.returns-in-None
returns-in-None c = unexpanded c.args.voc.now c.args.name c.as_bytes.result.now c.as_bytes.ensures (search rules)

opened : (voc name own rest relation text : List ℕ) → own ≡ name → starts_with (λ a b. a == b) own (codes "gs1:") ≡ true → rest ≡ drop 4 own
    → relation ≡ voc → text ≡ relation ++ rest → text ≡ expanded voc name
unfolding expanded
opened voc name own rest relation text is front behind base e =
    let f = rw is at front in
    let b : rest ≡ drop 4 name = rw is at behind in
    rw (e, base, b, f) refl

pub returns-in_ok-extend_from_slice-in-Some : goal.returns-in_ok-extend_from_slice-in-Some
returns-in_ok-extend_from_slice-in-Some c =
    opened c.args.voc.now c.args.name c.as_bytes.result.now c.in-Some.rest.now _ _ c.as_bytes.ensures
    (search rules) c.in-Some.ensures.cases.1 c.in_ok-relation-in-Some.ensures.items
    (c.from_vec.ensures ∙ c.in_ok-extend_from_slice-in-Some.ensures.items)
