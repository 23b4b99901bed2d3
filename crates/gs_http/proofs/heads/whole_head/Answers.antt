use Rattle.std.proofs.Common.{◌≡◌, List, [], ℕ, length, drop, ap, arith, length-take}
use Rattle.std.proofs.lemmas.List.{drop_all, length-map}
use Rattle.httparse.specs.Grammar.{RequestHead}
use Rattle.httparse.specs.Spans.{IsRequestAt, IsRequestOf, IsRequestWithin}
use Rattle.httparse.specs.declared.spans.HeaderSpan.{HeaderSpan}
use Rattle.httparse.specs.declared.spans.RequestSpans.{RequestSpans}
use Rattle.gs_http.specs.Heads.{IsWhole, most_fields}
use Rattle.gs_http.proofs.heads.whole_head.Goals as goal

-- a head up to the end of the bytes, with room for exactly the most fields
whole_at : (head : List ℕ) (headers : List HeaderSpan) (parts : RequestSpans) → IsRequestWithin head headers parts
    → IsRequestOf head headers parts → parts.len ≡ length head → length headers ≡ most_fields
    → (h : RequestHead) × IsWhole head h × IsRequestAt head headers parts h
whole_at head headers parts within (h, at) all room =
    let none : drop parts.len head ≡ [] = drop_all parts.len head (omega arith) in
    (h, record { reads = rw none at at.reads; few = let same = simp (length-map, length-take) at (ap length at.fields) in omega arith }, at)

pub returns-then-parts-head-clause-whole : goal.returns-then-parts-head-clause-whole
returns-then-parts-head-clause-whole c =
    whole_at _ _ _ (rw c.in-Ok-Complete.field-0-is at c.in-Ok-Complete.ensures.within)
    (rw c.in-Ok-Complete.field-0-is at c.in-Ok-Complete.ensures.complete) c.if-parts-head.true (omega (arith, c.requires))
