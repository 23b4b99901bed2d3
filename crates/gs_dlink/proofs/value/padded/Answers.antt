use Rattle.std.proofs.Common.{◌≡◌, ◌∙◌, ℕ, ◌-◌, Bool, true, List, ◌++◌, length, take, codes, refl, sym}
use Rattle.gs_dlink.specs.Values.{is_short_gtin, padded}
use Rattle.gs_dlink.proofs.value.padded.Goals as goal

with_zeros : (short : Bool) (value judged out counted behind new : List ℕ) → short ≡ true → is_short_gtin judged ≡ true → judged ≡ value
    → counted ≡ value → behind ≡ value
    → out ≡ take (14 - length counted) (codes "000000") → new ≡ out ++ behind → new ≡ padded short value
with_zeros short value judged out counted behind new allowed gtin j k b zeros push = rw (push, zeros, k, b, allowed, ← j, gtin) refl

pub returns : goal.returns
returns c =
    c.from.ensures ∙ with_zeros c.args.short c.args.value c.as_bytes.result.now _ c.as_bytes-2.result.now c.as_bytes-3.result.now _ (cc)
    (sym c.is_short_gtin.ensures ∙ c.if-not-is_short_gtin.false) c.as_bytes.ensures c.as_bytes-2.ensures c.as_bytes-3.ensures c.in_ok-out.ensures c.in_ok-extend_from_slice.ensures.appended
