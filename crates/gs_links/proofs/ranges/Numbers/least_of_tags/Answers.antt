use Rattle.std.proofs.Common.{◌≤◌, arith}
use Rattle.gs_chars.proofs.TruthsAndLists.{read_at}
use Rattle.gs_links.proofs.NumberLemmas.{least_of_more}
use Rattle.gs_links.proofs.ranges.Numbers.least_of_tags.Goals as goal

pub loop-tag-preserved : goal.loop-tag-preserved
loop-tag-preserved c =
    let tag = c.tag-item.result in
    let i = c.loop-tag.tag-index in
    let at = read_at c.args.tags.now i tag c.loop-tag-test.true c.tag-item.is in
    let low : c.min-least.result ≤ c.loop-tag.least = omega arith in
    let lower : c.min-least.result ≤ c.least_of_tag.result = omega arith in
    let any = c.loop-tag.invariant.0 in (
      omega (arith, low, any),
      least_of_more c.args.self.now c.args.tags.now i tag c.loop-tag.least c.least_of_tag.result c.min-least.result at low lower (rw c.as_bytes.ensures at c.least_of_tag.ensures) c.loop-tag.invariant.1,
    )
