use Rattle.std.proofs.Common.{◌≡◌, ◌<◌, ℕ, List, Some, slice_get, get_or, arith}
use Rattle.std.proofs.lemmas.List.{take_all}
use Rattle.gs_chars.proofs.TruthsAndLists.{read_at}
use Rattle.gs_links.proofs.ChoiceLemmas.{get_at}
use Rattle.gs_links.proofs.LanguageLemmas.{none_before, none_more, some_more}
use Rattle.gs_links.proofs.narrower.first_matched.Goals as goal

pub loop-number-preserved : goal.loop-number-preserved
loop-number-preserved c =
    let numbers = c.args.numbers.now in
    let i = c.loop-number.number-index in
    let n = get_or numbers i 0 in
    let link = c.index-links-number.result in
    let at = get_at numbers i 0 c.loop-number-test.true in
    let there = read_at c.args.links.now n link (c.requires.known i 0 c.loop-number-test.true) c.index-links-number.is in
    let from = c.least_of_tags-from.result in
    let less = c.first_of_link-first.result in
    let low = c.first_of_link-first.ensures.most in
    let most = c.loop-number.invariant.0 in
    let behind = c.first_of_link-first.ensures.before in
    let ahead = λ (k : ℕ) (range : List ℕ) (own : slice_get c.args.ranges.now k ≡ Some range) (front : k < from). none_before c.args.by_text.now c.args.ranges.now c.tags_of.result.now link from c.requires.numbered c.tags_of.ensures c.least_of_tags-from.ensures.any c.least_of_tags-from.ensures.tags k range own front in (
      omega (arith, low, most),
      none_more c.args.links.now numbers i n link at there c.args.ranges.now from c.loop-number.first less low behind ahead c.loop-number.invariant.1,
      some_more c.args.links.now numbers i n link at there c.args.ranges.now from c.loop-number.first less low behind ahead c.first_of_link-first.ensures.matched c.loop-number.invariant.2,
    )

pub returns-clause-before : goal.returns-clause-before
returns-clause-before c k range below at = rw (take_all c.loop-number.number-index c.args.numbers.now c.loop-number-test.false) at (c.loop-number.invariant.1 k range below at)

pub returns-clause-matched : goal.returns-clause-matched
returns-clause-matched c range at = rw (take_all c.loop-number.number-index c.args.numbers.now c.loop-number-test.false) at (c.loop-number.invariant.2 range at)
