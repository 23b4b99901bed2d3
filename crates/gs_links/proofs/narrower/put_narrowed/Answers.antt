use Rattle.std.proofs.Common.{length, sym, ap, ◌∙◌}
use Rattle.gs_chars.proofs.TruthsAndLists.{read_at}
use Rattle.gs_links.specs.Choices.{passing}
use Rattle.gs_links.specs.Languages.{matches, narrowed}
use Rattle.gs_links.proofs.LanguageLemmas.{narrowed_at, narrowed_none}
use Rattle.gs_links.proofs.narrower.put_narrowed.Goals as goal

pub first_matched-first-requires-clause-numbered : goal.first_matched-first-requires-clause-numbered
first_matched-first-requires-clause-numbered c k range at = c.numbers.ensures k range (rw c.items-texts.ensures at at)

pub returns-in-Some-clause-count : goal.returns-in-Some-clause-count
returns-in-Some-clause-count c =
    let range = c.in-Some.range.now in
    let found = c.in-Some.ensures.lookup in
    let first = c.first_matched-first in
    let at = read_at c.items-texts.result.now first.result range found.3.0 found.1 in
    let same = narrowed_at c.args.links.now c.args.numbers.now c.items-texts.result.now first.result range first.ensures.before at (first.ensures.matched range at) in
    c.put_matching.ensures.count ∙ ap (λ text. length (passing c.args.links.now (matches text) c.args.numbers.now)) c.as_bytes.ensures
    ∙ ap length (sym same ∙ ap (narrowed c.args.links.now c.args.numbers.now) c.items-texts.ensures)

pub returns-in-Some-clause-numbers : goal.returns-in-Some-clause-numbers
returns-in-Some-clause-numbers c =
    let range = c.in-Some.range.now in
    let found = c.in-Some.ensures.lookup in
    let first = c.first_matched-first in
    let at = read_at c.items-texts.result.now first.result range found.3.0 found.1 in
    let same = narrowed_at c.args.links.now c.args.numbers.now c.items-texts.result.now first.result range first.ensures.before at (first.ensures.matched range at) in
    c.put_matching.ensures.numbers ∙ ap (λ text. passing c.args.links.now (matches text) c.args.numbers.now) c.as_bytes.ensures
    ∙ sym same ∙ ap (narrowed c.args.links.now c.args.numbers.now) c.items-texts.ensures

pub returns-in-None-clause-count : goal.returns-in-None-clause-count
returns-in-None-clause-count c =
    let first = c.first_matched-first in
    let same = narrowed_none c.args.links.now c.args.numbers.now c.items-texts.result.now first.result first.ensures.before c.in-None.ensures.lookup.3 in
    c.put_all-in-None.ensures.count ∙ ap length (sym same ∙ ap (narrowed c.args.links.now c.args.numbers.now) c.items-texts.ensures)

pub returns-in-None-clause-numbers : goal.returns-in-None-clause-numbers
returns-in-None-clause-numbers c =
    let first = c.first_matched-first in
    let same = narrowed_none c.args.links.now c.args.numbers.now c.items-texts.result.now first.result first.ensures.before c.in-None.ensures.lookup.3 in
    c.put_all-in-None.ensures.numbers ∙ sym same ∙ ap (narrowed c.args.links.now c.args.numbers.now) c.items-texts.ensures
