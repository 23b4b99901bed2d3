use Rattle.std.proofs.Common.{arith, refl, sym, ◌∙◌}
use Rattle.gs_chars.proofs.TruthsAndLists.{not_empty}
use Rattle.gs_ai.specs.declared.errors.ElementWhy.TheVariants.{Bracket, Value}
use Rattle.gs_ai.specs.declared.pair.Pair.{Pair}
use Rattle.gs_ident.specs.Identities.{IsInOrder}
use Rattle.gs_element.specs.BracketedTexts.{bracketed_error, value_before, IsBracketedElement}
use Rattle.gs_element.proofs.JoinLemmas.{all_joined, first_error, joined_shorter, next_read, shorter}
use Rattle.gs_element.proofs.BracketLemmas.{bracketed_known, cut_is, greedy_known, no_code, no_value}
use Rattle.gs_element.proofs.bracketed_text.read_bracketed.Goals as goal

pub overflow_sub-at : goal.overflow_sub-at
overflow_sub-at c =
    let rows = c.args.table.now in
    let known = bracketed_known rows c.rows.ensures.kept in
    joined_shorter (IsBracketedElement rows) (bracketed_error rows) known c.loop-rest.pairs.items c.args.text.now c.loop-rest.rest.now c.loop-rest.invariant.joined

pub returns-in_default-clause-rejected : goal.returns-in_default-clause-rejected
returns-in_default-clause-rejected c =
    let rows = c.args.table.now in
    let known = bracketed_known rows c.rows.ensures.kept in
    let some = not_empty c.loop-rest.rest.now c.loop-rest-test.ensures in
    let own = no_code rows c.loop-rest.rest.now some c.in_default.ensures in
    rw c.error_at.ensures (first_error (IsBracketedElement rows) (bracketed_error rows) known c.args.text.now c.args.text.now c.loop-rest.pairs.items c.loop-rest.rest.now (record { at = 0; why = Bracket }) _ (omega arith) own (omega arith) refl c.loop-rest.invariant.joined c.loop-rest.invariant.reaches)

pub returns-in-Err-clause-rejected : goal.returns-in-Err-clause-rejected
returns-in-Err-clause-rejected c =
    let rows = c.args.table.now in
    let known = bracketed_known rows c.rows.ensures.kept in
    let some = not_empty c.loop-rest.rest.now c.loop-rest-test.ensures in
    let value = c.as_bytes.ensures ∙ (c.in_ok-read.ensures.value) in
    let own = no_value rows c.loop-rest.rest.now c.in-Some.code.now c.in-Some.after.now c.as_bytes.result.now c.in-Err.error some c.in-Some.ensures value c.in-Err.ensures.error in
    rw c.error_at-in-Err.ensures (first_error (IsBracketedElement rows) (bracketed_error rows) known c.args.text.now c.args.text.now c.loop-rest.pairs.items c.loop-rest.rest.now (record { at = 1; why = Value c.in-Err.error }) _ (omega arith) own (omega arith) refl c.loop-rest.invariant.joined c.loop-rest.invariant.reaches)

pub loop-rest-smaller : goal.loop-rest-smaller
loop-rest-smaller c =
    let rows = c.args.table.now in
    let kept = c.rows.ensures.kept in
    let value = c.as_bytes.ensures ∙ (c.in_ok-read.ensures.value) in
    let fits = rw value at c.in_default-value_ok.ensures.ok in
    let pair : Pair = record { code = c.in-Some.code.now; value = value_before c.in-Some.after.now } in
    let element = cut_is rows kept c.loop-rest.rest.now c.in-Some.code.now (value_before c.in-Some.after.now) c.in-Some.after.now c.in_ok-read.read.rest.now (sym c.in-Some.ensures) fits c.in_ok-read.ensures.rest c.in_ok-read.ensures.cut in
    shorter (IsBracketedElement rows) (bracketed_error rows) (bracketed_known rows kept) pair c.loop-rest.rest.now c.in_ok-read.read.rest.now element

pub loop-rest-preserved : goal.loop-rest-preserved
loop-rest-preserved c =
    let rows = c.args.table.now in
    let kept = c.rows.ensures.kept in
    let items = c.in_ok-read.ensures.value in
    let fits = rw (c.as_bytes.ensures ∙ items) at c.in_default-value_ok.ensures.ok in
    let pair : Pair = record { code = c.in-Some.code.now; value = value_before c.in-Some.after.now } in
    let element = cut_is rows kept c.loop-rest.rest.now c.in-Some.code.now (value_before c.in-Some.after.now) c.in-Some.after.now c.in_ok-read.read.rest.now (sym c.in-Some.ensures) fits c.in_ok-read.ensures.rest c.in_ok-read.ensures.cut in
    let greedy = greedy_known rows kept pair c.loop-rest.rest.now c.in_ok-read.read.rest.now element in
    let read = next_read (IsBracketedElement rows) (bracketed_error rows) (bracketed_known rows kept) c.args.text.now c.loop-rest.pairs.items pair c.loop-rest.rest.now c.in_ok-read.read.rest.now element greedy c.loop-rest.invariant.joined c.loop-rest.invariant.reaches in
    let pushed = rw items at c.in_ok-push_pair.ensures in
    rw pushed (record { joined = read.joined; reaches = read.reaches })

pub returns-clause-in_order : goal.returns-clause-in_order
returns-clause-in_order c =
    let rows = c.args.table.now in
    all_joined (IsBracketedElement rows) (IsInOrder rows) (λ pair text after h. h.in_order) c.loop-rest.pairs.items c.args.text.now c.loop-rest.rest.now c.loop-rest.invariant.joined
