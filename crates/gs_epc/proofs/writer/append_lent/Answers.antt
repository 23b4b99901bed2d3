use Rattle.std.proofs.Common.{◌∙◌, [], ap, append-nil, arith, refl, sym}
use Rattle.gs_ident.proofs.BeginLemmas.{begins_more}
use Rattle.gs_tables.specs.Numbers.{numbers_of}
use Rattle.gs_tables.specs.Tables.{level_rows}
use Rattle.gs_epc.specs.Writes.{text_by}
use Rattle.gs_epc.proofs.Rejections.{appends_none, rejected_next, writes}
use Rattle.gs_epc.proofs.NumberWalks.{all_tried, none_tried, turn, turn_candidate, turn_rejected, turn_skipped}
use Rattle.gs_epc.specs.Candidates.{is_asked}
use Rattle.gs_epc.specs.declared.epc.Epc.{Epc}
use Rattle.gs_epc.proofs.writer.append_lent.Goals as goal

pub loop-number-init : goal.loop-number-init
loop-number-init c = record {
  tried = none_tried _ _ _ _ _ (c.candidates-numbers.ensures ∙ ap (λ (e : Epc). numbers_of e.kind e.gcp (level_rows c.args.level c.args.set.now).info) c.epc.view_is ∙ ap (numbers_of c.args.epc.now.kind c.args.epc.now.gcp) (sym c.info-info.ensures.rows));
  same = refl;
}

pub offset_bounds-info-i : goal.offset_bounds-info-i
offset_bounds-info-i c =
    let at = turn _ _ _ _ _ _ _ _ c.info-info.ensures.rows c.loop-number.invariant.tried c.loop-number-test.true refl in
    let low = at.low in
    omega arith

pub bounds-info-i : goal.bounds-info-i
bounds-info-i c = (turn _ _ _ _ _ _ _ _ c.info-info.ensures.rows c.loop-number.invariant.tried c.loop-number-test.true refl).low

pub loop-number-preserved-then-not-is_asked : goal.loop-number-preserved-then-not-is_asked
loop-number-preserved-then-not-is_asked c =
    let at = turn _ _ _ _ _ _ _ _ c.info-info.ensures.rows c.loop-number.invariant.tried c.loop-number-test.true refl in
    record {
      tried = turn_skipped _ _ _ _ _ _ _ _ at _ c.info-info.ensures.rows c.index-info-i.is
          (sym c.if-not-is_asked.true ∙ (c.is_asked.ensures ∙ ap (λ (e : Epc). is_asked c.args.level e.encoding c.as_bytes.result.now) c.epc.view_is ∙ ap (is_asked c.args.level c.args.epc.now.encoding) c.as_bytes.ensures));
      same = c.loop-number.invariant.same;
    }

pub try_candidate-requires-clause-candidate : goal.try_candidate-requires-clause-candidate
try_candidate-requires-clause-candidate c =
    let at = turn _ _ _ _ _ _ _ _ c.info-info.ensures.rows c.loop-number.invariant.tried c.loop-number-test.true refl in
    turn_candidate _ _ _ _ _ _ _ _ at _ c.info-info.ensures.rows c.index-info-i.is c.info-info.ensures.shaped
    (sym c.if-not-is_asked.false ∙ (c.is_asked.ensures ∙ ap (λ (e : Epc). is_asked c.args.level e.encoding c.as_bytes.result.now) c.epc.view_is ∙ ap (is_asked c.args.level c.args.epc.now.encoding) c.as_bytes.ensures))

pub returns-in-Ok-clause-written : goal.returns-in-Ok-clause-written
returns-in-Ok-clause-written c =
    let at = turn _ _ _ _ _ _ _ _ c.info-info.ensures.rows c.loop-number.invariant.tried c.loop-number-test.true refl in
    let candidate = turn_candidate _ _ _ _ _ _ _ _ at _ c.info-info.ensures.rows c.index-info-i.is c.info-info.ensures.shaped (sym c.if-not-is_asked.false ∙ (c.is_asked.ensures ∙ ap (λ (e : Epc). is_asked c.args.level e.encoding c.as_bytes.result.now) c.epc.view_is ∙ ap (is_asked c.args.level c.args.epc.now.encoding) c.as_bytes.ensures)) in
    let tried = c.in-Ok.ensures.tried candidate in
    (text_by _ _ _ candidate, rw c.loop-number.invariant.same at tried.1, writes _ _ _ _ _ candidate at.rejected tried.0)

pub loop-number-preserved : goal.loop-number-preserved
loop-number-preserved c =
    let at = turn _ _ _ _ _ _ _ _ c.info-info.ensures.rows c.loop-number.invariant.tried c.loop-number-test.true refl in
    let candidate = turn_candidate _ _ _ _ _ _ _ _ at _ c.info-info.ensures.rows c.index-info-i.is c.info-info.ensures.shaped (sym c.if-not-is_asked.false ∙ (c.is_asked.ensures ∙ ap (λ (e : Epc). is_asked c.args.level e.encoding c.as_bytes.result.now) c.epc.view_is ∙ ap (is_asked c.args.level c.args.epc.now.encoding) c.as_bytes.ensures)) in
    let tried = rw c.in-Err-CannotHold.field-0-is at (c.in-Err-CannotHold.ensures.tried candidate) in
    record {
      tried = turn_rejected _ _ _ _ _ _ _ _ _ at (rejected_next _ _ _ _ _ candidate _ _ at.rejected tried.0);
      same = tried.1 ∙ c.loop-number.invariant.same;
    }

pub returns-clause-written : goal.returns-clause-written
returns-clause-written c = appends_none _ _ _ _ _ _ c.loop-number.invariant.same
    (all_tried _ _ _ _ _ _ _ c.info-info.ensures.rows c.loop-number-test.false c.loop-number.invariant.tried)

pub returns-in-Err-Memory-clause-begun : goal.returns-in-Err-Memory-clause-begun
returns-in-Err-Memory-clause-begun c = rw c.loop-number.invariant.same at c.in-Err-Memory.ensures.begun

pub returns-clause-begun : goal.returns-clause-begun
returns-clause-begun c = begins_more _ _ [] (c.loop-number.invariant.same ∙ sym (append-nil _))
