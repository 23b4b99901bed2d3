use Rattle.std.proofs.Common.{arith, append-nil, [], sym, ◌∙◌}
use Rattle.std.proofs.lemmas.Result.{err_from_is_err_and}
use Rattle.gs_ident.proofs.BeginLemmas.{begins_more}
use Rattle.gs_epc.proofs.Tries.{cut_back, holds_all, info_low, is_read, leaves_out, of_bytes, of_level, one_each, option_low, rejects_at}
use Rattle.gs_epc.proofs.writer.try_candidate.Goals as goal

pub offset_bounds-info-i : goal.offset_bounds-info-i
offset_bounds-info-i c =
    let low = info_low _ _ _ _ c.requires.candidate c.info.result.now c.info.ensures.rows in
    omega arith

pub bounds-info-i : goal.bounds-info-i
bounds-info-i c = info_low _ _ _ _ c.requires.candidate c.info.result.now c.info.ensures.rows

pub returns-in_err-values-clause-tried : goal.returns-in_err-values-clause-tried
returns-in_err-values-clause-tried c = λ candidate.
    let p = err_from_is_err_and c.from_residual.result c.from_residual.ensures.1 in
    rw (p.1, p.2) tt

pub offset_bounds-options-i : goal.offset_bounds-options-i
offset_bounds-options-i c =
    let low = option_low _ _ _ _ c.requires.candidate _ c.options.result.now c.level.ensures.rows c.options.ensures.options in
    omega arith

pub bounds-options-i : goal.bounds-options-i
bounds-options-i c = option_low _ _ _ _ c.requires.candidate _ c.options.result.now c.level.ensures.rows c.options.ensures.options

pub append_option-requires-clause-of_level : goal.append_option-requires-clause-of_level
append_option-requires-clause-of_level c =
    let low = option_low _ _ _ _ c.requires.candidate _ c.options.result.now c.level.ensures.rows c.options.ensures.options in
    of_level _ _ _ _ _ _ c.level.ensures.shaped c.level.ensures.rows c.options.ensures.of_kind c.options.ensures.options low c.index-options-i.is

pub append_option-requires-clause-one_each : goal.append_option-requires-clause-one_each
append_option-requires-clause-one_each c =
    let is = is_read _ _ _ _ c.requires.candidate _ _ _ _ _ _ _ _ c.level.ensures.rows c.options.ensures.options c.index-options-i.is c.info.ensures.rows c.index-info-i.is c.items-fields.ensures c.in_ok-values.ensures c.deref.ensures.value in
    one_each _ _ _ _ _ _ _ _ is c.info.ensures.shaped

pub append_option-requires-clause-whole_bytes : goal.append_option-requires-clause-whole_bytes
append_option-requires-clause-whole_bytes c =
    let is = is_read _ _ _ _ c.requires.candidate _ _ _ _ _ _ _ _ c.level.ensures.rows c.options.ensures.options c.index-options-i.is c.info.ensures.rows c.index-info-i.is c.items-fields.ensures c.in_ok-values.ensures c.deref.ensures.value in
    of_bytes _ _ _ _ _ _ _ _ is c.info.ensures.shaped

pub returns-in-Some-clause-tried : goal.returns-in-Some-clause-tried
returns-in-Some-clause-tried c = λ candidate.
    let is = is_read _ _ _ _ candidate _ _ _ _ _ _ _ _ c.level.ensures.rows c.options.ensures.options c.index-options-i.is c.info.ensures.rows c.index-info-i.is c.items-fields.ensures c.in_ok-values.ensures c.deref.ensures.value in
    (leaves_out _ _ _ _ _ _ _ _ is _ c.in-Ok.ensures.written.0 c.in-Some.ensures, cut_back c.args.out.now.items _ _ _ c.len-start.result (let n = c.len-start.ensures in omega arith) c.in-Ok.ensures.written.1 c.truncate.ensures.items)

pub returns-in-Some-clause-begun : goal.returns-in-Some-clause-begun
returns-in-Some-clause-begun c =
    let same = cut_back c.args.out.now.items _ _ _ c.len-start.result (let n = c.len-start.ensures in omega arith) c.in-Ok.ensures.written.1 c.truncate.ensures.items in
    begins_more _ _ [] (same ∙ sym (append-nil _))

pub returns-in-Ok-clause-tried : goal.returns-in-Ok-clause-tried
returns-in-Ok-clause-tried c = λ candidate.
    let is = is_read _ _ _ _ candidate _ _ _ _ _ _ _ _ c.level.ensures.rows c.options.ensures.options c.index-options-i.is c.info.ensures.rows c.index-info-i.is c.items-fields.ensures c.in_ok-values.ensures c.deref.ensures.value in
    holds_all _ _ _ _ _ _ _ _ is _ _ c.in-Ok.ensures.written.0 c.in-None.ensures c.in-Ok.ensures.written.1

pub returns-in-Err-CannotHold-clause-tried : goal.returns-in-Err-CannotHold-clause-tried
returns-in-Err-CannotHold-clause-tried c = λ candidate.
    let is = is_read _ _ _ _ candidate _ _ _ _ _ _ _ _ c.level.ensures.rows c.options.ensures.options c.index-options-i.is c.info.ensures.rows c.index-info-i.is c.items-fields.ensures c.in_ok-values.ensures c.deref.ensures.value in
    let rejected = rw c.in-Err-CannotHold.field-0-is at c.in-Err-CannotHold.ensures.written in
    (rejects_at _ _ _ _ _ _ _ _ is _ _ _ rejected.0 c.field_at.ensures, rejected.1)

pub values_for-requires : goal.values_for-requires
values_for-requires c = c.requires.filter

pub returns-clause-tried : goal.returns-clause-tried
returns-clause-tried c = λ candidate. tt
