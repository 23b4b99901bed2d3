use Rattle.std.proofs.Common.{sym, ◌∙◌}
use Rattle.gs_ident.proofs.KeyLemmas.{by_row, no_place, some_place, with_first_key, with_known_keys, with_no_key, with_other_key, with_same_key}
use Rattle.gs_ident.proofs.maker.with_pair.Goals as goal
use Rattle.gs_ident.proofs.maker.with_pair.Goals.{then-first-row-via-then-first-row, then-first-row-via-else-first-row+then-is_some}

pub returns-then-not-is_key_row : goal.returns-then-not-is_key_row
returns-then-not-is_key_row c = λ before at a.
    let table = c.args.table.now in
    let text = by_row table c.args.pair.now c.args.row c.index-rows-row.result c.requires (rw c.rows.ensures.rows at c.index-rows-row.is) in
    let none = rw c.as_bytes.ensures at c.or_none_text-with_none.ensures in
    let no = sym (c.is_key_row.ensures c.args.pair.now.code c.requires) ∙ c.if-not-is_key_row.true in
    with_no_key table before c.args.pair.now c.args.keys _ _ no text none a

pub returns-in_default : goal.returns-in_default
returns-in_default c = λ before at a.
    let table = c.args.table.now in
    let text = by_row table c.args.pair.now c.args.row c.index-rows-row.result c.requires (rw c.rows.ensures.rows at c.index-rows-row.is) in
    let none = rw c.as_bytes.ensures at c.or_none_text-with_none.ensures in
    let is_key = sym (c.is_key_row.ensures c.args.pair.now.code c.requires) ∙ c.if-not-is_key_row.false in
    with_first_key table before c.args.pair.now c.args.keys _ _ c.args.place c.args.row c.in_default.is is_key at c.requires text none a

pub returns-then-first-row : goal.returns-then-first-row
returns-then-first-row c = λ before at a.
    let table = c.args.table.now in
    let text = by_row table c.args.pair.now c.args.row c.index-rows-row.result c.requires (rw c.rows.ensures.rows at c.index-rows-row.is) in
    let none = rw c.as_bytes.ensures at c.or_none_text-with_none.ensures in
    elim c.then-first-row.branch [
      | then-first-row-via-then-first-row w ↦ with_same_key table before c.args.pair.now c.args.keys c.in-Some.first _ _ c.args.row c.in-Some.is w.if-first-row.true c.requires text none a
      | then-first-row-via-else-first-row+then-is_some w ↦
          let place = some_place w.is_some.result c.args.keys.other w.is_some.ensures w.if-is_some.true in
          with_known_keys table before c.args.pair.now c.args.keys c.in-Some.first place.0 _ _ c.in-Some.is place.1 text none a
    ]

pub returns : goal.returns
returns c = λ before at a.
    let table = c.args.table.now in
    let text = by_row table c.args.pair.now c.args.row c.index-rows-row.result c.requires (rw c.rows.ensures.rows at c.index-rows-row.is) in
    let none = rw c.as_bytes.ensures at c.or_none_text-with_none.ensures in
    let is_key = sym (c.is_key_row.ensures c.args.pair.now.code c.requires) ∙ c.if-not-is_key_row.false in
    with_other_key table before c.args.pair.now c.args.keys c.in-Some.first _ _ c.args.place c.args.row c.in-Some.is
    (no_place c.is_some.result c.args.keys.other c.is_some.ensures c.if-is_some.false) c.if-first-row.false is_key at c.requires text none a
