use Rattle.std.proofs.Common.{◌≡◌, ◌<◌, length, None, Some, refl, arith}
use Rattle.json.specs.Json.{after_end_array}
use Rattle.serde_json.specs.View.{view}
use Rattle.gs_linkset.proofs.StreamLemmas.{item_next, item_stops, items_end, no_item_yet, none_read}
use Rattle.gs_linkset.proofs.document.read_contexts.Goals as goal

pub items-init : goal.items-init
items-init c = no_item_yet c.args.depth c.args.reader.now _ (rw c.new.ensures.items none_read, rw c.new.ensures.items refl)

pub returns-in_err-item-clause-syntax : goal.returns-in_err-item-clause-syntax
returns-in_err-item-clause-syntax c refused =
    let l = c.items in
    let going : (after_end_array l.reader ≡ None) × (c.take_end_array.new.self ≡ l.reader) = grind arith in
    item_stops c.args.depth c.args.reader.now l.reader l.reader l.contexts l.invariant going.0 (rw (← going.1) (c.read_value.ensures.syntax (grind arith)))

pub items-preserved : goal.items-preserved
items-preserved c =
    let l = c.items in
    let r = c.read_value.new.reader in
    let going : (after_end_array l.reader ≡ None) × (c.take_end_array.new.self ≡ l.reader) = grind arith in
    let less : length r < length l.reader = rw (← going.1) c.in_ok-item.ensures.shorter in
    item_next c.args.depth c.args.reader.now l.reader r l.contexts l.invariant c.add.new.self (view c.in_ok-item.item) going.0
    (rw (← going.1) c.in_ok-item.ensures.ok) less c.in_ok-add.ensures

pub items-preserved-in_ok-add : goal.items-preserved-in_ok-add
items-preserved-in_ok-add c =
    let l = c.items in
    let r = c.read_value.new.reader in
    let going : (after_end_array l.reader ≡ None) × (c.take_end_array.new.self ≡ l.reader) = grind arith in
    let less : length r < length l.reader = rw (← going.1) c.in_ok-item.ensures.shorter in
    item_next c.args.depth c.args.reader.now l.reader r l.contexts l.invariant c.add.new.self (view c.in_ok-item.item) going.0
    (rw (← going.1) c.in_ok-item.ensures.ok) less c.in_ok-add.ensures

pub items-preserved-in_ok-add-2 : goal.items-preserved-in_ok-add-2
items-preserved-in_ok-add-2 c =
    let l = c.items in
    let r = c.read_value.new.reader in
    let going : (after_end_array l.reader ≡ None) × (c.take_end_array.new.self ≡ l.reader) = grind arith in
    let less : length r < length l.reader = rw (← going.1) c.in_ok-item.ensures.shorter in
    item_next c.args.depth c.args.reader.now l.reader r l.contexts l.invariant c.add.new.self (view c.in_ok-item.item) going.0
    (rw (← going.1) c.in_ok-item.ensures.ok) less c.in_ok-add.ensures

pub items-preserved-in_ok-add-3 : goal.items-preserved-in_ok-add-3
items-preserved-in_ok-add-3 c =
    let l = c.items in
    let r = c.read_value.new.reader in
    let going : (after_end_array l.reader ≡ None) × (c.take_end_array.new.self ≡ l.reader) = grind arith in
    let less : length r < length l.reader = rw (← going.1) c.in_ok-item.ensures.shorter in
    item_next c.args.depth c.args.reader.now l.reader r l.contexts l.invariant c.add.new.self (view c.in_ok-item.item) going.0
    (rw (← going.1) c.in_ok-item.ensures.ok) less c.in_ok-add.ensures

pub returns-clause-ok : goal.returns-clause-ok
returns-clause-ok c =
    let l = c.items in
    let r = c.take_end_array.new.self in
    let end : after_end_array l.reader ≡ Some r = grind arith in
    items_end c.args.depth c.args.reader.now l.reader r l.contexts l.invariant c.into_answer.result end c.into_answer.ensures
