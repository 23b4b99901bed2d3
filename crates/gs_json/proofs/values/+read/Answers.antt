use Rattle.std.proofs.Common.{◌≡◌, ◌-◌, ◌<◌, ℕ, List, [], ◌∷◌, length, Some, None, option_map, sym, ap, ap₂, ◌∙◌, arith, rules}
use Rattle.std.specs.Prelude.{IfOk, Result, Ok, Err}
use Rattle.json.specs.Json as json
use Rattle.json.specs.Token.{Token}
use Rattle.json.specs.Json.{parse_map, after_end_array, read_key, items, members, value}
use Rattle.json.specs.Reads.{token_of}
use Rattle.json.proofs.Grammar.{value_is, read_key-shorter}
use Rattle.serde_json.specs.Data.{null, boolean, array, object}
use Rattle.serde_json.specs.Read.{of_json, of_items, of_members, converted}
use Rattle.serde_json.specs.View.{view, members_view}
use Rattle.serde_json.specs.declared.value.Value.{Value, Bool, Null, the_lemmas}
use Rattle.gs_json.specs.declared.error.JsonFault.{JsonFault}
use Rattle.serde_json.proofs.Views.{view-Array, view-Object}
use Rattle.gs_json.proofs.ValueLoops.{array_opened, object_opened, item_read, item_refused, items_over, member_read, member_refused, key_refused, members_over, items_before, items_before-no_items, one_more_item}
use Rattle.gs_json.proofs.values.+read.Goals as goal

pub read_items-returns-in_err-item-clause-syntax : goal.read_items-returns-in_err-item-clause-syntax
read_items-returns-in_err-item-clause-syntax t c refused =
    let p = value c.args.depth in
    let l = c.items in
    let n = l.invariant.0 in
    let going : (after_end_array l.reader ≡ None) × (c.take_end_array.new.self ≡ l.reader) = grind arith in
    l.invariant.2 ∙ ap (parse_map (items_before l.found.items)) (item_refused p n l.reader going.0 (rw (← going.1) (c.read_value.ensures.syntax (grind arith))))

pub read_items-items-preserved : goal.read_items-items-preserved
read_items-items-preserved t c =
    let p = value c.args.depth in
    let l = c.items in
    let n = l.invariant.0 in
    let going : (after_end_array l.reader ≡ None) × (c.take_end_array.new.self ≡ l.reader) = grind arith in
    let done = c.in_ok-item.ensures in
    let v = c.in_ok-item.item in
    let r = c.read_value.new.reader in
    let less : length r < length l.reader = rw (← going.1) done.shorter in
    let turn = item_read p n l.reader r (view v) (omega (arith, l.invariant.1)) going.0 (rw (← going.1) done.ok) in (
      n - 1,
      omega (arith, l.invariant.1),
      l.invariant.2 ∙ ap (parse_map (items_before l.found.items)) turn ∙ one_more_item l.found.items v _
          ∙ ap (λ vs. parse_map (items_before vs) (converted of_items (items p (n - 1) r))) (sym c.in_ok-push_item.ensures),
      omega (arith, l.invariant.3),
    )

pub read_items-returns-clause-ok : goal.read_items-returns-clause-ok
read_items-returns-clause-ok t c =
    let p = value c.args.depth in
    let l = c.items in
    let n = l.invariant.0 in
    let r = c.take_end_array.new.self in
    l.invariant.2 ∙ ap (parse_map (items_before l.found.items)) (items_over p n l.reader r l.invariant.1 (grind arith)) ∙ ap
    (λ ds. Some (ds, r)) (items_before-no_items l.found.items)

pub read_members-returns-in_default-clause-syntax : goal.read_members-returns-in_default-clause-syntax
read_members-returns-in_default-clause-syntax t c refused =
    let p = value c.args.depth in
    let l = c.members in
    l.invariant.2 ∙ key_refused p (members_view l.found.entries) l.invariant.0 l.reader c.in_default.ensures.value

pub read_members-returns-in_default-key-clause-ok : goal.read_members-returns-in_default-key-clause-ok
read_members-returns-in_default-key-clause-ok t c =
    let p = value c.args.depth in
    let l = c.members in
    let n = l.invariant.0 in
    l.invariant.2 ∙ members_over p (members_view l.found.entries) n l.reader c.next_key.new.self l.invariant.1 (grind arith)

pub read_members-returns-in_err-member-clause-syntax : goal.read_members-returns-in_err-member-clause-syntax
read_members-returns-in_err-member-clause-syntax t c refused =
    let p = value c.args.depth in
    let l = c.members in
    let k = c.in-Some.name.now in
    let s = c.next_key.new.self in
    let named : read_key l.reader ≡ Some (Some k, s) = grind arith in
    l.invariant.2 ∙ member_refused p (members_view l.found.entries) l.invariant.0 k l.reader s named (c.read_value.ensures.syntax (grind arith))

pub read_members-members-preserved : goal.read_members-members-preserved
read_members-members-preserved t c =
    let p = value c.args.depth in
    let l = c.members in
    let n = l.invariant.0 in
    let old = members_view l.found.entries in
    let k = c.in-Some.name.now in
    let s = c.next_key.new.self in
    let named : read_key l.reader ≡ Some (Some k, s) = grind arith in
    let done = c.in_ok-member.ensures in
    let v = c.in_ok-member.member in
    let r = c.read_value.new.reader in
    let less = read_key-shorter l.reader (Some k) s named in
    let lesser = done.shorter in (
      n - 1,
      omega (arith, l.invariant.1),
      l.invariant.2 ∙ member_read p old n k l.reader s r (view v) (omega (arith, l.invariant.1)) named done.ok
          ∙ ap (λ found. converted (λ ms. of_members ms found) (members p (n - 1) r)) (sym c.in_ok-put_member.ensures),
      omega (arith, l.invariant.3),
    )

pub read_value-returns-in_default-clause-syntax : goal.read_value-returns-in_default-clause-syntax
read_value-returns-in_default-clause-syntax t c refused =
    let empty : c.args.reader.now ≡ [] = grind arith in
    ap (converted of_json) (ap (value c.args.depth) empty ∙ value_is c.args.depth [])

pub value_from-returns-then-depth-eq0-clause-syntax : goal.value_from-returns-then-depth-eq0-clause-syntax
unfolding value
value_from-returns-then-depth-eq0-clause-syntax t c refused =
    let none : c.args.depth ≡ 0 = omega arith in
    ap (converted of_json) (ap₂ value none (ap (λ k. token_of k ∷ c.args.reader.now) c.in-BeginArray.is))

pub value_from-returns-then-depth-eq0-2-clause-syntax : goal.value_from-returns-then-depth-eq0-2-clause-syntax
unfolding value
value_from-returns-then-depth-eq0-2-clause-syntax t c refused =
    let none : c.args.depth ≡ 0 = omega arith in
    ap (converted of_json) (ap₂ value none (ap (λ k. token_of k ∷ c.args.reader.now) c.in-BeginObject.is))

module _ (depth : ℕ) (ts rest : List Token) where
  numbered : (s : List ℕ) → ts ≡ Token.number s ∷ rest → converted of_json (value depth ts) ≡ option_map (λ d. (d, rest)) (of_json (json.number s))
  numbered s is = ap (converted of_json) (ap (value depth) is ∙ value_is depth (Token.number s ∷ rest))

  number_read : (s : List ℕ) (r : Result Value JsonFault) → ts ≡ Token.number s ∷ rest
      → IfOk r (λ v. of_json (json.number s) ≡ Some (view v)) → IfOk r (λ v. converted of_json (value depth ts) ≡ Some (view v, rest))
  number_read s (Ok v) is h = numbered s is ∙ ap (option_map (λ d. (d, rest))) h
  number_read s (Err e) is h = tt

pub value_from-returns-in_err-read_items-in-BeginArray-clause-syntax : goal.value_from-returns-in_err-read_items-in-BeginArray-clause-syntax
value_from-returns-in_err-read_items-in-BeginArray-clause-syntax t c refused =
    array_opened c.args.depth _ c.args.reader.now (ap (λ k. token_of k ∷ c.args.reader.now) c.in-BeginArray.is) (omega arith) ∙ ap
    (parse_map array) (c.read_items.ensures.syntax (grind arith))

pub value_from-returns-in_err-read_members-in-BeginObject-clause-syntax : goal.value_from-returns-in_err-read_members-in-BeginObject-clause-syntax
value_from-returns-in_err-read_members-in-BeginObject-clause-syntax t c refused =
    object_opened c.args.depth _ c.args.reader.now (ap (λ k. token_of k ∷ c.args.reader.now) c.in-BeginObject.is) (omega arith) ∙ ap
    (parse_map object) (c.read_members.ensures.syntax (grind arith))

pub value_from-returns-in_ok-text_value-in-String-clause-ok : goal.value_from-returns-in_ok-text_value-in-String-clause-ok
value_from-returns-in_ok-text_value-in-String-clause-ok t c =
    let is = ap (λ k. token_of k ∷ c.args.reader.now) c.in-String.is in
    ap (converted of_json) (ap (value c.args.depth) is ∙ value_is c.args.depth _) ∙ ap (λ d. Some (d, c.args.reader.now))
    (sym c.in_ok-text_value-in-String.ensures)

pub value_from-returns-in-Number-clause-ok : goal.value_from-returns-in-Number-clause-ok
value_from-returns-in-Number-clause-ok t c =
    number_read c.args.depth _ c.args.reader.now c.in-Number.text.now c.number_value.result
    (ap (λ k. token_of k ∷ c.args.reader.now) c.in-Number.is) c.number_value.ensures.ok

pub value_from-returns-in-Number-clause-syntax : goal.value_from-returns-in-Number-clause-syntax
value_from-returns-in-Number-clause-syntax t c refused =
    numbered c.args.depth _ c.args.reader.now c.in-Number.text.now (ap (λ k. token_of k ∷ c.args.reader.now) c.in-Number.is) ∙ ap
    (option_map (λ d. (d, c.args.reader.now))) (c.number_value.ensures.syntax refused)

pub value_from-returns-in-Bool-clause-ok : goal.value_from-returns-in-Bool-clause-ok
value_from-returns-in-Bool-clause-ok t c =
    let is = ap (λ k. token_of k ∷ c.args.reader.now) c.in-Bool.is in
    let seen : view (Bool c.in-Bool.truth) ≡ boolean c.in-Bool.truth = search (rules, the_lemmas) in
    ap (converted of_json) (ap (value c.args.depth) is ∙ value_is c.args.depth _) ∙ ap (λ d. Some (d, c.args.reader.now)) (sym seen)

pub value_from-returns-in-Null-clause-ok : goal.value_from-returns-in-Null-clause-ok
value_from-returns-in-Null-clause-ok t c =
    let is = ap (λ k. token_of k ∷ c.args.reader.now) c.in-Null.is in
    let seen : view (Null) ≡ null = search (rules, the_lemmas) in
    ap (converted of_json) (ap (value c.args.depth) is ∙ value_is c.args.depth _) ∙ ap (λ d. Some (d, c.args.reader.now)) (sym seen)

pub value_from-returns-in-EndObject-clause-syntax : goal.value_from-returns-in-EndObject-clause-syntax
value_from-returns-in-EndObject-clause-syntax t c refused =
    let none : value c.args.depth (token_of c.args.token ∷ c.args.reader.now) ≡ None = rw (value_is c.args.depth (token_of c.args.token ∷ c.args.reader.now)) (grind arith) in
    ap (converted of_json) none

pub value_from-returns-in_ok-read_items-in-BeginArray-clause-ok : goal.value_from-returns-in_ok-read_items-in-BeginArray-clause-ok
value_from-returns-in_ok-read_items-in-BeginArray-clause-ok t c =
    let found = c.in_ok-read_items-in-BeginArray in
    array_opened c.args.depth _ c.args.reader.now (ap (λ k. token_of k ∷ c.args.reader.now) c.in-BeginArray.is) (omega arith) ∙ ap
    (parse_map array) found.ensures.ok ∙ ap (λ d. Some (d, c.read_items.new.reader)) (sym (view-Array found.field-0))

pub value_from-returns-in_ok-read_members-in-BeginObject-clause-ok : goal.value_from-returns-in_ok-read_members-in-BeginObject-clause-ok
value_from-returns-in_ok-read_members-in-BeginObject-clause-ok t c =
    let found = c.in_ok-read_members-in-BeginObject in
    object_opened c.args.depth _ c.args.reader.now (ap (λ k. token_of k ∷ c.args.reader.now) c.in-BeginObject.is) (omega arith) ∙ ap
    (parse_map object) found.ensures.ok ∙ ap (λ d. Some (d, c.read_members.new.reader)) (sym (view-Object found.field-0))
