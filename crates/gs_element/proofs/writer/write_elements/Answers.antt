use Rattle.std.proofs.Common.{◌≡◌, ◌∙◌, ◌++◌, ℕ, List, append-nil, refl, subst, sym}
use Rattle.gs_chars.specs.Answers.{BeginsWith}
use Rattle.gs_ident.proofs.BeginLemmas.{begins_after, begins_more, on_err}
use Rattle.gs_ident.specs.Identities.{IsInOrder}
use Rattle.gs_element.proofs.WritingLemmas.{all_behind, all_open, one_open, one_written}
use Rattle.gs_element.proofs.writer.write_elements.Goals as goal

pub loop-pair-preserved : goal.loop-pair-preserved
loop-pair-preserved c =
    let before = c.loop-pair.invariant in
    let closed = rw before.last_is at c.in_ok-write_separator.ensures.written in
    let coded = rw c.as_bytes.ensures at c.in_ok-extend_from_slice.ensures.items in
    let valued = rw c.as_bytes-in-loop-pair.ensures at c.in_ok-extend_from_slice-2.ensures.items in
    record {
      written = one_written c.args.unclosed c.args.pairs.now c.loop-pair.pair-index c.pair-item.result c.args.out.now.items c.loop-pair.out.items c.write_separator.new.out.items c.extend_from_slice.new.self.items c.extend_from_slice-in-loop-pair.new.self.items c.loop-pair-test.true c.pair-item.is before.written closed coded valued;
      last_is = c.is_open-last.ensures ∙ one_open c.args.unclosed c.args.pairs.now c.loop-pair.pair-index c.pair-item.result c.loop-pair-test.true c.pair-item.is;
    }

pub loop-pair-init : goal.loop-pair-init
loop-pair-init c = record { written = sym (append-nil c.args.out.now.items); last_is = refl }

pub is_open-last-requires : goal.is_open-last-requires
is_open-last-requires c = subst (IsInOrder c.args.table.now) (sym c.pair-item.is) (c.requires c.loop-pair.pair-index c.pair-item.result c.loop-pair-test.true)

pub returns-clause-written : goal.returns-clause-written
returns-clause-written c = all_behind c.args.unclosed c.args.pairs.now c.loop-pair.pair-index c.args.out.now.items c.loop-pair.out.items c.loop-pair-test.false c.loop-pair.invariant.written

pub returns-clause-last : goal.returns-clause-last
returns-clause-last c = all_open c.args.unclosed c.args.pairs.now c.loop-pair.pair-index c.loop-pair.last c.loop-pair-test.false c.loop-pair.invariant.last_is

-- the old text, the text of the pairs so far, and a separator, with or without a code
separator_begun : (old out closed done text : List ℕ) → out ≡ old ++ done → closed ≡ out ++ text → BeginsWith closed old
separator_begun old out closed done text e f = begins_after closed out old (begins_more closed out text f) (begins_more out old done e)

code_begun : (now old out closed done text : List ℕ) → now ≡ closed → out ≡ old ++ done → closed ≡ out ++ text → BeginsWith now old
code_begun now old out closed done text same e f = let begun = separator_begun old out closed done text e f in (begun.0, same ∙ begun.1)

value_begun : (now old out closed coded done text code : List ℕ) → now ≡ coded → out ≡ old ++ done → closed ≡ out ++ text
    → coded ≡ closed ++ code → BeginsWith now old
value_begun now old out closed coded done text code same e f g = begins_after now closed old (begins_more now closed code (same ∙ g))
    (separator_begun old out closed done text e f)

pub returns-in_err-write_separator-clause-begun : goal.returns-in_err-write_separator-clause-begun
returns-in_err-write_separator-clause-begun c = on_err c.from_residual.result _
    (begins_after _ _ _ c.in_err-write_separator.ensures.begun (begins_more _ _ _ c.loop-pair.invariant.written))

pub returns-in_err-extend_from_slice-clause-begun : goal.returns-in_err-extend_from_slice-clause-begun
returns-in_err-extend_from_slice-clause-begun c = on_err c.from_residual-in_err-extend_from_slice.result _
    (code_begun _ _ _ _ _ _ c.in_err-extend_from_slice.ensures.items c.loop-pair.invariant.written c.in_ok-write_separator.ensures.written)

pub returns-in_err-extend_from_slice-2-clause-begun : goal.returns-in_err-extend_from_slice-2-clause-begun
returns-in_err-extend_from_slice-2-clause-begun c = on_err c.from_residual-in_err-extend_from_slice-2.result _
    (value_begun _ _ _ _ _ _ _ _ c.in_err-extend_from_slice-2.ensures.items c.loop-pair.invariant.written c.in_ok-write_separator.ensures.written c.in_ok-extend_from_slice.ensures.items)
