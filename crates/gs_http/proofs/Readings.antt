-- Sequences of reads and writes.
use Rattle.std.proofs.Common.{◌≡◌, ◌-◌, ◌+◌, ℕ, Bool, false, List, [], ◌++◌, ap, sym, ◌∙◌, append-nil, append_assoc, length, take, drop}
use Rattle.std.proofs.Math.Seq.{take-add}
use Rattle.std.proofs.lemmas.List.{take_rest}
use Rattle.gs_port.specs.Contents.{prepend_known, prepend_nothing, prepend_twice}
use Rattle.gs_port.specs.Counts.{count_if}
use Rattle.gs_port.specs.States.{ConnState}
use Rattle.gs_http.specs.ConnectedSupport.{Fetches, sent_to}

-- nothing was read
pub fetches_none : (held held' : List ℕ) (errored : Bool) (before now : ConnState) → held' ≡ held
    → now ≡ record before { reads = count_if errored before.reads } → Fetches held held' errored before now
fetches_none held held' errored before now h e = record {
  bytes = [];
  grown = h ∙ sym (append-nil held);
  moved = sym (prepend_nothing now.left ∙ ap (λ (c : ConnState). c.left) e);
  rest = rw e (ap (λ taken. record before { taken = taken; reads = count_if errored before.reads }) (sym (append-nil before.taken)));
}

-- a read after others without an error
pub fetches_further : (a b c : List ℕ) (errored : Bool) (first mid last : ConnState) → Fetches a b false first mid
    → Fetches b c errored mid last → Fetches a c errored first last
fetches_further a b c errored first mid last x y = record {
  bytes = x.bytes ++ y.bytes;
  grown = y.grown ∙ ap (λ front. front ++ y.bytes) x.grown ∙ append_assoc a x.bytes y.bytes;
  moved = x.moved ∙ ap (prepend_known x.bytes) y.moved ∙ prepend_twice x.bytes y.bytes last.left;
  rest =
      y.rest ∙ ap (λ (s : ConnState). record s { left = last.left; taken = s.taken ++ y.bytes; reads = count_if errored s.reads }) x.rest
      ∙ ap (λ taken. record first { left = last.left; taken = taken; reads = count_if errored first.reads }) (append_assoc first.taken x.bytes y.bytes);
}

-- nothing was written
pub sent_nothing : (conn : ConnState) → conn ≡ sent_to conn [] false
sent_nothing conn = ap (λ held. record conn { held = held }) (sym (append-nil conn.held))

-- writing after the first bytes of a list writes the next ones
pub sent_further : (before now after : ConnState) (bytes : List ℕ) (done n : ℕ) → now ≡ sent_to before (take done bytes) false
    → after ≡ sent_to now (take n (take (length bytes - done) (drop done bytes))) false → after ≡ sent_to before (take (done + n) bytes) false
sent_further before now after bytes done n h k =
    k ∙ ap (λ rest. sent_to now (take n rest) false) (take_rest bytes done) ∙ ap (λ s. sent_to s (take n (drop done bytes)) false) h
    ∙ ap (λ held. record before { held = held }) (append_assoc before.held (take done bytes) (take n (drop done bytes)) ∙ ap (λ more. before.held ++ more) (sym (take-add done n bytes)))
