use Rattle.std.proofs.Common.{◌≡◌, ℕ, List}
use Rattle.std.specs.Prelude.{IfOk, Result, Ok, Err, string_bytes}
use Rattle.gs_tables.specs.Tables.{TableRows}
use Rattle.tdl_gen.specs.Counts.{Generated, counts_text}
use Rattle.tdl_gen.specs.CountingSupport.{CountsFirst}
use Rattle.tdl_gen.proofs.generator.counts_line.Goals as goal

known : {S E : Type 0} (bytes_of : S → List ℕ) (set : TableRows) (lines ok bytes : ℕ) (result : Result S E)
    → IfOk result (λ text. bytes_of text ≡ counts_text lines ok bytes) → CountsFirst set lines ok bytes
    → IfOk result (λ line. Generated set lines (bytes_of line))
known bytes_of set lines ok bytes (Ok text) written first = record { answers = first.answers; each = first.each; written = rw (← first.ok_is, ← first.bytes_is) written }
known bytes_of set lines ok bytes (Err e) written first = tt

pub returns : goal.returns
returns c =
    known string_bytes c.args.set.now c.args.lines _ _ c.counts_text.result c.counts_text.ensures c.in_ok-counts.ensures
