-- Counts with one answer more.
use Rattle.std.proofs.Common.{◌≡◌, ◌≢◌, ℕ, ◌+◌, ◌≤◌, List, [], ◌∷◌, ◌++◌, Result, length, refl, subst, arith}
use Rattle.std.specs.Prelude.{Err, cond, flat_map, is_ok}
use Rattle.std.proofs.lemmas.Grind.{flat_map-append}
use Rattle.std.proofs.lemmas.List.{length-append}
use Rattle.std.proofs.lemmas.List.Concat.{flat_map-cons}
use Rattle.std.proofs.lemmas.List.Sums.{count_by-le-length, sum_by-append}
use Rattle.gs_tables.specs.Tables.{TableRows}
use Rattle.gs_translate.specs.declared.reason.Reason.{Reason}
use Rattle.tdl_gen.specs.declared.counts.Counts.{Counts}
use Rattle.tdl_gen.specs.Counts.{AnswersFirst, IsLineAnswer, answer_bytes, answered_bytes, no_line, ok_answers, one_more}
use Rattle.tdl_gen.specs.CountingSupport.{CountsFirst, CountsOneMore}
use Rattle.gs_translate.specs.declared.reason.Reason.TheVariants.{Memory}
use Rattle.gs_translate.specs.Steps.{UnlessMemory}
use Rattle.gs_translate.proofs.StepLaws.{known_answer}
use Rattle.tdl_gen.specs.Generator.{generated_line}

ok_more : (answers : List (Result (List ℕ) Reason)) (answer : Result (List ℕ) Reason)
    → ok_answers (answers ++ answer ∷ []) ≡ ok_answers answers + ok_answers (answer ∷ [])
ok_more answers answer = sum_by-append (λ x. cond (is_ok x) 1 0) answers (answer ∷ [])

bytes_of_one : (answer : Result (List ℕ) Reason) → answered_bytes (answer ∷ []) ≡ length (answer_bytes answer)
bytes_of_one answer = rw (flat_map-cons answer_bytes answer [], length-append (answer_bytes answer) []) (omega arith)

bytes_more : (answers : List (Result (List ℕ) Reason)) (answer : Result (List ℕ) Reason)
    → answered_bytes (answers ++ answer ∷ []) ≡ answered_bytes answers + length (answer_bytes answer)
bytes_more answers answer =
    rw (flat_map-append answer_bytes answers (answer ∷ []), length-append (flat_map answer_bytes answers) (flat_map answer_bytes (answer ∷ [])), bytes_of_one answer) refl

pub counts_none : (set : TableRows) → CountsFirst set 0 0 0
counts_none set = record { answers = []; each = no_line; ok_is = refl; bytes_is = refl }

counts_next : (set : TableRows) (n : ℕ) (before now : Counts) (answer : Result (List ℕ) Reason) → CountsFirst set n before.ok before.bytes
    → IsLineAnswer set (generated_line n) answer → CountsOneMore before answer now → CountsFirst set (n + 1) now.ok now.bytes
counts_next set n before now answer first is more = record {
  answers = first.answers ++ answer ∷ [];
  each = subst (λ m. AnswersFirst set m (first.answers ++ answer ∷ [])) (omega arith) (one_more n first.answers answer first.each is);
  ok_is = rw (more.ok_is, first.ok_is, ok_more first.answers answer) refl;
  bytes_is = rw (more.bytes_is, first.bytes_is, bytes_more first.answers answer) refl;
}

-- with an answer that is not out of memory, to the line of the next number
pub counts_answered : (set : TableRows) (n : ℕ) (line : List ℕ) (before now : Counts) (answer : Result (List ℕ) Reason)
    → line ≡ generated_line n → CountsFirst set n before.ok before.bytes → answer ≢ Err Memory
    → UnlessMemory answer (IsLineAnswer set line answer) → CountsOneMore before answer now → CountsFirst set (n + 1) now.ok now.bytes
counts_answered set n line before now answer same first known is more =
    let answered : IsLineAnswer set (generated_line n) answer = subst (λ (text : List ℕ). IsLineAnswer set text answer) same (known_answer answer (IsLineAnswer set line answer) known is) in
    counts_next set n before now answer first answered more

-- at most one answer more is a text
pub ok_bounded : (n : ℕ) (before now : Counts) (answer : Result (List ℕ) Reason) → CountsOneMore before answer now → before.ok ≤ n → now.ok ≤ n + 1
ok_bounded n before now answer more bound = omega (arith, more.ok_is, count_by-le-length is_ok (answer ∷ []))
