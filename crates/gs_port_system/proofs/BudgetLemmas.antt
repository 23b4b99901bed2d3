-- The budget of a connection over its calls.
use Rattle.std.proofs.Common.{◌≡◌, ◌≤◌, ℕ, zero, suc, ◌+◌, ◌-◌, ◌^◌, if◌then◌else◌, min, List, [], ◌∷◌, ◌++◌, map, fold, All, Result, Ok, Err, refl, sym, ap, ◌∙◌, inl, inr, arith}
use Rattle.std.proofs.Math.Nat.{min-le_right}
use Rattle.std.proofs.lemmas.List.Elements.{All-head, All-tail}
use Rattle.std.proofs.lemmas.Grind.{fold-append}
use Rattle.std.specs.declared.io.Error.{Error as SystemError}
use Rattle.gs_port_system.specs.declared.budget.Budget.{Budget}
use Rattle.gs_port_system.specs.declared.budget.Budget.TheVariants as budget
use Rattle.gs_port_system.specs.Budgets.{Call, EndsBy, Move, after_read, after_write, all_moved, budget_after, budget_of, first_time, has_moved, head_limit, later, moved, read, read_at, read_until, reply_limit, ten_seconds, time_of, write, write_until}

abbrev after_all : Budget → List Move → Budget
after_all before moves = fold budget_after before moves

abbrev most : ℕ
most = 2 ^ 64 - 1

-- a head that has its time keeps it
head_kept : (until : ℕ) (said : Result ℕ SystemError) → after_read said (budget.Head until) ≡ budget.Head until
head_kept until (Ok zero) = refl
head_kept until (Ok (suc n)) = refl
head_kept until (Err error) = refl

head_stays : (until : ℕ) (calls : List Call) → after_all (budget.Head until) (map read calls) ≡ budget.Head until
head_stays until [] = refl
head_stays until (call ∷ calls) = ap (λ b. after_all b (map read calls)) (head_kept until call.said) ∙ head_stays until calls

begun_reads : (calls : List Call) (time : ℕ) → read_until (after_all budget.Begun (map read calls)) time ≡ later (first_time calls time) ten_seconds
begun_reads [] time = refl
begun_reads (call ∷ calls) time =
    let end = later call.time ten_seconds in
    ap (λ b. read_until b time) (ap (λ b. after_all b (map read calls)) (head_kept end call.said) ∙ head_stays end calls)

read_on : (said : Result ℕ SystemError) (calls : List Call) (time : ℕ) → read_until (after_all budget.Idle (map read calls)) time ≡ head_limit calls time
    → read_until (after_all (after_read said budget.Idle) (map read calls)) time ≡ (if has_moved said then later (first_time calls time) ten_seconds else head_limit calls time)
read_on (Ok zero) calls time rest = rest
read_on (Ok (suc n)) calls time rest = begun_reads calls time
read_on (Err error) calls time rest = rest

idle_reads : (calls : List Call) (time : ℕ) → read_until (after_all budget.Idle (map read calls)) time ≡ head_limit calls time
idle_reads [] time = refl
idle_reads (call ∷ calls) time = read_on call.said calls time (idle_reads calls time)

reply_reads : (began taken : ℕ) (calls : List Call) (time : ℕ) → read_until (after_all (budget.Reply began taken) (map read calls)) time ≡ head_limit calls time
reply_reads began taken [] time = refl
reply_reads began taken (call ∷ calls) time = idle_reads (call ∷ calls) time

reads_after : (said : Result ℕ SystemError) (began taken : ℕ) (calls : List Call) (time : ℕ)
    → read_until (after_all (after_write said (budget.Reply began taken)) (map read calls)) time ≡ head_limit calls time
reads_after (Ok n) began taken calls time = reply_reads began (later taken n) calls time
reads_after (Err error) began taken calls time = reply_reads began taken calls time

reads_after_write : (before : Budget) (last : Call) (calls : List Call) (time : ℕ)
    → read_until (after_all (budget_after before (write last)) (map read calls)) time ≡ head_limit calls time
reads_after_write budget.Idle last calls time = reads_after last.said last.time 0 calls time
reads_after_write budget.Begun last calls time = reads_after last.said last.time 0 calls time
reads_after_write (budget.Head until) last calls time = reads_after last.said last.time 0 calls time
reads_after_write (budget.Reply began taken) last calls time = reads_after last.said began taken calls time

-- the budget after all calls, the last before some of them apart
cut_last : (more : List Move) (last : Move) (moves : List Move) → budget_of ((more ++ last ∷ []) ++ moves) ≡ after_all (budget_after (budget_of more) last) moves
cut_last more last moves =
    fold-append budget_after budget.Idle (more ++ last ∷ []) moves
    ∙ ap (λ b. after_all b moves) (fold-append budget_after budget.Idle more (last ∷ []))

pub head_ends : (before : List Move) (reads : List Call) (time : ℕ) → EndsBy write before
    → read_until (budget_of (before ++ map read reads)) time ≡ head_limit reads time
head_ends before reads time (inl none) = rw none (idle_reads reads time)
head_ends before reads time (inr (more, last, is)) =
    rw is (ap (λ b. read_until b time) (cut_last more (write last) (map read reads)) ∙ reads_after_write (budget_of more) last reads time)

min_more : (a b m : ℕ) → min (min a m + b) m ≡ min (a + b) m
min_more a b m = omega arith

taken_more : (a : ℕ) → a ≤ most → min (a + 0) most ≡ a
taken_more a low = omega arith

-- the bytes of a reply add up
abbrev Grows : ℕ → List Call → Type 0
Grows began calls =
    (taken : ℕ) → taken ≤ most → after_all (budget.Reply began taken) (map write calls) ≡ budget.Reply began (min (taken + all_moved calls) most)

reply_on : (said : Result ℕ SystemError) (began taken : ℕ) (calls : List Call) → Grows began calls → taken ≤ most
    → after_all (after_write said (budget.Reply began taken)) (map write calls) ≡ budget.Reply began (min (taken + (moved said + all_moved calls)) most)
reply_on (Ok n) began taken calls grows low =
    grows (later taken n) (min-le_right (taken + n) most)
    ∙ ap (budget.Reply began) (min_more (taken + n) (all_moved calls) most ∙ ap (λ k. min k most) (omega arith))
reply_on (Err error) began taken calls grows low = grows taken low ∙ ap (λ k. budget.Reply began (min (taken + k) most)) (omega arith)

reply_grows : (began : ℕ) (calls : List Call) → Grows began calls
reply_grows began [] taken low = ap (budget.Reply began) (sym (taken_more taken low))
reply_grows began (call ∷ calls) taken low = reply_on call.said began taken calls (reply_grows began calls) low

reply_writes : (call : Call) (calls : List Call) (time : ℕ)
    → write_until (after_all (budget.Reply call.time 0) (map write (call ∷ calls))) time ≡ reply_limit (call ∷ calls) time
reply_writes call calls time =
    let e : after_all (budget.Reply call.time 0) (map write (call ∷ calls)) ≡ budget.Reply call.time (min (all_moved (call ∷ calls)) most) =
    reply_grows call.time (call ∷ calls) 0 (omega arith) ∙ ap (λ k. budget.Reply call.time (min k most)) (omega arith) in
    ap (λ b. write_until b time) e

idle_writes : (calls : List Call) (time : ℕ) → write_until (after_all budget.Idle (map write calls)) time ≡ reply_limit calls time
idle_writes [] time = refl
idle_writes (call ∷ calls) time = reply_writes call calls time

begun_writes : (calls : List Call) (time : ℕ) → write_until (after_all budget.Begun (map write calls)) time ≡ reply_limit calls time
begun_writes [] time = refl
begun_writes (call ∷ calls) time = reply_writes call calls time

head_writes : (until : ℕ) (calls : List Call) (time : ℕ) → write_until (after_all (budget.Head until) (map write calls)) time ≡ reply_limit calls time
head_writes until [] time = refl
head_writes until (call ∷ calls) time = reply_writes call calls time

writes_after_read : (before : Budget) (said : Result ℕ SystemError) (at : ℕ) (calls : List Call) (time : ℕ)
    → write_until (after_all (after_read said (read_at before at)) (map write calls)) time ≡ reply_limit calls time
writes_after_read budget.Idle (Ok zero) at calls time = idle_writes calls time
writes_after_read budget.Idle (Ok (suc n)) at calls time = begun_writes calls time
writes_after_read budget.Idle (Err error) at calls time = idle_writes calls time
writes_after_read (budget.Reply began taken) (Ok zero) at calls time = idle_writes calls time
writes_after_read (budget.Reply began taken) (Ok (suc n)) at calls time = begun_writes calls time
writes_after_read (budget.Reply began taken) (Err error) at calls time = idle_writes calls time
writes_after_read budget.Begun said at calls time =
    let end = later at ten_seconds in
    ap (λ b. write_until (after_all b (map write calls)) time) (head_kept end said) ∙ head_writes end calls time
writes_after_read (budget.Head until) said at calls time =
    ap (λ b. write_until (after_all b (map write calls)) time) (head_kept until said) ∙ head_writes until calls time

pub reply_ends : (before : List Move) (writes : List Call) (time : ℕ) → EndsBy read before
    → write_until (budget_of (before ++ map write writes)) time ≡ reply_limit writes time
reply_ends before writes time (inl none) = rw none (idle_writes writes time)
reply_ends before writes time (inr (more, last, is)) =
    rw is (ap (λ b. write_until b time) (cut_last more (read last) (map write writes)) ∙ writes_after_read (budget_of more) last.said last.time writes time)

-- none waits more than ten seconds
later_on : (a b : ℕ) → a ≤ b → later a ten_seconds ≤ later b ten_seconds
later_on a b low = omega arith

same_short : (time : ℕ) → later time ten_seconds ≤ later time ten_seconds
same_short time = omega arith

idle_short : (said : Result ℕ SystemError) (time : ℕ) → read_until (after_read said budget.Idle) time ≤ later time ten_seconds
idle_short (Ok zero) time = same_short time
idle_short (Ok (suc n)) time = same_short time
idle_short (Err error) time = same_short time

reply_short : (said : Result ℕ SystemError) (began taken time : ℕ) → read_until (after_write said (budget.Reply began taken)) time ≤ later time ten_seconds
reply_short (Ok n) began taken time = same_short time
reply_short (Err error) began taken time = same_short time

kept_short : (before : Budget) (call : Move) (time : ℕ) → time_of call ≤ time → read_until before time ≤ later time ten_seconds
    → read_until (budget_after before call) time ≤ later time ten_seconds
kept_short budget.Idle (read call) time low short = idle_short call.said time
kept_short (budget.Reply began taken) (read call) time low short = idle_short call.said time
kept_short budget.Begun (read call) time low short =
    rw (head_kept (later call.time ten_seconds) call.said) (later_on call.time time low)
kept_short (budget.Head until) (read call) time low short = rw (head_kept until call.said) short
kept_short budget.Idle (write call) time low short = reply_short call.said call.time 0 time
kept_short budget.Begun (write call) time low short = reply_short call.said call.time 0 time
kept_short (budget.Head until) (write call) time low short = reply_short call.said call.time 0 time
kept_short (budget.Reply began taken) (write call) time low short = reply_short call.said began taken time

never : (before : Budget) (moves : List Move) (time : ℕ) → All (λ move. time_of move ≤ time) moves → read_until before time ≤ later time ten_seconds
    → read_until (after_all before moves) time ≤ later time ten_seconds
never before [] time low short = short
never before (call ∷ moves) time low short =
    never (budget_after before call) moves time (All-tail (λ move. time_of move ≤ time) call moves low)
    (kept_short before call time (All-head (λ move. time_of move ≤ time) call moves low) short)

write_short : (before : Budget) (time : ℕ) → write_until before time ≤ later time ten_seconds
write_short budget.Idle time = min-le_right _ _
write_short budget.Begun time = min-le_right _ _
write_short (budget.Head until) time = min-le_right _ _
write_short (budget.Reply began taken) time = min-le_right _ _

pub never_long : (before : List Move) (time : ℕ) → All (λ move. time_of move ≤ time) before
    → (read_until (budget_of before) time ≤ later time ten_seconds) × (write_until (budget_of before) time ≤ later time ten_seconds)
never_long before time low = (never budget.Idle before time low (same_short time), write_short (budget_of before) time)
