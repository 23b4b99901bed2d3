-- Machines of a list that share a list of symbols.
use Rattle.std.proofs.Common.{◌≡◌, ℕ, ◌<◌, ◌≤◌, ◌+◌, List, length, get_or, Option, Some, None, Result, Ok, Err, IfOk, IfSome, IfNone, sym, ◌∙◌, inl, inr, arith}
use Rattle.std.specs.List.{slice_get}
use Rattle.std.proofs.lemmas.Bool.{cases_eq, cases_lt}
use Rattle.gs_chars.proofs.TruthsAndLists.{read_at}
use Rattle.gs_ambig.specs.Machines.{AutoForm}
use Rattle.gs_ambig.specs.MachinesSupport.{start_of}
use Rattle.gs_ambig.specs.Shares.{Share, SharesNone, IsFirstFrom, IsFirstDouble}
use Rattle.gs_ambig.specs.Searches.{Leads, IsDead, HasTwoWalks, IsSingle}
use Rattle.std.proofs.lemmas.Option.{slice_get_within}

pub share_two : (machines : List AutoForm) (i j : ℕ) (m n : AutoForm) (word : List ℕ) → i < length machines → m ≡ get_or machines i m
    → j < length machines → n ≡ get_or machines j n → (i ≡ j → ⊥) → Leads m n (start_of m) (start_of n) word → Share machines i j word
share_two machines i j m n word l e k f d leads = record {
  one = m;
  other = n;
  one_at = read_at machines i m l e;
  other_at = read_at machines j n k f;
  run = leads.run;
  other_run = leads.other_run;
  accepts = leads.walk;
  other_accepts = leads.other_walk;
  differ = λ same. absurd (d same);
}

same_machine : (machines : List AutoForm) (i : ℕ) (m one : AutoForm) → i < length machines → m ≡ get_or machines i m → slice_get machines i ≡ Some one → one ≡ m
same_machine machines i m one l e a = let b : Some one ≡ Some m = sym a ∙ read_at machines i m l e in cc

pub none_of_two : (machines : List AutoForm) (i j : ℕ) (m n : AutoForm) → i < length machines → m ≡ get_or machines i m
    → j < length machines → n ≡ get_or machines j n → IsDead m n (start_of m) (start_of n) → (symbols : List ℕ) → Share machines i j symbols
    → ⊥
none_of_two machines i j m n l e k f dead symbols s =
    let a = same_machine machines i m s.one l e s.one_at in
    let b = same_machine machines j n s.other k f s.other_at in
    let whole : Leads s.one s.other (start_of s.one) (start_of s.other) symbols = record { run = s.run; other_run = s.other_run; walk = s.accepts; other_walk = s.other_accepts } in
    dead symbols (rw (a, b) at whole)

pub share_one : (machines : List AutoForm) (i j : ℕ) (m : AutoForm) (word : List ℕ) → i < length machines → m ≡ get_or machines i m → i ≡ j
    → HasTwoWalks m (start_of m) word → Share machines i j word
share_one machines i j m word l e same parts = record {
  one = m;
  other = m;
  one_at = read_at machines i m l e;
  other_at = rw (← same) (read_at machines i m l e);
  run = parts.run;
  other_run = parts.other_run;
  accepts = parts.walk;
  other_accepts = parts.other_walk;
  differ = λ _. parts.differ;
}

pub none_of_one : (machines : List AutoForm) (i j : ℕ) (m : AutoForm) → i < length machines → m ≡ get_or machines i m → i ≡ j
    → IsSingle m (start_of m) → (symbols : List ℕ) → Share machines i j symbols → ⊥
none_of_one machines i j m l e same single symbols s =
    let a = same_machine machines i m s.one l e s.one_at in
    let b = same_machine machines i m s.other l e (rw (← same) at s.other_at) in
    let whole : HasTwoWalks s.one (start_of s.one) symbols = record {
      run = s.run;
      other_run = s.other_run;
      walk = s.accepts;
      other_walk = rw (b ∙ sym a) at s.other_accepts;
      differ = s.differ same;
    } in
    single symbols (rw a at whole)

-- the machines after one

pub none_before : (machines : List AutoForm) (i : ℕ) → SharesNone machines i i
none_before machines i j symbols a b = absurd (omega arith)

pub none_more : (machines : List AutoForm) (i j : ℕ) → SharesNone machines i j → ((symbols : List ℕ) → Share machines i j symbols → ⊥)
    → SharesNone machines i (j + 1)
none_more machines i j h none k symbols a b = elim (cases_eq k j) as (λ _. Share machines i k symbols → ⊥) [
  | inl e ↦ λ s. none symbols (rw e at s)
  | inr n ↦ h k symbols a (omega arith)
]

-- all pairs before a machine

abbrev pub NoneAbove : List AutoForm → ℕ → Type 0
NoneAbove machines i = (k l : ℕ) (symbols : List ℕ) → k < i → k ≤ l → Share machines k l symbols → ⊥

pub above_more : (machines : List AutoForm) (i : ℕ) → NoneAbove machines i → SharesNone machines i (length machines) → NoneAbove machines (i + 1)
above_more machines i h none k l symbols b c = elim (cases_eq k i) as (λ _. Share machines k l symbols → ⊥) [
  | inl e ↦ λ s.
      let inside = slice_get_within machines l s.other s.other_at in
      none l symbols (omega arith) inside (rw e at s)
  | inr n ↦ h k l symbols (omega arith) c
]

swapped : (machines : List AutoForm) (i j : ℕ) (symbols : List ℕ) → Share machines i j symbols → Share machines j i symbols
swapped machines i j symbols s = record {
  one = s.other;
  other = s.one;
  one_at = s.other_at;
  other_at = s.one_at;
  run = s.other_run;
  other_run = s.run;
  accepts = s.other_accepts;
  other_accepts = s.accepts;
  differ = λ same runs. s.differ (sym same) (sym runs);
}

pub none_at_all : (machines : List AutoForm) (n : ℕ) → NoneAbove machines n → length machines ≤ n → (i j : ℕ) (symbols : List ℕ)
    → Share machines i j symbols → ⊥
none_at_all machines n h l i j symbols s =
    let first = slice_get_within machines i s.one s.one_at in
    let second = slice_get_within machines j s.other s.other_at in
    elim (cases_lt j i) as (λ _. ⊥) [
      | inl b ↦ h j i symbols (omega arith) (omega arith) (swapped machines i j symbols s)
      | inr g ↦ h i j symbols (omega arith) (omega arith) s
    ]

pub first_double : (machines : List AutoForm) (i j : ℕ) (word : List ℕ) → NoneAbove machines i → IsFirstFrom machines i j word → IsFirstDouble machines i j word
first_double machines i j word h f = record {
  order = f.order;
  share = f.share;
  first = λ k l symbols c before. elim before as (λ _. Share machines k l symbols → ⊥) [
    | inl b ↦ h k l symbols b c
    | inr b ↦ λ s. f.first l symbols (let e = b.0 in omega arith) b.1 (rw b.0 at s)
  ];
}

pub none_upto : (machines : List AutoForm) (i j n : ℕ) → SharesNone machines i j → n ≤ j → SharesNone machines i n
none_upto machines i j n h l k symbols a b = h k symbols a (omega arith)

-- an implication between facts carries over to the answers that satisfy the first

pub some_follows : {X E : Type 0} (P Q : X → Type 0) → ((x : X) → P x → Q x) → (r : Result (Option X) E) → IfOk r (λ found. IfSome found P)
    → IfOk r (λ found. IfSome found Q)
some_follows P Q f (Ok (Some x)) h = f x h
some_follows P Q f (Ok None) h = tt
some_follows P Q f (Err e) h = tt

pub none_follows : {X E : Type 0} (P Q : Type 0) → (P → Q) → (r : Result (Option X) E) → IfOk r (λ found. IfNone found P) → IfOk r (λ found. IfNone found Q)
none_follows P Q f (Ok (Some x)) h = tt
none_follows P Q f (Ok None) h = f h
none_follows P Q f (Err e) h = tt
