-- Trees that have a member more: a name that is below the others, and the depth.
use Rattle.std.proofs.Common.{◌≡◌, ◌≤◌, ℕ, List, [], ◌∷◌, Ordering, Less, Equal, Greater, arith}
use Rattle.std.specs.Cmp.Lexicographic.{slice_cmp}
use Rattle.std.specs.List.{AllByRecursion}
use Rattle.std.specs.Ordering.{match_ordering, nat_cmp}
use Rattle.std.proofs.lemmas.Cmp.{nat_list_cmp_total}
use Rattle.serde_json.specs.Data.{Data, Members, no_members, member, put, depth, members_depth}
use Rattle.gs_json.specs.Answers.{names_of_members}

-- a name is below all names of the members
abbrev pub IsBelowAll : List ℕ → Members → Type 0
IsBelowAll k ms = AllByRecursion (λ l. slice_cmp nat_cmp k l ≡ Less) (names_of_members ms)

pub below_trans : (k l : List ℕ) (names : List (List ℕ)) → slice_cmp nat_cmp k l ≡ Less
    → AllByRecursion (λ m. slice_cmp nat_cmp l m ≡ Less) names → AllByRecursion (λ m. slice_cmp nat_cmp k m ≡ Less) names
below_trans k l [] less all = tt
below_trans k l (m ∷ names) less all = (nat_list_cmp_total.trans k l m less all.0, below_trans k l names less all.1)

below_by : (o : Ordering) (l k m : List ℕ) (d e : Data) (ms : Members) → slice_cmp nat_cmp l k ≡ Less → IsBelowAll l (member m e ms)
    → IsBelowAll l (put k d ms) → IsBelowAll l (match_ordering o (member k d (member m e ms)) (member m d ms) (member m e (put k d ms)))
below_by Less l k m d e ms own all more = (own, all)
below_by Equal l k m d e ms own all more = all
below_by Greater l k m d e ms own all more = (all.0, more)

pub below_put : (l k : List ℕ) (d : Data) (ms : Members) → slice_cmp nat_cmp l k ≡ Less → IsBelowAll l ms → IsBelowAll l (put k d ms)
below_put l k d no_members own all = (own, tt)
below_put l k d (member m e ms) own all = below_by (slice_cmp nat_cmp k m) l k m d e ms own all (below_put l k d ms own all.1)

depth_by : (o : Ordering) (n : ℕ) (k l : List ℕ) (d e : Data) (ms : Members) → depth d ≤ n → members_depth (member l e ms) ≤ n
    → members_depth (put k d ms) ≤ n
    → members_depth (match_ordering o (member k d (member l e ms)) (member l d ms) (member l e (put k d ms))) ≤ n
depth_by Less n k l d e ms own all more = omega arith
depth_by Equal n k l d e ms own all more = omega arith
depth_by Greater n k l d e ms own all more = omega arith

pub depth_put : (n : ℕ) (k : List ℕ) (d : Data) (ms : Members) → depth d ≤ n → members_depth ms ≤ n → members_depth (put k d ms) ≤ n
depth_put n k d no_members own all = omega arith
depth_put n k d (member l e ms) own all =
    let rest : members_depth ms ≤ n = omega arith in
    depth_by (slice_cmp nat_cmp k l) n k l d e ms own all (depth_put n k d ms own rest)
