-- Counts of entries.
use Rattle.std.proofs.Common.{◌≡◌, ◌<◌, ◌≤◌, ℕ, ◌+◌, ◌-◌, ◌==◌, max, min, not, List, ◌∷◌, map, refl, ap, ◌∙◌, arith}
use Rattle.std.proofs.Math.Nat.{le-max_left, max-eq_right, min-eq_left}
use Rattle.gs_http.specs.declared.connection.Served.{Served}
use Rattle.gs_http.specs.declared.connection.Served.TheVariants.{Done, ReadFault, WriteFault, Memory}
use Rattle.gs_http.specs.ServedStreams.{reads_when, writes_when}
use Rattle.gs_port.specs.Counts.{last_count}
use Rattle.gs_http.specs.Sites.{SiteData}
use Rattle.tdl_serve.specs.Visits.{AreVisits, RisesTellErrors, Visit, has_rise, is_error, no_visit, one_visit}

below_end : (last count : ℕ) → max count (min (count + 1) last) < last → max count (min (count + 1) last) ≡ count + 1
below_end last count low =
    let kept = le-max_left count (min (count + 1) last) in
    let few : min (count + 1) last ≡ count + 1 = min-eq_left (omega arith) in
    ap (max count) few ∙ max-eq_right (omega arith)

abbrev read_errors : Served → ℕ
read_errors Done = 0
read_errors ReadFault = 1
read_errors WriteFault = 0
read_errors Memory = 0

abbrev write_errors : Served → ℕ
write_errors Done = 0
write_errors ReadFault = 0
write_errors WriteFault = 1
write_errors Memory = 0

one_more : (last count : ℕ) → max count (min (count + 1) last) < last
    → (count ≤ max count (min (count + 1) last)) × (max count (min (count + 1) last) - count ≡ 1)
one_more last count low = let e = below_end last count low in (omega arith, omega arith)

none_more : (count : ℕ) → (count ≤ count) × (count - count ≡ 0)
none_more count = (omega arith, omega arith)

reads_grow : (served : Served) (count : ℕ) → reads_when served count < last_count
    → (count ≤ reads_when served count) × (reads_when served count - count ≡ read_errors served)
reads_grow Done count low = none_more count
reads_grow ReadFault count low = one_more last_count count low
reads_grow WriteFault count low = none_more count
reads_grow Memory count low = none_more count

writes_grow : (served : Served) (count : ℕ) → writes_when served count < last_count
    → (count ≤ writes_when served count) × (writes_when served count - count ≡ write_errors served)
writes_grow Done count low = none_more count
writes_grow ReadFault count low = none_more count
writes_grow WriteFault count low = one_more last_count count low
writes_grow Memory count low = none_more count

error_known : (served : Served) → not (read_errors served + write_errors served == 0) ≡ is_error served
error_known Done = refl
error_known ReadFault = refl
error_known WriteFault = refl
error_known Memory = refl

rise_known : (served : Served) (reads writes : ℕ) → reads ≡ read_errors served → writes ≡ write_errors served → not (reads + writes == 0) ≡ is_error served
rise_known served reads writes r w =
    ap (λ n. not (n + writes == 0)) r ∙ ap (λ n. not (read_errors served + n == 0)) w ∙ error_known served

-- counts that are below their last value at the end did not saturate
pub rises : (site : SiteData) (reads writes reads' writes' : ℕ) (visits : List Visit)
    → AreVisits site reads writes visits reads' writes' → reads' < last_count → writes' < last_count
    → (reads ≤ reads') × (writes ≤ writes') × RisesTellErrors visits
rises site reads writes reads' writes' visits (no_visit _ _) low low' = (omega arith, omega arith, refl)
rises site reads writes reads' writes' visits (one_visit _ _ visit others _ _ is rest) low low' =
    let later = rises site (reads_when visit.served reads) (writes_when visit.served writes) reads' writes' others rest low low' in
    let to_reads : reads_when visit.served reads ≤ reads' = later.0 in
    let to_writes : writes_when visit.served writes ≤ writes' = later.1 in
    let r = reads_grow visit.served reads (below to_reads low) in
    let w = writes_grow visit.served writes (below to_writes low') in
    let first : has_rise visit.entry ≡ is_error visit.served = rise_known visit.served visit.entry.reads visit.entry.writes (is.read_count ∙ r.1) (is.write_count ∙ w.1) in (
      up_to r.0 to_reads,
      up_to w.0 to_writes,
      ap (λ b. b ∷ map (λ (v : Visit). has_rise v.entry) others) first ∙ ap (λ bs. is_error visit.served ∷ bs) later.2,
    )
  where
    below : {a b c : ℕ} → a ≤ b → b < c → a < c
    below p q = omega arith

    up_to : {a b c : ℕ} → a ≤ b → b ≤ c → a ≤ c
    up_to p q = omega arith
