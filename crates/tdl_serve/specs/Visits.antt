-- The connections that a site served, one at a time.
use Rattle.std.specs.Prelude.{◌≡◌, ◌⊎◌, ◌≤◌, ℕ, ◌+◌, ◌-◌, ◌==◌, not, Bool, true, false, List, [], ◌∷◌, ◌++◌, option_map, length, map, take}
use Rattle.std.specs.List.{filter, list_any}
use Rattle.gs_http.specs.declared.connection.Served.{Served}
use Rattle.gs_http.specs.declared.connection.Served.TheVariants.{Done, ReadFault, WriteFault, Memory}
use Rattle.gs_http.specs.declared.replies.Reply.{Reply}
use Rattle.gs_http.specs.ServedStreams.{OnDone, reads_when, writes_when}
use Rattle.gs_chars.specs.Answers.{BeginsWith}
use Rattle.gs_http.specs.Streams.{AreReplies, all_bytes, bytes_of, has_closing, heads_of}
use Rattle.tdl_lines.specs.Printers.{IsInitialPart}
use Rattle.gs_port.specs.Asides.{Finished}
use Rattle.gs_port.specs.States.{ConnState}
use Rattle.gs_http.specs.Sites.{SiteData}
use Rattle.tdl_serve.specs.Sites.{Replied}

-- trusted, own: holds if all was answered
abbrev pub is_done : Served → Bool
is_done Done = true
is_done ReadFault = false
is_done WriteFault = false
is_done Memory = false

-- trusted, own: holds if a read or a write failed
abbrev pub is_error : Served → Bool
is_error Done = false
is_error ReadFault = true
is_error WriteFault = true
is_error Memory = false

-- trusted, own: holds if memory ran out
abbrev pub is_want : Served → Bool
is_want Done = false
is_want ReadFault = false
is_want WriteFault = false
is_want Memory = true

-- trusted, own: a connection that was served and finished: its whole input, how serving it ended, and the listener's record of
-- it
pub record Visit : Type 0 where
  pub input : List ℕ
  pub served : Served
  pub entry : Finished

-- trusted, own: the inputs of connections
abbrev pub inputs_of : List Visit → List (List ℕ)
inputs_of visits = map (λ (visit : Visit). visit.input) visits

-- trusted, own: the listener's records of connections
abbrev pub entries_of : List Visit → List Finished
entries_of visits = map (λ (visit : Visit). visit.entry) visits

-- trusted, own: the number of the connections that ended by an error
abbrev pub errors_of : List Visit → ℕ
errors_of visits = length (filter (λ (visit : Visit). is_error visit.served) visits)

-- trusted, own: holds if memory ran out at one of the connections
abbrev pub wants_memory : List Visit → Bool
wants_memory visits = list_any (λ (visit : Visit). is_want visit.served) visits

-- trusted, the number of bytes is own: Holds if the replies to a number of heads were written, and at most 12,288 bytes were
-- read beyond these heads. If serving was done, the whole input was read, or a reply ends the connection.
pub record ReadsAsAnswered (site : SiteData) (input : List ℕ) (served : Served) (read written : List ℕ) : Type 0 where
  pub replies : List Reply
  pub answered : ℕ
  pub are_replies : AreReplies site.table site.links site.settings 1000 (heads_of 1000 input) replies
  pub front : BeginsWith written (all_bytes (take answered replies))
  pub few : length read ≤ length (bytes_of (take answered (heads_of 1000 input))) + 12288
  pub unread : OnDone served ((read ≡ input) ⊎ (has_closing replies ≡ true))

-- trusted, own: Holds if serving a connection, from the counts `reads` and `writes`, read a prefix of its input. It wrote a
-- prefix of the replies to its whole input, and all of them if serving was done. A count rose if serving ended by an error.
pub record IsVisit (site : SiteData) (reads writes : ℕ) (visit : Visit) : Type 0 where
  pub of_input : IsInitialPart visit.entry.read visit.input
  pub replied : Replied site visit.input (is_done visit.served) visit.entry.written
  pub as_answered : ReadsAsAnswered site visit.input visit.served visit.entry.read visit.entry.written
  pub read_count : visit.entry.reads ≡ reads_when visit.served reads - reads
  pub write_count : visit.entry.writes ≡ writes_when visit.served writes - writes

-- trusted, own: Holds if connections were served one at a time, between two pairs of counts of reads and writes. Each was
-- served from the counts at which the one before it ended.
pub data AreVisits (site : SiteData) : ℕ → ℕ → List Visit → ℕ → ℕ → Type 0 where
  no_visit : (reads writes : ℕ) → AreVisits site reads writes [] reads writes
  one_visit : (reads writes : ℕ) (visit : Visit) (visits : List Visit) (reads' writes' : ℕ) → IsVisit site reads writes visit
      → AreVisits site (reads_when visit.served reads) (writes_when visit.served writes) visits reads' writes' → AreVisits site reads writes (visit ∷ visits) reads' writes'

-- trusted, own: holds if, from `before` to `now`, the first waiting connections were served, in their order, and follow those
-- finished before
pub record Visited (site : SiteData) (before now : ConnState) (visits : List Visit) : Type 0 where
  pub waited : before.aside.waiting ≡ option_map (λ rest. inputs_of visits ++ rest) now.aside.waiting
  pub finished : now.aside.finished ≡ before.aside.finished ++ entries_of visits
  pub are_visits : AreVisits site before.reads before.writes visits now.reads now.writes

-- trusted, own: holds if a count of `entry` rose
abbrev pub has_rise : Finished → Bool
has_rise entry = not (entry.reads + entry.writes == 0)

-- trusted, own: holds if the entries with a rise are those of the connections that ended by an error
abbrev pub RisesTellErrors : List Visit → Type 0
RisesTellErrors visits = map (λ (visit : Visit). has_rise visit.entry) visits ≡ map (λ (visit : Visit). is_error visit.served) visits
