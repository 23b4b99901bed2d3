-- How a connection is served: the bytes read from it and written to it, turn by turn and in all.
use Rattle.std.specs.Prelude.{◌≡◌, ◌⊎◌, ◌≤◌, ⊤, ℕ, ◌+◌, true, List, [], ◌++◌, length, take, IfSome}
use Rattle.gs_ai.specs.declared.row.AiRow.{AiRow}
use Rattle.gs_links.specs.declared.link.Link.{Link}
use Rattle.gs_port.specs.Contents.{prepend_known}
use Rattle.gs_port.specs.Counts.{counted}
use Rattle.gs_port.specs.States.{ConnState}
use Rattle.gs_http.specs.declared.connection.Served.{Served}
use Rattle.gs_http.specs.declared.connection.Served.TheVariants.{Done, ReadFault, WriteFault, Memory}
use Rattle.gs_http.specs.declared.replies.Reply.{Reply}
use Rattle.gs_http.specs.declared.resolver.Settings.{Settings}
use Rattle.gs_chars.specs.Answers.{BeginsWith}
use Rattle.gs_http.specs.Streams.{AreReplies, all_bytes, bytes_of, has_closing, heads_of, replies_of}

-- ---- counts

-- trusted, own: the count of the reads that failed, by how serving ended
abbrev pub reads_when : Served → ℕ → ℕ
reads_when Done count = count
reads_when ReadFault count = counted count
reads_when WriteFault count = count
reads_when Memory count = count

-- trusted, own: the count of the writes that failed
abbrev pub writes_when : Served → ℕ → ℕ
writes_when Done count = count
writes_when ReadFault count = count
writes_when WriteFault count = counted count
writes_when Memory count = count

-- trusted, own: the connection after it was served: the bytes left, read and written are those now, and a failed read or write
-- is counted
abbrev pub after_serving : Served → ConnState → ConnState → ConnState
after_serving served now before = record before {
  left = now.left;
  taken = now.taken;
  held = now.held;
  reads = reads_when served before.reads;
  writes = writes_when served before.writes;
}

-- ---- a whole connection

-- trusted, own: holds if the connection was not served whole, or `fact` holds
abbrev pub OnDone : Served → Type 0 → Type 0
OnDone Done fact = fact
OnDone ReadFault fact = ⊤
OnDone WriteFault fact = ⊤
OnDone Memory fact = ⊤

-- trusted, own: Holds if serving a connection with at most `most` replies read and wrote these bytes. `rest` is the bytes left to
-- read, if they are known.
pub record IsServed (most : ℕ) (table : List AiRow) (links : List Link) (settings : Settings) (served : Served) (before now : ConnState) : Type 0 where
  pub read : List ℕ
  pub written : List ℕ
  pub rest : List ℕ
  pub replies : List Reply
  pub answered : ℕ
  pub moved : before.left ≡ prepend_known read now.left
  pub took : now.taken ≡ before.taken ++ read
  pub wrote : now.held ≡ before.held ++ written
  pub is_rest : IfSome now.left (λ bytes. bytes ≡ rest)
  -- the replies are those of the stream, however it was cut
  pub are_replies : AreReplies table links settings most (heads_of most (read ++ rest)) replies
  -- The written bytes are a prefix of the replies up to the first that ends the connection. If the call is done, they are all,
  -- and nothing is left to read or one ends the connection.
  pub begun : BeginsWith (replies_of replies) written
  pub whole : OnDone served ((written ≡ replies_of replies) × ((rest ≡ []) ⊎ (has_closing replies ≡ true)))
  -- of that many heads the replies were written, and at most 12,288 bytes were read beyond these heads
  pub front : BeginsWith written (all_bytes (take answered replies))
  pub few : length read ≤ length (bytes_of (take answered (heads_of most (read ++ rest)))) + 12288
