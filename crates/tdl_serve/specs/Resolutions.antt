-- Streams that were answered.
use Rattle.std.specs.Prelude.{◌≡◌, ℕ, true, List, None, Option}
use Rattle.std.specs.Bool.{OnTrue}
use Rattle.gs_http.specs.declared.connection.Served.{Served}
use Rattle.gs_http.specs.declared.connection.Served.TheVariants as served
use Rattle.gs_http.specs.ServedStreams.{IsServed}
use Rattle.tdl_lines.specs.declared.status.Status.{Status}
use Rattle.tdl_lines.specs.declared.status.Status.TheVariants.{Done, ReadFault, WriteFault, Memory}
use Rattle.tdl_lines.specs.Inputs.{IsKnown}
use Rattle.tdl_lines.specs.Statuses.{is_written}
use Rattle.gs_port.specs.Asides.{no_aside}
use Rattle.gs_port.specs.States.{ConnState, SinkState, SourceState}
use Rattle.gs_http.specs.Sites.{SiteData}
use Rattle.tdl_serve.specs.Sites.{AreSiteReplies, Replied}

-- trusted, own: holds if `output` is the replies of the site to the input, or to some input if it is unknown
pub record Resolves (site : SiteData) (input : Option (List ℕ)) (output : List ℕ) : Type 0 where
  pub stream : List ℕ
  pub is_stream : IsKnown input stream
  pub are_replies : AreSiteReplies site stream output

-- trusted, own: holds if `output` is the replies of the site to the whole input with `Done`, or a prefix of them with another status
pub record Resolved (site : SiteData) (input : Option (List ℕ)) (output : List ℕ) (status : Status) : Type 0 where
  pub stream : List ℕ
  pub is_stream : IsKnown input stream
  pub replied : Replied site stream (is_written status) output
  pub done : OnTrue (is_written status) (status ≡ Done)

-- trusted, own: the status of a stream, by how serving it ended
abbrev pub status_of : Served → Status
status_of served.Done = Done
status_of served.ReadFault = ReadFault
status_of served.WriteFault = WriteFault
status_of served.Memory = Memory

-- trusted, own: an input and an output as a connection: what is left of the input, what its reads moved, and what the output took
abbrev pub stream_of : SourceState → SinkState → ConnState
stream_of input output =
    record { ends = None; is_open = true; left = input.left; taken = input.moved; held = output.held; reads = 0; writes = 0; aside = no_aside }

-- trusted, own: holds if the stream was served as a connection is, with `status`
pub record StreamServed (site : SiteData) (status : Status) (before now : ConnState) : Type 0 where
  pub served : Served
  pub has_status : status ≡ status_of served
  pub is_served : IsServed 1000 site.table site.links site.settings served before now
