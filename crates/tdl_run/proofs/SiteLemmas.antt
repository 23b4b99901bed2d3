-- The replies to a stream, and the effect of resolving it.
use Rattle.std.proofs.Common.{◌≡◌, ℕ, true, false, List, [], Option, None, Some, refl, sym, ◌∙◌, ap}
use Rattle.gs_http.specs.Streams.{heads_of, replies_of}
use Rattle.gs_http.proofs.StreamLaws.{one_replies, some_replies}
use Rattle.tdl_lines.specs.declared.status.Status.{Status}
use Rattle.tdl_lines.specs.declared.status.Status.TheVariants as status
use Rattle.tdl_lines.specs.Inputs.{IsKnown}
use Rattle.tdl_lines.specs.Statuses.{is_status}
use Rattle.gs_port.specs.Counts.{count_if}
use Rattle.tdl_serve.specs.Resolutions.{Resolved, Resolves}
use Rattle.gs_http.specs.Sites.{SiteData}
use Rattle.tdl_serve.specs.Sites.{AreSiteReplies}
use Rattle.gs_translate.specs.StepsSupport.{HasOne, HasSome}
use Rattle.tdl_arguments.specs.declared.command.Command.TheVariants.{Resolve}
use Rattle.tdl_arguments.specs.Requests.{Values}
use Rattle.tdl_loads.specs.declared.loads.Loaded.{Loaded}
use Rattle.tdl_run.specs.CommandRuns.{BeginsOne, CutShort}
use Rattle.tdl_run.specs.RanSupport.{CommandLeft, Ends}
use Rattle.tdl_run.specs.Works.{LeavesOutput, outcome_of, site_of}
use Rattle.tdl_run.proofs.RanLemmas.{never_falls, rises_if}

-- ---- a stream has one answer

pub some_replies_of_site : (site : SiteData) (stream : List ℕ) → HasSome (AreSiteReplies site stream)
some_replies_of_site site stream =
    let r = some_replies site.table site.links site.settings 1000 (heads_of 1000 stream) in
    (replies_of r.0, record { replies = r.0; are_replies = r.1; is_output = refl })

pub one_replies_of_site : (site : SiteData) (stream : List ℕ) → HasOne (AreSiteReplies site stream)
one_replies_of_site site stream one other a b =
    let same = one_replies site.table site.links site.settings 1000 (heads_of 1000 stream) a.replies b.replies a.are_replies b.are_replies in
    a.is_output ∙ ap replies_of same ∙ sym b.is_output

-- some bytes of an input
stream_of : (input : Option (List ℕ)) → (stream : List ℕ) × IsKnown input stream
stream_of None = ([], tt)
stream_of (Some bytes) = (bytes, refl)

pub some_resolved : (site : SiteData) (input : Option (List ℕ)) → HasSome (Resolves site input)
some_resolved site input =
    let s = stream_of input in
    let r = some_replies_of_site site s.0 in
    (r.0, record { stream = s.0; is_stream = s.1; are_replies = r.1 })

pub one_resolved : (site : SiteData) (input : List ℕ) → HasOne (Resolves site (Some input))
one_resolved site input one other a b =
    let same : a.stream ≡ b.stream = a.is_stream ∙ sym b.is_stream in
    let moved : AreSiteReplies site a.stream other = rw same b.are_replies in
    one_replies_of_site site a.stream one other a.are_replies moved

-- ---- the command

-- the whole replies; the output is a prefix of them
replies_begin : (site : SiteData) (input : Option (List ℕ)) (output : List ℕ) (s : Status) → Resolved site input output s
    → BeginsOne (LeavesOutput (Resolves site input)) output
replies_begin site input output s r =
    let replied = r.replied in
    record {
      outcome = outcome_of replied.replies status.Done;
      is = record { is_output = record { stream = r.stream; is_stream = r.is_stream; are_replies = replied.are_replies }; none_finished = refl; done = refl };
      begins = replied.begun;
    }

replies_cut : (site : SiteData) (input : Option (List ℕ)) (output : List ℕ) → Resolved site input output status.WriteFault
    → CutShort (LeavesOutput (Resolves site input)) (outcome_of output status.WriteFault)
unfolding replies_begin
replies_cut site input output r =
    let b = replies_begin site input output status.WriteFault r in
    record { outcome = b.outcome; is = b.is; begins = b.begins; same_finished = refl }

replies_whole : (site : SiteData) (input : Option (List ℕ)) (output : List ℕ) → Resolved site input output status.Done
    → LeavesOutput (Resolves site input) (outcome_of output status.Done)
replies_whole site input output r =
    let replied = r.replied in
    let all : output ≡ replied.replies = replied.all in
    let are : AreSiteReplies site r.stream output = rw all replied.are_replies in
    record { is_output = record { stream = r.stream; is_stream = r.is_stream; are_replies = are }; none_finished = refl; done = refl }

-- no command that answers lines
pub no_lines : {fact : Type 0} → false ≡ true → fact
no_lines e = absurd (let f : false ≡ true = e in cc)

module _ (loaded : Loaded) (values : Values) (before now : Ends) (output : List ℕ) where
  pub resolve_ran : (s : Status) → Resolved (site_of loaded) before.input.left output s
      → now.input.errors ≡ count_if (is_status s status.ReadFault) before.input.errors → CommandLeft Resolve values loaded before now (outcome_of output s)
  resolve_ran status.Done r count = record { written = replies_whole (site_of loaded) before.input.left output r; begun = tt; finished = tt; cut = tt; read_error = tt; ended = tt; to_end = λ e. no_lines e; long = tt; few = λ e. no_lines e; input_counts = never_falls false _ _ count; no_usage = λ e. cc; no_rejection = λ e. cc }
  resolve_ran status.ReadFault r count = record { written = tt; begun = replies_begin (site_of loaded) before.input.left output status.ReadFault r; finished = refl; cut = tt; read_error = rises_if true _ _ count; ended = r; to_end = tt; long = tt; few = λ e. no_lines e; input_counts = never_falls true _ _ count; no_usage = λ e. cc; no_rejection = λ e. cc }
  resolve_ran status.WriteFault r count = record { written = tt; begun = replies_begin (site_of loaded) before.input.left output status.WriteFault r; finished = refl; cut = replies_cut (site_of loaded) before.input.left output r; read_error = tt; ended = tt; to_end = tt; long = tt; few = λ e. no_lines e; input_counts = never_falls false _ _ count; no_usage = λ e. cc; no_rejection = λ e. cc }
  resolve_ran status.Memory r count = record { written = tt; begun = replies_begin (site_of loaded) before.input.left output status.Memory r; finished = refl; cut = tt; read_error = tt; ended = tt; to_end = tt; long = tt; few = λ e. no_lines e; input_counts = never_falls false _ _ count; no_usage = λ e. cc; no_rejection = λ e. cc }
  resolve_ran status.SomeRefused r count = absurd (let e : status.SomeRefused ≡ status.Done = r.done in cc)
  resolve_ran status.Usage r count = absurd (let e : status.Usage ≡ status.Done = r.done in cc)
  resolve_ran status.Refused r count = absurd (let e : status.Refused ≡ status.Done = r.done in cc)
  resolve_ran status.InputLong r count = absurd (let e : status.InputLong ≡ status.Done = r.done in cc)
