-- The output for a stream.
use Rattle.std.proofs.Common.{◌≡◌, ℕ, List, [], ◌++◌, append-nil, inl, inr, Option, Some, None, take, length, refl, sym, ap, ◌∙◌, subst}
use Rattle.std.specs.Prelude.{◌⊎◌, IfSome}
use Rattle.std.specs.Bool.{OnTrue}
use Rattle.std.proofs.Math.Seq.{take-append_seam}
use Rattle.gs_http.specs.declared.connection.Served.{Served}
use Rattle.gs_http.specs.declared.connection.Served.TheVariants as served
use Rattle.gs_http.specs.ServedStreams.{IsServed, OnDone, after_serving, writes_when}
use Rattle.gs_http.specs.Sites.{SiteData}
use Rattle.gs_http.specs.Streams.{replies_of}
use Rattle.gs_port.specs.Contents.{prepend_known}
use Rattle.gs_port.specs.Counts.{count_if}
use Rattle.gs_port.specs.Outputs.{Writes, written_to}
use Rattle.gs_port.specs.States.{ConnState, SinkState}
use Rattle.tdl_lines.specs.declared.status.Status.TheVariants.{Done, WriteFault}
use Rattle.tdl_lines.specs.Inputs.{IsKnown}
use Rattle.tdl_lines.specs.Printers.{IsInitialPart}
use Rattle.tdl_lines.specs.Statuses.{is_status, is_written}
use Rattle.tdl_serve.specs.Resolutions.{Resolved, status_of}
use Rattle.tdl_serve.specs.Sites.{Replied}
use Rattle.tdl_serve.specs.Visits.{ReadsAsAnswered, is_done}

-- a prefix is a prefix
pub front_is_part : (front rest : List ℕ) → IsInitialPart front (front ++ rest)
front_is_part front rest = (length front, sym (take-append_seam front rest))

-- the read bytes and the rest are the rest before
pub known_whole : (left left' : Option (List ℕ)) (read rest : List ℕ) → left ≡ prepend_known read left'
    → IfSome left' (λ bytes. bytes ≡ rest) → IsKnown left (read ++ rest)
known_whole left None read rest moved is = subst (λ known. IsKnown known (read ++ rest)) (sym moved) tt
known_whole left (Some bytes) read rest moved is = subst (λ known. IsKnown known (read ++ rest)) (sym moved) (ap (λ more. read ++ more) (sym is))

when_done : (served : Served) (A B : Type 0) → OnDone served (A × B) → OnTrue (is_done served) A
when_done served.Done A B both = both.0
when_done served.ReadFault A B both = tt
when_done served.WriteFault A B both = tt
when_done served.Memory A B both = tt

-- a prefix of the replies to the whole stream was written, and all of these if serving was done
pub replied : (site : SiteData) (served : Served) (before now : ConnState)
    → (is : IsServed 1000 site.table site.links site.settings served before now)
    → Replied site (is.read ++ is.rest) (is_done served) is.written
replied site served before now is = record {
  replies = replies_of is.replies;
  are_replies = record { replies = is.replies; are_replies = is.are_replies; is_output = refl };
  begun = (length is.written, sym (take-append_seam is.written is.begun.0) ∙ ap (take (length is.written)) (sym is.begun.1));
  all = when_done served _ _ is.whole;
}

unread : (served : Served) (read rest : List ℕ) (written closing : Type 0) → OnDone served (written × ((rest ≡ []) ⊎ closing))
    → OnDone served ((read ≡ read ++ rest) ⊎ closing)
unread served.Done read rest written closing both = elim both.1 [
  | inl none ↦ inl (sym (append-nil read) ∙ ap (λ more. read ++ more) (sym none))
  | inr closes ↦ inr closes
]
unread served.ReadFault read rest written closing both = tt
unread served.WriteFault read rest written closing both = tt
unread served.Memory read rest written closing both = tt

-- the replies of that many heads were written, and little was read beyond these
pub as_answered : (site : SiteData) (served : Served) (before now : ConnState)
    → (is : IsServed 1000 site.table site.links site.settings served before now)
    → ReadsAsAnswered site (is.read ++ is.rest) served is.read is.written
as_answered site served before now is = record {
  replies = is.replies;
  answered = is.answered;
  are_replies = is.are_replies;
  front = is.front;
  few = is.few;
  unread = unread served is.read is.rest _ _ is.whole;
}

same_when : (served : Served) → is_done served ≡ is_written (status_of served)
same_when served.Done = refl
same_when served.ReadFault = refl
same_when served.WriteFault = refl
same_when served.Memory = refl

done_when : (served : Served) → OnTrue (is_written (status_of served)) (status_of served ≡ Done)
done_when served.Done = refl
done_when served.ReadFault = tt
done_when served.WriteFault = tt
done_when served.Memory = tt

write_counted : (served : Served) (count : ℕ) → writes_when served count ≡ count_if (is_status (status_of served) WriteFault) count
write_counted served.Done count = refl
write_counted served.ReadFault count = refl
write_counted served.WriteFault count = refl
write_counted served.Memory count = refl

-- the sink that a connection writes to
abbrev pub sink_of : ConnState → SinkState
sink_of conn = record { held = conn.held; errors = conn.writes }

module _ (site : SiteData) (served : Served) (before now : ConnState)
    (is : IsServed 1000 site.table site.links site.settings served before now) (rest : now ≡ after_serving served now before) where
  -- the output for a stream that was served
  pub resolved : Writes (is_status (status_of served) WriteFault) (sink_of before) (sink_of now) (λ output. Resolved site before.left output (status_of served))
  resolved =
      let errors : now.writes ≡ count_if (is_status (status_of served) WriteFault) before.writes = ap (λ (c : ConnState). c.writes) rest ∙ write_counted served before.writes in (
        is.written,
        ap (λ held. record { held = held; errors = now.writes }) is.wrote ∙ ap (λ n. record { held = before.held ++ is.written; errors = n }) errors,
        record {
          stream = is.read ++ is.rest;
          is_stream = known_whole before.left now.left is.read is.rest is.moved is.is_rest;
          replied = subst (λ whole. Replied site (is.read ++ is.rest) whole is.written) (same_when served) (replied site served before now is);
          done = done_when served;
        },
      )

  -- the same, for an input and a sink that are these ends of the connection
  pub resolved_to : (left : Option (List ℕ)) (output output' : SinkState) → before.left ≡ left → sink_of before ≡ output → sink_of now ≡ output'
      → Writes (is_status (status_of served) WriteFault) output output' (λ out. Resolved site left out (status_of served))
  resolved_to left output output' of_input of_output of_output' =
      let w = resolved in (
        w.0,
        sym of_output' ∙ w.1 ∙ ap (λ sink. written_to sink w.0 (is_status (status_of served) WriteFault)) of_output,
        subst (λ known. Resolved site known w.0 (status_of served)) of_input w.2,
      )
