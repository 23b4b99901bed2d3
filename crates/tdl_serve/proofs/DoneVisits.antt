-- Each connection can be served so that all its replies are written.
use Rattle.std.proofs.Common.{◌≡◌, ◌<◌, ℕ, zero, suc, ◌+◌, ◌-◌, ◌==◌, Bool, true, false, List, [], ◌∷◌, ◌++◌, length, take, Some, refl, sym, ap, ◌∙◌, subst, inl, inr, arith, append-nil, take-append-drop}
use Rattle.std.specs.Prelude.{Option, None, ⊤}
use Rattle.std.proofs.lemmas.Bool.{false≢true}
use Rattle.std.proofs.lemmas.List.{length-take, take_all}
use Rattle.std.proofs.Math.Seq.{take-length}
use Rattle.gs_ai.specs.declared.row.AiRow.{AiRow}
use Rattle.gs_chars.proofs.TruthsAndLists.{or_first, or_second}
use Rattle.gs_links.specs.declared.link.Link.{Link}
use Rattle.gs_http.specs.declared.connection.Served.TheVariants.{Done}
use Rattle.gs_http.specs.declared.replies.Reply.{Reply}
use Rattle.gs_http.specs.declared.resolver.Settings.{Settings}
use Rattle.gs_http.specs.Streams.{AreReplies, Front, all_bytes, bytes_of, cut_at, ended, front_of, has_closing, head_end, headed, headless, heads_of, replies_of, with_front}
use Rattle.gs_http.proofs.Connections.{none_closes, stays_before_last}
use Rattle.gs_http.proofs.StreamLaws.{replies_append, some_replies}
use Rattle.gs_http.specs.Sites.{SiteData}
use Rattle.tdl_serve.specs.Visits.{IsVisit, ReadsAsAnswered, Visit}

-- ---- a stream without a reply that ends the connection

abbrev IsFrontOf : List ℕ → Front → Type 0
IsFrontOf stream ended = stream ≡ []
IsFrontOf stream (headed head rest) = stream ≡ head ++ rest
IsFrontOf stream headless = ⊤

cut_is : (stream : List ℕ) (place : Option ℕ) → IsFrontOf stream (cut_at stream place)
cut_is stream None = tt
cut_is stream (Some place) = sym (take-append-drop place stream)

is_front : (stream : List ℕ) → IsFrontOf stream (front_of stream)
unfolding front_of
is_front [] = refl
is_front (c ∷ stream) = cut_is (c ∷ stream) (head_end (take 8192 (c ∷ stream)))

some_more : (n : ℕ) → (suc n == 1) ≡ false → 0 < n
some_more zero e = absurd (false≢true (sym e))
some_more (suc n) e = omega arith

module _ (table : List AiRow) (links : List Link) (settings : Settings) where
  -- all of such a stream is heads
  read_to_end : (n : ℕ) (stream : List ℕ) (replies : List Reply) → 0 < n → AreReplies table links settings n (heads_of n stream) replies
      → has_closing replies ≡ false → bytes_of (heads_of n stream) ≡ stream
  read_to_end zero stream replies low are stay = absurd (omega arith)
  read_to_end (suc n) stream replies low are stay = by (read_to_end n) (front_of stream) (is_front stream) replies are stay
    where
      by : ((rest : List ℕ) (replies : List Reply) → 0 < n → AreReplies table links settings n (heads_of n rest) replies → has_closing replies ≡ false → bytes_of (heads_of n rest) ≡ rest)
          → (front : Front) → IsFrontOf stream front → (replies : List Reply) → AreReplies table links settings (suc n)
          (with_front front (heads_of n)) replies → has_closing replies ≡ false
          → bytes_of (with_front front (heads_of n)) ≡ stream
      by later ended is replies are stay = sym is
      by later headless is [] are stay = absurd are
      by later headless is (reply ∷ replies) are stay =
          absurd (false≢true (sym (or_first reply.close (has_closing replies) stay) ∙ none_closes table links settings (suc n == 1) reply are.0))
      by later (headed head rest) is [] are stay = absurd are
      by later (headed head rest) is (reply ∷ replies) are stay =
          let more = some_more n (stays_before_last table links settings head (suc n == 1) reply are.0 (or_first reply.close (has_closing replies) stay)) in
          let one_less : suc n - 1 ≡ n = omega arith in
          let others : AreReplies table links settings n (heads_of n rest) replies = subst (λ (m : ℕ). AreReplies table links settings m (heads_of n rest) replies) one_less are.1 in
          ap (λ bytes. head ++ bytes) (later rest replies more others (or_second reply.close (has_closing replies) stay)) ∙ sym is

-- ---- the visit

-- all of the input, unless a reply ends the connection
pub done_read : Bool → List ℕ → List ℕ
done_read true input = take 12288 input
done_read false input = input

of_done_read : (closing : Bool) (input : List ℕ) → (n : ℕ) × (done_read closing input ≡ take n input)
unfolding done_read
of_done_read true input = (12288, refl)
of_done_read false input = (length input, sym (take-length input))

done_as_answered : (site : SiteData) (input : List ℕ) (replies : List Reply)
    → AreReplies site.table site.links site.settings 1000 (heads_of 1000 input) replies → (closing : Bool) → has_closing replies ≡ closing
    → ReadsAsAnswered site input Done (done_read closing input) (replies_of replies)
unfolding done_read
done_as_answered site input replies are true e = record {
  replies = replies;
  answered = 0;
  are_replies = are;
  front = (replies_of replies, refl);
  few = let few = length-take 12288 input in omega arith;
  unread = inr e;
}
done_as_answered site input replies are false e =
    let heads = heads_of 1000 input in
    let all = length heads + length replies in
    let whole : bytes_of (take all heads) ≡ input = ap bytes_of (take_all all heads (omega arith)) ∙ read_to_end site.table site.links site.settings 1000 input replies (omega arith) are e in
    record {
      replies = replies;
      answered = all;
      are_replies = are;
      front = ([], ap replies_of (sym (append-nil replies)) ∙ replies_append replies [] e ∙ ap (λ some. all_bytes some ++ []) (sym (take_all all replies (omega arith))));
      few = let same = ap length whole in omega arith;
      unread = inl refl;
    }

-- a connection to which all replies were written
unfoldable pub done_visit : SiteData → List ℕ → Visit
done_visit site input =
    let r = some_replies site.table site.links site.settings 1000 (heads_of 1000 input) in
    record { input = input; served = Done; entry = record { read = done_read (has_closing r.0) input; written = replies_of r.0; reads = 0; writes = 0 } }

pub is_done_visit : (site : SiteData) (reads writes : ℕ) (input : List ℕ) → IsVisit site reads writes (done_visit site input)
unfolding done_visit
is_done_visit site reads writes input =
    let r = some_replies site.table site.links site.settings 1000 (heads_of 1000 input) in
    record {
      of_input = of_done_read (has_closing r.0) input;
      replied = record {
        replies = replies_of r.0;
        are_replies = record { replies = r.0; are_replies = r.1; is_output = refl };
        begun = (length (replies_of r.0), sym (take-length (replies_of r.0)));
        all = refl;
      };
      as_answered = done_as_answered site input r.0 r.1 (has_closing r.0) refl;
      read_count = omega arith;
      write_count = omega arith;
    }
