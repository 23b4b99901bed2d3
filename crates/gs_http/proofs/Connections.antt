-- The joint effect of the turns of serving a connection.
use Rattle.std.proofs.Common.{◌≡◌, ◌<◌, ◌≤◌, ℕ, suc, ◌+◌, ◌-◌, ◌==◌, if◌then◌else◌, Bool, true, false, List, [], ◌∷◌, ◌++◌, length, take, drop, Option, Some, None, refl, sym, ap, ◌∙◌, subst, arith, inl, inr, append-nil, append_assoc, length-append, take-append-drop}
use Rattle.std.specs.Prelude.{◌⊎◌, IfSome}
use Rattle.std.proofs.Math.Seq.{take-append_seam}
use Rattle.std.proofs.lemmas.Bool.{cases_order, eq-eqb, false≢true, ne_eqb}
use Rattle.gs_ai.specs.declared.row.AiRow.{AiRow}
use Rattle.gs_chars.proofs.TruthsAndLists.{or_first}
use Rattle.gs_links.specs.declared.link.Link.{Link}
use Rattle.gs_port.specs.Contents.{prepend_known, prepend_nothing, prepend_twice}
use Rattle.gs_port.specs.Counts.{count_if}
use Rattle.gs_port.specs.States.{ConnState}
use Rattle.gs_http.specs.declared.buffer.Filled.TheVariants as filled
use Rattle.gs_http.specs.declared.buffer.Filled.{Filled}
use Rattle.gs_http.specs.declared.connection.Served.{Served}
use Rattle.gs_http.specs.declared.connection.Served.TheVariants.{Done, ReadFault, WriteFault, Memory}
use Rattle.gs_http.specs.declared.replies.Reply.{Reply}
use Rattle.gs_http.specs.declared.resolver.Settings.{Settings}
use Rattle.gs_http.specs.ConnectedSupport.{Begins, Fetches, NothingLeft, is_failed, sent_to}
use Rattle.gs_http.specs.Heads.{Asked}
use Rattle.gs_http.specs.Replies.{reply_of}
use Rattle.gs_http.specs.Turns.{Delivers, Outcome, Turned}
use Rattle.gs_http.specs.ServedStreams.{IsServed, OnDone, after_serving}
use Rattle.gs_chars.specs.Answers.{BeginsWith}
use Rattle.gs_http.specs.Streams.{AreReplies, IsReplyTo, all_bytes, bytes_of, front_of, has_closing, head_end, headless, heads_of, replies_of, with_front}
use Rattle.gs_http.proofs.Readings.{sent_nothing}
use Rattle.gs_http.proofs.Fronts.{front_cut, front_ended, front_full, front_head}
use Rattle.gs_http.proofs.StreamLaws.{all_append, are_append, bytes_append, closing_append, replies_append, some_replies}

-- the bytes left, and no bytes if they are not known
abbrev pub rest_of : Option (List ℕ) → List ℕ
rest_of None = []
rest_of (Some rest) = rest

rest_is : (left : Option (List ℕ)) → IfSome left (λ bytes. bytes ≡ rest_of left)
rest_is None = tt
rest_is (Some rest) = refl

nothing_left : (left : Option (List ℕ)) → NothingLeft left → rest_of left ≡ []
nothing_left None h = refl
nothing_left (Some rest) h = h

-- ---- the heads of the bytes left

one_more : (n i : ℕ) → i < n → n - i ≡ suc (n - (i + 1))
one_more n i low = omega arith

heads_ended : (n i : ℕ) (stream : List ℕ) → i < n → stream ≡ [] → heads_of (n - i) stream ≡ []
heads_ended n i stream low e =
    ap (λ s. heads_of (n - i) s) e ∙ ap (λ k. heads_of k []) (one_more n i low) ∙ ap (λ front. with_front front (heads_of (n - (i + 1)))) front_ended

heads_headed : (n i : ℕ) (held more : List ℕ) (len : ℕ) → i < n → head_end (take 8192 held) ≡ Some len
    → heads_of (n - i) (held ++ more) ≡ Some (take len held) ∷ heads_of (n - (i + 1)) (drop len held ++ more)
heads_headed n i held more len low e =
    ap (λ k. heads_of k (held ++ more)) (one_more n i low) ∙ ap (λ front. with_front front (heads_of (n - (i + 1)))) (front_head held more len e)

no_more_heads : (n i : ℕ) (stream : List ℕ) → i < n → front_of stream ≡ headless → heads_of (n - i) stream ≡ None ∷ []
no_more_heads n i stream low e =
    ap (λ k. heads_of k stream) (one_more n i low) ∙ ap (λ front. with_front front (heads_of (n - (i + 1)))) e

heads_headless : (n i : ℕ) (held : List ℕ) (left : Option (List ℕ)) → i < n → Begins filled.Headless held left
    → heads_of (n - i) (held ++ rest_of left) ≡ None ∷ []
heads_headless n i held left low begins = elim begins.1 [
  | inl many ↦ no_more_heads n i (held ++ rest_of left) low (front_full held (rest_of left) begins.0 many)
  | inr cut ↦
      let e : held ++ rest_of left ≡ held = ap (λ rest. held ++ rest) (nothing_left left cut.1) ∙ append-nil held in
      no_more_heads n i (held ++ rest_of left) low (ap front_of e ∙ front_cut held begins.0 cut.0)
]

-- ---- replies that end the connection

module _ (table : List AiRow) (links : List Link) (settings : Settings) where
  pub none_closes : (last : Bool) (reply : Reply) → IsReplyTo table links settings None last reply → reply.close ≡ true
  unfolding reply_of
  none_closes last reply e = ap (λ (r : Reply). r.close) e

  says_last : (asked : Option Asked) (last : Bool) → (reply_of table links settings asked last).close ≡ false → last ≡ false
  unfolding reply_of
  says_last None last e = absurd (false≢true (sym e))
  says_last (Some asked) last e = or_first last _ e

  -- a reply after which the connection stays is not the last that may come
  pub stays_before_last : (head : List ℕ) (last : Bool) (reply : Reply) → IsReplyTo table links settings (Some head) last reply
      → reply.close ≡ false → last ≡ false
  stays_before_last head last reply is stays = says_last is.asked last (sym (ap (λ (r : Reply). r.close) is.is_reply) ∙ stays)

  -- ---- the turns so far

  -- the connection with the bytes left, read and written as they are now, and one more failed read if one was counted
  abbrev pub moved_on : Bool → ConnState → ConnState → ConnState
  moved_on errored now before = record before { left = now.left; taken = now.taken; held = now.held; reads = count_if errored before.reads }

  -- That many heads of a stream were answered, and the bytes were read after them. A failed read was counted or none.
  pub record SoFar (errored : Bool) (n i : ℕ) (bytes : List ℕ) (before now : ConnState) : Type 0 where
    pub heads : List (Option (List ℕ))
    pub replies : List Reply
    pub count : length heads ≡ i
    pub matched : length replies ≡ i
    pub are : AreReplies table links settings n heads replies
    pub stay : has_closing replies ≡ false
    pub moved : before.left ≡ prepend_known (bytes_of heads ++ bytes) now.left
    pub took : now.taken ≡ before.taken ++ (bytes_of heads ++ bytes)
    pub wrote : now.held ≡ before.held ++ (all_bytes replies)
    pub rest : now ≡ moved_on errored now before
    pub cut : (more : List ℕ) → heads_of n ((bytes_of heads ++ bytes) ++ more) ≡ heads ++ heads_of (n - i) (bytes ++ more)
    pub few : length bytes ≤ 12287

  pub at_start : (n : ℕ) (conn : ConnState) → SoFar false n 0 [] conn conn
  at_start n conn = record {
    heads = [];
    replies = [];
    count = refl;
    matched = refl;
    are = tt;
    stay = refl;
    moved = sym (prepend_nothing conn.left);
    took = sym (append-nil conn.taken);
    wrote = sym (append-nil conn.held);
    rest = refl;
    cut = λ more. let e : n ≡ n - 0 = omega arith in ap (λ k. heads_of k more) e;
    few = omega arith;
  }

  -- more was read after the heads
  more_read : (errored : Bool) (n i : ℕ) (bytes grown : List ℕ) (first before now : ConnState) → SoFar false n i bytes first before
      → Fetches bytes grown errored before now → length grown ≤ 12287 → SoFar errored n i grown first now
  more_read errored n i bytes grown first before now x r few =
      let all : (bytes_of x.heads ++ bytes) ++ r.bytes ≡ bytes_of x.heads ++ grown =
      append_assoc (bytes_of x.heads) bytes r.bytes ∙ ap (λ more. bytes_of x.heads ++ more) (sym r.grown) in
      record {
        heads = x.heads;
        replies = x.replies;
        count = x.count;
        matched = x.matched;
        are = x.are;
        stay = x.stay;
        moved = x.moved ∙ ap (prepend_known (bytes_of x.heads ++ bytes)) r.moved ∙ prepend_twice
            (bytes_of x.heads ++ bytes) r.bytes now.left ∙ ap (λ front. prepend_known front now.left) all;
        took = ap (λ (s : ConnState). s.taken) r.rest ∙ ap (λ known. known ++ r.bytes) x.took
            ∙ append_assoc first.taken (bytes_of x.heads ++ bytes) r.bytes ∙ ap (λ more. first.taken ++ more) all;
        wrote = ap (λ (s : ConnState). s.held) r.rest ∙ x.wrote;
        rest = ap (λ (s : ConnState). record s { left = now.left; taken = now.taken; held = now.held })
            (r.rest ∙ ap (λ (s : ConnState). record s { left = now.left; taken = before.taken ++ r.bytes; reads = count_if errored s.reads }) x.rest);
        cut = λ more.
            let whole : (bytes_of x.heads ++ bytes) ++ (r.bytes ++ more) ≡ (bytes_of x.heads ++ grown) ++ more =
            sym (append_assoc (bytes_of x.heads ++ bytes) r.bytes more) ∙ ap (λ front. front ++ more) all in
            let own : bytes ++ (r.bytes ++ more) ≡ grown ++ more = sym (append_assoc bytes r.bytes more) ∙ ap (λ front. front ++ more) (sym r.grown) in
            ap (heads_of n) (sym whole) ∙ x.cut (r.bytes ++ more) ∙ ap (λ stream. x.heads ++ heads_of (n - i) stream) own;
        few = few;
      }

  -- one head more was answered
  one_more_turn : (n i : ℕ) (bytes after : List ℕ) (first before : ConnState) (len : ℕ) → i < n → SoFar false n i bytes first before
      → head_end (take 8192 bytes) ≡ Some len
      → (reply : Reply) → IsReplyTo table links settings (Some (take len bytes)) ((n - i) == 1) reply → reply.close ≡ false
      → after ≡ drop len bytes → SoFar false n (i + 1) after first (sent_to before reply.bytes false)
  one_more_turn n i bytes after first before len low x ends reply is stays gone =
      let head = take len bytes in
      let split : head ++ after ≡ bytes = ap (λ rest. head ++ rest) gone ∙ take-append-drop len bytes in
      let all : bytes_of x.heads ++ bytes ≡ bytes_of (x.heads ++ Some head ∷ []) ++ after =
      ap (λ rest. bytes_of x.heads ++ rest) (sym split) ∙ sym (append_assoc (bytes_of x.heads) head after)
      ∙ ap (λ front. (bytes_of x.heads ++ front) ++ after) (sym (append-nil head)) ∙ ap (λ front. front ++ after)
      (sym (bytes_append x.heads (Some head ∷ []))) in
      let length_heads = length-append x.heads (Some head ∷ []) in
      let length_replies = length-append x.replies (reply ∷ []) in
      let count = x.count in
      let matched = x.matched in
      let left_over : n - length x.heads ≡ n - i = ap (λ k. n - k) x.count in
      let is_last : IsReplyTo table links settings (Some head) ((n - length x.heads) == 1) reply = subst (λ (k : ℕ). IsReplyTo table links settings (Some head) (k == 1) reply) (sym left_over) is in
      record {
        heads = x.heads ++ Some head ∷ [];
        replies = x.replies ++ reply ∷ [];
        count = omega arith;
        matched = omega arith;
        are = are_append table links settings n x.heads (Some head ∷ []) x.replies (reply ∷ []) x.are (is_last, tt);
        stay = closing_append x.replies (reply ∷ []) x.stay ∙ rw stays refl;
        moved = x.moved ∙ ap (λ front. prepend_known front before.left) all;
        took = x.took ∙ ap (λ more. first.taken ++ more) all;
        wrote = ap (λ known. known ++ reply.bytes) x.wrote ∙ append_assoc first.held (all_bytes x.replies) reply.bytes
            ∙ ap (λ more. first.held ++ (all_bytes x.replies ++ more)) (sym (append-nil reply.bytes)) ∙ ap (λ more. first.held ++ more)
            (sym (all_append x.replies (reply ∷ [])));
        rest = ap (λ (s : ConnState). record s { held = before.held ++ reply.bytes }) x.rest;
        cut = λ more.
            let here = heads_headed n i bytes more len low ends in
            ap (λ front. heads_of n (front ++ more)) (sym all) ∙ x.cut more
            ∙ ap (λ rest. x.heads ++ rest) here ∙ sym (append_assoc x.heads (Some head ∷ []) (heads_of (n - (i + 1)) (drop len bytes ++ more)))
            ∙ ap (λ rest. (x.heads ++ Some head ∷ []) ++ heads_of (n - (i + 1)) (rest ++ more)) (sym gone);
        few = let shorter = length-append head after in let whole = ap length split in let before = x.few in omega arith;
      }

  -- holds if a connection was served with this result, and nothing else was done to it
  abbrev pub Ended : ℕ → Served → ConnState → ConnState → Type 0
  Ended n served before now = IsServed n table links settings served before now × (now ≡ after_serving served now before)

  -- nothing more is done: the replies to the bytes left follow those so far, and a prefix of them was written
  finish : (errored faulted : Bool) (n i : ℕ) (bytes : List ℕ) (first before : ConnState) (served : Served) → SoFar errored n i bytes first before
      → (tail : List Reply) → AreReplies table links settings (n - i) (heads_of (n - i) (bytes ++ rest_of before.left)) tail
      → (part : List ℕ) → BeginsWith (replies_of tail) part
      → OnDone served ((part ≡ replies_of tail) × ((rest_of before.left ≡ []) ⊎ (has_closing tail ≡ true)))
      → IsServed n table links settings served first (sent_to before part faulted)
      × (sent_to before part faulted ≡ record (moved_on errored (sent_to before part faulted) first) { writes = count_if faulted first.writes })
  finish errored faulted n i bytes first before served x tail are part begins whole =
      let rest = rest_of before.left in
      let read = bytes_of x.heads ++ bytes in
      let cut = x.cut rest in
      let left_over : n - i ≡ n - length x.heads = ap (λ k. n - k) (sym x.count) in
      let behind : AreReplies table links settings (n - length x.heads) (heads_of (n - i) (bytes ++ rest)) tail = subst (λ (k : ℕ). AreReplies table links settings k (heads_of (n - i) (bytes ++ rest)) tail) left_over are in
      let all = are_append table links settings n x.heads (heads_of (n - i) (bytes ++ rest)) x.replies tail x.are behind in
      let replied : replies_of (x.replies ++ tail) ≡ all_bytes x.replies ++ replies_of tail = replies_append x.replies tail x.stay in
      let answered : take i (x.replies ++ tail) ≡ x.replies = ap (λ k. take k (x.replies ++ tail)) (sym x.matched) ∙ take-append_seam x.replies tail in
      let taken_heads : take i (heads_of n (read ++ rest)) ≡ x.heads =
      ap (take i) cut ∙ ap (λ k. take k (x.heads ++ heads_of (n - i) (bytes ++ rest))) (sym x.count) ∙ take-append_seam x.heads
      (heads_of (n - i) (bytes ++ rest)) in
      let few = x.few in (
        record {
          read = read;
          written = all_bytes x.replies ++ part;
          rest = rest;
          replies = x.replies ++ tail;
          answered = i;
          moved = x.moved;
          took = x.took;
          wrote = ap (λ known. known ++ part) x.wrote ∙ append_assoc first.held (all_bytes x.replies) part;
          is_rest = rest_is before.left;
          are_replies = subst (λ (heads : List (Option (List ℕ))). AreReplies table links settings n heads (x.replies ++ tail)) (sym cut) all;
          begun = (begins.0, replied ∙ ap (λ more. all_bytes x.replies ++ more) begins.1 ∙ sym (append_assoc (all_bytes x.replies) part begins.0));
          whole = done served x.replies tail part replied x.stay whole;
          front = (part, ap (λ replies. all_bytes replies ++ part) (sym answered));
          few =
              let sum = length-append (bytes_of x.heads) bytes in
              let same : length (bytes_of (take i (heads_of n (read ++ rest)))) ≡ length (bytes_of x.heads) = ap (λ heads. length (bytes_of heads)) taken_heads in
              omega arith;
        },
        ap (λ (s : ConnState). record s { held = before.held ++ part; writes = count_if faulted s.writes }) x.rest,
      )
    where
      done : (served : Served) (a tail : List Reply) (part : List ℕ) → replies_of (a ++ tail) ≡ all_bytes a ++ replies_of tail → has_closing a ≡ false
          → OnDone served ((part ≡ replies_of tail) × ((rest_of before.left ≡ []) ⊎ (has_closing tail ≡ true)))
          → OnDone served ((all_bytes a ++ part ≡ replies_of (a ++ tail)) × ((rest_of before.left ≡ []) ⊎ (has_closing (a ++ tail) ≡ true)))
      done Done a tail part replied stay h = (ap (λ more. all_bytes a ++ more) h.0 ∙ sym replied, elim h.1 [ inl none ↦ inl none | inr closing ↦ inr (closing_append a tail stay ∙ closing) ])
      done ReadFault a tail part replied stay h = tt
      done WriteFault a tail part replied stay h = tt
      done Memory a tail part replied stay h = tt

  -- the first reply to the bytes left was written, or a prefix of it
  module _ (n i : ℕ) (bytes : List ℕ) (first before now : ConnState) where
    end_with : SoFar false n i bytes first before → (head : Option (List ℕ)) (heads : List (Option (List ℕ)))
        → heads_of (n - i) (bytes ++ rest_of before.left) ≡ head ∷ heads
        → (reply : Reply) → IsReplyTo table links settings head ((n - i) == 1) reply → (served : Served) → Delivers (Some served) reply before now
        → Ended n served first now
    end_with x head heads e reply is served delivers =
        let others = some_replies table links settings ((n - i) - 1) heads in
        let are : AreReplies table links settings (n - i) (heads_of (n - i) (bytes ++ rest_of before.left)) (reply ∷ others.0) =
        subst (λ (hs : List (Option (List ℕ))). AreReplies table links settings (n - i) hs (reply ∷ others.0)) (sym e) (is, others.1) in
        by served others.0 are delivers
      where
        front_of_reply : (others : List Reply) (k : ℕ) → BeginsWith (replies_of (reply ∷ others)) (take k reply.bytes)
        front_of_reply others k =
            let behind = if reply.close then [] else replies_of others in
            (drop k reply.bytes ++ behind, ap (λ front. front ++ behind) (sym (take-append-drop k reply.bytes)) ∙ append_assoc (take k reply.bytes) (drop k reply.bytes) behind)

        by : (served : Served) (others : List Reply)
            → AreReplies table links settings (n - i) (heads_of (n - i) (bytes ++ rest_of before.left)) (reply ∷ others)
            → Delivers (Some served) reply before now → Ended n served first now
        by Done others are d =
            let whole : replies_of (reply ∷ others) ≡ reply.bytes ++ [] = rw d.1 refl in
            let closing : has_closing (reply ∷ others) ≡ true = rw d.1 refl in
            subst (Ended n Done first) (sym d.0) (finish false false n i bytes first before Done x (reply ∷ others) are reply.bytes ([], whole)
            (sym (append-nil reply.bytes) ∙ sym whole, inr closing))
        by ReadFault others are d = absurd d
        by WriteFault others are d = subst (Ended n WriteFault first) (sym d.1)
            (finish false true n i bytes first before WriteFault x (reply ∷ others) are (take d.0 reply.bytes) (front_of_reply others d.0) tt)
        by Memory others are d = subst (Ended n Memory first) (sym d.1)
            (finish false false n i bytes first before Memory x (reply ∷ others) are (take d.0 reply.bytes) (front_of_reply others d.0) tt)

    -- nothing was written, for an error or out of memory
    end_before : (errored : Bool) → SoFar errored n i bytes first before → (served : Served) → OnDone served ⊥ → now ≡ before
        → IsServed n table links settings served first now × (now ≡ moved_on errored now first)
    end_before errored x served not_done same =
        let tail = some_replies table links settings (n - i) (heads_of (n - i) (bytes ++ rest_of before.left)) in
        subst (λ (s : ConnState). IsServed n table links settings served first s × (s ≡ moved_on errored s first)) (sym (same ∙ sent_nothing before))
        (finish errored false n i bytes first before served x tail.0 tail.1 [] (replies_of tail.0, refl)
        (none ((([] ≡ replies_of tail.0) × ((rest_of before.left ≡ []) ⊎ (has_closing tail.0 ≡ true)))) served not_done))
      where
        none : (P : Type 0) (served : Served) → OnDone served ⊥ → OnDone served P
        none P Done h = absurd h
        none P ReadFault h = tt
        none P WriteFault h = tt
        none P Memory h = tt

    -- nothing is left
    end_of_stream : i < n → SoFar false n i bytes first before → bytes ≡ [] → NothingLeft before.left → now ≡ before → Ended n Done first now
    end_of_stream low x empty none same =
        let rest = nothing_left before.left none in
        let stream : bytes ++ rest_of before.left ≡ [] = ap (λ front. front ++ rest_of before.left) empty ∙ rest in
        let are : AreReplies table links settings (n - i) (heads_of (n - i) (bytes ++ rest_of before.left)) [] =
        subst (λ (hs : List (Option (List ℕ))). AreReplies table links settings (n - i) hs []) (sym (heads_ended n i (bytes ++ rest_of before.left) low stream)) tt in
        subst (Ended n Done first) (sym (same ∙ sent_nothing before)) (finish false false n i bytes first before Done x [] are [] ([], refl) (refl, inl rest))

    over_by : i < n → (served : Served) (after : List ℕ) (front : Filled) → SoFar (is_failed front) n i bytes first before → Begins front bytes before.left
        → Outcome front table links settings (Some served) ((n - i) == 1) bytes after before now → Ended n served first now
    over_by low served after filled.Ended x begins o =
        let is : served ≡ Done = (let e = o.0 in cc) in
        subst (λ (s : Served). Ended n s first now) (sym is) (end_of_stream low x begins.0 begins.1 o.1)
    over_by low served after filled.Failed x begins o =
        let is : served ≡ ReadFault = (let e = o.0 in cc) in
        subst (λ (s : Served). Ended n s first now) (sym is) (end_before true x ReadFault tt o.1)
    over_by low served after filled.Memory x begins o =
        let is : served ≡ Memory = (let e = o.0 in cc) in
        subst (λ (s : Served). Ended n s first now) (sym is) (end_before false x Memory tt o.1)
    over_by low served after filled.Headless x begins o =
        end_with x None [] (heads_headless n i bytes before.left low begins) o.reply o.is_reply served o.delivers
    over_by low served after (filled.Head len) x begins o =
        end_with x (Some (take len bytes)) (heads_of (n - (i + 1)) (drop len bytes ++ rest_of before.left))
        (heads_headed n i bytes (rest_of before.left) len low begins) o.0.reply o.0.is_reply served o.0.delivers

    stays_by : i < n → (after : List ℕ) (front : Filled) → SoFar (is_failed front) n i bytes first before → Begins front bytes before.left
        → Outcome front table links settings None ((n - i) == 1) bytes after before now → SoFar false n (i + 1) after first now
    stays_by low after filled.Ended x begins o = absurd (let e = o.0 in cc)
    stays_by low after filled.Failed x begins o = absurd (let e = o.0 in cc)
    stays_by low after filled.Memory x begins o = absurd (let e = o.0 in cc)
    stays_by low after filled.Headless x begins o = absurd (false≢true (sym o.delivers.1 ∙ none_closes ((n - i) == 1) o.reply o.is_reply))
    stays_by low after (filled.Head len) x begins o = subst (SoFar false n (i + 1) after first) (sym o.0.delivers.0)
        (one_more_turn n i bytes after first before len low x begins o.0.reply o.0.is_reply o.0.delivers.1 o.1)

  -- a turn after which nothing more is done
  pub is_over : (n i : ℕ) (bytes after : List ℕ) (first before now : ConnState) (served : Served) → i < n → SoFar false n i bytes first before
      → Turned table links settings (Some served) ((n - i) == 1) bytes after before now → Ended n served first now
  is_over n i bytes after first before now served low x turn =
      over_by n i turn.grown first turn.between now low served after turn.front
      (more_read (is_failed turn.front) n i bytes turn.grown first before turn.between x turn.reads turn.few) turn.begins turn.outcome

  -- a turn after which the connection stays
  pub goes_on : (n i : ℕ) (bytes after : List ℕ) (first before now : ConnState) → i < n → SoFar false n i bytes first before
      → Turned table links settings None ((n - i) == 1) bytes after before now → SoFar false n (i + 1) after first now
  goes_on n i bytes after first before now low x turn =
      stays_by n i turn.grown first turn.between now low after turn.front
      (more_read (is_failed turn.front) n i bytes turn.grown first before turn.between x turn.reads turn.few) turn.begins turn.outcome

  outcome_last : (front : Filled) (last : Bool) (grown after : List ℕ) (before now : ConnState)
      → Outcome front table links settings None last grown after before now → last ≡ false
  outcome_last filled.Ended last grown after before now o = absurd (let e = o.0 in cc)
  outcome_last filled.Failed last grown after before now o = absurd (let e = o.0 in cc)
  outcome_last filled.Memory last grown after before now o = absurd (let e = o.0 in cc)
  outcome_last filled.Headless last grown after before now o = absurd (false≢true (sym o.delivers.1 ∙ none_closes last o.reply o.is_reply))
  outcome_last (filled.Head len) last grown after before now o = stays_before_last (take len grown) last o.0.reply o.0.is_reply o.0.delivers.1

  -- after the last reply that may come the connection does not stay
  pub not_last : (last : Bool) (bytes after : List ℕ) (before now : ConnState) → Turned table links settings None last bytes after before now → last ≡ false
  not_last last bytes after before now turn = outcome_last turn.front last turn.grown after turn.between now turn.outcome

  -- nothing was done, out of memory
  pub nothing_done : (n : ℕ) (conn : ConnState) → IsServed n table links settings Memory conn conn
  nothing_done n conn = (end_before n 0 [] conn conn conn false (at_start n conn) Memory tt refl).0

  -- ---- one turn

  pub turned : (turn : Option Served) (last : Bool) (bytes grown after : List ℕ) (front : Filled) (before between now : ConnState)
      → Fetches bytes grown (is_failed front) before between → Begins front grown between.left → length grown ≤ 12287
      → Outcome front table links settings turn last grown after between now → Turned table links settings turn last bytes after before now
  turned turn last bytes grown after front before between now reads begins few outcome = record {
    grown = grown;
    front = front;
    between = between;
    reads = reads;
    begins = begins;
    few = few;
    outcome = outcome;
  }

pub last_turn : (i : ℕ) → i < 1000 → (i + 1 == 1000) ≡ ((1000 - i) == 1)
last_turn i low = elim (cases_order i 999) [
  | inl same ↦ eq-eqb (i + 1) 1000 (omega arith) ∙ sym (eq-eqb (1000 - i) 1 (omega arith))
  | inr apart ↦ elim apart [
    | inl below ↦ ne_eqb (i + 1) 1000 (λ e. omega arith) ∙ sym (ne_eqb (1000 - i) 1 (λ e. omega arith))
    | inr above ↦ absurd (omega arith)
  ]
]

pub before_last : (i : ℕ) → i < 1000 → ((1000 - i) == 1) ≡ false → i + 1 < 1000
before_last i low other = elim (cases_order (i + 1) 1000) [
  | inl same ↦ absurd (false≢true (sym other ∙ eq-eqb (1000 - i) 1 (omega arith)))
  | inr apart ↦ elim apart [ inl below ↦ below | inr above ↦ absurd (omega arith) ]
]
