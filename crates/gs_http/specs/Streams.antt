-- The replies of a connection: RFC 9112, sections 2.2, 3, 5 and 9.3. That a head has at most 8,192 bytes, and a connection at most
-- 1,000 replies, is this project's own.
use Rattle.std.specs.Prelude.{◌≡◌, ⊤, ℕ, zero, suc, ◌-◌, ◌==◌, Bool, if◌then◌else◌, List, [], ◌∷◌, ◌++◌, take, drop, Option, Some, None, option_map, bytes_eq}
use Rattle.std.specs.List.{flat_map, list_any}
use Rattle.gs_ai.specs.declared.row.AiRow.{AiRow}
use Rattle.gs_links.specs.declared.link.Link.{Link}
use Rattle.gs_http.specs.declared.replies.Reply.{Reply}
use Rattle.gs_http.specs.declared.resolver.Settings.{Settings}
use Rattle.gs_http.specs.Replies.{IsReply, reply_of}

-- ---- heads

-- trusted, RFC 9112, section 2.1: the empty line that ends a head, with the end of the line before it
abbrev pub blank : List ℕ
blank = 13 ∷ 10 ∷ 13 ∷ 10 ∷ []

-- trusted, RFC 9112, section 2.1: the place after the first empty line
unfoldable pub head_end : List ℕ → Option ℕ
head_end [] = None
head_end (c ∷ text) = if bytes_eq (take 4 (c ∷ text)) blank then Some 4 else option_map suc (head_end text)

-- trusted, own: The start of a stream: nothing, a head and the bytes after it, or bytes that are not a head.
pub data Front : Type 0 where
  ended : Front
  headed : List ℕ → List ℕ → Front
  headless : Front

-- trusted, own: the start of a stream by the offset at which its head ends
abbrev pub cut_at : List ℕ → Option ℕ → Front
cut_at stream None = headless
cut_at stream (Some place) = headed (take place stream) (drop place stream)

-- trusted, own: the start of a stream, in which a head ends within the first 8,192 bytes
unfoldable pub front_of : List ℕ → Front
front_of [] = ended
front_of (c ∷ stream) = cut_at (c ∷ stream) (head_end (take 8192 (c ∷ stream)))

-- trusted, own: the heads by the way in which a stream goes on
abbrev pub with_front : Front → (List ℕ → List (Option (List ℕ))) → List (Option (List ℕ))
with_front ended later = []
with_front headless later = None ∷ []
with_front (headed head rest) later = Some head ∷ later rest

-- trusted, own: the heads of a stream, at most that many; `None` stands for bytes that are not a head, and nothing follows them
abbrev pub heads_of : ℕ → List ℕ → List (Option (List ℕ))
heads_of zero stream = []
heads_of (suc n) stream = with_front (front_of stream) (heads_of n)

-- trusted, own: the bytes of heads
abbrev pub bytes_of : List (Option (List ℕ)) → List ℕ
bytes_of [] = []
bytes_of (None ∷ heads) = bytes_of heads
bytes_of (Some head ∷ heads) = head ++ bytes_of heads

-- ---- replies

-- trusted, own: Holds if `reply` is the reply to a head, or to bytes that are not a head. The connection ends with it anyway if
-- `last` is true.
abbrev pub IsReplyTo : List AiRow → List Link → Settings → Option (List ℕ) → Bool → Reply → Type 0
IsReplyTo table links settings (Some head) last reply = IsReply table links settings head last reply
IsReplyTo table links settings None last reply = reply ≡ reply_of table links settings None last

-- trusted, own: holds if the replies are those to the heads, one each, and the connection ends with the one of number `n`
abbrev pub AreReplies : List AiRow → List Link → Settings → ℕ → List (Option (List ℕ)) → List Reply → Type 0
AreReplies table links settings n [] [] = ⊤
AreReplies table links settings n [] (reply ∷ replies) = ⊥
AreReplies table links settings n (head ∷ heads) [] = ⊥
AreReplies table links settings n (head ∷ heads) (reply ∷ replies) =
    IsReplyTo table links settings head (n == 1) reply × AreReplies table links settings (n - 1) heads replies

-- trusted, own: holds if one of `replies` ends the connection
abbrev pub has_closing : List Reply → Bool
has_closing replies = list_any (λ (reply : Reply). reply.close) replies

-- trusted, RFC 9112, section 9.6: the bytes of the replies up to and including the first that ends the connection
abbrev pub replies_of : List Reply → List ℕ
replies_of [] = []
replies_of (reply ∷ replies) = reply.bytes ++ (if reply.close then [] else replies_of replies)

-- trusted, own: the bytes of all replies
abbrev pub all_bytes : List Reply → List ℕ
all_bytes replies = flat_map (λ (reply : Reply). reply.bytes) replies

-- trusted, own: holds if `output` is the replies to the heads of `stream`, at most `most`, up to and including the first that
-- ends the connection
pub record IsReplies (table : List AiRow) (links : List Link) (settings : Settings) (most : ℕ) (stream output : List ℕ) : Type 0 where
  pub replies : List Reply
  pub are_replies : AreReplies table links settings most (heads_of most stream) replies
  pub is_output : output ≡ replies_of replies
