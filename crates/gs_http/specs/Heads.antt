-- The head of a request: RFC 9112, sections 2 to 5, in the grammar of the crate `httparse`. Three rules are this project's own:
-- it has at most 64 fields, its lines end in CR LF, and it has no message body.
use Rattle.std.specs.Prelude.{◌≡◌, ◌≤◌, ℕ, ◌==◌, ◌&&◌, ◌||◌, not, Bool, false, List, [], ◌∷◌, map, length, Option, Some, None}
use Rattle.std.specs.List.{list_any, zip}
use Rattle.httparse.specs.Grammar.{ReadsRequest, RequestHead}
use Rattle.httparse.specs.Spans.{name_and_value}
use Rattle.gs_http.specs.Fields.{shows_body}

-- trusted, RFC 9112, section 3: the contents of a request: its method, its target, the minor version of HTTP/1, and the names
-- and values of its fields.
pub record Asked : Type 0 where
  pub method : List ℕ
  pub target : List ℕ
  pub minor : ℕ
  pub fields : List (List ℕ × List ℕ)

-- trusted, RFC 9112, section 3: the contents of a head of the grammar
abbrev pub asked_of : RequestHead → Asked
asked_of h = record { method = h.method; target = h.target; minor = h.minor; fields = map name_and_value h.fields }

-- trusted, own: the most fields of a head
abbrev pub most_fields : ℕ
most_fields = 64

-- trusted, own: holds if the bytes `head` are the head `h` and nothing else, with at most 64 fields
pub record IsWhole (head : List ℕ) (h : RequestHead) : Type 0 where
  pub reads : ReadsRequest head h []
  pub few : length h.fields ≤ most_fields

-- trusted, RFC 9112, section 2.2: holds if the second byte of `pair` is a line feed, and the first is not a carriage return
abbrev pub is_bare_line_feed : ℕ × ℕ → Bool
is_bare_line_feed pair = pair.1 == 10 && not (pair.0 == 13)

-- trusted, RFC 9112, section 2.2: holds if some line feed of `head` has no carriage return before it
abbrev pub has_bare_line_feed : List ℕ → Bool
has_bare_line_feed head = list_any is_bare_line_feed (zip (0 ∷ head) head)

-- trusted, own: holds if the whole head is not answered: it has a bare line feed, or `fields` show a message body
unfoldable pub is_rejected : List ℕ → List (List ℕ × List ℕ) → Bool
is_rejected head fields = has_bare_line_feed head || list_any shows_body fields

-- trusted, own: holds if `head` is that of a request that is answered, and `asked` is its contents
pub record IsAskedBy (head : List ℕ) (asked : Asked) : Type 0 where
  pub h : RequestHead
  pub whole : IsWhole head h
  pub says : asked ≡ asked_of h
  pub taken : is_rejected head asked.fields ≡ false

-- trusted, own: holds if the answer is the contents of `head`, or nothing if it is not that of a request that is answered
abbrev pub IsAsked : List ℕ → Option Asked → Type 0
IsAsked head (Some asked) = IsAskedBy head asked
IsAsked head None = (asked : Asked) → ¬ (IsAskedBy head asked)
