-- The bytes of a reply: RFC 9112, sections 4 and 5, and RFC 9110, sections 8.3, 8.6, 10.2.1 and 10.2.2. The choice of fields and
-- their order is this project's own.
use Rattle.std.specs.List.{list_any}
use Rattle.std.specs.Prelude.{◌≡◌, ℕ, ◌==◌, ◌||◌, Bool, true, false, if◌then◌else◌, List, [], ◌∷◌, ◌++◌, codes, length, decimal, Option, Some, None}
use Rattle.gs_ai.specs.declared.row.AiRow.{AiRow}
use Rattle.gs_links.specs.declared.link.Link.{Link}
use Rattle.gs_http.specs.declared.replies.Reply.{Reply}
use Rattle.gs_http.specs.declared.resolver.Settings.{Settings}
use Rattle.gs_http.specs.declared.documents.LinksetForm.{LinksetForm}
use Rattle.gs_http.specs.declared.documents.LinksetForm.TheVariants.{Json, Text}
use Rattle.gs_http.specs.Answers.{Answer, described, linkset, choices, redirect, bad_request, not_found, not_allowed, answer_of, is_head}
use Rattle.gs_http.specs.Fields.{shows_end}
use Rattle.gs_http.specs.Heads.{Asked, IsAsked}

-- trusted, RFC 9112, section 2.1: the line of `text` with its end
abbrev pub line : List ℕ → List ℕ
line text = text ++ 13 ∷ 10 ∷ []

-- trusted, RFC 9110, section 15: the status code and its reason phrase
abbrev pub status_of : Answer → List ℕ
status_of (described _) = codes "200 OK"
status_of (linkset _) = codes "200 OK"
status_of (choices _) = codes "300 Multiple Choices"
status_of (redirect _) = codes "307 Temporary Redirect"
status_of bad_request = codes "400 Bad Request"
status_of not_found = codes "404 Not Found"
status_of not_allowed = codes "405 Method Not Allowed"

-- trusted, RFC 9264, sections 4.1 and 4.2: the media type of a linkset in a form
abbrev pub type_of : LinksetForm → List ℕ
type_of Json = codes "application/linkset+json"
type_of Text = codes "application/linkset"

-- trusted, RFC 9110, sections 8.3, 10.2.1 and 10.2.2: the field that only this answer has: the target URI, the allowed methods,
-- or the type of the content
abbrev pub own_field : Answer → List ℕ
own_field (described _) = line (codes "Content-Type: application/json")
own_field (linkset sent) = line (codes "Content-Type: " ++ type_of sent.form)
own_field (choices _) = line (codes "Content-Type: application/linkset+json")
own_field (redirect href) = line (codes "Location: " ++ href)
own_field bad_request = []
own_field not_found = []
own_field not_allowed = line (codes "Allow: GET, HEAD")

-- trusted, own: the bytes after the head
abbrev pub body_of : Answer → List ℕ
body_of (described text) = text
body_of (linkset sent) = sent.text
body_of (choices text) = text
body_of (redirect _) = []
body_of bad_request = []
body_of not_found = []
body_of not_allowed = []

-- trusted, RFC 9110, section 8.6: the field of the number of bytes of the body
abbrev pub length_field : ℕ → List ℕ
length_field len = line (codes "Content-Length: " ++ decimal len)

-- trusted, RFC 9112, section 9.6: the field that says that the connection is closed
abbrev pub close_field : Bool → List ℕ
close_field close = if close then line (codes "Connection: close") else []

-- trusted, RFC 9112, section 2.1: the bytes of a reply, without the content if only the head is requested
unfoldable pub reply_bytes : Bool → Bool → Answer → List ℕ
reply_bytes head_only close answer =
    line (codes "HTTP/1.1 " ++ status_of answer)
    ++ own_field answer
    ++ length_field (length (body_of answer))
    ++ close_field close
    ++ line []
    ++ (if head_only then [] else body_of answer)

-- trusted, RFC 9112, section 9.3: holds if the connection ends with the reply: it is the last, the request is of HTTP/1.0, or a
-- field asks for it
abbrev pub closes : Bool → Asked → Bool
closes last asked = last || ((asked.minor == 0) || list_any shows_end asked.fields)

-- trusted, own: The reply to the facts of a head, or 400 if it is not the head of a request. `last` says that the connection ends
-- with it anyway.
unfoldable pub reply_of : List AiRow → List Link → Settings → Option Asked → Bool → Reply
reply_of table links settings None last = record { bytes = reply_bytes false true bad_request; close = true }
reply_of table links settings (Some asked) last = record {
  bytes = reply_bytes (is_head asked.method) (closes last asked) (answer_of table links settings asked);
  close = closes last asked;
}

-- trusted, own: holds if `reply` is the reply to `head`
pub record IsReply (table : List AiRow) (links : List Link) (settings : Settings) (head : List ℕ) (last : Bool) (reply : Reply) : Type 0 where
  pub asked : Option Asked
  pub is_asked : IsAsked head asked
  pub is_reply : reply ≡ reply_of table links settings asked last
