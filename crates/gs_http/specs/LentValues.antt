-- The meanings of the values that this crate makes and lends.
use Rattle.std.specs.Prelude.{◌≡◌, ℕ, List, map}
use Rattle.httparse.specs.Grammar.{RequestHead}
use Rattle.httparse.specs.Spans.{IsRequestAt, header_bytes}
use Rattle.httparse.specs.declared.spans.HeaderSpan.{HeaderSpan}
use Rattle.httparse.specs.declared.spans.RequestSpans.{RequestSpans}
use Rattle.gs_http.specs.declared.answer.Answer.{Answer as Lent}
use Rattle.gs_http.specs.declared.answer.Answer.TheVariants.{Description, Linkset, Choices, Redirect, BadRequest, NotFound, NotAllowed}
use Rattle.gs_http.specs.declared.wishes.Wish.{Wish as LentWish}
use Rattle.gs_http.specs.declared.wishes.Wish.TheVariants.{Relation as OfRelation, Linkset as OfLinkset}
use Rattle.gs_http.specs.declared.request.Request.{Request}
use Rattle.gs_http.specs.Answers.{Answer, described, linkset, choices, redirect, bad_request, not_found, not_allowed}
use Rattle.gs_http.specs.Heads.{Asked, asked_of}
use Rattle.gs_http.specs.Wishes.{Wish, for_linkset, for_relation}

-- the contents of the request that this crate lends
abbrev pub asked_by : Request → Asked
asked_by r = record { method = r.method.now; target = r.target.now; minor = r.minor; fields = map (header_bytes r.head.now) r.fields.now }

-- holds if the request has the contents of a head of the grammar whose parts are at these spans
abbrev pub SaysHead : Request → List ℕ → List HeaderSpan → RequestSpans → Type 0
SaysHead request head spans parts = (h : RequestHead) → IsRequestAt head spans parts h → asked_by request ≡ asked_of h

-- the answer that this crate lends
abbrev pub said : Lent → Answer
said (Description text) = described text.now
said (Linkset sent) = linkset sent
said (Choices text) = choices text
said (Redirect reference) = redirect reference
said BadRequest = bad_request
said NotFound = not_found
said NotAllowed = not_allowed

-- the wish, with a name that is owned or lent
abbrev pub wished : LentWish → Wish
wished (OfRelation name) = for_relation name
wished (OfLinkset form) = for_linkset form
