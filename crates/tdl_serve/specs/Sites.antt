-- The replies of a site to a stream.
use Rattle.std.specs.Prelude.{◌≡◌, ℕ, Bool, List}
use Rattle.std.specs.Bool.{OnTrue}
use Rattle.gs_http.specs.Sites.{SiteData}
use Rattle.gs_http.specs.Streams.{IsReplies}
use Rattle.tdl_lines.specs.Printers.{IsInitialPart}

-- trusted, RFC 9112, section 9.3; the number of replies is own: holds if `output` is the replies of the site to the stream, at most
-- 1,000
abbrev pub AreSiteReplies : SiteData → List ℕ → List ℕ → Type 0
AreSiteReplies site stream output = IsReplies site.table site.links site.settings 1000 stream output

-- trusted, RFC 9112, section 9.3; the number of replies is own: holds if `output` is a prefix of the replies of the site to the
-- stream, and all of them if `whole` is true
pub record Replied (site : SiteData) (stream : List ℕ) (whole : Bool) (output : List ℕ) : Type 0 where
  pub replies : List ℕ
  pub are_replies : AreSiteReplies site stream replies
  pub begun : IsInitialPart output replies
  pub all : OnTrue whole (output ≡ replies)
