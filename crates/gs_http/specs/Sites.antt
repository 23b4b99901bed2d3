-- The data that requests are answered from.
use Rattle.std.specs.Prelude.{ℕ, ◌+◌, List, length}
use Rattle.gs_ai.specs.declared.row.AiRow.{AiRow}
use Rattle.gs_links.specs.declared.link.Link.{Link}
use Rattle.gs_http.specs.declared.resolver.Settings.{Settings}

-- trusted, own: requests are answered from the application identifiers, the links, and the settings of replies
pub record SiteData : Type 0 where
  pub table : List AiRow
  pub links : List Link
  pub settings : Settings

-- trusted, own: the room that answering needs: two numbers a link
abbrev pub room_for : List Link → ℕ
room_for links = length links + length links
