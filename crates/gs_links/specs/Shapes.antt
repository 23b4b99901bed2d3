-- The shape of a store's links: the links that a linkset in JSON can express (RFC 8259, section 8.1).
use Rattle.std.specs.Prelude.{ℕ, Bool, ◌&&◌}
use Rattle.std.specs.Str.{is_utf8}
use Rattle.gs_ident.specs.Links.{canonical_link}
use Rattle.gs_linkset.specs.LinkShapes.{is_target}
use Rattle.gs_links.specs.declared.link.Link.{Link}

-- trusted, RFC 8259, section 8.1: holds if the canonical link of the anchor and the relation of `link` are valid UTF-8, and its
-- target has the shape of one
unfoldable pub is_link : Link → Bool
is_link link = is_utf8 (canonical_link link.anchor) && (is_utf8 link.relation && is_target link.target)

-- trusted, own: the most links that a store has
abbrev pub most_links : ℕ
most_links = 65536
