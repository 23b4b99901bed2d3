use Rattle.std.proofs.Common.{◌≡◌, ◌∷◌, drop}
use Rattle.std.specs.List.{list_any, zip}
use Rattle.gs_http.specs.Heads.{has_bare_line_feed, is_bare_line_feed}
use Rattle.gs_http.proofs.heads.has_bare_line_feed.Given as goal

-- none so far
abbrev pub invariant-loop-c : goal.invariant-loop-c
invariant-loop-c l = has_bare_line_feed l.head ≡ list_any is_bare_line_feed (zip (l.before ∷ drop l.c-index l.head) (drop l.c-index l.head))
