use Rattle.std.proofs.Common.{◌≡◌, drop}
use Rattle.std.specs.List.{list_any}
use Rattle.gs_links.specs.Languages.{is_in_range}
use Rattle.gs_links.proofs.languages.is_one_in_range.Given as goal

abbrev pub invariant-loop-tag : goal.invariant-loop-tag
invariant-loop-tag l = list_any (is_in_range l.range) l.tags ≡ list_any (is_in_range l.range) (drop l.tag-index l.tags)
