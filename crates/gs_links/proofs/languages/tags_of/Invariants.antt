use Rattle.std.proofs.Common.{◌≡◌, drop}
use Rattle.gs_links.specs.Languages.{tags_among}
use Rattle.gs_links.proofs.languages.tags_of.Given as goal

abbrev pub invariant-loop-attr : goal.invariant-loop-attr
invariant-loop-attr l = tags_among l.attrs ≡ tags_among (drop l.attr-index l.attrs)
