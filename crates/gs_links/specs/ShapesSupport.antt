-- Definitions for proofs and private functions, in addition to those of Shapes.antt.
use Rattle.std.specs.Prelude.{◌≡◌, ◌≤◌, true, List, length}
use Rattle.std.specs.List.{list_all}
use Rattle.gs_links.specs.Index.{IsIndexOf}
use Rattle.gs_links.specs.declared.index.Index.{Index}
use Rattle.gs_links.specs.declared.link.Link.{Link}
use Rattle.gs_links.specs.Shapes.{is_link, most_links}

-- holds if these links may be stored, and the index finds them
abbrev pub AreStored : List Link → Index → Type 0
AreStored links index = (length links ≤ most_links) × (list_all is_link links ≡ true) × IsIndexOf index links
