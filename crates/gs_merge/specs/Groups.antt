-- The steps by which links are grouped, and by which a map of texts distinguishes targets.
use Rattle.std.specs.Prelude.{◌≡◌, ℕ, if◌then◌else◌, List, [], ◌∷◌, ◌++◌, filter, map, Option, Some, None}
use Rattle.std.specs.BTreeMap.{is_at}
use Rattle.std.specs.Cmp.Lexicographic.{slice_cmp}
use Rattle.std.specs.List.{list_any}
use Rattle.std.specs.Map.{lookup}
use Rattle.std.specs.Option.{is_some}
use Rattle.std.specs.Ordering.{nat_cmp}
use Rattle.std.specs.Str.{bytes_eq}
use Rattle.gs_linkset.specs.WrittenTrees.{target_text}
use Rattle.gs_linkset.specs.declared.link_types.Target.{Target}
use Rattle.gs_links.specs.declared.link.Link.{Link}
use Rattle.gs_merge.specs.Distinct.{is_same_target}
use Rattle.gs_merge.specs.MergedDocuments.{anchor_text, ascending}
use Rattle.gs_merge.specs.declared.groups.Grouping.{Grouping}
use Rattle.gs_merge.specs.declared.groups.Grouping.TheVariants.{ByAnchor, ByRelation}

-- the text by which a link is grouped
abbrev pub key_of : Grouping → Link → List ℕ
key_of ByAnchor link = anchor_text link
key_of ByRelation link = link.relation

-- the links of one text
abbrev pub grouped : Grouping → List Link → List ℕ → List Link
grouped by links text = filter (λ link. bytes_eq (key_of by link) text) links

-- a text with its links
abbrev pub group_at : (List ℕ → List Link) → List ℕ → List ℕ × List Link
group_at links text = (text, links text)

-- an entry of a map, with the visible links of its group
abbrev pub entry_seen : {G : Type 0} → (G → List Link) → List ℕ × G → List ℕ × List Link
entry_seen seen entry = (entry.0, seen entry.1)

-- each text with its links, in ascending order
abbrev pub groups_of : Grouping → List Link → List (List ℕ × List Link)
groups_of by links = map (group_at (grouped by links)) (ascending (map (key_of by) links))

-- the value of a map at a text
abbrev pub found_at : {X : Type 0} → List (List ℕ × X) → List ℕ → Option X
found_at entries text = lookup (is_at (slice_cmp nat_cmp text)) entries

-- a group that has a link
abbrev pub some_group : List Link → Option (List Link)
some_group [] = None
some_group (link ∷ links) = Some (link ∷ links)

-- holds if a map has at each text that has a link the links of it, and no others
abbrev pub AreGroups : Grouping → List Link → (List ℕ → Option (List Link)) → Type 0
AreGroups by links found = (text : List ℕ) → found text ≡ some_group (grouped by links text)

-- the targets with one more, if none is the same
abbrev pub with_target : List Target → Target → List Target
with_target targets target = if list_any (λ other. is_same_target other target) targets then targets else targets ++ target ∷ []

-- holds if a map has the texts of the targets, and no others
abbrev pub AreTextsOf : List (List ℕ × Unit {0}) → List Target → Type 0
AreTextsOf entries targets = (text : List ℕ) → is_some (found_at entries text) ≡ list_any (λ target. bytes_eq (target_text target) text) targets
