-- The numbers of the links that answer a target, for private functions.
use Rattle.std.specs.Prelude.{◌≡◌, ℕ, List}
use Rattle.gs_ident.specs.Elements.{Elements}
use Rattle.gs_links.specs.Choices.{chosen}
use Rattle.gs_links.specs.Languages.{narrowed}
use Rattle.gs_links.specs.declared.link.Link.{Link}
use Rattle.gs_links.specs.declared.link.Want.{Want}
use Rattle.gs_links.specs.declared.link.Want.TheVariants.{All}
use Rattle.gs_http.specs.Answers.{of_relation}
use Rattle.gs_http.specs.Wishes.{Wish, for_linkset, for_relation}

-- the numbers of the links that fit a wish
abbrev pub numbers_for : List Link → List (List ℕ) → Elements → Wish → List ℕ
numbers_for links ranges identity (for_linkset form) = chosen links identity All
numbers_for links ranges identity (for_relation name) = narrowed links (chosen links identity (of_relation name)) ranges

-- holds if the numbers are those of links that were chosen for the identity, narrowed by language ranges
abbrev pub AreChosen : List Link → Elements → List ℕ → Type 0
AreChosen links identity numbers = (want : Want) × (ranges : List (List ℕ)) × (numbers ≡ narrowed links (chosen links identity want) ranges)
