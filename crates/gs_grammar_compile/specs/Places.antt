-- The places of a list at which a derivation and a run are cut.
use Rattle.std.specs.Prelude.{◌≡◌, ◌==◌, ℕ, ◌+◌, Bool, if◌then◌else◌, List, [], ◌∷◌, length}
use Rattle.std.specs.List.{list_any}
use Rattle.gs_grammar.specs.declared.item.Item.{Item}
use Rattle.gs_grammar.specs.Derivations.{Derives}
use Rattle.gs_ambig.specs.Machines.{AutoForm, IsMachine}
use Rattle.gs_ambig.specs.MachinesSupport.{start_of, Accepts}
use Rattle.gs_grammar_compile.specs.Readers.{ReadsItems}

-- trusted, own: the list of `place` and the place after each of the words
abbrev pub cuts_from : ℕ → List (List ℕ) → List ℕ
cuts_from place [] = place ∷ []
cuts_from place (word ∷ words) = place ∷ cuts_from (place + length word) words

-- trusted, own: the cuts of a derivation: the place 0, and the place after each of its words
abbrev pub word_cuts : List (List ℕ) → List ℕ
word_cuts words = cuts_from 0 words

-- trusted, own: holds if `state` is one of `borders`
abbrev pub is_border : List ℕ → ℕ → Bool
is_border borders state = list_any (λ border. border == state) borders

-- trusted, own: the places of the states that are borders, if this is the place of the first state
abbrev pub stands_from : List ℕ → ℕ → List ℕ → List ℕ
stands_from borders place [] = []
stands_from borders place (state ∷ states) =
    if is_border borders state then place ∷ stands_from borders (place + 1) states
    else stands_from borders (place + 1) states

-- trusted, own: the cuts of a run: the places at which it is at a border
abbrev pub run_cuts : AutoForm → List ℕ → List ℕ
run_cuts form run = stands_from form.borders 0 (start_of form ∷ run)

-- trusted, own: holds if `symbols` have an accepting run with the cuts of `words`
pub record RunOf (form : AutoForm) (symbols : List ℕ) (words : List (List ℕ)) : Type 0 where
  pub run : List ℕ
  pub accepts : Accepts form run symbols
  pub cuts : run_cuts form run ≡ word_cuts words

-- trusted, own: holds if `items` derive `symbols` by words with the cuts of `run`
pub record DerivationOf (form : AutoForm) (items : List Item) (symbols run : List ℕ) : Type 0 where
  pub values : List (List ℕ)
  pub words : List (List ℕ)
  pub derives : Derives items symbols values words
  pub cuts : run_cuts form run ≡ word_cuts words

-- trusted, own: Holds if each derivation of a list of symbols has the cuts of exactly one accepting run, and each accepting run
-- those of a derivation.
pub record CutsAreThoseOfDerivations (form : AutoForm) (items : List Item) : Type 0 where
  pub run : (symbols : List ℕ) (values words : List (List ℕ)) → Derives items symbols values words → RunOf form symbols words
  pub only : (symbols run other : List ℕ) → Accepts form run symbols → Accepts form other symbols → run_cuts form run ≡ run_cuts form other → run ≡ other
  pub derivation : (symbols run : List ℕ) → Accepts form run symbols → DerivationOf form items symbols run

-- trusted, own: holds if, in each machine that reads the items one by one, the cuts of accepting runs are those of derivations
-- by the items
abbrev pub RunsAreDerivations : Type 0
RunsAreDerivations = (form : AutoForm) (items : List Item) → IsMachine form → ReadsItems form items → CutsAreThoseOfDerivations form items
