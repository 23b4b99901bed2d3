-- The request's wish, wherever the name of its relation is kept, and the answer by the links of the chosen numbers.
use Rattle.std.proofs.Common.{Bool, ◌≡◌, ◌≢◌, ◌<◌, ◌≤◌, ℕ, zero, suc, List, [], ◌∷◌, length, slice_get, Some, false, inl, inr, refl, sym, ap, ◌∙◌, arith}
use Rattle.std.specs.Prelude.{All, slice_index_or}
use Rattle.std.specs.Option.{option_map_or}
use Rattle.std.specs.Borrow.{Bor}
use Rattle.gs_chars.proofs.TruthsAndLists.{true_or_false}
use Rattle.gs_ident.specs.Elements.{Elements}
use Rattle.gs_links.proofs.DocumentLemmas.{chosen_within}
use Rattle.gs_links.specs.Choices.{chosen, is_candidate}
use Rattle.gs_links.specs.Documents.{linked}
use Rattle.gs_links.specs.Languages.{matches, narrowed}
use Rattle.gs_links.specs.declared.link.Link.{Link}
use Rattle.gs_links.specs.declared.link.Want.TheVariants.{All as AllRelations, Relation as RelationOf}
use Rattle.gs_http.specs.Forms.{rendered_as}
use Rattle.gs_http.specs.References.{reference_for}
use Rattle.gs_http.specs.declared.documents.LinksetForm.{LinksetForm}
use Rattle.gs_http.specs.declared.documents.Rendered.{Rendered}
use Rattle.gs_linkset.specs.WrittenTrees.{written}
use Rattle.gs_http.specs.Answers.{by_elements, by_linkset, by_relation, choices, linkset, of_relation, redirect, sent_document}
use Rattle.gs_http.specs.Lookups.{AreChosen, numbers_for}
use Rattle.gs_http.specs.Wishes.{Wish, for_linkset, for_relation}

pub same_want : (links : List Link) (identity : Elements) (name : List ℕ) (lent : Bor (List ℕ)) → lent.now ≡ name
    → chosen links identity (RelationOf lent) ≡ chosen links identity (of_relation name)
unfolding is_candidate
same_want links identity name lent e = rw e refl

there : (links : List Link) (i : ℕ) → i < length links → (link : Link) × (slice_get links i ≡ Some link)
there [] i low = absurd (omega arith)
there (link ∷ links) zero low = (link, refl)
there (link ∷ links) (suc i) low = there links i (omega arith)

module _ (templates : Bool) (identity : Elements) (links : List Link) where
  pub one_link : (numbers : List ℕ) (link : Link) → length numbers ≡ 1 → slice_get links (slice_index_or numbers 0 0) ≡ Some link
      → redirect (reference_for templates identity link.target.href) ≡ by_relation templates identity (linked links numbers)
  one_link [] link one at = absurd (omega arith)
  one_link (i ∷ []) link one at = rw at refl
  one_link (i ∷ j ∷ numbers) link one at = absurd (omega arith)

  pub more_links : (numbers : List ℕ) → All (λ i. i < length links) numbers → 0 < length numbers → length numbers ≢ 1
      → by_relation templates identity (linked links numbers) ≡ choices (written (sent_document templates identity (linked links numbers)))
  more_links [] all some many = absurd (omega arith)
  more_links (i ∷ []) all some many = absurd (many refl)
  more_links (i ∷ j ∷ numbers) all some many =
      let a = there links i (all 0 0 (omega arith)) in
      let b = there links j (all 1 0 (omega arith)) in
      rw (a.1, b.1) refl

  pub some_links : (form : LinksetForm) (numbers : List ℕ) → All (λ i. i < length links) numbers → 0 < length numbers
      → by_linkset templates form identity (linked links numbers) ≡ linkset (rendered_as form (sent_document templates identity (linked links numbers)))
  some_links form [] all some = absurd (omega arith)
  some_links form (i ∷ numbers) all some =
      let a = there links i (all 0 0 (omega arith)) in
      rw a.1 refl

-- if there is nothing to choose, languages change nothing
pub narrowed_few : (links : List Link) (numbers : List ℕ) (ranges : List (List ℕ)) → length numbers ≤ 1 → narrowed links numbers ranges ≡ numbers
narrowed_few links numbers [] few = refl
narrowed_few links [] (range ∷ ranges) few = narrowed_few links [] ranges few
narrowed_few links (i ∷ []) (range ∷ ranges) few = elim (true_or_false (option_map_or (matches range) (slice_get links i) false)) [
  | inl match ↦ rw match refl
  | inr other ↦ rw other (narrowed_few links (i ∷ []) ranges few)
]
narrowed_few links (i ∷ j ∷ numbers) (range ∷ ranges) few = absurd (omega arith)

-- ---- the numbers that fit a wish

-- they are chosen, and narrowed
pub numbers_narrowed : (links : List Link) (ranges : List (List ℕ)) (identity : Elements) (wish : Wish) (numbers : List ℕ)
    → numbers ≡ numbers_for links ranges identity wish
    → AreChosen links identity numbers
numbers_narrowed links ranges identity (for_linkset form) numbers e = (AllRelations, [], e)
numbers_narrowed links ranges identity (for_relation name) numbers e = (of_relation name, ranges, e)

-- the answer for a linkset
pub linkset_found : (templates : Bool) (links : List Link) (ranges : List (List ℕ)) (identity : Elements) (wish : Wish) (form : LinksetForm) (numbers : List ℕ) (sent : Rendered)
    → wish ≡ for_linkset form
    → numbers ≡ numbers_for links ranges identity wish → 0 < length numbers → sent ≡ rendered_as form (sent_document templates identity (linked links numbers))
    → linkset sent ≡ by_elements templates links ranges identity wish
linkset_found templates links ranges identity wish form numbers sent is e some made =
    let all : numbers ≡ chosen links identity AllRelations = rw is at e in
    rw is (ap linkset made ∙ sym (some_links templates identity links form numbers (chosen_within links identity AllRelations numbers all) some)
    ∙ ap (λ (n : List ℕ). by_linkset templates form identity (linked links n)) all)
