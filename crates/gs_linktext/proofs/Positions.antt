-- Whether an item is in a list, and in the list of the views of its items.
use Rattle.std.proofs.Common.{◌≡◌, ◌+◌, not, Bool, List, [], ◌∷◌, cond, length, map, position, refl, ap, suc}
use Rattle.std.specs.List.{prefix_len}
use Rattle.gs_linktext.specs.Lent.{seen}
use Rattle.gs_linktext.specs.Spelling.{cannot_spell}
use Rattle.gs_linktext.specs.declared.writer.LentLink.{LentLink}

module _ {X Y : Type 0} (f : X → Y) (test : Y → Bool) where
  prefix_mapped : (xs : List X) → prefix_len (λ x. not (test (f x))) xs ≡ prefix_len (λ y. not (test y)) (map f xs)
  prefix_mapped [] = refl
  prefix_mapped (x ∷ xs) = ap (λ n. cond (not (test (f x))) (1 + n) 0) (prefix_mapped xs)

  length_mapped : (xs : List X) → length xs ≡ length (map f xs)
  length_mapped [] = refl
  length_mapped (x ∷ xs) = ap suc (length_mapped xs)

  pub position_mapped : (xs : List X) → position (λ x. test (f x)) xs ≡ position test (map f xs)
  position_mapped xs = rw (prefix_mapped xs, length_mapped xs) refl

pub position_seen : (links : List LentLink) → position (λ link. cannot_spell (seen link)) links ≡ position cannot_spell (map seen links)
position_seen links = position_mapped seen cannot_spell links
