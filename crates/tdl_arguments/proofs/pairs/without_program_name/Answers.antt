use Rattle.std.proofs.Common.{◌≡◌, ◌∙◌, ◌-◌, List, [], ◌∷◌, length, take, drop, refl, ap, arith}
use Rattle.std.proofs.Math.Seq.{take-length}
use Rattle.tdl_arguments.proofs.pairs.without_program_name.Goals as goal

all_behind : {X : Type 0} (xs : List X) → take (length xs - 1) (drop 1 xs) ≡ drop 1 xs
all_behind [] = refl
all_behind (x ∷ xs) = let one : length (x ∷ xs) - 1 ≡ length xs = omega arith in ap (λ n. take n xs) one ∙ take-length xs

pub returns : goal.returns
returns c = all_behind c.args.words.now
