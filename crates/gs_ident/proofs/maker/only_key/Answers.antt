use Rattle.std.proofs.Common.{◌≡◌, None, Some, refl, sym}
use Rattle.gs_chars.proofs.TruthsAndLists.{read_at, same_at}
use Rattle.gs_ident.specs.Keys.{IsFirstKey, IsOtherKey}
use Rattle.gs_ident.proofs.IdentityLemmas.{repeat_answer, no_key_answer, two_keys_answer, made_answer}
use Rattle.gs_ident.proofs.maker.only_key.Goals as goal
use Rattle.std.proofs.lemmas.Option.{slice_get_within}

pub returns-in-Some : goal.returns-in-Some
returns-in-Some c = λ _. repeat_answer c.args.table.now c.args.pairs.now c.in-Some.pair.now c.in_ok-code_of.field-0 c.in-Some.ensures.first c.in_ok-code_of.ensures

pub returns-in_default-first : goal.returns-in_default-first
returns-in_default-first c =
    let none : IsFirstKey c.args.table.now c.args.pairs.now None = rw c.in_default-first.is at c.requires.first in
    λ _. no_key_answer c.args.table.now c.args.pairs.now c.in_default.ensures.first (sym none)

pub returns-in_ok-code_of-in-Some-other : goal.returns-in_ok-code_of-in-Some-other
returns-in_ok-code_of-in-Some-other c =
    let first : IsFirstKey c.args.table.now c.args.pairs.now (Some c.in-Some-first.first) = rw c.in-Some-first.is at c.requires.first in
    let other : IsOtherKey c.args.table.now c.args.pairs.now first.0 (Some c.in-Some-other.other) = rw c.in-Some-other.is at (c.requires.other first.0 first.2) in
    let low = slice_get_within c.args.pairs.now c.in-Some-other.other other.0 other.1 in
    let at = read_at c.args.pairs.now c.in-Some-other.other c.index-pairs-other.result low c.index-pairs-other.is in
    let same : other.0 ≡ c.index-pairs-other.result = same_at c.args.pairs.now c.in-Some-other.other c.in-Some-other.other other.0 c.index-pairs-other.result other.1 at refl in
    let code = rw (sym same) at c.in_ok-code_of-in-Some-other.ensures in
    λ _. two_keys_answer c.args.table.now c.args.pairs.now first.0 other.0 c.in_ok-code_of-in-Some-other.field-0 c.in_default.ensures.first
    (sym first.2) (sym other.2) code

pub returns-in-None : goal.returns-in-None
returns-in-None c =
    let first : IsFirstKey c.args.table.now c.args.pairs.now (Some c.in-Some-first.first) = rw c.in-Some-first.is at c.requires.first in
    let none : IsOtherKey c.args.table.now c.args.pairs.now first.0 None = rw c.in-None.is at (c.requires.other first.0 first.2) in
    record {
      agree = c.in_default.ensures.agree;
      first = first;
      only = λ key at.
          let same : first.0 ≡ key = same_at c.args.pairs.now c.in-Some-first.first.pair c.in-Some-first.first.pair first.0 key first.1 at refl in
          rw same at (made_answer c.args.table.now c.args.pairs.now first.0 c.in_default.ensures.first (sym first.2) (sym none));
    }
