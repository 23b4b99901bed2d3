use Rattle.std.proofs.Common.{◌≡◌, Some, slice_get, ◌∙◌, ap, refl, true}
use Rattle.gs_chars.proofs.TruthsAndLists.{read_at, same_at}
use Rattle.gs_ai.specs.declared.pair.Pair.{Pair}
use Rattle.gs_ai.specs.Tables.{is_key_of}
use Rattle.gs_ident.specs.Identities.{elements_of}
use Rattle.gs_ident.proofs.MovedPairs.{elements_moved, swapped_out}
use Rattle.gs_ident.proofs.PairLemmas.{found_passes}
use Rattle.gs_ident.proofs.maker.elements_of.Goals as goal
use Rattle.std.proofs.lemmas.Option.{slice_get_within}

pub returns-clause-elements : goal.returns-clause-elements
returns-clause-elements c = λ key there.
    let pairs = c.args.pairs.items in
    let table = c.args.table.now in
    let place = c.args.first.pair in
    let own = c.swap_remove-key.result in
    let at : slice_get pairs place ≡ Some own = read_at pairs place own (slice_get_within pairs place c.requires.first.0 c.requires.first.1) c.swap_remove-key.ensures.value in
    let first : c.requires.first.0 ≡ own = same_at pairs place place c.requires.first.0 own c.requires.first.1 at refl in
    let same : own ≡ key = same_at pairs place place own key at there refl in
    let is_key : is_key_of table own.code ≡ true = rw first at (found_passes (λ pair. is_key_of table pair.code) pairs c.requires.first.0 c.requires.first.2) in
    let codes = rw first at (c.listed_codes-listed.ensures.codes c.requires.first.0 c.requires.first.3) in
    let out = rw (← c.swap_remove-key.ensures.items) at (swapped_out pairs place own c.requires.agree (slice_get_within pairs place c.requires.first.0 c.requires.first.1) c.swap_remove-key.ensures.value) in
    let moved = elements_moved table pairs own c.listed_codes-listed.result.now c.swap_remove-key.new.self.items c.move_listed.new.pairs.items c.in_ok-qualifiers.qualifiers.items c.in_ok-attributes.attributes.items is_key codes c.listed_codes-listed.ensures.no_key out c.in_ok-qualifiers.ensures.list c.in_ok-qualifiers.ensures.left (rw c.keep_others.ensures at c.in_ok-attributes.ensures) in
    c.from_pairs.ensures ∙ moved ∙ ap (λ (k : Pair). elements_of table pairs k) same

pub move_listed-requires-clause-agree : goal.move_listed-requires-clause-agree
move_listed-requires-clause-agree c =
    let pairs = c.args.pairs.items in
    let place = c.args.first.pair in
    let out = rw (← c.swap_remove-key.ensures.items) at (swapped_out pairs place c.swap_remove-key.result c.requires.agree (slice_get_within pairs place c.requires.first.0 c.requires.first.1) c.swap_remove-key.ensures.value) in
    out.agree
