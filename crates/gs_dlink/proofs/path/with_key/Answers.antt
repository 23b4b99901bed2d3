use Rattle.std.proofs.Common.{map, reverse, sym, ◌∙◌}
use Rattle.std.proofs.lemmas.List.Elements.{All-push}
use Rattle.gs_dlink.specs.Values.{IsPlaced}
use Rattle.gs_dlink.specs.ValuesSupport.{written_of}
use Rattle.gs_dlink.proofs.KeyPaths.{behind_last, no_ordered_path, ordered_path, pushed}
use Rattle.gs_dlink.proofs.PlaceLemmas.{all_reversed}
use Rattle.gs_dlink.proofs.path.with_key.Goals as goal

pub returns-then-not-are_in_order-clause-path : goal.returns-then-not-are_in_order-clause-path
returns-then-not-are_in_order-clause-path c =
    let others = behind_last c.args.pairs.items c.push.new.self.items c.deref.result.now c.args.key c.in_ok-push.ensures.items (c.deref.ensures.value ∙ c.reverse.ensures.items) in
    no_ordered_path c.args.table.now (written_of c.args.key) (map written_of (reverse c.args.pairs.items)) c.requires.is_key
    (rw (c.listed.ensures, others) at (sym c.are_in_order.ensures ∙ c.if-not-are_in_order.true))

pub returns-clause-path : goal.returns-clause-path
returns-clause-path c =
    let others = behind_last c.args.pairs.items c.push.new.self.items c.deref.result.now c.args.key c.in_ok-push.ensures.items (c.deref.ensures.value ∙ c.reverse.ensures.items) in
    rw (c.reverse.ensures.items, pushed written_of c.args.pairs.items c.push.new.self.items c.args.key c.in_ok-push.ensures.items)
    (ordered_path c.args.table.now (written_of c.args.key) (map written_of (reverse c.args.pairs.items)) c.requires.is_key
    (rw (c.listed.ensures, others) at (sym c.are_in_order.ensures ∙ c.if-not-are_in_order.false)))

pub returns-clause-placed : goal.returns-clause-placed
returns-clause-placed c =
    rw (c.reverse.ensures.items, c.in_ok-push.ensures.items)
    (all_reversed (IsPlaced c.args.table.now) _ (All-push (IsPlaced c.args.table.now) c.args.pairs.items c.args.key c.requires.placed c.requires.key_placed))
