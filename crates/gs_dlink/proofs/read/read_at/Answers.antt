use Rattle.std.proofs.Common.{map, sym, ◌∙◌, inr}
use Rattle.gs_dlink.specs.ValuesSupport.{written_of}
use Rattle.gs_dlink.proofs.Targets.{no_key_path, not_rooted, pairs_found}
use Rattle.gs_dlink.proofs.read.read_at.Goals as goal

pub returns-then-not-is_rooted : goal.returns-then-not-is_rooted
returns-then-not-is_rooted c =
    inr (not_rooted c.args.table.now c.args.at c.args.text.now c.place_of.result c.place_of-end.result c.place_of.ensures.place c.place_of-end.ensures.place (sym c.is_rooted.ensures ∙ c.if-not-is_rooted.true))

pub returns : goal.returns
returns c =
    pairs_found c.args.table.now c.args.at c.args.text.now c.place_of.result c.place_of-end.result c.place_of.ensures.place c.place_of-end.ensures.place
    (map written_of c.in-Some.written.items) (map written_of c.push_query.new.pairs.items) c.after.result.now c.read_pairs.result c.place_of-end.ensures.within (sym c.is_rooted.ensures ∙ c.if-not-is_rooted.false)
    (rw c.in-Some.is at c.in_ok-written.ensures.path) c.after.ensures c.in_ok-push_query.ensures.pairs (rw c.as_slice.ensures.value at c.read_pairs.ensures)

pub returns-in_default : goal.returns-in_default
returns-in_default c =
    inr (no_key_path c.args.table.now c.args.at c.args.text.now c.place_of.result c.place_of-end.result c.place_of.ensures.place c.place_of-end.ensures.place (sym c.is_rooted.ensures ∙ c.if-not-is_rooted.false) (rw c.in_default.is at c.in_ok-written.ensures.path))
