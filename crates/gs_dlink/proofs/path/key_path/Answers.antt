use Rattle.std.proofs.Common.{◌+◌, map, reverse, sym, ◌∙◌, take}
use Rattle.std.proofs.lemmas.List.Elements.{All-push}
use Rattle.gs_dlink.specs.Values.{IsPlaced}
use Rattle.gs_dlink.specs.ValuesSupport.{written_of}
use Rattle.gs_dlink.proofs.CutLemmas.{rest_taken}
use Rattle.gs_dlink.proofs.KeyPaths.{key_found, none_left, one_left, one_pair_more, pushed}
use Rattle.gs_dlink.proofs.path.key_path.Goals as goal

pub returns-in_default-clause-path : goal.returns-in_default-clause-path
returns-in_default-clause-path c =
    none_left c.args.table.now c.rows.ensures.kept c.args.at c.args.path.now c.loop-value.front.now
    (map written_of (reverse c.loop-value.pairs.items)) c.loop-value.invariant.walked c.in_default.ensures

pub returns-in_default-last_slash-clause-path : goal.returns-in_default-last_slash-clause-path
returns-in_default-last_slash-clause-path c =
    one_left c.args.table.now c.rows.ensures.kept c.args.at c.args.path.now c.loop-value.front.now
    (map written_of (reverse c.loop-value.pairs.items)) c.loop-value.invariant.walked c.in-Some.value c.in-Some.ensures c.in_default-last_slash.ensures

pub loop-value-preserved : goal.loop-value-preserved
loop-value-preserved c =
    let key = rw (rest_taken (c.in-Some-last_slash.code + 1) (take c.in-Some.value c.loop-value.front.now)) at (sym c.is_key.ensures ∙ c.if-is_key.false) in
    record {
      walked = rw (pushed written_of c.loop-value.pairs.items c.push.new.self.items _ c.in_ok-push.ensures.items, rest_taken (c.in-Some-last_slash.code + 1) (take c.in-Some.value c.loop-value.front.now), rest_taken (c.in-Some.value + 1) c.loop-value.front.now)
          (one_pair_more c.args.table.now c.rows.ensures.kept c.args.at c.args.path.now c.loop-value.front.now (map written_of (reverse c.loop-value.pairs.items)) c.loop-value.invariant.walked c.in-Some.value c.in-Some-last_slash.code
          c.in-Some.ensures c.in-Some-last_slash.ensures key);
      placed = rw c.in_ok-push.ensures.items (All-push (IsPlaced c.args.table.now) c.loop-value.pairs.items _ c.loop-value.invariant.placed c.find.ensures.row);
    }

pub with_key-requires-clause-is_key : goal.with_key-requires-clause-is_key
with_key-requires-clause-is_key c = sym c.is_key.ensures ∙ c.if-is_key.true

pub returns-then-is_key-clause-path : goal.returns-then-is_key-clause-path
returns-then-is_key-clause-path c =
    let key = rw (rest_taken (c.in-Some-last_slash.code + 1) (take c.in-Some.value c.loop-value.front.now)) at (sym c.is_key.ensures ∙ c.if-is_key.true) in
    let found = key_found c.args.table.now c.rows.ensures.kept c.args.at c.args.path.now c.loop-value.front.now (map written_of (reverse c.loop-value.pairs.items)) c.loop-value.invariant.walked c.in-Some.value c.in-Some-last_slash.code
    c.in-Some.ensures c.in-Some-last_slash.ensures key in
    rw found (rw (rest_taken (c.in-Some-last_slash.code + 1) (take c.in-Some.value c.loop-value.front.now), rest_taken (c.in-Some.value + 1) c.loop-value.front.now) at c.with_key.ensures.path)
