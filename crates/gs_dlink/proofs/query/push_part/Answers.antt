use Rattle.std.proofs.Common.{◌≡◌, List, [], ◌∷◌, ◌++◌, All}
use Rattle.std.proofs.lemmas.List.Elements.{All-push}
use Rattle.gs_ai.specs.declared.row.AiRow.{AiRow}
use Rattle.gs_dlink.specs.Values.{IsPlaced}
use Rattle.gs_dlink.specs.declared.value.WrittenPair.{WrittenPair}
use Rattle.gs_dlink.proofs.query.push_part.Goals as goal

placed_more : (table : List AiRow) (old new : List WrittenPair) (pair : WrittenPair) → All (IsPlaced table) old → IsPlaced table pair
    → new ≡ old ++ pair ∷ [] → All (IsPlaced table) new
placed_more table old new pair placed own push = rw push (All-push (IsPlaced table) old pair placed own)

pub returns-clause-placed : goal.returns-clause-placed
returns-clause-placed c = placed_more c.args.table.now c.args.pairs.now.items _ _ c.requires c.find.ensures.row c.in_ok-push.ensures.items
