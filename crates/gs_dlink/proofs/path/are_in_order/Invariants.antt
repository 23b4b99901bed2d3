use Rattle.gs_dlink.specs.ValuesSupport.{written_of}
use Rattle.std.proofs.Common.{map}
use Rattle.gs_dlink.proofs.OrderLemmas.{Ordered}
use Rattle.gs_dlink.proofs.path.are_in_order.Given as goal

abbrev pub invariant-loop-code : goal.invariant-loop-code
invariant-loop-code l = Ordered l.list (map written_of l.pairs) l.code-index l.next
