use Rattle.std.proofs.Common.{◌++◌, ℕ, List, map, take}
use Rattle.gs_linkset.specs.declared.link_types.Target.{Target}
use Rattle.gs_linktext.specs.Contexts.{IsCut}
use Rattle.gs_linktext.proofs.reader.push_types.Given as goal

abbrev pub invariant-loop-name : goal.invariant-loop-name
invariant-loop-name l = (links : List (List ℕ × List ℕ × Target)) → IsCut links l.fn.contexts.items → IsCut
    (links ++ map (λ type. (l.anchor, type, l.target)) (take l.name-index (map (λ type. type.now) l.types))) l.contexts.items
