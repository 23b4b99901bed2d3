use Rattle.std.proofs.Common.{◌≡◌, ◌++◌, map, string_bytes}
use Rattle.gs_json.proofs.node.keys_of.Given as goal

-- the names so far and those of the keys that are left make the whole
abbrev pub invariant-loop-name : goal.invariant-loop-name
invariant-loop-name l = map (λ name. name.now) l.names.items ++ map string_bytes l.name-iterator ≡ map string_bytes l.initial.name-iterator
