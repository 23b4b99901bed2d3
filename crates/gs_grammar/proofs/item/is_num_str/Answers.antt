use Rattle.std.proofs.Common.{◌≤◌, rules, arith}
use Rattle.gs_grammar.proofs.Ones.{power_small}
use Rattle.gs_grammar.proofs.item.is_num_str.Goals as goal

pub overflow_mul-pow : goal.overflow_mul-pow
overflow_mul-pow c =
    let few : c.args.hi ≤ 12 = search rules in
    let small = power_small c.pow.result c.args.hi few (search rules) in
    let most = small.1 in
    omega arith

pub overflow_sub-pow : goal.overflow_sub-pow
overflow_sub-pow c =
    let few : c.args.hi ≤ 12 = search rules in
    let small = power_small c.pow.result c.args.hi few (search rules) in
    let some = small.0 in
    omega arith
