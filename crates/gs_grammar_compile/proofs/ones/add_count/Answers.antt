use Rattle.std.proofs.Common.{◌≡◌, ◌^◌, rules, arith}
use Rattle.gs_grammar.proofs.Ones.{power_small as small_power}
use Rattle.gs_grammar_compile.proofs.ones.add_count.Goals as goal

pub overflow_mul-power : goal.overflow_mul-power
overflow_mul-power c =
    let power : c.pow-power.result ≡ 10 ^ c.args.count = search rules in
    let small = small_power c.pow-power.result c.args.count c.requires.few power in
    let most = small.1 in
    omega arith

pub overflow_sub-power : goal.overflow_sub-power
overflow_sub-power c =
    let power : c.pow-power.result ≡ 10 ^ c.args.count = search rules in
    let small = small_power c.pow-power.result c.args.count c.requires.few power in
    let some = small.0 in
    omega arith
