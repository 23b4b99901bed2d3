use Rattle.std.proofs.Common.{◌≡◌, ◌^◌, rules, arith}
use Rattle.gs_grammar.proofs.Ones.{power_small as small_power}
use Rattle.gs_grammar_compile.proofs.ones.push_lead.Goals as goal

pub is_highest_of_double-requires-clause-small : goal.is_highest_of_double-requires-clause-small
is_highest_of_double-requires-clause-small c =
    let power : c.pow-power.result ≡ 10 ^ c.args.count = search rules in
    let small = small_power c.pow-power.result c.args.count c.requires.few power in
    let most = small.1 in
    omega arith
