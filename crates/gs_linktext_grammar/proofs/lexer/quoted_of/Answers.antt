use Rattle.std.proofs.Common.{◌≡◌, [], sym}
use Rattle.gs_linktext_grammar.specs.Lexemes.{unquoted}
use Rattle.gs_linktext_grammar.proofs.PrefixLemmas.{no_bytes, quoted_more}
use Rattle.gs_linktext_grammar.proofs.lexer.quoted_of.Goals as goal

pub loop-step-init : goal.loop-step-init
loop-step-init c = let e : c.new-value.result ≡ [] = c.new-value.ensures in rw e (sym (no_bytes (unquoted c.args.text.now)))

pub loop-step-preserved : goal.loop-step-preserved
loop-step-preserved c =
    quoted_more c.args.text.now c.loop-step.value _ c.loop-step.rest.now c.in-Some.step.rest.now c.in-Some-byte.byte c.in-Some.step.byte c.loop-step.invariant c.in-Some.ensures.some c.in-Some-byte.is c.in_ok-push.ensures.appended
