use Rattle.std.proofs.Common.{inl, inr, refl, rules, arith}
use Rattle.std.proofs.lemmas.Grind.{common_steps}
use Rattle.std.specs.Prelude.{codes}
use Rattle.tdl_lines.specs.Outputs.{accepted, rejected}
use Rattle.vectors.proofs.lines.EchoAnswerer.append_answer.Goals as goal

pub returns-then-text-gt-LONGEST_TEXT-clause-line : goal.returns-then-text-gt-LONGEST_TEXT-clause-line
returns-then-text-gt-LONGEST_TEXT-clause-line c = record { answer = rejected (codes "long"); is = inl (c.if-text-gt-LONGEST_TEXT.true, refl); written = search rules; known = refl }

pub returns-clause-line : goal.returns-clause-line
returns-clause-line c = record { answer = accepted c.args.text.now; is = inr (c.if-text-gt-LONGEST_TEXT.false, refl); written = grind (arith, common_steps); known = refl }
