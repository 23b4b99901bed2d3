use Rattle.std.proofs.Common.{◌≡◌, ◌++◌}
use Rattle.percent_encoding.specs.Iter.{encoded_text}
use Rattle.gs_chars.specs.Answers.{BeginsWith}
use Rattle.gs_ident.proofs.spelling.append_pieces.Given as goal

-- the written bytes, and those left to write
abbrev pub invariant-loop-piece : goal.invariant-loop-piece
invariant-loop-piece l = record {
  whole : l.out.items ++ encoded_text l.piece-iterator ≡ l.fn.out.items ++ encoded_text l.initial.piece-iterator;
  begun : BeginsWith l.out.items l.fn.out.items;
}
