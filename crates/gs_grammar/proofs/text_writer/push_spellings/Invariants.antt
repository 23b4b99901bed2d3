use Rattle.std.proofs.Common.{◌≡◌, ◌++◌, drop}
use Rattle.std.specs.List.{flat_map}
use Rattle.gs_chars.specs.Answers.{BeginsWith}
use Rattle.gs_chars.specs.Escapes.{written_spelling}
use Rattle.gs_grammar.proofs.text_writer.push_spellings.Given as goal

abbrev pub invariant-loop-character : goal.invariant-loop-character
invariant-loop-character l = record {
  whole : l.text.items ++ flat_map written_spelling (drop l.character-index l.value) ≡ l.initial.text.items ++ flat_map written_spelling l.value;
  begun : BeginsWith l.text.items l.initial.text.items;
}
