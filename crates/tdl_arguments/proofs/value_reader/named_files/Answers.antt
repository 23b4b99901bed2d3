use Rattle.std.proofs.Common.{refl}
use Rattle.tdl_arguments.proofs.value_reader.named_files.Goals as goal

pub returns : goal.returns
returns c = λ pairs are.
    rw (
      c.look_up.ensures pairs are,
      c.look_up-2.ensures pairs are,
      c.named_links.ensures pairs are,
      c.look_up-3.ensures pairs are,
      c.look_up-4.ensures pairs are,
      c.look_up-5.ensures pairs are,
      c.look_up-6.ensures pairs are,
      c.word.ensures,
      c.word-2.ensures,
      c.word-3.ensures,
      c.word-4.ensures,
      c.word-5.ensures,
      c.word-6.ensures,
    ) refl
