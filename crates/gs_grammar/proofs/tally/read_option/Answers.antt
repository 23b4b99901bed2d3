use Rattle.gs_grammar.proofs.tally.read_option.Goals as goal

pub tally-requires : goal.tally-requires
tally-requires g c = record {
  items = c.items-items.ensures.each;
  derived = c.is_derived.ensures.0 c.if-not-is_derived.false;
  room = rw c.items-items.ensures.items c.requires.room;
}
