use Rattle.gs_linkset.proofs.WrittenLemmas.{attr_parts, many_texts, one_text, tagged_texts}
use Rattle.gs_linkset.proofs.writer.AttrToJson.append.Goals as goal

pub append-requires : goal.append-requires
append-requires c =
    one_text c.args.self.now.name c.in-One.text (rw c.in-One.is at (attr_parts c.args.self.now c.requires).2)

pub put_array-requires : goal.put_array-requires
put_array-requires c =
    rw c.items.ensures (many_texts c.args.self.now.name c.in-Many.texts (rw c.in-Many.is at (attr_parts c.args.self.now c.requires).2))

pub put_array-requires-in-Tagged : goal.put_array-requires-in-Tagged
put_array-requires-in-Tagged c =
    rw c.items-in-Tagged.ensures (tagged_texts c.args.self.now.name c.in-Tagged.pairs (rw c.in-Tagged.is at (attr_parts c.args.self.now c.requires).2))
