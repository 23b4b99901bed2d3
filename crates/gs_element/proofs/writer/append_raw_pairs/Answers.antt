use Rattle.gs_element.proofs.WritingLemmas.{all_written, attributes_in_order, key_in_order, qualifiers_in_order}
use Rattle.gs_element.proofs.writer.append_raw_pairs.Goals as goal

pub is_open-unclosed-requires : goal.is_open-unclosed-requires
is_open-unclosed-requires c = key_in_order c.args.table.now c.args.key.now c.args.qualifiers.now c.args.attributes.now c.requires

pub write_elements-requires : goal.write_elements-requires
write_elements-requires c = qualifiers_in_order c.args.table.now c.args.key.now c.args.qualifiers.now c.args.attributes.now c.requires

pub write_elements-requires-2 : goal.write_elements-requires-2
write_elements-requires-2 c = attributes_in_order c.args.table.now c.args.key.now c.args.qualifiers.now c.args.attributes.now c.requires

pub returns-clause-written : goal.returns-clause-written
returns-clause-written c =
    let coded = rw c.as_bytes.ensures at c.in_ok-extend_from_slice.ensures.items in
    let valued = rw c.as_bytes-2.ensures at c.in_ok-extend_from_slice-2.ensures.items in
    all_written c.args.key.now c.args.qualifiers.now c.args.attributes.now c.args.out.now.items _ _ _ _ _ _ coded valued c.is_open-unclosed.ensures c.in_ok-unclosed.ensures.written c.in_ok-unclosed.ensures.last c.in_ok-write_elements.ensures.written
