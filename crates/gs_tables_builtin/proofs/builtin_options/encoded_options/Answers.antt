use Rattle.gs_tables_builtin.specs.BuiltIn.{encoded_rows}
use Rattle.gs_tables_builtin.specs.BuiltInSupport.{rests_fit}
use Rattle.gs_tables_builtin.proofs.BuiltInLemmas.{each_passes, flat_whole, rows_more}
use Rattle.gs_tables_builtin.proofs.builtin_options.encoded_options.Goals as goal

pub loop-encoding-preserved : goal.loop-encoding-preserved
loop-encoding-preserved c =
    rows_more (encoded_rows c.args.bits) c.args.encodings.now c.loop-encoding.encoding-index c.encoding-item.result _ _ c.loop-encoding-test.true c.encoding-item.is c.loop-encoding.invariant c.in_ok-add_encoded.ensures

pub add_encoded-requires : goal.add_encoded-requires
add_encoded-requires c = each_passes rests_fit c.args.encodings.now c.loop-encoding.encoding-index c.encoding-item.result c.loop-encoding-test.true c.encoding-item.is c.requires

pub returns : goal.returns
returns c =
    rw c.from_vec.ensures (flat_whole (encoded_rows c.args.bits) c.args.encodings.now c.loop-encoding.encoding-index _ c.loop-encoding-test.false c.loop-encoding.invariant)
