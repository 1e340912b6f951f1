use Rattle.std.proofs.Common.{refl}
use Rattle.std.proofs.lemmas.Option.{slice_get_read}
use Rattle.tl_layers.proofs.FieldIndexes.{index_noted, indexes_all}
use Rattle.tl_layers.proofs.fields.names_of.Goals as goal

pub loop-i-preserved : goal.loop-i-preserved
loop-i-preserved c =
    index_noted c.args.fields.now c.loop-i.i c.index-fields-i.result (slice_get_read c.args.fields.now _ c.loop-i.i c.index-fields-i.result refl c.loop-i-test.true c.index-fields-i.is)
    c.loop-i.names c.note.new.self c.as_slice.result.now c.as_slice.ensures.value c.in_ok-note.ensures.noted c.loop-i.invariant

pub returns : goal.returns
returns c = indexes_all c.args.fields.now c.loop-i.i c.loop-i.names c.loop-i-test.false c.loop-i.invariant
