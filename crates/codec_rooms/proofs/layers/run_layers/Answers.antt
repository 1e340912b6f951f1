use Rattle.outside.proofs.Running.{ran}
use Rattle.codec_rooms.specs.Layers.{compares}
use Rattle.codec_rooms.proofs.layers.run_layers.Goals as goal

pub returns : goal.returns
returns g c = ran _ (compares c.args.old.now c.args.new.now c.args.of.now) _ _ _ c.compare_schemas-done.result c.finish.result c.compare_schemas-done.ensures c.finish.ensures
