use Rattle.outside.proofs.Running.{ran}
use Rattle.codec_rooms.specs.Encode.{encodes}
use Rattle.codec_rooms.proofs.encode.run_encode.Goals as goal

pub returns : goal.returns
returns g c = ran _ (encodes c.args.schema.now c.args.of.now c.args.input.now) _ _ _ c.encode_input-done.result c.finish.result c.encode_input-done.ensures c.finish.ensures
