use Rattle.outside.proofs.Running.{ran}
use Rattle.codec_rooms.specs.Decode.{decodes}
use Rattle.codec_rooms.proofs.decode.run_decode.Goals as goal

pub returns : goal.returns
returns g c = ran _ (decodes c.args.schema.now c.args.of.now c.args.input.now) _ _ _ c.decode_input-done.result c.finish.result c.decode_input-done.ensures c.finish.ensures
