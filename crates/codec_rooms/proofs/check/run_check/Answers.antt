use Rattle.outside.proofs.Running.{ran}
use Rattle.codec_rooms.specs.Check.{checks}
use Rattle.codec_rooms.proofs.check.run_check.Goals as goal

pub returns : goal.returns
returns g c = ran _ (checks c.args.schema.now) _ _ _ c.check_schema-done.result c.finish.result c.check_schema-done.ensures c.finish.ensures
