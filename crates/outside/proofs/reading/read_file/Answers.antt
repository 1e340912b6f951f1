use Rattle.std.proofs.Common.{[], true, false}
use Rattle.outside.specs.Events.{opened}
use Rattle.outside.specs.Pieces.{after_open}
use Rattle.outside.proofs.Begun.{may_open}
use Rattle.outside.proofs.Growing.{did_both, did_call, did_nothing, did_then}
use Rattle.outside.proofs.reading.read_file.Goals as goal

pub returns-in-Ok : goal.returns-in-Ok
returns-in-Ok g c = did_then _ (after_open c.args.slot c.args.limit) _ _ _ true _ (may_open [] c.args.slot c.args.name.now) (did_call (opened c.args.slot c.args.name.now) _ _ true c.in-Ok.ensures) c.read_slot.ensures

pub returns-in-Err : goal.returns-in-Err
returns-in-Err g c = did_both _ (after_open c.args.slot c.args.limit) _ _ _ false _ (did_call (opened c.args.slot c.args.name.now) _ _ false c.in-Err.ensures) (did_nothing _ _)
