use Rattle.std.proofs.Common.{[], true, false}
use Rattle.tl_base.specs.declared.host.Slot.TheVariants.{Input}
use Rattle.tl_schema.specs.Seen.{shape}
use Rattle.outside.specs.Events.{opened}
use Rattle.outside.proofs.Begun.{may_open}
use Rattle.outside.proofs.Growing.{did_call, did_then}
use Rattle.codec_rooms.specs.Decode.{after_opening}
use Rattle.codec_rooms.proofs.decode.decode_file.Goals as goal

pub returns-in-Ok : goal.returns-in-Ok
returns-in-Ok g c = did_then _ (after_opening c.args.plan.now.schema (shape c.args.of.now)) _ _ _ true _ (may_open [] Input c.args.input.now) (did_call (opened Input c.args.input.now) _ _ true c.in-Ok.ensures) c.decode_open.ensures

pub returns-in-Err : goal.returns-in-Err
returns-in-Err g c = did_then _ (after_opening c.args.plan.now.schema (shape c.args.of.now)) _ _ _ false _ (may_open [] Input c.args.input.now) (did_call (opened Input c.args.input.now) _ _ false c.in-Err.ensures) c.unread.ensures
