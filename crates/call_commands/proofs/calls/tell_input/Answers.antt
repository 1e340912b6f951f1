use Rattle.std.proofs.Common.{true, false}
use Rattle.tl_base.specs.declared.host.Slot.TheVariants.{Input}
use Rattle.outside.specs.Events.{opened}
use Rattle.outside.specs.Begun.{to_output}
use Rattle.outside.proofs.Begun.{may_open}
use Rattle.outside.proofs.Growing.{did_any, did_both, did_call, did_then}
use Rattle.call_commands.specs.CallsWork.{after_opening}
use Rattle.call_commands.proofs.calls.tell_input.Goals as goal

pub returns-in-Ok : goal.returns-in-Ok
returns-in-Ok g c = did_then _ (after_opening c.args.schema.now) _ _ _ true _ (may_open to_output Input c.args.input.now) (did_call (opened Input c.args.input.now) _ _ true c.in-Ok.ensures) c.tell_packets.ensures

pub returns-in-Err : goal.returns-in-Err
returns-in-Err g c = did_both _ (after_opening c.args.schema.now) _ _ _ false _ (did_call (opened Input c.args.input.now) _ _ false c.in-Err.ensures) (did_any _ _ _ _ c.unread.ensures)
