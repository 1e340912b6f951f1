use Rattle.std.proofs.Common.{arith}
use Rattle.session_rooms.proofs.States.{state_made, state_refused}
use Rattle.session_rooms.proofs.client.recover_bytes.Goals as goal

pub returns-in-Ok : goal.returns-in-Ok
returns-in-Ok g c = state_made c.args.profile.now c.args.address.now c.args.state.now c.args.channels.now c.args.bytes.now c.in-Ok.client _ _ _ c.in-Ok.ensures.makes c.recover.ensures

pub returns-in-Err : goal.returns-in-Err
returns-in-Err g c = state_refused c.args.profile.now c.args.address.now c.args.state.now c.args.channels.now c.args.bytes.now c.in-Err.fault _ _ _ c.requires.sound (λ k. omega (arith, c.type_inv.bytes k)) c.in-Err.ensures.makes c.print_made.ensures
