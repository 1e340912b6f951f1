use Rattle.fault_lines.proofs.Profiled.{are_profiles}
use Rattle.update_commands.proofs.Profiling.{profile_made, profile_refused}
use Rattle.session_rooms.specs.Client.{OfStateFile}
use Rattle.session_rooms.proofs.States.{can_state_file}
use Rattle.session_rooms.proofs.client.recover_schema.Goals as goal

pub recover_state-requires : goal.recover_state-requires
recover_state-requires g c = record { sound = (are_profiles c.args.schema.now c.in-Ok.profile c.requires c.in-Ok.ensures).0 }

pub returns-in-Ok : goal.returns-in-Ok
returns-in-Ok g c = profile_made (OfStateFile c.args.address.now c.args.state.now c.args.channels.now) c.args.schema.now c.in-Ok.profile _ _ _ c.in-Ok.ensures c.recover_state.ensures

pub returns-in-Err : goal.returns-in-Err
returns-in-Err g c =
    profile_refused (OfStateFile c.args.address.now c.args.state.now c.args.channels.now) c.args.schema.now c.requires (λ p sound. can_state_file p c.args.address.now c.args.state.now c.args.channels.now) c.in-Err.fault _ _ _ c.in-Err.ensures c.print_made.ensures
