use Rattle.fault_lines.proofs.Profiled.{are_profiles}
use Rattle.update_commands.proofs.Profiling.{profile_made, profile_refused}
use Rattle.session_rooms.specs.Post.{OfInputFile}
use Rattle.session_rooms.proofs.Posting.{can_input}
use Rattle.session_rooms.proofs.post.post_schema.Goals as goal

pub post_input-requires : goal.post_input-requires
post_input-requires g c = record { sound = (are_profiles c.args.schema.now c.in-Ok.profile c.requires c.in-Ok.ensures).0 }

pub returns-in-Ok : goal.returns-in-Ok
returns-in-Ok g c = profile_made (OfInputFile c.args.address.now c.args.input.now) c.args.schema.now c.in-Ok.profile _ _ _ c.in-Ok.ensures c.post_input.ensures

pub returns-in-Err : goal.returns-in-Err
returns-in-Err g c = profile_refused (OfInputFile c.args.address.now c.args.input.now) c.args.schema.now c.requires (λ p sound. can_input p c.args.address.now c.args.input.now) c.in-Err.fault _ _ _ c.in-Err.ensures c.print_made.ensures
