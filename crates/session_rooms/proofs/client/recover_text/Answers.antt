use Rattle.std.proofs.Common.{codes}
use Rattle.codec_rooms.proofs.Typing.{text_read, text_refused}
use Rattle.update_commands.specs.Profile.{OfProfile}
use Rattle.update_commands.proofs.Profiling.{can_profile}
use Rattle.session_rooms.specs.Client.{OfStateFile}
use Rattle.session_rooms.proofs.States.{can_state_file}
use Rattle.session_rooms.proofs.client.recover_text.Goals as goal

pub returns-in-Ok : goal.returns-in-Ok
returns-in-Ok g c = text_read (codes "schema") (OfProfile (OfStateFile c.args.address.now c.args.state.now c.args.channels.now)) c.args.text.now c.in-Ok.schema _ _ _ c.in-Ok.ensures c.recover_schema.ensures

pub returns-in-Err : goal.returns-in-Err
returns-in-Err g c =
    let Rest = OfStateFile c.args.address.now c.args.state.now c.args.channels.now in
    text_refused (codes "schema") (OfProfile Rest) (λ schema good. can_profile Rest schema good (λ p sound. can_state_file p c.args.address.now c.args.state.now c.args.channels.now)) c.args.text.now c.in-Err.fault _ _ _ c.in-Err.ensures c.print_made.ensures
