use Rattle.outside.proofs.Running.{ran}
use Rattle.session_rooms.specs.Client.{recovers}
use Rattle.session_rooms.proofs.client.run_client.Goals as goal

pub returns : goal.returns
returns g c = ran _ (recovers c.args.schema.now c.args.address.now c.args.state.now c.args.channels.now) _ _ _ c.recover_client-done.result c.finish.result c.recover_client-done.ensures c.finish.ensures
