use Rattle.outside.proofs.Running.{ran}
use Rattle.serve_rooms.specs.Serve.{serves}
use Rattle.serve_rooms.proofs.serve.run_serve.Goals as goal

pub returns : goal.returns
returns g c = ran _ (serves c.args.schema.now c.args.address.now c.args.sessions) _ _ _ c.serve_sessions-done.result c.finish.result c.serve_sessions-done.ensures c.finish.ensures
