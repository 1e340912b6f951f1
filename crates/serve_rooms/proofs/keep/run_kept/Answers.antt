use Rattle.std.proofs.Common.{ap}
use Rattle.outside.specs.Runs.{answered}
use Rattle.serve_rooms.specs.Serve.{keeps}
use Rattle.serve_rooms.proofs.KeptRuns.{ran_kept, ran_out}
use Rattle.serve_rooms.proofs.keep.run_kept.Goals as goal

pub returns-in-Ok : goal.returns-in-Ok
returns-in-Ok g c = ran_kept (keeps c.args.schema.now c.args.address.now c.args.sessions) _ _ _ c.in-Ok.status (ap answered c.in-Ok.is) c.serve_kept-keeper.ensures

pub returns-in-Err : goal.returns-in-Err
returns-in-Err g c = ran_out (keeps c.args.schema.now c.args.address.now c.args.sessions) _ _ _ _ _ c.tell-status.result (ap answered c.in-Err.is) c.serve_kept-keeper.ensures c.tell-status.ensures
