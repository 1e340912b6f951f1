use Rattle.outside.proofs.Running.{ran}
use Rattle.session_rooms.specs.Post.{posts}
use Rattle.session_rooms.proofs.post.run_post.Goals as goal

pub returns : goal.returns
returns g c = ran _ (posts c.args.schema.now c.args.address.now c.args.input.now) _ _ _ c.post_call-done.result c.finish.result c.post_call-done.ensures c.finish.ensures
