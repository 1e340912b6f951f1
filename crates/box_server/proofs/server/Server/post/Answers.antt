use Rattle.std.proofs.Common.{rules}
use Rattle.box_server.proofs.Taken.{unkept_at}
use Rattle.box_server.proofs.server.Server.post.Goals as goal

pub returns-in-New : goal.returns-in-New
returns-in-New c =
    unkept_at c.args.self.now c.take_unkept.new.self c.args.random_id _ _ c.args.posts.now c.in-New.keys c.in-New.draft c.take_unkept.result (search rules) (search rules) (rw c.in-New.is at c.in_ok-receipt.ensures.prepares) c.take_unkept.ensures
