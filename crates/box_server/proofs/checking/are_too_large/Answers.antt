use Rattle.std.proofs.Common.{arith, ◌∙◌}
use Rattle.box_server.proofs.Causes.{less_left}
use Rattle.box_server.proofs.KeyCounts.{next_of}
use Rattle.box_server.proofs.checking.are_too_large.Goals as goal

pub loop-post-preserved : goal.loop-post-preserved
loop-post-preserved c =
    let most = c.loop-post.invariant.1 in (
      less_left _ _ c.post-item.result c.loop-post.left c.bytes_of-bytes.result (next_of c.args.posts.now c.loop-post.post-index c.post-item.result c.loop-post-test.true c.post-item.is) c.bytes_of-bytes.ensures c.if-bytes-left.false most ∙ c.loop-post.invariant.0,
      omega (arith, most),
    )
