use Rattle.std.proofs.Common.{◌≡◌, take}
use Rattle.box_server.proofs.copying.copy_posts.Given as goal

abbrev pub invariant-loop-post : goal.invariant-loop-post
invariant-loop-post l = l.copies ≡ take l.post-index l.posts
