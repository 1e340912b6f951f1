use Rattle.std.proofs.Common.{◌≡◌, take, map}
use Rattle.tl_types.specs.Seen.{view}
use Rattle.wire_values.specs.Posts.{post_tree}
use Rattle.wire_values.proofs.post_writer.posts_value.Given as goal

abbrev pub invariant-loop-post : goal.invariant-loop-post
invariant-loop-post l = map view l.items.items ≡ map post_tree (take l.post-index l.posts)
