use Rattle.std.proofs.Common.{arith, ap, ◌∙◌}
use Rattle.tl_types.specs.Values.{list}
use Rattle.tl_types.proofs.Views.{view-List}
use Rattle.wire_values.specs.Posts.{post_tree}
use Rattle.wire_forms.proofs.Lists.{row_seen}
use Rattle.wire_values.proofs.post_writer.posts_value.Goals as goal

pub returns : goal.returns
returns c = view-List _ ∙ ap list (row_seen post_tree _ _ _ c.loop-post.invariant (omega arith))
