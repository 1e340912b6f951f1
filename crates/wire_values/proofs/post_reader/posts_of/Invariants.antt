use Rattle.std.proofs.Common.{◌≡◌, ◌++◌}
use Rattle.wire_forms.specs.Parts.{each}
use Rattle.wire_values.specs.Posts.{post_in}
use Rattle.wire_values.specs.Coming.{coming}
use Rattle.wire_values.proofs.post_reader.posts_of.Given as goal

abbrev pub invariant-loop-item : goal.invariant-loop-item
invariant-loop-item l = l.posts.items ++ each post_in (coming l.item-iterator) ≡ each post_in (coming l.fn.items)
