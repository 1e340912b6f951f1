use Rattle.std.proofs.Common.{◌≡◌, take, map}
use Rattle.tl_schema.specs.Seen.{shape}
use Rattle.tl_layers.specs.Counterparts.{image}
use Rattle.tl_layers.proofs.images.+image_of.Given as goal

abbrev pub invariant-images_of-loop-of : goal.invariant-images_of-loop-of
invariant-images_of-loop-of l = map shape l.images.items ≡ map (λ t. image l.pair.old l.pair.new (shape t)) (take l.of-index l.of-items)
