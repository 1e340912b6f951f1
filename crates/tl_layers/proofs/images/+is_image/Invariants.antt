use Rattle.std.proofs.Common.{◌≡◌, ℕ, ◌<◌, slice_get, Some, true}
use Rattle.tl_schema.specs.Seen.{shape}
use Rattle.tl_schema.specs.declared.schema.TypeRef.{TypeRef}
use Rattle.tl_plan.specs.Types.{is_same}
use Rattle.tl_layers.specs.Counterparts.{image}
use Rattle.tl_layers.proofs.images.+is_image.Given as goal

abbrev pub invariant-are_images-loop-i : goal.invariant-are_images-loop-i
invariant-are_images-loop-i l =
    (k : ℕ) (x y : TypeRef) → k < l.i → slice_get l.made.items k ≡ Some x → slice_get l.all.items k ≡ Some y → is_same (shape x) (image l.pair.old l.pair.new (shape y)) ≡ true
