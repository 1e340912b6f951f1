use Rattle.std.proofs.Common.{◌∷◌, map, take}
use Rattle.tl_types.specs.Seen.{views}
use Rattle.tl_show.specs.inner.Forms.{Stands}
use Rattle.tl_show.specs.inner.FormViews.{part_view}
use Rattle.tl_show.proofs.choosing.part_there.Given as goal

abbrev pub invariant-loop-part : goal.invariant-loop-part
invariant-loop-part l = Stands (views l.fields) (part_view l.parts.first ∷ map part_view (take l.part-index l.parts.later.items)) (part_view l.there)
