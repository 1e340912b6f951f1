-- What is still to come of the fields of a record, or of the elements of a list. This project's own.
use Rattle.std.specs.Vec.Iter.{into_iter_items}
use Rattle.std.specs.declared.vec.IntoIter.{IntoIter}
use Rattle.std.specs.declared.alloc.Global.{Global}
use Rattle.tl_types.specs.Seen.{views}
use Rattle.tl_types.specs.Values.{ValueViews}
use Rattle.tl_types.specs.declared.value.Value.{Value}

-- in order
abbrev pub coming : IntoIter Value Global → ValueViews
coming it = views (into_iter_items it)
