use Rattle.std.proofs.Common.{map, take}
use Rattle.tl_schema.specs.Seen.{slot}
use Rattle.tl_show.specs.inner.Forms.{PutsFields}
use Rattle.tl_show.specs.inner.FormViews.{entry_views}
use Rattle.tl_show.proofs.forms.parts_of.Given as goal

abbrev pub invariant-loop-index : goal.invariant-loop-index
invariant-loop-index l = PutsFields (map slot (take l.index l.fields)) (entry_views l.parts.entries)
