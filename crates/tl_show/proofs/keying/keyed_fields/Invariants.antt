use Rattle.std.proofs.Common.{◌≡◌, map, take}
use Rattle.tl_schema.specs.Seen.{slot}
use Rattle.tl_show.specs.inner.Keyed.{keyed_slot}
use Rattle.tl_show.proofs.keying.keyed_fields.Given as goal

abbrev pub invariant-loop-field : goal.invariant-loop-field
invariant-loop-field l = map keyed_slot l.keyed.items ≡ map slot (take l.field-index l.fields)
