use Rattle.std.proofs.Common.{map, take}
use Rattle.tl_show.specs.Reading.{record_keys}
use Rattle.tl_show.specs.inner.Keyed.{keyed_slot}
use Rattle.tl_show.proofs.KeysApart.{HoldsKeys}
use Rattle.tl_show.proofs.keying.are_apart.Given as goal

abbrev pub invariant-loop-field : goal.invariant-loop-field
invariant-loop-field l = HoldsKeys l.keys (record_keys (map keyed_slot (take l.field-index l.fields)))
