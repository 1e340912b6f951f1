use Rattle.std.proofs.Common.{◌≡◌, map}
use Rattle.serde_json.specs.View.{members_view}
use Rattle.tl_show.specs.Reading.{has_other, record_keys}
use Rattle.tl_show.specs.inner.Keyed.{keyed_slot}
use Rattle.tl_show.proofs.OtherKeys.{any_other}
use Rattle.tl_show.proofs.records.has_other.Given as goal

abbrev pub invariant-loop-key : goal.invariant-loop-key
invariant-loop-key l = let ks = record_keys (map keyed_slot l.fields) in any_other ks l.key-iterator ≡ has_other ks (members_view l.members.entries)
