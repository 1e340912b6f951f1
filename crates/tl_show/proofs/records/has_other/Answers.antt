use Rattle.std.proofs.Common.{map, ap, ◌∙◌}
use Rattle.tl_show.specs.Reading.{record_keys}
use Rattle.tl_show.specs.inner.Keyed.{keyed_slot}
use Rattle.tl_show.proofs.OtherKeys.{any_other, other_keys}
use Rattle.tl_show.proofs.records.has_other.Goals as goal

pub loop-key-init : goal.loop-key-init
loop-key-init c =
    let ks = record_keys (map keyed_slot c.args.fields.now) in
    ap (any_other ks) (c.into_iter-key-iterator.ensures.into_iter_gives ∙ c.keys-key-items.ensures.rest) ∙ other_keys ks c.args.members.now.entries
