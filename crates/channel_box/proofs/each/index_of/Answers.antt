use Rattle.std.proofs.Common.{refl, ap, sym, ◌∙◌, w64}
use Rattle.std.proofs.lemmas.Int.{to_z-of_z}
use Rattle.channel_box.specs.States.{has_id}
use Rattle.channel_box.proofs.Indexes.{nobody_more, stands, stands_at}
use Rattle.channel_box.proofs.each.index_of.Goals as goal

pub returns-then-has_id : goal.returns-then-has_id
returns-then-has_id c =
    stands_at _ (has_id c.args.id) c.args.channels.now c.args.channels.now c.loop-i.i (ap has_id (to_z-of_z w64 c.args.id c.ranges.id)) refl
    (stands _ c.args.channels.now c.loop-i.i c.index-channels-i.result c.loop-i-test.true c.index-channels-i.is c.loop-i.invariant (sym c.has_id.ensures ∙ c.if-has_id.true))

pub loop-i-preserved : goal.loop-i-preserved
loop-i-preserved c = nobody_more _ c.args.channels.now c.loop-i.i c.index-channels-i.result c.loop-i-test.true c.index-channels-i.is c.loop-i.invariant (sym c.has_id.ensures ∙ c.if-has_id.false)
