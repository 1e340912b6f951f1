use Rattle.std.proofs.Common.{◌∙◌}
use Rattle.box_server.proofs.LastLists.{picking_start, picking_one, picking_none, picked_all}
use Rattle.box_server.proofs.setting_list.SettingList.changed_since.Goals as goal

pub loop-at-init : goal.loop-at-init
loop-at-init c = picking_start c.args.date c.args.self.now c.into_iter-at-iterator.result c.new-changed.result c.new-changed.ensures

pub loop-at-preserved-in_ok-push : goal.loop-at-preserved-in_ok-push
loop-at-preserved-in_ok-push c =
    picking_one c.args.date c.args.self.now c.into_iter-at-iterator.result c.loop-at.at-iterator c.next.new.self (c.in-Some.field-0-0.now, c.in-Some.at.now) c.loop-at.changed c.push.new.self c.in-Some-since.setting.now c.in-Some.ensures.steps c.in-Some-since.ensures
    (rw c.in_ok-copy.ensures at c.in_ok-push.ensures.ok) c.loop-at.invariant

pub loop-at-preserved : goal.loop-at-preserved
loop-at-preserved c =
    picking_none c.args.date c.args.self.now c.into_iter-at-iterator.result c.loop-at.at-iterator c.next.new.self (c.in-Some.field-0-0.now, c.in-Some.at.now) c.loop-at.changed c.in-Some.ensures.steps c.in_default.ensures c.loop-at.invariant

pub returns : goal.returns
returns c =
    picked_all c.args.date c.args.self.now c.self.inside.settings.items c.self.inside.last.entries c.into_iter-at-iterator.result c.loop-at.at-iterator c.loop-at.changed c.in-None.ensures.steps.0 (c.into_iter-at-iterator.ensures.into_iter_gives ∙ c.iter-at-items.ensures.rest) c.self.view_is
    c.iter-at-items.ensures.ordered c.self.invariant.shows c.loop-at.invariant
