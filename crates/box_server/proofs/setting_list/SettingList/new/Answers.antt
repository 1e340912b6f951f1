use Rattle.box_server.proofs.KeyCounts.{indexed_none}
use Rattle.box_server.proofs.setting_list.SettingList.new.Goals as goal

pub invariant_of-result : goal.invariant_of-result
invariant_of-result c = indexed_none c.new.result.items c.new-2.result.entries c.new.ensures.items c.new-2.ensures.empty
