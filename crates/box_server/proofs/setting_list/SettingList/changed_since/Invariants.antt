use Rattle.box_server.proofs.LastLists.{Picking}
use Rattle.box_server.proofs.setting_list.SettingList.changed_since.Given as goal

abbrev pub invariant-loop-at : goal.invariant-loop-at
invariant-loop-at l = Picking l.date l.self l.initial.at-iterator l.changed l.at-iterator
