use Rattle.std.proofs.Common.{ℕ, drop}
use Rattle.box_server.proofs.KeyCounts.{Counting}
use Rattle.box_server.proofs.setting_list.SettingList.keys_with.Given as goal

abbrev pub invariant-loop-post : goal.invariant-loop-post
invariant-loop-post l = (date : ℕ) → Counting date l.self l.self-inside.keys l.fresh.entries l.posts (drop l.post-index l.posts)
