-- The last setting of each key of a server's list, and those that are dated not before a date. This project's own.
use Rattle.std.specs.Prelude.{ℕ, List, [], ◌∷◌, leb, if◌then◌else◌}
use Rattle.std.specs.Ordering.{nat_cmp}
use Rattle.std.specs.Cmp.Lexicographic.{slice_cmp}
use Rattle.std.specs.FinMap as map
use Rattle.box_events.specs.declared.settings.Setting.{Setting}
use Rattle.box_events.specs.SettingLists.{Dated}

-- entries by their keys, in byte order of keys
abbrev pub ByKey : Type 0
ByKey = map.FinMap (slice_cmp nat_cmp) Dated

-- with further entries, each in the place of the one before it that has its key
abbrev pub with_entries : ByKey → List Dated → ByKey
with_entries m [] = m
with_entries m (e ∷ es) = with_entries (map.insert m e.setting.key e) es

-- the last entry of each key
abbrev pub last_entries : List Dated → ByKey
last_entries L = with_entries map.empty L

-- how many keys a list of settings has
abbrev pub keys_in : List Dated → ℕ
keys_in L = map.len (last_entries L)

-- the settings of entries that are dated not before a date
abbrev pub settings_since : ℕ → List Dated → List Setting
settings_since date [] = []
settings_since date (e ∷ es) = if leb date e.date then e.setting ∷ settings_since date es else settings_since date es

-- each key's last setting that is dated not before a date, in byte order of keys
abbrev pub changed_since : List Dated → ℕ → List Setting
changed_since L date = settings_since date (map.values (last_entries L))
