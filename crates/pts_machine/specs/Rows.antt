-- Values as a list of settings in byte order of keys. This project's own.
use Rattle.std.specs.Prelude.{ℕ, ◌+◌, List, [], ◌∷◌, T}
use Rattle.std.specs.Ordering.{nat_cmp}
use Rattle.std.specs.Cmp.Lexicographic.{slice_cmp}
use Rattle.std.specs.FinMap as map
use Rattle.std.specs.FinMap.{is_sorted}
use Rattle.std.specs.FinMap.Entries.{by_order}
use Rattle.box_events.specs.declared.settings.Setting.{Setting}
use Rattle.pts_machine.specs.declared.table.Spot.{Spot}
use Rattle.pts_machine.specs.declared.table.Spot.TheVariants.{At, Before}
use Rattle.box_events.specs.SettingLists.{Values}

-- settings as pairs of key and value
abbrev pub pairs : List Setting → List (List ℕ × List ℕ)
pairs [] = []
pairs (x ∷ xs) = (x.key, x.value) ∷ pairs xs

-- the keys rise in byte order
abbrev pub AreSorted : List Setting → Type 0
AreSorted xs = T (is_sorted (slice_cmp nat_cmp) (pairs xs))

-- the values of settings whose keys rise
abbrev pub values_of : List Setting → Values
values_of xs = map.from_sorted (pairs xs)

-- where a key stands or belongs, counted from i
abbrev pub spot_from : ℕ → List Setting → List ℕ → Spot
spot_from i [] k = Before i
spot_from i (x ∷ xs) k = by_order (slice_cmp nat_cmp k x.key) (Before i) (At i) (spot_from (i + 1) xs k)
