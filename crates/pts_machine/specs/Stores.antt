-- What applying a held pack does to the settings that were applied. This project's own.
use Rattle.std.specs.Prelude.{◌≡◌, ◌+◌, ◌≤◌}
use Rattle.pts_machine.specs.Holding.{Items}
use Rattle.pts_machine.specs.declared.store.Store.{Store}
use Rattle.pts_machine.specs.Packs.{Pack, size, puts}
use Rattle.pts_machine.specs.Totals.{total}

-- all held settings wait for it, and it has room for them
abbrev pub HasRoom : Store → Items Pack → Type 0
HasRoom s m = (s.waiting ≡ total m) × (s.waiting ≤ s.table.spare)

-- the pack's settings are put, its date is the last, and fewer settings wait
abbrev pub Applied : Store → Pack → Store → Type 0
Applied s pack t = (t.table.values ≡ puts s.table.values pack.settings) × (t.date ≡ pack.date) × (t.waiting + size pack ≡ s.waiting) × (s.table.spare ≤ t.table.spare + size pack)
