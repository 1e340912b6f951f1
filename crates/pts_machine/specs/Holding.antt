-- Held items by their starts, each with its end; and what the calls of a gap do to them and to its room.
-- From "Working with Updates" (core.telegram.org/api/updates): updates past a gap are held until it closes. The limit is this project's own.
use Rattle.std.specs.Prelude.{◌≡◌, ◌≢◌, ℕ, ◌+◌, ◌<◌, ◌≤◌, Option, Some, None, leb, refl}
use Rattle.std.specs.Coded.{Coded, code_by, coded×, coded_ℕ}
use Rattle.std.specs.Ordering.{nat_cmp}
use Rattle.std.specs.FinMap as map
use Rattle.pts_machine.specs.declared.held.Held.{Held}
use Rattle.pts_machine.specs.declared.held.Held.TheVariants.{Kept, Already, Full}

-- from start to end and item
abbrev pub Items : Type 0 → Type 0
Items E = map.FinMap nat_cmp (ℕ × E)

-- so many items are held at most
abbrev pub most : ℕ
most = 1024

-- the held items that start at p or later
abbrev pub from : {E : Type 0} → ℕ → Items E → Items E
from p m = map.retain_keys m (λ k. leb p k)

-- what callers see of a gap: its items, and for how many more there is room
pub record GapView (E : Type 0) : Type 0 where
  pub held : Items E
  pub spare : ℕ

-- a gap as a pair of its parts
abbrev pub gap_code : {E : Type 0} → Coded E → Coded (GapView E)
gap_code {E} e = code_by (Items E × ℕ) (coded× (map.code coded_ℕ (coded× coded_ℕ e)) coded_ℕ) (λ g. (g.held, g.spare)) (λ p. record { held = p.0; spare = p.1 }) (λ _. refl)

-- An item whose start is held, or that finds as many held as can be, is given back, and nothing changes. Any other is held, and
-- takes room for one at most.
abbrev pub Holds : {E : Type 0} → GapView E → GapView E → ℕ → ℕ → E → Held E → Type 0
Holds old new start end item (Already x) = (map.get old.held start ≢ None) × (x ≡ item) × (new ≡ old)
Holds old new start end item (Full x) = (map.get old.held start ≡ None) × (map.len old.held ≡ most) × (x ≡ item) × (new ≡ old)
Holds old new start end item Kept =
    (map.get old.held start ≡ None) × (map.len old.held < most) × (new.held ≡ map.insert old.held start (end, item)) × (old.spare ≤ new.spare + 1)

-- Some item that starts below p is taken. Where none starts there, nothing changes.
abbrev pub TakesBelow : {E : Type 0} → GapView E → GapView E → ℕ → Option (ℕ × E) → Type 0
TakesBelow old new p (Some x) = (s : ℕ) × (s < p) × (map.get old.held s ≡ Some x) × (new.held ≡ map.remove old.held s)
TakesBelow {E} old new p None = ((s : ℕ) (x : ℕ × E) → map.get old.held s ≡ Some x → p ≤ s) × (new ≡ old)
