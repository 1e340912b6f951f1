-- What a lane is, apart from the code.
-- From "Working with Updates" (core.telegram.org/api/updates); the modes and the limit of 1,000,000 are this project's own.
use Rattle.std.specs.Prelude.{◌≡◌, ℕ, zero, suc, ◌+◌, ◌≤◌, ◌<◌, List, Some, Bool, true, false, refl}
use Rattle.std.specs.Coded.{Coded, code_by, coded×, coded_ℕ, coded_list}
use Rattle.std.specs.List.{sum_by}
use Rattle.std.specs.FinMap as map
use Rattle.pts_machine.specs.Holding.{Items}
use Rattle.pts_machine.specs.declared.mode.Mode.{Mode}
use Rattle.pts_machine.specs.declared.mode.Mode.TheVariants.{Live, Asking, Again}

-- its restart, the events since, the position, what is held, and whether it waits for an answer
pub record LaneState (E : Type 0) : Type 0 where
  pub restart : ℕ
  pub events : List E
  pub at : ℕ
  pub held : Items E
  pub mode : Mode

-- a mode as a number, and back
abbrev pub mode_number : Mode → ℕ
mode_number Live = 0
mode_number Again = 1
mode_number (Asking n) = suc (suc n)

abbrev pub mode_of : ℕ → Mode
mode_of zero = Live
mode_of (suc zero) = Again
mode_of (suc (suc n)) = Asking n

-- a number tells its mode
pub mode_back : (m : Mode) → mode_of (mode_number m) ≡ m
mode_back Live = refl
mode_back Again = refl
mode_back (Asking n) = refl

abbrev pub mode_code : Coded Mode
mode_code = code_by ℕ coded_ℕ mode_number mode_of mode_back

-- a lane as a row of its parts
abbrev pub state_code : {E : Type 0} → Coded E → Coded (LaneState E)
state_code {E} e = code_by (ℕ × (List E × (ℕ × (Items E × Mode))))
    (coded× coded_ℕ (coded× (coded_list e) (coded× coded_ℕ (coded× (map.code coded_ℕ (coded× coded_ℕ e)) mode_code))))
    (λ t. (t.restart, (t.events, (t.at, (t.held, t.mode))))) (λ p. record { restart = p.0; events = p.1.0; at = p.1.1.0; held = p.1.1.1.0; mode = p.1.1.1.1 }) (λ _. refl)

-- it waits for no answer
abbrev pub is_live : Mode → Bool
is_live Live = true
is_live Again = false
is_live (Asking n) = false

-- each held item ends after its start by what it counts, and no item ends above 1,000,000
abbrev pub AreSized : {E : Type 0} → (E → ℕ) → Items E → Type 0
AreSized {E} count m = (s : ℕ) (x : ℕ × E) → map.get m s ≡ Some x → (s < x.0) × (x.0 ≡ s + count x.1) × (x.0 ≤ 1000000)

-- each held item starts after a position
abbrev pub StartAfter : {E : Type 0} → ℕ → Items E → Type 0
StartAfter {E} p m = (s : ℕ) (x : ℕ × E) → map.get m s ≡ Some x → p < s

-- what holds of every lane
pub record IsSound {E : Type 0} (count : E → ℕ) (t : LaneState E) : Type 0 where
  pub sized : AreSized count t.held
  pub ahead : t.mode ≡ Live → StartAfter t.at t.held
  pub position : t.at ≡ t.restart + sum_by count t.events
  pub limit : t.at ≤ 1000000

-- what callers see of a lane: itself, and for how many further items there is room
pub record LaneView (E : Type 0) : Type 0 where
  pub state : LaneState E
  pub spare : ℕ

-- what callers see as a pair of its parts
abbrev pub lane_code : {E : Type 0} → Coded E → Coded (LaneView E)
lane_code {E} e = code_by (LaneState E × ℕ) (coded× (state_code e) coded_ℕ) (λ l. (l.state, l.spare)) (λ p. record { state = p.0; spare = p.1 }) (λ _. refl)
