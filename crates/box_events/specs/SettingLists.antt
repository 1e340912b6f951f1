-- Lists of settings, as a server keeps them: the last setting of each key, and what settings bring an older table to the latest.
-- This project's own.
use Rattle.std.specs.Prelude.{◌≡◌, ℕ, ◌<◌, ◌≤◌, List, [], ◌∷◌, Bool, Option, Some, None, cond, take, drop, leb, length, slice_index_or}
use Rattle.std.specs.List.{All}
use Rattle.std.specs.Ordering.{nat_cmp, eq_by_cmp}
use Rattle.std.specs.Cmp.Lexicographic.{slice_cmp}
use Rattle.std.specs.FinMap as map
use Rattle.box_events.specs.declared.settings.Setting.{Setting}

-- values by their keys, in byte order of keys
abbrev pub Values : Type 0
Values = map.FinMap (slice_cmp nat_cmp) (List ℕ)

-- a setting of the server, with its date
pub record Dated : Type 0 where
  pub setting : Setting
  pub date : ℕ

-- two keys are one
abbrev pub same_key : List ℕ → List ℕ → Bool
same_key q k = eq_by_cmp (slice_cmp nat_cmp) q k

-- the first, or where there is none the other
abbrev pub or_else : {A : Type 0} → Option A → Option A → Option A
or_else None o = o
or_else (Some x) o = Some x

-- the last entry of a key
abbrev pub last_of : List Dated → List ℕ → Option Dated
last_of [] q = None
last_of (e ∷ es) q = or_else (last_of es q) (cond (same_key q e.setting.key) (Some e) None)

-- an entry's value
abbrev pub value_of : Option Dated → Option (List ℕ)
value_of None = None
value_of (Some e) = Some e.setting.value

-- for each key among the first s entries, the value of its last entry among them
abbrev pub IsLatest : List Dated → ℕ → Values → Type 0
IsLatest L s m = (q : List ℕ) → map.get m q ≡ value_of (last_of (take s L) q)

-- the last value of a key in settings
abbrev pub last_set : List Setting → List ℕ → Option (List ℕ)
last_set [] q = None
last_set (x ∷ xs) q = or_else (last_set xs q) (cond (same_key q x.key) (Some x.value) None)

-- the value of an entry that is dated not before a date
abbrev pub value_since : ℕ → Option Dated → Option (List ℕ)
value_since d None = None
value_since d (Some e) = cond (leb d e.date) (Some e.setting.value) None

-- settings that have exactly the keys whose last entry among the first seq is dated not before a date, each with that entry's value
abbrev pub IsOverlay : List Dated → ℕ → ℕ → List Setting → Type 0
IsOverlay L seq date settings = (q : List ℕ) → last_set settings q ≡ value_since date (last_of (take seq L) q)

-- the settings past a seq are dated not before a date
abbrev pub AreSince : List Dated → ℕ → ℕ → Type 0
AreSince L seq date = All (λ e. date ≤ e.date) (drop seq L)

-- from a seq on, no setting is dated before one that stands ahead of it
abbrev pub NeverFallFrom : ℕ → List Dated → Type 0
NeverFallFrom seq L = (i j : ℕ) (d : Dated) → seq ≤ i → i ≤ j → j < length L → (slice_index_or L i d).date ≤ (slice_index_or L j d).date
