-- The types of a plan in the order in which they are reached, by their numbers. This project's own.
use Rattle.std.specs.Prelude.{◌≡◌, ◌⊎◌, ℕ, zero, suc, ◌<◌, ◌≤◌, List, [], ◌∷◌, ◌++◌, length, Option, Some, None, is_none, ◌==◌, ◌&&◌, if◌then◌else◌, Result, Ok, Err}
use Rattle.std.specs.Option.{option_map}
use Rattle.std.specs.Map.{lookup}
use Rattle.std.specs.Ordering.{is_eq, nat_cmp}
use Rattle.tl_plan.specs.declared.fault.PlanFault.{PlanFault}
use Rattle.tl_plan.specs.declared.fault.PlanFault.TheVariants.{TypeTooDeep, TooManyInstances, Memory}
use Rattle.tl_plan.specs.declared.fault.TheConstants.{MAX_INSTANCES, MAX_LEVELS}

-- the first index of the number, if it stands there
abbrev pub found_in : List ℕ → ℕ → Option ℕ
found_in [] n = None
found_in (m ∷ ms) n = if n == m then Some zero else option_map suc (found_in ms n)

abbrev pub noted_at : List (ℕ × ℕ) → ℕ → Option ℕ
noted_at indexes n = lookup (λ k. is_eq (nat_cmp n k)) indexes

pub record IsQueue (ns : List ℕ) (indexes : List (ℕ × ℕ)) : Type 0 where
  pub few : length ns ≤ MAX_INSTANCES
  pub noted : (n : ℕ) → noted_at indexes n ≡ found_in ns n

-- the number has this index if it had none, and each other number has the index that it had
abbrev pub KeepsFirst : List (ℕ × ℕ) → List (ℕ × ℕ) → ℕ → ℕ → Type 0
KeepsFirst old new node index = (n : ℕ) → noted_at new n ≡ (if n == node && is_none (noted_at old node) then Some index else noted_at old n)

-- the type of so many levels, which declaration decl names, came to the end, or is refused
abbrev pub Adds : List ℕ → List ℕ → ℕ → ℕ → ℕ → Result ℕ PlanFault → Type 0
Adds old new node levels decl (Ok k) = (new ≡ old ++ node ∷ []) × (k ≡ length old) × (levels ≤ MAX_LEVELS) × (length old < MAX_INSTANCES)
Adds old new node levels decl (Err (TypeTooDeep d)) = (d ≡ decl) × (MAX_LEVELS < levels)
Adds old new node levels decl (Err TooManyInstances) = (levels ≤ MAX_LEVELS) × (MAX_INSTANCES ≤ length old)
Adds old new node levels decl (Err Memory) = Unit {0}

-- it stood there, or comes to the end, or is refused
abbrev pub Meets : List ℕ → List ℕ → ℕ → ℕ → ℕ → Result ℕ PlanFault → Type 0
Meets old new node levels decl result =
    ((k : ℕ) × (result ≡ Ok k) × (found_in old node ≡ Some k) × (new ≡ old)) ⊎ ((found_in old node ≡ None) × Adds old new node levels decl result)
