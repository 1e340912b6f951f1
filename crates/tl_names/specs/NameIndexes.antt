-- Numbers by name. This project's own.
use Rattle.std.specs.Prelude.{◌≡◌, ℕ, List, map, bytes_eq, Option, Some, Vec, unwrap_or, if◌then◌else◌}
use Rattle.std.specs.Map.{lookup}

-- the entries of a map, with the bytes of each name
abbrev pub indexes_in : {A : Type 0} → List (Vec ℕ A × ℕ) → List (List ℕ × ℕ)
indexes_in entries = map (λ e. (e.0.items, e.1)) entries

abbrev pub index_among : List (List ℕ × ℕ) → List ℕ → Option ℕ
index_among indexes name = lookup (bytes_eq name) indexes

-- the name has a number, this one if it had none, and each other name has the number that it had
abbrev pub Notes : List (List ℕ × ℕ) → List (List ℕ × ℕ) → List ℕ → ℕ → Type 0
Notes old new name at = (n : List ℕ) → index_among new n ≡ (if bytes_eq n name then Some (unwrap_or (index_among old n) at) else index_among old n)
