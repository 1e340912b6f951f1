-- Steps of the fourth check: how many variables a name has, by the first constructor that it means. This project's own.
use Rattle.std.specs.Prelude.{◌≡◌, ℕ, ◌<◌, ◌↔◌, List, length, Option, Some, None}
use Rattle.tl_program.specs.Program.{DeclText}
use Rattle.tl_schema.specs.WrongArity.{HasArity}

-- declaration k is c, and is the first that is such
abbrev pub FirstAt : (ℕ → DeclText → Type 0) → ℕ → DeclText → Type 0
FirstAt Q k c = Q k c × ((j : ℕ) (b : DeclText) → j < k → Q j b → ⊥)

-- how many variables the first such declaration has; none where there is none
abbrev pub VarsOfFirst : (ℕ → DeclText → Type 0) → Option ℕ → Type 0
VarsOfFirst Q (Some n) = (k : ℕ) × (c : DeclText) × FirstAt Q k c × (length c.vars ≡ n)
VarsOfFirst Q None = (k : ℕ) (c : DeclText) → Q k c → ⊥

-- the name has exactly this number of variables where d writes it, or none is known
abbrev pub IsArity : List DeclText → DeclText → List ℕ → Option ℕ → Type 0
IsArity ds d name arity = (n : ℕ) → HasArity ds d name n ↔ (arity ≡ Some n)
