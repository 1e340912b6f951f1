-- A step of the sixth check: the name after `%`. This project's own.
use Rattle.std.specs.Prelude.{◌≡◌, ◌⊎◌, ℕ, List, true, false, codes}
use Rattle.tl_program.specs.Program.{DeclText}
use Rattle.tl_names.specs.Writing.{is_type_name, is_variable}
use Rattle.tl_names.specs.Constructors.{IsSingle}

-- the name of a type that has a bare form
pub record IsBareName (ds : List DeclText) (d : DeclText) (name : List ℕ) : Type 0 where
  pub no_variable : is_variable d name ≡ false
  pub form : (name ≡ codes "Vector") ⊎ ((is_type_name name ≡ true) × IsSingle ds name)
