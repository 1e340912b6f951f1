-- Steps of the checks: what they ask of the meaning of a name. This project's own.
use Rattle.std.specs.Prelude.{◌≡◌, ◌↔◌, ℕ, List, Bool, true, false, IsTrue, slice_get, Option, Some, None}
use Rattle.tl_program.specs.Program.{DeclText}
use Rattle.tl_names.specs.Constructors.{IsSingle, var_counts}
use Rattle.tl_names.specs.Writing.{IsConstructorOf}
use Rattle.tl_names.specs.declared.what.What.{What}
use Rattle.tl_schema.specs.inner.Arities.{VarsOfFirst}
use Rattle.tl_names.specs.inner.WhatSteps.{OfNumber}

abbrev pub is_unknown : What → Bool
is_unknown (What.Variable i) = false
is_unknown (What.Base b) = false
is_unknown (What.Vector b) = false
is_unknown (What.Type n) = false
is_unknown (What.Constructor k) = false
is_unknown What.Unknown = true

abbrev pub means_variable : What → Bool
means_variable (What.Variable i) = true
means_variable (What.Base b) = false
means_variable (What.Vector b) = false
means_variable (What.Type n) = false
means_variable (What.Constructor k) = false
means_variable What.Unknown = false

-- the number of variables
abbrev pub HasVars : List DeclText → What → Option ℕ → Type 0
HasVars ds (What.Variable i) o = o ≡ Some 0
HasVars ds (What.Base b) o = o ≡ Some 0
HasVars ds (What.Vector b) o = o ≡ Some 1
HasVars ds (What.Type n) o = OfNumber ds n (λ type. VarsOfFirst (IsConstructorOf ds type) o)
HasVars ds (What.Constructor k) o = o ≡ slice_get (var_counts ds) k
HasVars ds What.Unknown o = o ≡ None

-- whether it has a bare form
abbrev pub HasForm : List DeclText → What → Bool → Type 0
HasForm ds (What.Variable i) b = b ≡ false
HasForm ds (What.Base x) b = b ≡ false
HasForm ds (What.Vector boxed) b = b ≡ boxed
HasForm ds (What.Type n) b = OfNumber ds n (λ type. IsTrue b ↔ IsSingle ds type)
HasForm ds (What.Constructor k) b = b ≡ false
HasForm ds What.Unknown b = b ≡ false
