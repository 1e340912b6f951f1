-- Which constructor the meaning of a name is. This project's own.
use Rattle.std.specs.Prelude.{◌≡◌, ℕ, List, Option, Some, None}
use Rattle.tl_program.specs.Program.{DeclText}
use Rattle.tl_names.specs.What.{type_named}
use Rattle.tl_names.specs.declared.what.What.{What}
use Rattle.tl_names.specs.inner.BareSteps.{OnlyOf}

-- the constructor, if it is one
abbrev pub constructor_in : What → Option ℕ
constructor_in (What.Variable i) = None
constructor_in (What.Base b) = None
constructor_in (What.Vector b) = None
constructor_in (What.Type n) = None
constructor_in (What.Constructor k) = Some k
constructor_in What.Unknown = None

-- so of each type with this number
abbrev pub OfNumber : List DeclText → ℕ → (List ℕ → Type 0) → Type 0
OfNumber ds n P = (type : List ℕ) → type_named ds type ≡ Some n → P type

-- the only constructor of the type, if it is one
abbrev pub HasOnly : List DeclText → What → Option ℕ → Type 0
HasOnly ds (What.Variable i) o = o ≡ None
HasOnly ds (What.Base x) o = o ≡ None
HasOnly ds (What.Vector boxed) o = o ≡ None
HasOnly ds (What.Type n) o = OfNumber ds n (λ type. OnlyOf ds type o)
HasOnly ds (What.Constructor k) o = o ≡ None
HasOnly ds What.Unknown o = o ≡ None
