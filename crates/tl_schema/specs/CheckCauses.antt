-- The checks in their order: the answer is the first cause that any declaration has, with the first declaration that has it. This project's own.
use Rattle.std.specs.Prelude.{◌≡◌, ◌⊎◌, ℕ, List, [], ◌∷◌, ◌++◌, Some}
use Rattle.tl_program.specs.Program.{DeclText}
use Rattle.tl_graph.specs.Firsts.{First}
use Rattle.tl_schema.specs.declared.fault.CheckCause.{CheckCause}
use Rattle.tl_schema.specs.declared.fault.CheckCause.TheVariants as cause
use Rattle.tl_schema.specs.SameName.{SameName}
use Rattle.tl_schema.specs.UnknownType.{UnknownType}
use Rattle.tl_schema.specs.UnknownVariable.{UnknownVariable}
use Rattle.tl_schema.specs.WrongArity.{WrongArity}
use Rattle.tl_schema.specs.BadResult.{BadResult}
use Rattle.tl_schema.specs.NotBare.{NotBare}
use Rattle.tl_schema.specs.BadFlag.{BadFlag}
use Rattle.tl_schema.specs.SameNumber.{SameNumber}
use Rattle.tl_schema.specs.BareCycle.{BareCycle}
use Rattle.tl_schema.specs.EmptyElement.{EmptyElement}

-- declaration k has the cause
abbrev pub HasCause : List DeclText → CheckCause → ℕ → Type 0
HasCause ds cause.SameName k = SameName ds k
HasCause ds cause.UnknownType k = UnknownType ds k
HasCause ds cause.UnknownVariable k = UnknownVariable ds k
HasCause ds cause.WrongArity k = WrongArity ds k
HasCause ds cause.BadResult k = BadResult ds k
HasCause ds cause.NotBare k = NotBare ds k
HasCause ds cause.BadFlag k = BadFlag ds k
HasCause ds cause.SameNumber k = SameNumber ds k
HasCause ds cause.BareCycle k = BareCycle ds k
HasCause ds cause.EmptyElement k = EmptyElement ds k

-- the causes in the order of the checks: those of names and of what these are applied to, those of what names mean, and those of bare references
abbrev pub name_causes : List CheckCause
name_causes = cause.SameName ∷ cause.UnknownType ∷ cause.UnknownVariable ∷ cause.WrongArity ∷ cause.BadResult ∷ []

abbrev pub meaning_causes : List CheckCause
meaning_causes = cause.NotBare ∷ cause.BadFlag ∷ cause.SameNumber ∷ []

abbrev pub reference_causes : List CheckCause
reference_causes = cause.BareCycle ∷ cause.EmptyElement ∷ []

abbrev pub causes : List CheckCause
causes = name_causes ++ (meaning_causes ++ reference_causes)

abbrev pub NoneHas : List DeclText → CheckCause → Type 0
NoneHas ds c = (k : ℕ) → HasCause ds c k → ⊥

-- none of these causes is there
abbrev pub PassesBy : List DeclText → List CheckCause → Type 0
PassesBy ds [] = Unit {0}
PassesBy ds (c ∷ cs) = NoneHas ds c × PassesBy ds cs

-- of these causes the first that any declaration has is this one, and k is the first that has it
abbrev pub RefusedBy : List DeclText → List CheckCause → ℕ → CheckCause → Type 0
RefusedBy ds [] k found = ⊥
RefusedBy ds (c ∷ cs) k found = ((found ≡ c) × First (HasCause ds c) (Some k)) ⊎ (NoneHas ds c × RefusedBy ds cs k found)

-- no declaration has a cause
abbrev pub Passes : List DeclText → Type 0
Passes ds = PassesBy ds causes

-- the program is refused for this cause, at declaration k
abbrev pub RefusedAt : List DeclText → ℕ → CheckCause → Type 0
RefusedAt ds k found = RefusedBy ds causes k found
