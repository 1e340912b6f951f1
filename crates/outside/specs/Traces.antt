-- What can be said of all parts of a trace, or of some. This project's own.
use Rattle.std.specs.Prelude.{◌⊎◌, List, [], ◌∷◌}

-- some part of the trace is such
abbrev pub Happened : {E : Type 0} → (E → Type 0) → List E → Type 0
Happened P [] = ⊥
Happened P (e ∷ t) = P e ⊎ Happened P t

-- each is
abbrev pub Throughout : {E : Type 0} → (E → Type 0) → List E → Type 0
Throughout P [] = Unit {0}
Throughout P (e ∷ t) = P e × Throughout P t
