-- What is written to a sink. This project's own.
use Rattle.std.specs.Prelude.{◌≡◌, ℕ, List, ◌++◌, Option, Result, Ok, Err}
use Rattle.std.specs.Io.KnownBytes.{Appends}

-- a prefix of the piece was appended
abbrev pub AppendsPrefix : Option (List ℕ) → Option (List ℕ) → List ℕ → Type 0
AppendsPrefix old new piece = (prefix : List ℕ) × (rest : List ℕ) × (prefix ++ rest ≡ piece) × Appends old new prefix

-- the piece was appended, or at a fault a prefix of it
abbrev pub WritesPiece : {E : Type 0} → Option (List ℕ) → Option (List ℕ) → List ℕ → Result (Unit {0}) E → Type 0
WritesPiece old new piece (Ok u) = Appends old new piece
WritesPiece old new piece (Err e) = AppendsPrefix old new piece
