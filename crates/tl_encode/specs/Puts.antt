-- What is appended to other bytes: the spelling, whatever it is. This project's own.
use Rattle.std.specs.Prelude.{◌≡◌, ℕ, List, ◌++◌, Result, OnOk}

-- each b that spells is what was appended
abbrev pub Puts : {E : Type 0} → (List ℕ → Type 0) → List ℕ → List ℕ → Result (Unit {0}) E → Type 0
Puts Spelled old new result = (b : List ℕ) → Spelled b → OnOk result (new ≡ old ++ b)
