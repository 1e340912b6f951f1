-- What the calls that draw answer, by what is drawn. Out of memory is free here. This project's own.
use Rattle.std.specs.Prelude.{◌≡◌, ℕ, Result, Ok, Err}
use Rattle.update_replay.specs.Made.{Chosen}

-- what was chosen is answered, and the generator has the number after the draws
abbrev pub Chooses : {A : Type 0} → Chosen A → A → ℕ → Type 0
Chooses chosen a x = (a ≡ chosen.it) × (x ≡ chosen.x)

abbrev pub Draws : {A E : Type 0} → Chosen A → Result A E → ℕ → Type 0
Draws chosen (Ok a) x = Chooses chosen a x
Draws chosen (Err e) x = Unit {0}
