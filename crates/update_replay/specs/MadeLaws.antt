-- Laws of made runs. This project's own.
use Rattle.std.specs.Prelude.{◌≡◌, ℕ, ◌*◌, ◌≤◌, List, Result, Ok, Err, Some}
use Rattle.update_replay.specs.MadeRuns.{MakesRun, Refusal, made_refusal}
use Rattle.update_replay.specs.declared.made_fault.MadeFault.{MadeFault}
use Rattle.update_replay.specs.declared.made_fault.MadeFault.TheVariants.{PoolFull, Memory}

-- not out of memory
abbrev pub IsAnswer : Result (List ℕ) MadeFault → Type 0
IsAnswer (Ok text) = Unit {0}
IsAnswer (Err (PoolFull at bytes)) = Unit {0}
IsAnswer (Err Memory) = ⊥

-- each number and count of steps has a made run
abbrev pub EachIsMade : Type 0
EachIsMade = (number count : ℕ) → (answer : Result (List ℕ) MadeFault) × IsAnswer answer × MakesRun number count answer

-- and no two
abbrev pub OneIsMade : Type 0
OneIsMade = (number count : ℕ) (a b : Result (List ℕ) MadeFault) → IsAnswer a → IsAnswer b → MakesRun number count a → MakesRun number count b → a ≡ b

-- a made step has 48 bytes at most, so the journal of a run is short
abbrev pub MadeOffsetsAreLow : Type 0
MadeOffsetsAreLow = (number count : ℕ) (r : Refusal) → made_refusal number count ≡ Some r → r.at ≤ 48 * count
