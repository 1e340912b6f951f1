-- What `make` answers: the summary of a made run, or where and why its schema, profile or journal is refused. This project's own.
use Rattle.std.specs.Prelude.{◌≡◌, ℕ, List, ◌++◌, Result, Ok, Err, Vec, codes, decimal}
use Rattle.std.specs.declared.alloc.Global.{Global}
use Rattle.tl_base.specs.Contents.{Files}
use Rattle.tl_base.specs.Outside.{HasFile}
use Rattle.outside.specs.Answer.{Answer, done, placed_line, refused}
use Rattle.outside.specs.Jobs.{Job, unlinked_job}
use Rattle.outside.specs.Kept.{KeepsUnread}
use Rattle.outside.specs.Loading.{Refuses}
use Rattle.outside.specs.declared.stop.LoadError.{LoadError}
use Rattle.fault_lines.specs.Profiled.{OfProfileFile}
use Rattle.update_replay.specs.MadeRuns.{MakesRun}
use Rattle.update_replay.specs.declared.made_fault.MadeFault.TheVariants.{PoolFull}

-- the journal's step at this offset has no place in the pool, which would have so many bytes
abbrev pub full_line : ℕ → ℕ → List ℕ
full_line at bytes = placed_line (codes "journal") at (codes "PoolFull " ++ decimal bytes)

-- what the made run of a number with so many steps comes to: its summary, or that its pool would be too full
pub data OfMadeRun (number count : ℕ) (a : Answer) : Type 0 where
  summed : (text : List ℕ) → MakesRun number count (Ok text) → a ≡ done text → OfMadeRun number count a
  too_full : (at bytes : ℕ) → MakesRun number count (Err (PoolFull at bytes)) → a ≡ refused (full_line at bytes) → OfMadeRun number count a

-- the summary, or its refusal; out of memory is free
abbrev pub TellsRun : ℕ → ℕ → Result (Vec ℕ Global) LoadError → Type 0
TellsRun number count (Ok text) = OfMadeRun number count (done text.items)
TellsRun number count (Err fault) = Refuses (λ line. OfMadeRun number count (refused line)) fault

-- make's answer: by every profile the run is the same
abbrev pub MakeAnswer : Files → List ℕ → ℕ → ℕ → Answer → Type 0
MakeAnswer files schema number count a = OfProfileFile (λ p b. OfMadeRun number count b) files schema a

-- files have one answer at most, and one where the schema's is there
pub record HasOneMade (files : Files) (schema : List ℕ) (number count : ℕ) : Type 0 where
  pub one : (a b : Answer) → MakeAnswer files schema number count a → MakeAnswer files schema number count b → a ≡ b
  pub there : (text : List ℕ) → HasFile files schema text → (a : Answer) × MakeAnswer files schema number count a

abbrev pub EachHasOneMade : Type 0
EachHasOneMade = (files : Files) (schema : List ℕ) (number count : ℕ) → HasOneMade files schema number count

-- `make SCHEMA NUMBER STEPS`, which never comes to Input
abbrev pub make_job : List ℕ → ℕ → ℕ → Job
make_job schema number count = unlinked_job (λ v a. MakeAnswer v.files schema number count a) ⊥ (λ v w. KeepsUnread ⊥ v w)
