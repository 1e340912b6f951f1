-- Files have one answer to `make`.
use Rattle.std.proofs.Common.{◌≡◌, ℕ, List, [], Result, Ok, Err, refl, sym, ap, ◌∙◌}
use Rattle.tl_base.specs.Contents.{Files}
use Rattle.tl_base.specs.Outside.{HasFile}
use Rattle.outside.specs.Answer.{Answer, done, refused}
use Rattle.fault_lines.proofs.Profiled.{each_profiled, one_profiled}
use Rattle.update_replay.specs.MadeRuns.{MakesRun}
use Rattle.update_replay.specs.declared.made_fault.MadeFault.{MadeFault}
use Rattle.update_replay.specs.declared.made_fault.MadeFault.TheVariants.{PoolFull, Memory}
use Rattle.update_replay.specs.MadeLaws.{IsAnswer}
use Rattle.update_replay.proofs.MadeRefusals.{each_is_made, one_is_made}
use Rattle.update_commands.specs.Make.{EachHasOneMade, MakeAnswer, OfMadeRun, full_line, summed, too_full}

-- ---- runs

-- what a run's answer is told as
abbrev told_of : Result (List ℕ) MadeFault → Answer
told_of (Ok text) = done text
told_of (Err (PoolFull at bytes)) = refused (full_line at bytes)
told_of (Err Memory) = done []

module _ (number count : ℕ) where
  one_run : (a b : Answer) → OfMadeRun number count a → OfMadeRun number count b → a ≡ b
  one_run a b (summed s m is) (summed t n at) = is ∙ ap told_of (one_is_made number count (Ok s) (Ok t) tt tt m n) ∙ sym at
  one_run a b (summed s m is) (too_full i bytes n at) = is ∙ ap told_of (one_is_made number count (Ok s) (Err (PoolFull i bytes)) tt tt m n) ∙ sym at
  one_run a b (too_full i bytes m is) (summed t n at) = is ∙ ap told_of (one_is_made number count (Err (PoolFull i bytes)) (Ok t) tt tt m n) ∙ sym at
  one_run a b (too_full i bytes m is) (too_full j more n at) = is ∙ ap told_of (one_is_made number count (Err (PoolFull i bytes)) (Err (PoolFull j more)) tt tt m n) ∙ sym at

  run_told : (r : Result (List ℕ) MadeFault) → IsAnswer r → MakesRun number count r → (a : Answer) × OfMadeRun number count a
  run_told (Ok text) is m = (done text, summed text m refl)
  run_told (Err (PoolFull at bytes)) is m = (refused (full_line at bytes), too_full at bytes m refl)
  run_told (Err Memory) is m = absurd is

  pub each_run : (a : Answer) × OfMadeRun number count a
  each_run = let made = each_is_made number count in run_told made.0 made.1 made.2

  -- ---- files

  pub one_make : (files : Files) (schema : List ℕ) (a b : Answer) → MakeAnswer files schema number count a → MakeAnswer files schema number count b → a ≡ b
  one_make = one_profiled (λ p c. OfMadeRun number count c) (λ p good. one_run)

  pub each_make : (files : Files) (schema text : List ℕ) → HasFile files schema text → (a : Answer) × MakeAnswer files schema number count a
  each_make files schema text has = each_profiled (λ p c. OfMadeRun number count c) (λ p good. each_run) files schema (text, has)

pub each_has_one_made : EachHasOneMade
each_has_one_made files schema number count = record { one = one_make number count files schema; there = each_make number count files schema }
