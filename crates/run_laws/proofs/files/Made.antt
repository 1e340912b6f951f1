-- A run of `make`.
use Rattle.std.proofs.Common.{ℕ, List, [], codes, refl, inl}
use Rattle.tl_base.specs.Contents.{Files}
use Rattle.tl_base.specs.declared.host.Slot.TheVariants.{Schema}
use Rattle.tl_schema.specs.Schemas.{Declared}
use Rattle.wire_profile.specs.Indexes.{ProfileView}
use Rattle.outside.specs.Answer.{Answer}
use Rattle.fault_lines.specs.Profiled as answer
use Rattle.update_commands.specs.Make.{MakeAnswer, OfMadeRun, make_job, summed, too_full}
use Rattle.update_commands.proofs.OneMake.{one_make}
use Rattle.update_commands.specs.MakeWork.{makes, makes_by}
use Rattle.update_commands.specs.Profile.{OfProfile}
use Rattle.run_laws.specs.Ended.{Anything, RunsJob}
use Rattle.run_laws.proofs.files.Coming.{Comes, comes_print}
use Rattle.run_laws.proofs.files.Ending.{IsPrinted, done_printed, refused_printed, runs_silent}
use Rattle.run_laws.proofs.files.Profiled.{comes_profile, profile_printed}
use Rattle.run_laws.proofs.files.Schemas.{comes_schema, file_printed}

module _ (schema : List ℕ) (number count : ℕ) where
  abbrev Of : Files → Answer → Type 0
  Of files a = MakeAnswer files schema number count a

  run_printed : (p : ProfileView) (a : Answer) → OfMadeRun number count a → IsPrinted a
  run_printed p a (summed text m is) = done_printed text a is
  run_printed p a (too_full at bytes m is) = refused_printed _ a is

  abbrev Tells : ProfileView → Files → Answer → Type 0
  Tells p files a = OfMadeRun number count a

  abbrev OfMade : Declared → Answer → Type 0
  OfMade = answer.OfProfile (λ p b. OfMadeRun number count b)

  are_printed : (files : Files) (a : Answer) → Of files a → IsPrinted a
  are_printed files a is = file_printed (codes "schema") OfMade (profile_printed (λ p b. OfMadeRun number count b) run_printed) files schema a is

  run_comes : (p : ProfileView) → Comes (λ s. OfMadeRun number count) (λ s. ⊥) (makes_by number count p)
  run_comes p t u status s n (a, is, h) f = comes_print (OfMadeRun number count) ⊥ s a t u status is h

  comes : Comes (λ s. Of s.view.files) (λ s. ⊥) (makes schema number count)
  comes =
      comes_schema (codes "schema") (OfProfile (makes_by number count)) (λ S files. OfMade S) (λ S. ⊥) (λ S. comes_profile (makes_by number count) Tells ⊥ ⊥ S (λ p is came. came) run_comes) Schema tt refl schema
      (λ s. ⊥) (λ s. inl tt) (λ s file S has is came. came)

  pub make_runs : RunsJob Anything Anything (make_job schema number count) [] (makes schema number count)
  make_runs = runs_silent Of ⊥ (λ v. ⊥) are_printed (makes schema number count) Anything (λ v shown a b. one_make number count v.files schema a b) comes
