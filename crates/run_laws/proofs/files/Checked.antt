-- A run of `check`.
use Rattle.std.proofs.Common.{◌≡◌, ℕ, List, [], codes, refl, inl}
use Rattle.tl_base.specs.Contents.{Files}
use Rattle.tl_base.specs.declared.host.Slot.TheVariants.{Schema}
use Rattle.tl_schema.specs.Schemas.{Declared}
use Rattle.outside.specs.Answer.{Answer, done}
use Rattle.codec_commands.specs.Check.{CheckAnswer, check_job, listing}
use Rattle.codec_commands.proofs.OneCheck.{one_check}
use Rattle.codec_rooms.specs.Check.{checks, lists}
use Rattle.run_laws.specs.Ended.{Anything, RunsJob}
use Rattle.run_laws.proofs.files.Coming.{Comes, comes_print}
use Rattle.run_laws.proofs.files.Ending.{IsPrinted, done_printed, runs_silent}
use Rattle.run_laws.proofs.files.Schemas.{comes_schema, file_printed}

module _ (schema : List ℕ) where
  abbrev Of : Files → Answer → Type 0
  Of files a = CheckAnswer files schema a

  are_printed : (files : Files) (a : Answer) → Of files a → IsPrinted a
  are_printed files a is = file_printed (codes "schema") (λ S b. b ≡ done (listing S.decls)) (λ S b told. done_printed (listing S.decls) b told) files schema a is

  abbrev Is : Declared → Files → Answer → Type 0
  Is S files a = a ≡ done (listing S.decls)

  listed : (S : Declared) → Comes (λ s. Is S s.view.files) (λ s. ⊥) (lists S)
  listed S t u status s n h f = comes_print (Is S s.view.files) ⊥ s (done (listing S.decls)) t u status refl h

  comes : Comes (λ s. Of s.view.files) (λ s. ⊥) (checks schema)
  comes = comes_schema (codes "schema") lists Is (λ S. ⊥) listed Schema tt refl schema (λ s. ⊥) (λ s. inl tt) (λ s file S has is came. came)

  pub check_runs : RunsJob Anything Anything (check_job schema) [] (checks schema)
  check_runs = runs_silent Of ⊥ (λ v. ⊥) are_printed (checks schema) Anything (λ v shown a b. one_check v.files schema a b) comes
