-- Laws of `make`.
use Rattle.std.proofs.Common.{codes, ℕ, List, [], refl, sym, subst, inl}
use Rattle.tl_base.specs.declared.host.Slot.TheVariants.{Schema}
use Rattle.outside.specs.Answer.{Answer}
use Rattle.outside.specs.Laws.{Keeps, Explains, HasCause}
use Rattle.outside.specs.Runs.{Runs}
use Rattle.outside.proofs.Causing.{keeps_answer, cause_answer, cause_run}
use Rattle.codec_rooms.specs.Laws.{Named, IsOf}
use Rattle.codec_rooms.proofs.FileLaws.{Touches, touches}
use Rattle.codec_rooms.proofs.TypedLaws.{keeps_named, cause_of_file}
use Rattle.update_commands.specs.Make.{OfMadeRun, summed, too_full}
use Rattle.update_commands.specs.Commands.{make}
use Rattle.update_commands.specs.MakeWork.{makes, makes_by}
use Rattle.update_commands.specs.Profile.{OfProfile}
use Rattle.update_commands.proofs.ProfiledLaws.{keeps_profile, cause_profile}

plain : (number count : ℕ) (a : Answer) → OfMadeRun number count a → Explains a.status []
plain number count a (summed text m is) = subst (λ (b : Answer). Explains b.status []) (sym is) tt
plain number count a (too_full at bytes m is) = subst (λ (b : Answer). Explains b.status []) (sym is) tt

module _ (schema : List ℕ) (number count : ℕ) where
  abbrev reads : Named
  reads = (make schema number count).reads

  keeps_make : Keeps (IsOf reads) (makes schema number count)
  keeps_make =
      keeps_named reads Schema schema (inl (refl, refl)) (codes "schema") (OfProfile (makes_by number count))
      (keeps_profile (makes_by number count) (IsOf reads) (λ _. tt) tt (λ _. tt) tt (λ p. keeps_answer (IsOf reads) (λ _. tt) tt (λ _. tt) tt (OfMadeRun number count)))

  pub make_touches : Touches (make schema number count)
  make_touches = touches (make schema number count) keeps_make

  pub make_has_cause : HasCause (Runs (makes schema number count))
  make_has_cause =
      cause_run (makes schema number count) (cause_of_file Schema refl (codes "schema") (OfProfile (makes_by number count)) schema (cause_profile (makes_by number count) (λ p. cause_answer (OfMadeRun number count) (plain number count))))
