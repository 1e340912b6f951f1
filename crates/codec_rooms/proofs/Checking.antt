-- Laws of `check`.
use Rattle.std.proofs.Common.{ℕ, List, codes, refl, inl}
use Rattle.tl_base.specs.declared.host.Slot.TheVariants.{Schema}
use Rattle.outside.specs.Answer.{done}
use Rattle.outside.specs.Laws.{Keeps, HasCause}
use Rattle.outside.specs.Runs.{Runs}
use Rattle.outside.proofs.Causing.{keeps_print, cause_print, cause_run}
use Rattle.codec_commands.specs.Check.{listing}
use Rattle.codec_rooms.specs.Check.{checks, lists}
use Rattle.codec_rooms.specs.Commands.{check}
use Rattle.codec_rooms.specs.Laws.{Named, IsOf}
use Rattle.codec_rooms.proofs.FileLaws.{Touches, touches}
use Rattle.codec_rooms.proofs.TypedLaws.{keeps_named, cause_of_file}

module _ (schema : List ℕ) where
  abbrev reads : Named
  reads = (check schema).reads

  keeps : Keeps (IsOf reads) (checks schema)
  keeps = keeps_named reads Schema schema (inl (refl, refl)) (codes "schema") lists (λ S. keeps_print (IsOf reads) (λ _. tt) tt (λ _. tt) tt (done (listing S.decls)))

  pub check_touches : Touches (check schema)
  check_touches = touches (check schema) keeps

  pub check_has_cause : HasCause (Runs (checks schema))
  check_has_cause = cause_run (checks schema) (cause_of_file Schema refl (codes "schema") lists schema (λ S. cause_print (done (listing S.decls)) tt))
