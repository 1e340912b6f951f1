-- Laws of `layers`.
use Rattle.std.proofs.Common.{ℕ, List, [], codes, refl, sym, subst, inl, inr}
use Rattle.tl_base.specs.declared.host.Slot.TheVariants.{Schema, Input}
use Rattle.tl_schema.specs.Schemas.{Declared}
use Rattle.tl_schema.specs.Types.{Shape}
use Rattle.outside.specs.Answer.{Answer}
use Rattle.outside.specs.Laws.{Keeps, Explains, HasCause}
use Rattle.outside.specs.Runs.{Runs}
use Rattle.outside.proofs.Causing.{keeps_answer, cause_answer, cause_run}
use Rattle.codec_commands.specs.Layers.{OfLayers, broken, whole}
use Rattle.codec_rooms.specs.Commands.{layers}
use Rattle.codec_rooms.specs.Layers.{OfNew, compared, compares}
use Rattle.codec_rooms.specs.Laws.{Named, IsOf}
use Rattle.codec_rooms.specs.Typed.{OfAsked}
use Rattle.codec_rooms.proofs.FileLaws.{Touches, touches}
use Rattle.codec_rooms.proofs.TypedLaws.{keeps_asked, keeps_named, cause_asked, cause_of_file}

plain : (old new : Declared) (T : Shape) (a : Answer) → OfLayers old new T a → Explains a.status []
plain old new T a (broken decl cause breaks is) = subst (λ (b : Answer). Explains b.status []) (sym is) tt
plain old new T a (whole n unbroken counts is) = subst (λ (b : Answer). Explains b.status []) (sym is) tt

module _ (old new type : List ℕ) where
  abbrev reads : Named
  reads = (layers old new type).reads

  keeps : Keeps (IsOf reads) (compares old new type)
  keeps =
      keeps_named reads Schema old (inl (refl, refl)) (codes "schema") (OfAsked (OfNew new) type)
      (keeps_asked (IsOf reads) (λ _. tt) tt (λ _. tt) tt (OfNew new) type
      (λ schema T. keeps_named reads Input new (inr (inl (refl, refl))) (codes "new") (compared schema T) (λ other. keeps_answer (IsOf reads) (λ _. tt) tt (λ _. tt) tt (OfLayers schema other T))))

  pub layers_touches : Touches (layers old new type)
  layers_touches = touches (layers old new type) keeps

  pub layers_has_cause : HasCause (Runs (compares old new type))
  layers_has_cause =
      cause_run (compares old new type)
      (cause_of_file Schema refl (codes "schema") (OfAsked (OfNew new) type) old
      (cause_asked (OfNew new) type (λ schema T. cause_of_file Input refl (codes "new") (compared schema T) new (λ other. cause_answer (OfLayers schema other T) (plain schema other T)))))
