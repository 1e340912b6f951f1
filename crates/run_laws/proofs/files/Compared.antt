-- A run of `layers`.
use Rattle.std.proofs.Common.{ℕ, List, [], codes, refl, subst, inl, inr}
use Rattle.tl_base.specs.Contents.{Files}
use Rattle.tl_base.specs.declared.host.Slot.TheVariants.{Schema, Input}
use Rattle.tl_schema.specs.AskedTypes.{IsTypeText}
use Rattle.tl_schema.specs.Schemas.{Declared}
use Rattle.tl_schema.specs.Types.{Shape}
use Rattle.tl_schema.proofs.OneType.{one_meaning}
use Rattle.outside.specs.Answer.{Answer, refused}
use Rattle.schema_files.specs.Answering.{OfSchemaFile}
use Rattle.schema_files.specs.Lines.{type_line}
use Rattle.schema_files.proofs.OneTypeName.{never_type}
use Rattle.codec_commands.specs.Layers.{LayersAnswer, NamesType, OfLayers, OfType, ReachesNew, broken, layers_job, whole}
use Rattle.codec_commands.specs.Layers as answer
use Rattle.codec_commands.proofs.OneLayers.{one_layers}
use Rattle.codec_rooms.specs.Layers.{OfNew, compared, compares}
use Rattle.codec_rooms.specs.Typed.{OfAsked, no_type, typed}
use Rattle.outside.specs.Events.{Outside}
use Rattle.run_laws.specs.Ended.{Anything, RunsJob}
use Rattle.run_laws.proofs.files.Coming.{Comes, comes_as, comes_print}
use Rattle.run_laws.proofs.files.Ending.{IsPrinted, done_printed, refused_printed, runs_silent}
use Rattle.run_laws.proofs.files.Schemas.{Reached, comes_schema, file_printed}

layers_printed : (old new : Declared) (T : Shape) (a : Answer) → OfLayers old new T a → IsPrinted a
layers_printed old new T a (broken decl cause breaks is) = refused_printed _ a is
layers_printed old new T a (whole n unbroken counts is) = done_printed _ a is

module _ (old new type : List ℕ) where
  abbrev Of : Files → Answer → Type 0
  Of files a = LayersAnswer files old new type a

  type_printed : (files : Files) (S : Declared) (a : Answer) → OfType S type new files a → IsPrinted a
  type_printed files S a (answer.no_type cause r is) = refused_printed (type_line cause) a is
  type_printed files S a (answer.typed T is tells) = file_printed (codes "new") (λ X. OfLayers S X T) (λ X b told. layers_printed S X T b told) files new a tells

  are_printed : (files : Files) (a : Answer) → Of files a → IsPrinted a
  are_printed files a is = file_printed (codes "schema") (λ S. OfType S type new files) (type_printed files) files old a is

  abbrev OfNewFile : Declared → Shape → Outside → Answer → Type 0
  OfNewFile S T s a = OfSchemaFile (codes "new") (λ X. OfLayers S X T) s.view.files new a

  new_comes : (S : Declared) (T : Shape) → Comes (OfNewFile S T) Reached (OfNew new S T)
  new_comes S T =
      comes_schema (codes "new") (compared S T) (λ X files. OfLayers S X T) (λ X. Unit {0}) (λ X t u status s n (a, is, h) f. comes_print (OfLayers S X T) (Unit {0}) s a t u status is h) Input tt refl new Reached
      (λ s. inr tt) (λ s file X has is came. tt)

  type_tells : (S : Declared) (T : Shape) (s : Outside) (a : Answer) → IsTypeText S.program type T → OfType S type new s.view.files a → OfNewFile S T s a
  type_tells S T s a is (answer.no_type cause r at) = absurd (never_type S type T cause is r)
  type_tells S T s a is (answer.typed U also tells) = subst (λ (x : Shape). OfNewFile S x s a) (one_meaning S.program type U T also is) tells

  old_comes : (S : Declared) → Comes (λ s. OfType S type new s.view.files) (λ s. NamesType S type) (OfAsked (OfNew new) type S)
  old_comes S t u status s n (no_type cause r h) f = comes_print (OfType S type new s.view.files) (NamesType S type) s (refused (type_line cause)) t u status (answer.no_type cause r refl) h
  old_comes S t u status s n (typed T is h) f =
      comes_as (OfNewFile S T s) (OfType S type new s.view.files) (Reached s) (NamesType S type) s s (λ a tells. answer.typed T is tells) (λ a tells. type_tells S T s a is tells) (λ c. (T, is)) (λ r. r) t u status
      (new_comes S T t u status s n h f)

  comes : Comes (λ s. Of s.view.files) (λ s. ReachesNew s.view.files old type) (compares old new type)
  comes =
      comes_schema (codes "schema") (OfAsked (OfNew new) type) (λ S files. OfType S type new files) (λ S. NamesType S type) old_comes Schema tt refl old (λ s. ReachesNew s.view.files old type) (λ s. inl tt)
      (λ s file S has is came. record { text = file; of = S; there = has; accepted = is; named = came })

  pub layers_runs : RunsJob Anything Anything (layers_job old new type) [] (compares old new type)
  layers_runs =
      runs_silent Of ⊥ (λ v. ReachesNew v.files old type) are_printed (compares old new type) Anything (λ v shown a b. one_layers v.files old new type a b) comes
