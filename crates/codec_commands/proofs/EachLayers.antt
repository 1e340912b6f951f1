-- Files have an answer to `layers`.
use Rattle.std.proofs.Common.{ℕ, List, codes, refl, inl, inr}
use Rattle.tl_base.specs.Outside.{IsFile}
use Rattle.tl_base.specs.Contents.{Files}
use Rattle.tl_schema.specs.CheckedPrograms.{IsSchema}
use Rattle.tl_schema.specs.Formed.{IsFormed}
use Rattle.tl_schema.specs.Types.{Shape}
use Rattle.tl_schema.specs.Schemas.{Declared}
use Rattle.outside.specs.Answer.{Answer}
use Rattle.tl_schema.proofs.AskedFormed.{text_formed}
use Rattle.schema_files.proofs.Answering.{each_of_file}
use Rattle.schema_files.proofs.OneTypeName.{type_or_refused}
use Rattle.tl_layers.proofs.EachBreaks.{each_is_unbroken_or_breaks}
use Rattle.codec_commands.proofs.OneLayers.{one_layers}
use Rattle.codec_commands.specs.Layers.{OfLayers, broken, whole, OfType, no_type, typed, LayersAnswer, EachHasOneAnswer}

pub each_told : (old : Declared) → IsSchema old → (T : Shape) → IsFormed old T → (new : Declared) → IsSchema new → (a : Answer) × OfLayers old new T a
each_told old good T formed new sound =
    let law = each_is_unbroken_or_breaks old new T good sound formed in
    elim law.either [
      | inl unbroken ↦ (let n = law.some_count in (_, whole n.0 unbroken n.1 refl))
      | inr (decl, cause, breaks) ↦ (_, broken decl cause breaks refl)
    ]

each_type : (files : Files) (type new : List ℕ) → IsFile files new → (old : Declared) → IsSchema old → (a : Answer) × OfType old type new files a
each_type files type new file old good = elim (type_or_refused old type) [
  | inl (T, means) ↦ (
      let tells = each_of_file (codes "new") (λ S. OfLayers old S T) (each_told old good T (text_formed old good type T means)) files new file in
      (tells.0, typed T means tells.1)
      )
  | inr (cause, r) ↦ (_, no_type cause r refl)
]

pub each_layers : (files : Files) (old new type : List ℕ) → IsFile files old → IsFile files new → (a : Answer) × LayersAnswer files old new type a
each_layers files old new type text file = each_of_file (codes "schema") (λ S. OfType S type new files) (each_type files type new file) files old text

pub each_has_one_answer : EachHasOneAnswer
each_has_one_answer files old new type = record { one = one_layers files old new type; there = each_layers files old new type }
