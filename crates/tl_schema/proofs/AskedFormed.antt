-- The type that a text asks for is formed.
use Rattle.std.proofs.Common.{ℕ, List, Result, Ok, Err, sym, subst}
use Rattle.std.specs.Prelude.{IfOk}
use Rattle.std.proofs.lemmas.Option.{none-some}
use Rattle.tl_program.specs.Trees.{Tree}
use Rattle.tl_names.specs.Parts.{IsPart}
use Rattle.tl_schema.specs.Types.{Shape}
use Rattle.tl_schema.specs.Seen.{shape}
use Rattle.tl_schema.specs.Schemas.{Declared}
use Rattle.tl_schema.specs.CheckedPrograms.{IsSchema}
use Rattle.tl_schema.specs.Meanings.{meaning}
use Rattle.tl_schema.specs.AskedTypes.{asker, type_causes, IsTypeText, PassesTypeBy, NamesType}
use Rattle.tl_schema.specs.Formed.{IsFormed}
use Rattle.tl_schema.specs.declared.schema.TypeRef.{TypeRef}
use Rattle.tl_schema.specs.declared.fault.TypeFault.{TypeFault}
use Rattle.tl_schema.proofs.FormedTypes.{IsFine, type_formed}

module _ (schema : Declared) (good : IsSchema schema) where
  module _ (t : Tree) (passes : PassesTypeBy schema.program type_causes t) where
    asked_part : (u : Tree) → IsPart u t → IsFine schema.program asker 0 u
    asked_part u inside = record {
      known = λ h. passes.0 (u, inside, h);
      applied = λ h. passes.1.0 (u, inside, h);
      bare = λ h. passes.1.1.0 (u, inside, h);
      full = λ h. passes.1.1.1.0 (u, inside, h);
      below = λ _ i at. absurd (none-some i at);
    }

    asked_formed : IsFormed schema (meaning schema.program asker t)
    asked_formed = type_formed schema good asker 0 t asked_part

  -- what a text means, and what it names, is formed
  pub text_formed : (text : List ℕ) (s : Shape) → IsTypeText schema.program text s → IsFormed schema s
  text_formed text s is = subst (IsFormed schema) (sym is.means) (asked_formed is.t is.passes)

  pub named_formed : (text : List ℕ) (r : Result TypeRef TypeFault) → NamesType schema.program text r → IfOk r (λ type. IsFormed schema (shape type))
  named_formed text (Ok type) is = text_formed text (shape type) is
  named_formed text (Err fault) is = tt
