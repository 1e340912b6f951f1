-- What `layers` answers is one.
use Rattle.std.proofs.Common.{◌≡◌, ℕ, List, codes, sym, ap, ap₂, ◌∙◌, subst}
use Rattle.tl_base.specs.Contents.{Files}
use Rattle.tl_schema.specs.Types.{Shape}
use Rattle.tl_schema.specs.Schemas.{Declared}
use Rattle.tl_schema.specs.CheckedPrograms.{IsSchema}
use Rattle.tl_schema.proofs.OneType.{one_meaning}
use Rattle.outside.specs.Answer.{Answer, done, refused}
use Rattle.schema_files.specs.Answering.{OfSchemaFile}
use Rattle.schema_files.specs.Causes.{TypeNameCause}
use Rattle.schema_files.specs.Lines.{type_line}
use Rattle.schema_files.proofs.Answering.{one_of_file}
use Rattle.schema_files.proofs.OneTypeName.{one_type_cause, never_type}
use Rattle.tl_layers.proofs.OneCount.{one_count}
use Rattle.tl_layers.specs.declared.fault.Break.{Break}
use Rattle.tl_layers.proofs.OneBreak.{never_both, one_break}
use Rattle.codec_commands.specs.Layers.{layers_line, yes_line, OfLayers, broken, whole, OfType, no_type, typed, LayersAnswer}

-- ---- answers

one_layers_of : (old new : Declared) (T : Shape) (a c : Answer) → OfLayers old new T a → OfLayers old new T c → a ≡ c
one_layers_of old new T a c (broken i b h is) (broken j d k at) = let one = one_break old new T i j b d h k in is ∙ ap₂ (λ (x : ℕ) (y : Break). refused (layers_line x y)) one.0 one.1 ∙ sym at
one_layers_of old new T a c (broken i b h is) (whole n w counts at) = absurd (never_both old new T i b w h)
one_layers_of old new T a c (whole n w counts is) (broken j d k at) = absurd (never_both old new T j d w k)
one_layers_of old new T a c (whole n w counts is) (whole m u count at) = is ∙ ap (λ (x : ℕ). done (yes_line x)) (one_count _ n m counts count) ∙ sym at

one_new : (old : Declared) (T : Shape) (files : Files) (new : List ℕ) (a c : Answer) → OfSchemaFile (codes "new") (λ S. OfLayers old S T) files new a → OfSchemaFile (codes "new") (λ S. OfLayers old S T) files new c → a ≡ c
one_new old T = one_of_file (codes "new") (λ S. OfLayers old S T) (λ S good. one_layers_of old S T)

one_type : (type new : List ℕ) (files : Files) (old : Declared) → IsSchema old → (a c : Answer) → OfType old type new files a → OfType old type new files c → a ≡ c
one_type type new files old good a c (no_type b r is) (no_type d s at) = is ∙ ap (λ (x : TypeNameCause). refused (type_line x)) (one_type_cause old type b d r s) ∙ sym at
one_type type new files old good a c (no_type b r is) (typed s means tells) = absurd (never_type old type s b means r)
one_type type new files old good a c (typed s means tells) (no_type b r is) = absurd (never_type old type s b means r)
one_type type new files old good a c (typed s means tells) (typed u also says) =
    one_new old s files new a c tells (subst (λ (x : Shape). OfSchemaFile (codes "new") (λ S. OfLayers old S x) files new c) (one_meaning old.program type u s also means) says)

pub one_layers : (files : Files) (s n t : List ℕ) (a c : Answer) → LayersAnswer files s n t a → LayersAnswer files s n t c → a ≡ c
one_layers files s n t = one_of_file (codes "schema") (λ S. OfType S t n files) (one_type t n files) files s
