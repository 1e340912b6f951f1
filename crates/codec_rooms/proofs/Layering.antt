-- `layers`: what is made of both schemas, and that each of its parts can go on to its end.
use Rattle.std.proofs.Common.{ℕ, List, [], Result, Ok, Err, Vec, Global, codes}
use Rattle.tl_base.specs.declared.host.Slot.TheVariants.{Input}
use Rattle.tl_schema.specs.CheckedPrograms.{IsSchema}
use Rattle.tl_schema.specs.Formed.{IsFormed}
use Rattle.tl_schema.specs.Schemas.{Declared}
use Rattle.tl_schema.specs.Types.{Shape}
use Rattle.outside.specs.Answer.{refused}
use Rattle.outside.specs.Jobs.{making}
use Rattle.outside.specs.declared.stop.LoadError.{LoadError}
use Rattle.outside.specs.Printing.{Makes}
use Rattle.outside.specs.Steps.{Begins}
use Rattle.outside.proofs.Growing.{can_then}
use Rattle.outside.proofs.Piecewise.{can_read_file}
use Rattle.outside.proofs.Printed.{can_answer}
use Rattle.schema_files.specs.declared.schema_text.TheConstants.{SCHEMA_BYTES}
use Rattle.codec_commands.specs.Layers.{OfLayers, TellsLayers}
use Rattle.codec_commands.proofs.EachLayers.{each_told}
use Rattle.codec_rooms.specs.Layers.{OfNew, compared}
use Rattle.codec_rooms.proofs.Typing.{can_schema, refused_made}

pub layers_made : (old new : Declared) (T : Shape) (r : Result (Vec ℕ Global) LoadError) → TellsLayers old new T r → Makes (OfLayers old new T) (making r)
layers_made old new T (Ok line) h = h
layers_made old new T (Err u) h = refused_made (OfLayers old new T) (λ line. OfLayers old new T (refused line)) u (λ line told. told) h

module _ (old : Declared) (good : IsSchema old) where
  module _ (T : Shape) (formed : IsFormed old T) where
    pub can_compare : (new : Declared) → IsSchema new → Begins (compared old T new) []
    can_compare new sound = let a = each_told old good T formed new sound in can_answer (OfLayers old new T) a.0 a.1

    pub can_file : (new : List ℕ) → Begins (OfNew new old T) []
    can_file new = can_then _ _ (can_read_file Input new SCHEMA_BYTES) (can_schema (codes "new") (compared old T) can_compare)
