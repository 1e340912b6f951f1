-- What `encode` tells of an input that is no value's JSON.
use Rattle.std.proofs.Common.{ℕ, List, ap}
use Rattle.tl_schema.specs.Types.{Shape}
use Rattle.tl_schema.specs.Schemas.{Declared}
use Rattle.outside.specs.Answer.{refused}
use Rattle.schema_files.specs.Causes as cause
use Rattle.schema_files.specs.Parts.{TellsForm, TellsJson}
use Rattle.codec_commands.specs.Encode.{OfJson, too_long, no_json, badly_formed, misfit}

module _ (schema : Declared) (T : Shape) where
  pub refused_form : (bytes line : List ℕ) → TellsForm schema T bytes line → OfJson schema T bytes (refused line)
  refused_form bytes line (cause.TooLong, h, is) = too_long h (ap refused is)
  refused_form bytes line (cause.NoJson, h, is) = no_json h (ap refused is)
  refused_form bytes line (cause.Unformed path why, (d, json, reads), is) = badly_formed d path why json reads (ap refused is)
  refused_form bytes line (cause.Misfit path why, h, is) = absurd h

  pub refused_json : (bytes line : List ℕ) → TellsJson schema T bytes line → OfJson schema T bytes (refused line)
  refused_json bytes line (cause.TooLong, h, is) = too_long h (ap refused is)
  refused_json bytes line (cause.NoJson, h, is) = no_json h (ap refused is)
  refused_json bytes line (cause.Unformed path why, (d, json, reads), is) = badly_formed d path why json reads (ap refused is)
  refused_json bytes line (cause.Misfit path why, (d, v, json, reads, has), is) = misfit d v path why json reads has (ap refused is)
