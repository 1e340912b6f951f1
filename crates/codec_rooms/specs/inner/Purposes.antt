-- What is done with a type of a schema, with its plan and with a value of it. This project's own.
use Rattle.std.specs.Prelude.{ℕ, ◌<◌, List}
use Rattle.tl_plan.specs.PlanLaws.{IsInstance}
use Rattle.tl_plan.specs.Plans.{PlanView}
use Rattle.tl_schema.specs.Formed.{IsFormed}
use Rattle.tl_schema.specs.Schemas.{Declared}
use Rattle.tl_schema.specs.Types.{Shape}
use Rattle.tl_types.specs.Values.{ValueView}
use Rattle.outside.specs.Jobs.{Making}
use Rattle.outside.specs.Printing.{Makes}
use Rattle.schema_files.specs.JsonInput.{IsForm}
use Rattle.schema_files.specs.declared.json_input.TheConstants.{JSON_BYTES}
use Rattle.codec_commands.specs.Encode.{OfJson}
use Rattle.codec_rooms.specs.Decode.{OfBytes}
use Rattle.codec_rooms.specs.Layers.{OfNew}
use Rattle.codec_rooms.specs.Typed.{OfAsked, OfInput, OfPlan, OfSchema, OfType}
use Rattle.codec_rooms.specs.declared.typed.Purpose.{Purpose}
use Rattle.codec_rooms.specs.declared.typed.Purpose.TheVariants as purpose

-- what follows of a type, with this file for the input
abbrev pub of_type : Purpose → List ℕ → OfType
of_type purpose.Decode input schema s = OfPlan (OfBytes input) s schema
of_type purpose.Encode input schema s = OfPlan (OfInput OfJson input JSON_BYTES) s schema
of_type purpose.Compare new old s = OfNew new old s

-- what follows of a schema
abbrev pub asked_by : Purpose → List ℕ → List ℕ → OfSchema
asked_by p word input = OfAsked (of_type p input) word

-- the plan is one of this formed type
pub record IsPlanOf (p : PlanView) (s : Shape) : Type 0 where
  pub root : 0 < p.roots
  pub instance : IsInstance p 0 s
  pub formed : IsFormed p.schema s

-- what is made of a value is what is answered to each text that is its form
abbrev pub MakesForm : Declared → Shape → ValueView → Making → Type 0
MakesForm schema s v m = (text : List ℕ) → IsForm schema s text v → Makes (OfJson schema s text) m
