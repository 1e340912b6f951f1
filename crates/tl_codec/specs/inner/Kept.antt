-- What a codec keeps. This project's own.
use Rattle.std.specs.Prelude.{List}
use Rattle.tl_schema.specs.Types.{Shape}
use Rattle.tl_schema.specs.Schemas.{Declared}
use Rattle.tl_plan.specs.Plans.{AreFormed}
use Rattle.tl_show.specs.inner.Kept.{AreFormsOf, AreKeysOf}
use Rattle.tl_show.specs.declared.json_forms.JsonForms.{JsonForms}
use Rattle.tl_show.specs.declared.json_keys.JsonKeys.{JsonKeys}

-- the forms and the keys are those of the schema, and each of the types has values
pub record IsKept (schema : Declared) (forms : JsonForms) (keys : JsonKeys) (types : List Shape) : Type 0 where
  pub forms_of : AreFormsOf schema forms
  pub keys_of : AreKeysOf schema keys
  pub formed : AreFormed schema types
