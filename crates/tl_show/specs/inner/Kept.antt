-- What is made of a schema once, and kept. This project's own.
use Rattle.std.specs.Prelude.{map}
use Rattle.tl_schema.specs.Schemas.{Declared}
use Rattle.tl_show.specs.inner.FormViews.{form_view}
use Rattle.tl_show.specs.inner.Keyed.{AreKeyed}
use Rattle.tl_show.specs.inner.Lines.{PrintAsShown}
use Rattle.tl_show.specs.declared.json_forms.JsonForms.{JsonForms}
use Rattle.tl_show.specs.declared.json_keys.JsonKeys.{JsonKeys}

-- what is written by them is what is shown of the schema's values
abbrev pub AreFormsOf : Declared → JsonForms → Type 0
AreFormsOf schema made = PrintAsShown schema (map form_view made.forms.items)

-- they are those of the records of the schema's declarations
abbrev pub AreKeysOf : Declared → JsonKeys → Type 0
AreKeysOf schema made = AreKeyed schema.decls made.entries.items
