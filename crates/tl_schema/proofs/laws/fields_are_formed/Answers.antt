use Rattle.tl_schema.proofs.FieldsFormed.{fields_are_formed}
use Rattle.tl_schema.proofs.laws.fields_are_formed.Goals as goal

pub returns : goal.returns
returns c = fields_are_formed
