use Rattle.tl_schema.proofs.OneType.{gives_type, refuses_type}
use Rattle.tl_schema.proofs.types.type_of.Goals as goal

pub returns-clause-gives : goal.returns-clause-gives
returns-clause-gives c = gives_type c.args.schema.now.program c.args.text.now c.named_type.result c.named_type.ensures.names

pub returns-clause-refuses : goal.returns-clause-refuses
returns-clause-refuses c = refuses_type c.args.schema.now.program c.args.text.now c.named_type.result c.named_type.ensures.names
