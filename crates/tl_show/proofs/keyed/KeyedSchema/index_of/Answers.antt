use Rattle.tl_show.proofs.NamedDeclarations.{found_as_seen}
use Rattle.tl_show.proofs.keyed.KeyedSchema.index_of.Goals as goal

pub returns-then-is_ascii : goal.returns-then-is_ascii
returns-then-is_ascii c =
    found_as_seen c.self.inside.schema.now c.args.self.now c.as_bytes.result.now c.args.name.now c.args.function c.find.result c.if-is_ascii.ensures.cases c.self.view_is c.as_bytes.ensures.value
    c.find.ensures
