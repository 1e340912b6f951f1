use Rattle.tl_schema.proofs.schema.Schema.find.Goals as goal

pub returns-then-function : goal.returns-then-function
returns-then-function c = rw (c.if-function.true, ← c.self.view_is, c.get.ensures) (c.self.invariant.of_functions c.args.name.now)

pub returns-else-function : goal.returns-else-function
returns-else-function c = rw (c.if-function.false, ← c.self.view_is, c.get-else-function.ensures) (c.self.invariant.of_constructors c.args.name.now)
