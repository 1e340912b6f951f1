use Rattle.tl_schema.specs.Seen.{shape}
use Rattle.tl_schema.specs.Types.{shapes_of}
use Rattle.std.proofs.Common.{map}
use Rattle.tl_schema.proofs.Views.{shape-Bare, shape-Boxed, shape-Vector}
use Rattle.tl_schema.proofs.form.form_of.Goals as goal

pub returns-in-Vector : goal.returns-in-Vector
returns-in-Vector c = (shape c.in-Vector.item.value, shape-Vector c.args.of.now c.in-Vector.boxed c.in-Vector.item c.in-Vector.is)

pub returns-in-Boxed : goal.returns-in-Boxed
returns-in-Boxed c = (shapes_of (map shape c.in-Boxed.args.items), shape-Boxed c.args.of.now c.in-Boxed.head c.in-Boxed.args c.in-Boxed.is)

pub returns-in-Bare : goal.returns-in-Bare
returns-in-Bare c = (shapes_of (map shape c.in-Bare.args.items), shape-Bare c.args.of.now c.in-Bare.entry c.in-Bare.args c.in-Bare.is)
