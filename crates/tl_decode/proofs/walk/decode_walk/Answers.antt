use Rattle.std.proofs.Common.{arith, inr}
use Rattle.tl_schema.specs.Seen.{shape}
use Rattle.tl_decode.proofs.Outcomes.{gives_value, gives_fault}
use Rattle.tl_decode.proofs.SizesGiven.{gives_few_of}
use Rattle.tl_decode.proofs.walk.decode_walk.Goals as goal

pub returns-clause-spelled : goal.returns-clause-spelled
returns-clause-spelled g c = gives_value c.args.schema.now c.count-count.ensures.sound (shape c.args.of.now) 120 _ _ c.args.at.now _ c.value_of.result (omega arith) c.value_of.ensures.read

pub returns-clause-refused : goal.returns-clause-refused
returns-clause-refused g c = gives_fault c.args.schema.now c.count-count.ensures.sound (shape c.args.of.now) (inr c.requires.formed) 120 _ _ c.args.at.now _ c.value_of.result (omega arith) c.value_of.ensures.read

pub returns-clause-bounded : goal.returns-clause-bounded
returns-clause-bounded g c = gives_few_of c.args.schema.now c.count-count.ensures.sound (shape c.args.of.now) (inr c.requires.formed) _ _ c.args.at.now _ c.value_of.result (omega arith) (g.met.S.Source.are_bytes c.args.from.now) c.value_of.ensures.read
