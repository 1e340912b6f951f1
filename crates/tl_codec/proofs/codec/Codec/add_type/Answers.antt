use Rattle.std.proofs.Common.{map}
use Rattle.tl_schema.specs.Seen.{shape}
use Rattle.tl_codec.proofs.Adding.{added, still_formed, unnamed}
use Rattle.tl_codec.proofs.codec.Codec.add_type.Goals as goal

pub returns-in_err-of-clause-adds : goal.returns-in_err-of-clause-adds
returns-in_err-of-clause-adds c =
    rw (← c.self.view_is) (unnamed c.self.inside.schema c.args.name.now (map shape c.self.inside.types.items) c.in_err-of.field-0.0 c.from_residual.result c.in_err-of.ensures.names c.from_residual.ensures.1)

pub invariant_of-self : goal.invariant_of-self
invariant_of-self c = record {
  forms_of = c.self.invariant.forms_of;
  keys_of = c.self.invariant.keys_of;
  formed = still_formed c.self.inside.schema c.self.inside.types.items c.push_type.new.types.items c.in_ok-of.of c.push_type.result c.self.invariant.formed c.in_ok-of.ensures.formed c.push_type.ensures;
}

pub returns-clause-adds : goal.returns-clause-adds
returns-clause-adds c =
    rw (← c.self.view_is) (added c.self.inside.schema c.args.name.now c.self.inside.types.items c.push_type.new.types.items c.in_ok-of.of c.push_type.result c.in_ok-of.ensures.names c.push_type.ensures)
