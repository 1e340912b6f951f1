use Rattle.std.proofs.Common.{ap, map, ◌∙◌}
use Rattle.tl_show.specs.inner.Keyed.{keyed_slot}
use Rattle.tl_show.proofs.KeyedParts.{seen, slots_past, slots_there}
use Rattle.tl_show.proofs.keyed.KeyedSchema.fields.Goals as goal

pub returns : goal.returns
returns c =
    let at = c.in-Some.ensures.lookup in
    let are = seen _ _ _ _ c.self.invariant c.self.view_is c.deref.ensures.value in
    ap (map keyed_slot) c.as_slice.ensures.value ∙ slots_there c.args.self.now.decls c.deref.result.now c.args.entry are c.in-Some.keyed.now at.3.0 at.1

pub returns-in_default : goal.returns-in_default
returns-in_default c =
    let are = seen _ _ _ _ c.self.invariant c.self.view_is c.deref.ensures.value in
    ap (map keyed_slot) c.default.ensures ∙ slots_past c.args.self.now.decls c.deref.result.now c.args.entry are c.in_default.ensures.lookup.3
