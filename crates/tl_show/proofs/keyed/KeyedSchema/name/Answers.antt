use Rattle.std.proofs.Common.{◌∙◌}
use Rattle.tl_show.proofs.KeyedParts.{seen, text_past, text_there}
use Rattle.tl_show.proofs.keyed.KeyedSchema.name.Goals as goal

pub returns-in-Some : goal.returns-in-Some
returns-in-Some c =
    let at = c.in-Some.ensures.lookup in
    let are = seen _ _ _ _ c.self.invariant c.self.view_is c.deref.ensures.value in
    c.as_str.ensures.value ∙ text_there c.args.self.now.decls c.deref.result.now c.args.entry are c.in-Some.keyed.now at.3.0 at.1

pub returns-in-None : goal.returns-in-None
returns-in-None c =
    let are = seen _ _ _ _ c.self.invariant c.self.view_is c.deref.ensures.value in
    text_past c.args.self.now.decls c.deref.result.now c.args.entry are c.in-None.ensures.lookup.3
