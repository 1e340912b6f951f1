use Rattle.tl_show.proofs.KeyedParts.{keys_there, seen}
use Rattle.tl_show.proofs.keyed.KeyedSchema.has_apart_keys.Goals as goal

pub returns-in-Some : goal.returns-in-Some
returns-in-Some c =
    let at = c.in-Some.ensures.lookup in
    let are = seen _ _ _ _ c.self.invariant c.self.view_is c.deref.ensures.value in
    keys_there c.args.self.now.decls c.deref.result.now c.args.entry are c.in-Some.keyed.now at.3.0 at.1
