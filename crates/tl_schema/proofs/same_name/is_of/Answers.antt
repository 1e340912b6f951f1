use Rattle.std.proofs.Common.{◌≡◌, ◌↔◌, sym, subst, Bool, true}
use Rattle.tl_program.specs.Trees.{view}
use Rattle.tl_schema.specs.inner.SameNameSteps.{IsOf}
use Rattle.tl_schema.proofs.AppliedTypes.{tests_head}
use Rattle.tl_schema.proofs.same_name.is_of.Goals as goal

pub returns-in-Named : goal.returns-in-Named
returns-in-Named c =
    subst (λ (b : Bool). (b ≡ true) ↔ IsOf c.args.name.now (view c.args.tree.now)) (sym (rw c.as_slice.ensures.value at c.eq.ensures)) (tests_head c.args.tree.now c.in-Named.head c.in-Named.args c.in-Named.is c.args.name.now)
