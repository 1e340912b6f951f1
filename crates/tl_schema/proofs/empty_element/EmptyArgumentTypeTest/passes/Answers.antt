use Rattle.std.proofs.Common.{◌↔◌}
use Rattle.std.specs.Prelude.{IsTrue}
use Rattle.tl_schema.specs.inner.MarkedSteps.{AppliesToMarked}
use Rattle.tl_names.proofs.ForTypes.{for_named}
use Rattle.tl_schema.proofs.empty_element.EmptyArgumentTypeTest.passes.Goals as goal

pub returns-in-Named : goal.returns-in-Named
returns-in-Named c =
    let test = c.args.self.now in
    for_named c.args.index.now c.args.meant.now (λ d u. IsTrue c.has_marked.result ↔ AppliesToMarked c.args.index.now test.marks.now d u) c.in-Named.what c.in-Named.args c.in-Named.is (λ d name ts same what args.
    (rw c.deref.ensures.value at c.has_marked.ensures) d ts args)
