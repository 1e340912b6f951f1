use Rattle.std.proofs.Common.{◌↔◌, not, sym}
use Rattle.std.specs.Prelude.{IsTrue}
use Rattle.tl_schema.specs.NotBare.{HasNoBare}
use Rattle.tl_schema.proofs.BareParts.{no_bare}
use Rattle.tl_names.proofs.ForTypes.{for_percent}
use Rattle.tl_schema.proofs.not_bare.NoBareTypeTest.passes.Goals as goal

pub returns-in-Percent : goal.returns-in-Percent
returns-in-Percent c =
    for_percent c.args.index.now c.args.meant.now (λ d u. IsTrue (not c.has_bare.result) ↔ HasNoBare c.args.index.now d u) c.in-Percent.meant c.deref.result.now c.in-Percent.is (sym c.deref.ensures) (λ d u same inner.
    no_bare c.args.index.now d u c.has_bare.result (c.has_bare.ensures d u inner))
