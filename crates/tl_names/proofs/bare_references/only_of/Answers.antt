use Rattle.tl_program.specs.Trees.{percent, trees_of}
use Rattle.tl_names.specs.inner.BareSteps.{BareIs}
use Rattle.tl_names.proofs.ForTypes.{for_named}
use Rattle.tl_names.proofs.BareNames.{name_only}
use Rattle.tl_names.proofs.bare_references.only_of.Goals as goal

pub returns-in-Named : goal.returns-in-Named
returns-in-Named c =
    for_named c.args.index.now c.args.meant.now (λ d u. BareIs c.args.index.now d (percent u) c.only_in.result) c.in-Named.what c.in-Named.args c.in-Named.is (λ d name ts same what args.
    name_only c.args.index.now d name (trees_of ts) c.in-Named.what c.only_in.result c.only_in.ensures what)
