use Rattle.std.proofs.Common.{sym, subst}
use Rattle.std.specs.Prelude.{Option, ℕ}
use Rattle.tl_program.specs.Trees.{named, trees_of}
use Rattle.tl_names.specs.inner.BareSteps.{BareIs}
use Rattle.tl_names.proofs.ForTypes.{for_named, for_percent}
use Rattle.tl_names.proofs.BareNames.{name_bare}
use Rattle.tl_names.proofs.bare_references.bare_of.Goals as goal

pub returns-in-Named : goal.returns-in-Named
returns-in-Named c =
    for_named c.args.index.now c.args.meant.now (λ d u. BareIs c.args.index.now d u c.constructor_in.result) c.in-Named.what c.in-Named.args c.in-Named.is (λ d name ts same what args.
    subst (λ (o : Option ℕ). BareIs c.args.index.now d (named name (trees_of ts)) o) (sym c.constructor_in.ensures) (name_bare c.args.index.now d name (trees_of ts) c.in-Named.what what))

pub returns-in-Percent : goal.returns-in-Percent
returns-in-Percent c =
    for_percent c.args.index.now c.args.meant.now (λ d u. BareIs c.args.index.now d u c.only_of.result) c.in-Percent.meant c.deref.result.now c.in-Percent.is (sym c.deref.ensures) (λ d u same inner. c.only_of.ensures d u inner)
