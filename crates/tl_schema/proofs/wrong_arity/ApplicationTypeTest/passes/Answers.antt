use Rattle.std.proofs.Common.{◌≡◌, ◌↔◌, ap, length, refl, arith}
use Rattle.std.specs.Prelude.{IsTrue}
use Rattle.std.proofs.lemmas.List.{length-map}
use Rattle.tl_program.specs.Trees.{named, trees_of}
use Rattle.tl_names.specs.Meants.{meant}
use Rattle.tl_names.specs.MeantViews.{meant_view}
use Rattle.tl_schema.specs.WrongArity.{Misapplies}
use Rattle.tl_names.proofs.ForTypes.{for_named}
use Rattle.tl_schema.proofs.Misapplied.{misapplied}
use Rattle.tl_schema.proofs.wrong_arity.ApplicationTypeTest.passes.Goals as goal

pub returns-in-Named : goal.returns-in-Named
returns-in-Named c =
    for_named c.args.index.now c.args.meant.now (λ d u. IsTrue c.is_misapplied.result ↔ Misapplies c.args.index.now d u) c.in-Named.what c.in-Named.args c.in-Named.is (λ d name ts same what args.
    let count : c.len.result ≡ length ts = omega (arith, c.len.ensures, c.in-Named.args.ok.0, length-map c.in-Named.args.items meant_view, length-map ts (meant c.args.index.now d), ap length args) in
    misapplied c.args.index.now d (named name (trees_of ts)) name ts c.len.result c.is_misapplied.result refl count (c.is_misapplied.ensures d name what))
