use Rattle.std.proofs.Common.{◌↔◌, subst, sym}
use Rattle.std.specs.Prelude.{IsTrue, Bool}
use Rattle.tl_schema.specs.UnknownType.{BeginsUnknown, IsUnknownIn}
use Rattle.tl_names.proofs.ForTypes.{for_named}
use Rattle.tl_schema.proofs.NameCases.{unknown_name}
use Rattle.tl_schema.proofs.unknown_type.UnknownNameTypeTest.passes.Goals as goal

pub returns-in-Named : goal.returns-in-Named
returns-in-Named c =
    for_named c.args._index.now c.args.meant.now (λ d u. IsTrue c.is_unknown.result ↔ BeginsUnknown c.args._index.now d u) c.in-Named.what c.in-Named.args c.in-Named.is (λ d name ts same what args.
    subst (λ (b : Bool). IsTrue b ↔ IsUnknownIn c.args._index.now d name) (sym c.is_unknown.ensures) (unknown_name c.args._index.now d name c.in-Named.what what))
