use Rattle.std.proofs.Common.{◌↔◌, ◌∙◌, sym}
use Rattle.std.specs.Prelude.{IsTrue}
use Rattle.tl_schema.specs.UnknownVariable.{NamesVariable}
use Rattle.tl_names.proofs.ForTypes.{for_named}
use Rattle.tl_schema.proofs.NameCases.{variable_name}
use Rattle.tl_schema.proofs.unknown_variable.VariableNameTypeTest.passes.Goals as goal

pub returns-in-Named : goal.returns-in-Named
returns-in-Named c =
    for_named c.args._index.now c.args.meant.now (λ d u. IsTrue c.means_variable.result ↔ NamesVariable d u) c.in-Named.what c.in-Named.args c.in-Named.is (λ d name ts same what args.
    let told = c.means_variable.ensures ∙ variable_name c.args._index.now d name c.in-Named.what what in
    (λ h. sym told ∙ h, λ h. told ∙ h))
