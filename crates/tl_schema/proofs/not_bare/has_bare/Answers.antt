use Rattle.std.proofs.Common.{◌↔◌}
use Rattle.std.specs.Prelude.{IsTrue}
use Rattle.tl_program.specs.Trees.{trees_of}
use Rattle.tl_schema.specs.NotBare.{HasBare}
use Rattle.tl_schema.proofs.BareParts.{bare_named}
use Rattle.tl_names.proofs.ForTypes.{for_named}
use Rattle.tl_schema.proofs.NameCases.{name_form}
use Rattle.tl_schema.proofs.not_bare.has_bare.Goals as goal

pub returns-in-Named : goal.returns-in-Named
returns-in-Named c =
    for_named c.args.index.now c.args.meant.now (λ d u. IsTrue c.is_bare_what.result ↔ HasBare c.args.index.now d u) c.in-Named.what c.in-Named.args c.in-Named.is (λ d name ts same what args.
    let bare = bare_named c.args.index.now d name (trees_of ts) in
    let told = name_form c.args.index.now d name c.in-Named.what c.is_bare_what.result c.is_bare_what.ensures what in
    (λ h. bare.0 (told.0 h), λ has. told.1 (bare.1 has)))
