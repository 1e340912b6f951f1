use Rattle.std.proofs.Common.{◌∙◌, None, ap, subst}
use Rattle.tl_schema.specs.Types.{Shape}
use Rattle.tl_types.specs.Fitting.{misfit}
use Rattle.tl_types.specs.Seen.{view}
use Rattle.tl_types.specs.declared.value.TheConstants.{MAX_LEVELS}
use Rattle.tl_encode.specs.Encoding.{TellsFit}
use Rattle.tl_encode.specs.inner.Bytes.{spelling}
use Rattle.tl_encode.specs.inner.Walks.{type_at}
use Rattle.tl_encode.proofs.Refusals.{gives_spelling, tells_fit}
use Rattle.tl_encode.proofs.Walking.{type_of_instance, whole_is}
use Rattle.tl_encode.proofs.encoder.spelling_of.Goals as goal

pub returns-clause-spelled : goal.returns-clause-spelled
returns-clause-spelled c = λ T spelled instance spells.
    let p = c.args.plan.now in
    let v = view c.args.value.now in
    let k = c.root.result in
    gives_spelling (misfit p.schema.decls MAX_LEVELS None (type_at p k) v) (spelling p.schema.decls (type_at p k) v) spelled c.bytes_of.result c.bytes_of.ensures
    (λ own is. whole_is p k c.args.root T v own spelled is c.root.ensures.root instance spells)

pub returns-clause-fits : goal.returns-clause-fits
returns-clause-fits c = λ T instance.
    let p = c.args.plan.now in
    let v = view c.args.value.now in
    let k = c.root.result in
    subst (λ (U : Shape). TellsFit (misfit p.schema.decls MAX_LEVELS None U v) c.bytes_of.result) (ap (type_at p) c.root.ensures.root ∙ type_of_instance p c.args.root T instance)
    (tells_fit (misfit p.schema.decls MAX_LEVELS None (type_at p k) v) (spelling p.schema.decls (type_at p k) v) c.bytes_of.result c.bytes_of.ensures)
