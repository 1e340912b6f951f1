use Rattle.std.proofs.Common.{◌∙◌, ap, sym}
use Rattle.tl_names.specs.MeantDecls.{MeantDeclView}
use Rattle.tl_schema.proofs.HeadFamilies.{some_uneven, none_uneven, no_uneven}
use Rattle.tl_schema.proofs.wrong_arity.constructs_uneven.Goals as goal

pub returns-in-Some-family : goal.returns-in-Some-family
returns-in-Some-family c = λ d same.
    some_uneven c.args.index.now d c.in-Some.number c.in-Some-family.constructors (sym c.in-Some.is ∙ ap (λ (m : MeantDeclView). m.head) same) c.in-Some-family.ensures.family

pub returns-in-None-family : goal.returns-in-None-family
returns-in-None-family c = λ d same.
    none_uneven c.args.index.now d c.in-Some.number (sym c.in-Some.is ∙ ap (λ (m : MeantDeclView). m.head) same) c.in-None-family.ensures.family

pub returns-in-None : goal.returns-in-None
returns-in-None c = λ d same. no_uneven c.args.index.now d (sym c.in-None.is ∙ ap (λ (m : MeantDeclView). m.head) same)
